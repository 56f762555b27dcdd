-- `read_frame` answers `frame_at`, by its envelope.
use Rattle.std.specs.Prelude.{Option, Some, Ok, Err}
use Prim.Native.Nat.{ℕ, ◌+◌}
use mathlib.Core.Path.{◌≡◌, sym, ap, ◌∙◌}
use mathlib.Core.List.{List}
use Rattle.refusal.specs.Refusal.{Answer}
use Rattle.refusal.proofs.Inverses.{came_to, handed_on}
use Rattle.config.specs.declared.Config.{Config}
use Rattle.layout.specs.Layout.{frame_length}
use Rattle.meaning.specs.Log.{frame_at, frame_read}
use Rattle.frames.specs.Envelope.{envelope_at, frame_within}
use Rattle.frames.proofs.Envelopes.{frame_within_lem, payload_there}
use Rattle.store_log.specs.Told.{frame_told}
use Rattle.store_log.proofs.FrameLaws.{payload_wrong, payload_decodes}
use borrow.Author.Rules.{rules}
use Rattle.store_log.proofs.read_frame.Goals as goal

-- the frame that stands there, by the envelope that was read
stands : (config : Config) (log : List ℕ) (previous at : ℕ) (envelope : Answer (Option ℕ)) → envelope_at log at ≡ envelope
    → frame_told (frame_at config log previous at) ≡ frame_told (frame_within config log previous at envelope)
stands config log previous at envelope e =
    ap frame_told (frame_within_lem config log previous at ∙ ap (frame_within config log previous at) e)

-- the payload that was read
payload : (log : List ℕ) (at n : ℕ) {read : Answer (Option ℕ)} {envelope : Option ℕ} → read ≡ envelope_at log at → read ≡ Ok envelope → envelope ≡ Some n
    → envelope_at log at ≡ Ok (Some n)
payload log at n is was some = came_to _ is was ∙ ap Ok some

pub payload_crc_holds-requires-clause-n_in_bounds : goal.payload_crc_holds-requires-clause-n_in_bounds
payload_crc_holds-requires-clause-n_in_bounds c =
    (payload_there _ _ _ (payload c.args.log.now c.args.at _ c.read_envelope.ensures c.in_ok-n.was c.in-Some.is)).there

pub decode-requires : goal.decode-requires
decode-requires c =
    let p = payload_there _ _ _ (payload c.args.log.now c.args.at _ c.read_envelope.ensures c.in_ok-n.was c.in-Some.is) in
    record { dimensions_le_max_dimensions = search rules; min_frame_le_n = p.low; n_in_bounds = p.there }

pub returns-in_err-n : goal.returns-in_err-n
returns-in_err-n c =
    let a = c.args in
    handed_on _ _ c.from_residual.ensures ∙ sym (stands a.config a.log.now a.previous a.at (Err _) (came_to _ c.read_envelope.ensures c.in_err-n.was))

pub returns-in_default : goal.returns-in_default
returns-in_default c =
    let a = c.args in
    sym (stands a.config a.log.now a.previous a.at _ (came_to _ c.read_envelope.ensures c.in_ok-n.was ∙ ap Ok c.in_default.is))

pub returns-then-not-payload_crc_holds : goal.returns-then-not-payload_crc_holds
returns-then-not-payload_crc_holds c =
    let a = c.args in
    let n = c.in-Some.n in
    let there = payload a.log.now a.at n c.read_envelope.ensures c.in_ok-n.was c.in-Some.is in
    let holds = sym c.payload_crc_holds.ensures ∙ c.if-not-payload_crc_holds.true in
    sym (stands a.config a.log.now a.previous a.at _ there
    ∙ ap (λ x. frame_told (frame_read (a.at + frame_length n) x)) (payload_wrong a.config a.log.now a.previous a.at n holds))

pub returns : goal.returns
returns c =
    let a = c.args in
    let n = c.in-Some.n in
    let there = payload a.log.now a.at n c.read_envelope.ensures c.in_ok-n.was c.in-Some.is in
    let holds = sym c.payload_crc_holds.ensures ∙ c.if-not-payload_crc_holds.false in
    c.decode.ensures
    ∙ sym (stands a.config a.log.now a.previous a.at _ there
    ∙ ap (λ x. frame_told (frame_read (a.at + frame_length n) x)) (payload_decodes a.config a.log.now a.previous a.at n holds))
