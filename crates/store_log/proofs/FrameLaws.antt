-- The ways out of a payload's decoding, and how many operations stand in it.
use Rattle.std.specs.Prelude.{Some, Ok, Err}
use Prim.Native.Nat.{ℕ, ◌+◌, ◌≤◌}
use mathlib.Core.Path.{◌≡◌, refl, sym, ap, ◌∙◌}
use mathlib.Core.Bool.{true, false, not}
use mathlib.Core.List.{List, [], ◌∷◌}
use borrow.Author.Tests.{eq-eqb, ne_eqb}
use lib.Dec.{eqb}
use lib.ListN.{length}
use Rattle.refusal.specs.Refusal.{Answer, ◌>>=◌}
use Rattle.refusal.specs.declared.Refusal.{Refusal}
use Rattle.refusal.specs.declared.Refusal.TheVariants.{WrongPayloadCrc, WrongSequence, BytesLeftOver}
use Rattle.refusal.proofs.Inverses.{came_to}
use Rattle.refusal.proofs.Results.{stop, pass, go_on, give_up, sized_is, sized_not}
use Rattle.config.specs.declared.Config.{Config}
use Rattle.config.specs.Limits.{max_dimensions}
use Rattle.config.specs.Settings.{validate}
use Rattle.config.proofs.Laws.{bounded_of_valid}
use Rattle.layout.specs.Layout.{frame_length}
use Rattle.layout.specs.declared.Shape.{Shape}
use Rattle.layout.specs.declared.Shape.TheVariants.{Single, Batch}
use Rattle.fields.specs.Fields.{num}
use Rattle.meaning.specs.Log.{ReadOperation, ReadOperations, operation_at, single_at, out_of_order, shape_of, operations_of, payload_crc_holds, decoded_at, payload_at, frame_read}
use Rattle.meaning.proofs.OperationRead.{batch_read, single_read}
use Rattle.store_log.specs.Told.{next_told, nexts_told, operation_count, frame_told}
use Rattle.store_log.proofs.OperationLaws.{as_many}

-- ---- the operations of a payload
module _ (c : Config) (log : List ℕ) (end opcode at : ℕ) where
  pub single_ends : nexts_told (single_at c log end opcode at) ≡ next_told (operation_at c log end opcode at)
  unfolding single_at
  single_ends = go (operation_at c log end opcode at)
    where
      go : (x : Answer ReadOperation) → nexts_told (x >>= (λ this. Ok (record { operations = this.operation ∷ []; next = this.next }))) ≡ next_told x
      go (Ok y) = refl
      go (Err why) = refl

  pub body_count : (shape : Shape) (x : ReadOperations) → operations_of shape c log end opcode at ≡ Ok x → length x.operations ≡ operation_count shape log at
  body_count Single x e = ap (λ (y : ReadOperations). length y.operations) (single_read c log end opcode at x e).all_is
  body_count Batch x e = as_many c log end (num log at 4) (at + 4) x (batch_read c log end at x e).operations_here

-- ---- the ways out
module _ (c : Config) (log : List ℕ) (previous at n : ℕ) where
  abbrev pub payload_sequence : ℕ
  payload_sequence = num log (at + 9) 8

  abbrev pub payload_shape : Shape
  payload_shape = shape_of (num log (at + 8) 1)

  abbrev pub payload_body : Answer ReadOperations
  payload_body = operations_of payload_shape c log (at + 8 + n) (num log (at + 8) 1) (at + 17)

  -- 23 before all else
  pub payload_wrong : payload_crc_holds log at n ≡ false → payload_at c log previous at n ≡ Err WrongPayloadCrc
  unfolding payload_at
  payload_wrong h = stop WrongPayloadCrc (not (payload_crc_holds log at n)) _ (ap not h)

  pub payload_decodes : payload_crc_holds log at n ≡ true → payload_at c log previous at n ≡ decoded_at c log previous at n
  unfolding payload_at
  payload_decodes h = pass WrongPayloadCrc (not (payload_crc_holds log at n)) _ (ap not h)

  module _ (in_order : out_of_order previous payload_sequence ≡ false) where
    pub decode_refused : (why : Refusal) → nexts_told payload_body ≡ Err why → decoded_at c log previous at n ≡ Err why
    decode_refused why e =
        pass WrongSequence (out_of_order previous payload_sequence) _ in_order
        ∙ give_up payload_body _ why (sized_not (λ x. x.next) payload_body why e)

    pub decode_left_over : (next : ℕ) → nexts_told payload_body ≡ Ok next → (next ≡ at + 8 + n → ⊥)
        → decoded_at c log previous at n ≡ Err BytesLeftOver
    decode_left_over next e apart =
        let y = sized_is (λ x. x.next) payload_body next e in
        let is : y.value.next ≡ next = y.size_is in
        pass WrongSequence (out_of_order previous payload_sequence) _ in_order ∙ go_on payload_body _ y.value y.is
        ∙ stop BytesLeftOver (not (eqb y.value.next (at + 8 + n))) _ (ap not (ne_eqb _ _ (λ q. apart (sym is ∙ q))))

    pub decode_whole : (next : ℕ) → nexts_told payload_body ≡ Ok next → next ≡ at + 8 + n
        → frame_told (frame_read (at + frame_length n) (decoded_at c log previous at n))
        ≡ Ok (Some (record { start = at; sequence = payload_sequence; shape = payload_shape; operations = operation_count payload_shape log (at + 17); next = at + frame_length n }))
    decode_whole next e same =
        let y = sized_is (λ x. x.next) payload_body next e in
        let is : y.value.next ≡ next = y.size_is in
        ap (λ x. frame_told (frame_read (at + frame_length n) x))
        (pass WrongSequence (out_of_order previous payload_sequence) _ in_order ∙ go_on payload_body _ y.value y.is
        ∙ pass BytesLeftOver (not (eqb y.value.next (at + 8 + n))) _ (ap not (eq-eqb _ _ (is ∙ same))))
        ∙ ap (λ (k : ℕ). Ok (Some (record { start = at; sequence = payload_sequence; shape = payload_shape; operations = k; next = at + frame_length n })))
        (body_count c log (at + 8 + n) (num log (at + 8) 1) (at + 17) payload_shape y.value y.is)

-- valid settings have no more coordinates than a frame's length can count
pub few_of_valid : (c : Config) {r : Answer (Unit {0})} {u : Unit {0}} → r ≡ validate c → r ≡ Ok u → c.dimensions ≤ max_dimensions
few_of_valid c {u = tt} e f = (bounded_of_valid c (came_to _ e f)).d_high
