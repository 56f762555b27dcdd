-- Demand 3 in its own words: take a snapshot we accept and a log, and cut the log before its first frame or after any frame that
-- recovery reads without refusal.
use Rattle.std.specs.Prelude.{Ok}
use Prim.Native.Nat.{ℕ, ◌≤◌}
use native.Mathlib.Omega.{arith}
use mathlib.Core.Path.{◌≡◌, sym, ap, ◌∙◌, subst, refl}
use mathlib.Core.List.{List, [], ◌++◌, append-nil, ◌∷◌}
use lib.ListN.{length, take, drop, take-append-drop}
use Rattle.fields.specs.Fields.{Bytes}
use Rattle.config.specs.Limits.{max_snapshot_bytes, max_log_bytes}
use Rattle.meaning.specs.Replay.{replay, begins, Frame, tail, reached}
use Rattle.meaning.specs.Records.{row_kind}
use Rattle.meaning.specs.Log.{frames_of, frames_at}
use Rattle.meaning.specs.Recovery.{Recovered, recovered, bounds_for, ended, recover}
use Rattle.theorems.specs.Cut.{Cut, CutTo, place, there, new_snapshot}
use Rattle.theorems.proofs.Ran.{ran_reaches, ran}
use Rattle.theorems.specs.FrameLists.{last_sequence, after_frame, byte_after}
use Rattle.theorems.proofs.LogCut.{log_joined, cut_after, cut_length, front_cut, cut_inside, after_last, next_start}
use Rattle.theorems.proofs.Recovering.{accepted, frames_to_tail, frames_led, recover_read}
use Rattle.theorems.specs.Compared.{compared, brief}
use Rattle.theorems.proofs.Halves.{demand_three, demand_three_rest}
use Rattle.theorems.proofs.CutFrames.{cut_anywhere}
use Rattle.refusal.proofs.Results.{answer_injective}
use Rattle.rows.specs.declared.Row.{Row}
use Rattle.meaning.specs.Snapshot.{Snapshot, read_snapshot}

module _ {lent : ℕ} {snapshot log : List ℕ} (cut : Cut lent snapshot log) where
  length_front : length (take (place cut) log) ≡ (place cut)
  length_front = cut_length cut.accepted.config log cut.front cut.behind cut.end cut.frames

  -- it is what recovery of the front alone gives
  pub front_recovers : recover lent snapshot (take (place cut) log) ≡ recovered (there cut)
  unfolding replay
  front_recovers =
      let S = cut.accepted in
      let n : length (take (place cut) log) ≤ max_log_bytes = let h = cut.short in omega (arith, length_front) in
      recover_read lent snapshot (take (place cut) log) S cut.accepts n
      ∙ ap (ended S)
      (ap (replay (row_kind S.config.dimensions) (bounds_for lent) S.sequence S.rows) (cut_after S.config log cut.front cut.behind cut.end cut.frames)
      ∙ ran_reaches (row_kind S.config.dimensions) (bounds_for lent) S.sequence cut.front (place cut) (begins S.sequence S.rows) cut.state cut.reads)

  module _ (bs : Bytes snapshot) (bl : Bytes log) (fits : length (new_snapshot cut) ≤ max_snapshot_bytes) where
    abbrev whole : take (place cut) log ++ drop (place cut) log ≡ log
    whole = take-append-drop (place cut) log

    -- recovering it beside the whole log gives the same records, settings, sequence, tail and replayed plus skipped as the old
    -- snapshot did, or the same refusal at the same byte
    pub beside_the_whole_log : compared (new_snapshot cut) log (recover lent (new_snapshot cut) log) ≡ compared snapshot log (recover lent snapshot log)
    beside_the_whole_log =
        subst (λ (l : List ℕ). compared (new_snapshot cut) l (recover lent (new_snapshot cut) l) ≡ compared snapshot l (recover lent snapshot l)) whole
        (demand_three lent snapshot (take (place cut) log) (drop (place cut) log) (there cut) bs (subst Bytes (sym whole) bl) front_recovers (sym length_front) fits)

    -- if the old pair was accepted, the log without the cut-off front also gives those records, settings, sequence and tail
    pub without_the_front : (old : Recovered) → recover lent snapshot log ≡ recovered old
        → brief (new_snapshot cut) (drop (place cut) log) (recover lent (new_snapshot cut) (drop (place cut) log)) ≡ brief snapshot log (recovered old)
    without_the_front old e =
        subst (λ (l : List ℕ). brief (new_snapshot cut) (drop (place cut) log) (recover lent (new_snapshot cut) (drop (place cut) log)) ≡ brief snapshot l (recover lent snapshot l)) whole
        (demand_three_rest lent snapshot (take (place cut) log) (drop (place cut) log) (there cut) old bs (subst Bytes (sym whole) bl) front_recovers (sym length_front) (ap (recover lent snapshot) whole ∙ e) fits)
        ∙ ap (brief snapshot log) e

-- any front of the log that recovery accepts has one, behind the last of its frames
pub cut_of_accepted_front : (lent : ℕ) (snapshot front rest : List ℕ) (r : Recovered) → recover lent snapshot front ≡ recovered r
    → CutTo lent snapshot (front ++ rest) r
cut_of_accepted_front lent snapshot front rest r e =
    let a = accepted lent snapshot front r e in
    let c = a.read.config in
    let fs = (frames_of c front).frames in
    let to-tail = frames_to_tail lent snapshot front r a in
    let more = frames_at c (front ++ rest) (last_sequence 0 fs) r.keep in
    let place_is = front_cut c front rest fs r.keep to-tail in
    let same_config = a.same_config in
    let same_crc = a.same_crc in
    let keep_is = place_is.0 in
    let short = a.short in
    record {
      cut =
          record {
            accepted = a.read;
            accepts = a.reads;
            front = fs;
            behind = more.frames;
            end = more.ended;
            frames = log_joined c front rest fs to-tail;
            state = r.state;
            reads = frames_led lent snapshot front r a;
            short = omega (arith, place_is.1);
          };
      is = λ i. record { config = sym same_config i; crc = sym same_crc i; state = r.state; keep = keep_is i };
    }

-- and so has the whole log: recovery of it is such a cut
pub cut_of_accepted : (lent : ℕ) (snapshot log : List ℕ) (r : Recovered) → recover lent snapshot log ≡ recovered r → CutTo lent snapshot log r
cut_of_accepted lent snapshot log r e =
    subst (λ (l : List ℕ). CutTo lent snapshot l r) (append-nil log) (cut_of_accepted_front lent snapshot log [] r e)

-- and every front of its frames
pub cut_of_accepted_frames : (lent : ℕ) (snapshot log : List ℕ) (r : Recovered) → recover lent snapshot log ≡ recovered r
    → (S : Snapshot) → read_snapshot lent snapshot ≡ Ok S → (fs gs : List (Frame Row)) → (frames_of S.config log).frames ≡ fs ++ gs
    → (cut : Cut lent snapshot log) × (cut.front ≡ fs)
unfolding replay
cut_of_accepted_frames lent snapshot log r e S reads fs gs parts =
    let a = accepted lent snapshot log r e in
    let same : a.read ≡ S = answer_injective a.read S (sym a.reads ∙ reads) in
    let K = row_kind S.config.dimensions in
    let L = bounds_for lent in
    let to-tail : frames_of S.config log ≡ record { frames = fs ++ gs; ended = tail r.keep } =
    subst (λ (x : Snapshot). frames_of x.config log ≡ record { frames = (frames_of x.config log).frames; ended = tail r.keep }) same (frames_to_tail lent snapshot log r a)
    ∙ ap (λ (l : List (Frame Row)). record { frames = l; ended = tail r.keep }) parts in
    let replays : replay K L S.sequence S.rows (frames_of S.config log) ≡ reached r.state r.keep =
    subst (λ (x : Snapshot). replay (row_kind x.config.dimensions) L x.sequence x.rows (frames_of x.config log) ≡ reached r.state r.keep) same a.replays in
    let at = byte_after log 0 fs in
    let s = cut_anywhere K L S.sequence S.rows fs gs (tail r.keep) at r.state r.keep (sym (ap (replay K L S.sequence S.rows) to-tail) ∙ replays) in
    let short = a.short in
    let inside = cut_inside S.config log fs gs (tail r.keep) to-tail in (
      record {
        accepted = S;
        accepts = reads;
        front = fs;
        behind = gs;
        end = tail r.keep;
        frames = to-tail;
        state = s.0;
        reads = ran K L S.sequence fs (begins S.sequence S.rows) s.0 at at s.1;
        short = omega arith;
      },
      refl,
    )

-- the place of a cut in the paper's words
module _ (lent : ℕ) (snapshot log : List ℕ) (cut : Cut lent snapshot log) where
  pub behind_the_last : (fs : List (Frame Row)) (f : Frame Row) → cut.front ≡ fs ++ (f ∷ []) → place cut ≡ after_frame log f
  behind_the_last fs f e = ap (byte_after log 0) e ∙ after_last log 0 fs f

  pub before_the_next : (g : Frame Row) (gs : List (Frame Row)) → cut.behind ≡ g ∷ gs → g.start ≡ place cut
  before_the_next g gs e =
      next_start cut.accepted.config log cut.front g gs cut.end
      (cut.frames ∙ ap (λ (l : List (Frame Row)). record { frames = cut.front ++ l; ended = cut.end }) e)
