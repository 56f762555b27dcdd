-- A delete of a live ID, appended to a log that recovery read to its last byte: the next recovery accepts, with that ID deleted.
use Rattle.std.specs.Prelude.{Ok}
use Prim.Native.Nat.{ℕ, suc, ◌+◌, ◌≤◌, ◌<◌, ◌^◌}
use native.Mathlib.Omega.{arith}
use mathlib.Core.Path.{◌≡◌, refl, sym, ap, ap₂, ◌∙◌, subst}
use mathlib.Core.Logic.{inl, inr}
use mathlib.Core.Bool.{Bool, true, false, cond}
use mathlib.Core.List.{List, [], ◌∷◌, ◌++◌, map}
use lib.ListN.{length, length-append}
use borrow.Author.Tests.{lt-leb, eq-eqb}
use Rattle.config.specs.Limits.{max_log_bytes}
use Rattle.config.specs.declared.Config.{Config}
use Rattle.fields.specs.Fields.{Bytes}
use Rattle.refusal.specs.Refusal.{Answer}
use Rattle.meaning.specs.Replay.{Kind, remove, Frame, Frames, State, reached, Bounds, live_as, active, mark, apply_remove, apply_all, play, replay_frame, step, onward, begins}
use Rattle.meaning.specs.Records.{Record, delete_row, delete_record, row_kind, record_kind, seen}
use Rattle.rows.specs.declared.Row.{Row}
use Rattle.meaning.specs.Snapshot.{Snapshot, read_snapshot}
use Rattle.meaning.specs.Log.{frames_from, frames_of}
use Rattle.meaning.specs.Encoder.{delete_frame}
use Rattle.layout.specs.declared.Shape.TheVariants.{Single}
use Rattle.meaning.specs.Recovery.{Recovered, recovered, bounds_for, ended, recover, rows_of, records_of, tail_length}
use Rattle.theorems.specs.Cut.{Ran}
use Rattle.theorems.proofs.Ran.{Did, skips, plays, did}
use Rattle.theorems.specs.FrameLists.{Consecutive, Numbered, last_sequence}
use Rattle.theorems.proofs.LogLaws.{log_numbered}
use Rattle.theorems.specs.FrameRows.{Follows}
use Rattle.theorems.proofs.Recovering.{Accepted, accepted, frames_to_tail, frames_led}
use Rattle.theorems.proofs.AtTheCut.{standing}
use Rattle.theorems.proofs.Halves.{seen_fronts}
use Rattle.theorems.proofs.DeleteBytes.{length_delete, delete_framed}
use Rattle.theorems.proofs.Appended.{recover_appended}
use Rattle.refusal.proofs.Results.{answer_injective}
use Rattle.meaning.proofs.FramesAt.{frames_of_lem, tail_bounds}
use Rattle.theorems.specs.DeleteAppended.{NotOlder, with_deleted}

-- ---- the sequence that frames lead to
module _ (K : Kind Row) (L : Bounds) (q : ℕ) where
  -- it never falls below the snapshot's
  ran_not_below : (fs : List (Frame Row)) (s t : State Row) → Ran K L q fs s t → q ≤ s.sequence → q ≤ t.sequence
  ran_not_below [] s t r h = subst (λ (x : State Row). q ≤ x.sequence) r h
  ran_not_below (f ∷ fs) s t r h = ran_not_below fs r.0 t r.2 (go (did K L q f s r.0 r.1))
    where
      go : Did K L q f s r.0 → q ≤ r.0.sequence
      go (skips b e) = subst (λ (x : State Row). q ≤ x.sequence) (sym e) h
      go (plays rs b n a e) = let k : r.0.sequence ≡ f.sequence = ap (λ (x : State Row). x.sequence) e in omega arith

  -- of frames numbered from p on, whose last is not below the snapshot's sequence, it is the last one's
  ran_to_last : (p : ℕ) (fs : List (Frame Row)) (s t : State Row) → Ran K L q fs s t → Consecutive p fs
      → (p ≤ q → s.sequence ≡ q) → (q ≤ p → s.sequence ≡ p) → q ≤ last_sequence p fs → t.sequence ≡ last_sequence p fs
  ran_to_last p [] s t r c low high h = sym (ap (λ (x : State Row). x.sequence) r) ∙ high h
  ran_to_last p (f ∷ fs) s t r c low high h =
      let is = go (did K L q f s r.0 r.1) in ran_to_last f.sequence fs r.0 t r.2 c.1 is.0 is.1 h
    where
      go : Did K L q f s r.0 → (f.sequence ≤ q → r.0.sequence ≡ q) × (q ≤ f.sequence → r.0.sequence ≡ f.sequence)
      go (skips b e) =
          let n : f.sequence ≡ p + 1 = c.0 in
          let k : r.0.sequence ≡ s.sequence = ap (λ (x : State Row). x.sequence) e in
          let w : s.sequence ≡ q = low (omega arith) in
          ((λ l. omega arith), (λ l. omega arith))
      go (plays rs b n a e) =
          let k : r.0.sequence ≡ f.sequence = ap (λ (x : State Row). x.sequence) e in ((λ l. absurd (omega arith)), (λ l. k))

  ran_from_snapshot : (fs : List (Frame Row)) (rows : List Row) (t : State Row) → Ran K L q fs (begins q rows) t → Numbered fs
      → 0 < last_sequence 0 fs → q ≤ last_sequence 0 fs → t.sequence ≡ last_sequence 0 fs
  ran_from_snapshot [] rows t r n some h = absurd (omega arith)
  ran_from_snapshot (f ∷ fs) rows t r n some h =
      let is = go (did K L q f (begins q rows) r.0 r.1) in ran_to_last f.sequence fs r.0 t r.2 n.1 is.0 is.1 h
    where
      go : Did K L q f (begins q rows) r.0 → (f.sequence ≤ q → r.0.sequence ≡ q) × (q ≤ f.sequence → r.0.sequence ≡ f.sequence)
      go (skips b e) = let k : r.0.sequence ≡ q = ap (λ (x : State Row). x.sequence) e in ((λ l. k), (λ l. omega arith))
      go (plays rs b m a e) =
          let k : r.0.sequence ≡ f.sequence = ap (λ (x : State Row). x.sequence) e in ((λ l. absurd (omega arith)), (λ l. k))

  -- where a frame was replayed, the last one is not below the snapshot's sequence
  ran_played : (p : ℕ) (fs : List (Frame Row)) (s t : State Row) → Ran K L q fs s t → Consecutive p fs
      → (0 < s.replayed → q ≤ p) → 0 < t.replayed → q ≤ last_sequence p fs
  ran_played p [] s t r c known some = known (subst (λ (x : State Row). 0 < x.replayed) (sym r) some)
  ran_played p (f ∷ fs) s t r c known some = ran_played f.sequence fs r.0 t r.2 c.1 (go (did K L q f s r.0 r.1)) some
    where
      go : Did K L q f s r.0 → 0 < r.0.replayed → q ≤ f.sequence
      go (skips b e) h =
          let n : f.sequence ≡ p + 1 = c.0 in
          let k : q ≤ p = known (subst (λ (x : State Row). 0 < x.replayed) e h) in
          omega arith
      go (plays rs b n a e) h = omega arith

  played_from_snapshot : (fs : List (Frame Row)) (rows : List Row) (t : State Row) → Ran K L q fs (begins q rows) t → Numbered fs
      → 0 < t.replayed → q ≤ last_sequence 0 fs
  played_from_snapshot [] rows t r n some = absurd (let k : 0 < 0 = subst (λ (x : State Row). 0 < x.replayed) (sym r) some in omega arith)
  played_from_snapshot (f ∷ fs) rows t r n some = ran_played f.sequence fs r.0 t r.2 n.1 (go (did K L q f (begins q rows) r.0 r.1)) some
    where
      go : Did K L q f (begins q rows) r.0 → 0 < r.0.replayed → q ≤ f.sequence
      go (skips b e) h = absurd (let k : 0 < 0 = subst (λ (x : State Row). 0 < x.replayed) e h in omega arith)
      go (plays rs b m a e) h = omega arith

-- ---- one delete
-- above the snapshot and next, of a live ID: it is replayed, and marks that ID
delete_steps : (K : Kind Row) (L : Bounds) (q : ℕ) (f : Frame Row) (id : ℕ) (s : State Row) → f.operations ≡ remove id ∷ []
    → q < f.sequence → f.sequence ≡ s.sequence + 1 → active K id s.records ≡ true
    → step K L q f s ≡ Ok (play f s (mark K id s.records))
unfolding step replay_frame apply_all apply_remove
delete_steps K L q f id s o above next live = rw (lt-leb f.sequence q above, eq-eqb f.sequence (s.sequence + 1) next, o, live) refl

-- rows and the records seen through them are marked alike
mark_seen : (d : ℕ) (snapshot log : List ℕ) (id : ℕ) (rows : List Row)
    → mark (record_kind d) id (map (seen d snapshot log) rows) ≡ map (seen d snapshot log) (mark (row_kind d) id rows)
unfolding mark
mark_seen d snapshot log id [] = refl
mark_seen d snapshot log id (r ∷ rows) = ap₂ (λ (x : Record) (xs : List Record). x ∷ xs) (go (live_as (row_kind d) id r)) (mark_seen d snapshot log id rows)
  where
    go : (b : Bool) → cond b (delete_record (seen d snapshot log r)) (seen d snapshot log r) ≡ seen d snapshot log (cond b (delete_row r) r)
    go true = refl
    go false = refl

module _ (lent : ℕ) (snapshot log : List ℕ) (r : Recovered) (given : recover lent snapshot log ≡ recovered r) where
  a : Accepted lent snapshot log r
  a = accepted lent snapshot log r given

  abbrev fs : List (Frame Row)
  fs = (frames_of a.read.config log).frames

  abbrev kind : Kind Row
  kind = row_kind a.read.config.dimensions

  -- no tail is left: every byte was read
  read_all : tail_length log r ≡ 0 → r.keep ≡ length log
  read_all none =
      let e = ap (λ (x : Frames Row). x.ended) (sym (frames_of_lem a.read.config log) ∙ frames_to_tail lent snapshot log r a) in
      let b = tail_bounds a.read.config log 0 0 r.keep (omega arith) e in
      let high : r.keep ≤ length log = b.1 in
      omega arith

  -- of a log that is not older, the next frame bears the sequence that recovery gave and one
  next_follows : NotOlder a.read log → Follows (last_sequence 0 fs) (r.state.sequence + 1)
  unfolding frames_of frames_from
  next_follows (inl empty) some =
      let none : last_sequence 0 fs ≡ 0 = ap (λ (l : List ℕ). last_sequence 0 (frames_of a.read.config l).frames) empty in absurd (omega arith)
  next_follows (inr high) some =
      ap (λ (n : ℕ). n + 1) (ran_from_snapshot kind (bounds_for lent) a.read.sequence fs a.read.rows r.state (frames_led lent snapshot log r a) (log_numbered a.read.config log) some high)

  -- a log of which recovery replayed a frame is not older
  pub replayed_not_older : (S : Snapshot) → read_snapshot lent snapshot ≡ Ok S → 0 < r.state.replayed → NotOlder S log
  replayed_not_older S reads some =
      subst (λ (x : Snapshot). NotOlder x log) (answer_injective a.read S (sym a.reads ∙ reads))
      (inr (played_from_snapshot kind (bounds_for lent) a.read.sequence fs a.read.rows r.state (frames_led lent snapshot log r a) (log_numbered a.read.config log) some))

  -- the next recovery
  pub delete_recovered : (S : Snapshot) → read_snapshot lent snapshot ≡ Ok S → NotOlder S log → tail_length log r ≡ 0
      → (sequence id : ℕ) → sequence ≡ r.state.sequence + 1 → sequence < 256 ^ 8 → id < 256 ^ 8
      → active (row_kind r.config.dimensions) id (rows_of r) ≡ true → length log + 29 ≤ max_log_bytes
      → recover lent snapshot (log ++ delete_frame sequence id) ≡ recovered (with_deleted id r)
  delete_recovered S reads newer none sequence id next q k live short =
      let R = a.read in
      let longer = log ++ delete_frame sequence id in
      let newer' : NotOlder R log = subst (λ (x : Snapshot). NotOlder x log) (answer_injective S R (sym reads ∙ a.reads)) newer in
      let all = read_all none in
      let low = ran_not_below kind (bounds_for lent) R.sequence fs (begins R.sequence R.rows) r.state (frames_led lent snapshot log r a) (omega arith) in
      let f : Frame Row = record { start = length log; sequence = sequence; shape = Single; operations = remove id ∷ [] } in
      let here : active kind id (rows_of r) ≡ true = subst (λ (c : Config). active (row_kind c.dimensions) id (rows_of r) ≡ true) a.same_config live in
      let end : length longer ≡ r.keep + 29 = omega (arith, length-append log (delete_frame sequence id), length_delete sequence id) in
      let fits : length longer ≤ max_log_bytes = omega arith in
      recover_appended lent snapshot log r a Single sequence (remove id ∷ []) (delete_framed R.config sequence id (omega arith) q k) all
      (subst (Follows (last_sequence 0 fs)) (sym next) (next_follows newer')) fits
      ∙ ap (λ (x : Answer (State Row)). ended R (onward (length log) x (λ t. reached t (length longer))))
      (delete_steps kind (bounds_for lent) R.sequence f id r.state refl (omega arith) next here)
      ∙ λ i.
      recovered
      (record {
        config = sym a.same_config i;
        crc = sym a.same_crc i;
        state = record {
          records = mark (row_kind (sym a.same_config i).dimensions) id (rows_of r);
          sequence = next i;
          replayed = suc r.state.replayed;
          skipped = r.state.skipped;
        };
        keep = end i;
      })

  -- by value: behind any bytes more, the same records with the live one of that ID deleted
  pub deleted_by_value : Bytes snapshot → Bytes log → (id : ℕ) (more : List ℕ)
      → records_of snapshot (log ++ more) (with_deleted id r) ≡ mark (record_kind r.config.dimensions) id (records_of snapshot log r)
  deleted_by_value bs bl id more =
      subst
      (λ (c : Config). map (seen c.dimensions snapshot (log ++ more)) (mark (row_kind c.dimensions) id (rows_of r))
      ≡ mark (record_kind c.dimensions) id (map (seen c.dimensions snapshot log) (rows_of r)))
      (sym a.same_config)
      (let d = a.read.config.dimensions in
      sym (mark_seen d snapshot (log ++ more) id (rows_of r))
      ∙ ap (mark (record_kind d) id) (seen_fronts a.read.config snapshot log more (rows_of r) (standing lent snapshot log r bs bl a).sourced))
