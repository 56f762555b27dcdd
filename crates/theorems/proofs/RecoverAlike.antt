-- Two accepted snapshots that differ only in the captions of deleted records, lengths included, recover with one log and equal tables
-- lent to the same answer, snapshot CRC and row offsets excepted; and to the same records.
use Rattle.std.specs.Prelude.{Ok}
use Prim.Native.Nat.{ℕ, zero, suc, ◌*◌, ◌-◌}
use native.Mathlib.Omega.{arith}
use mathlib.Core.Path.{◌≡◌, refl, sym, ap, ap₂, ◌∙◌}
use mathlib.Core.Bool.{Bool, cond}
use mathlib.Core.List.{List, [], ◌∷◌, map, nil≢cons}
use lib.ListN.{length, get_or, length-map}
use lib.Dec.{ltb}
use Rattle.fields.specs.Fields.{Bytes}
use Rattle.config.specs.declared.Config.{Config}
use Rattle.meaning.specs.Replay.{Frame, Outcome, reached, stopped, Bounds, replay}
use Rattle.meaning.specs.Records.{Record, row_kind, seen}
use Rattle.rows.specs.declared.Row.{Row}
use Rattle.meaning.specs.Snapshot.{Snapshot, read_snapshot}
use Rattle.meaning.specs.Log.{frames_of}
use Rattle.meaning.specs.Recovery.{Recovered, Recovery, recovered, refused_snapshot, refused_log, bounds_for, ended, recover, live_count, rows_of}
use Rattle.meaning.specs.Tables.{row_words, live_from, live_nodes, active_nodes}
use Rattle.sorting.specs.Sorting.{key_of, insert_node, sorted_nodes}
use Rattle.meaning.specs.Calls.{RecoveryTold, recovery_told}
use Rattle.theorems.proofs.CutFrames as CutFrames
use Rattle.theorems.proofs.Carry.{Carries, carry_frames, carry_end, carry_outcome, size_carried, replay_carried}
use Rattle.theorems.proofs.LogFit.{Logged, in_frames, frames_logged}
use Rattle.theorems.proofs.Weighed.{Weighed, weighed_kind, weighed, weighed_carries, frames_alike}
use Rattle.theorems.specs.DeletedCaptions.{DifferInDeleted, placeless, without_places, told_without_crc}
use Rattle.theorems.proofs.ReadAlike.{ReadAlike, deleted_captions}
use Rattle.theorems.proofs.Recovering.{recover_alike}
use Rattle.theorems.specs.Compared.{compared}
use Rattle.theorems.proofs.Halves.{compare_weighed, compared_weighed, weighed_alike}

abbrev ended_with : Config → Outcome Row → Recovery
ended_with c (reached s keep) = recovered (record { config = c; crc = 0; state = s; keep = keep })
ended_with c (stopped why at) = refused_log why at

ended_placeless : (x : Snapshot) (o : Outcome Row) → without_places (ended x o) ≡ ended_with x.config (carry_outcome placeless (λ n. n) o)
ended_placeless x (reached s keep) = refl
ended_placeless x (stopped why at) = refl

placeless_carries : (d : ℕ) → Carries (row_kind d) (row_kind d) placeless
placeless_carries d = record { ids = λ r. refl; deleteds = λ r. refl; sizes = λ r. refl; deletes = λ r. refl }

weighed_same : (d : ℕ) (s s' log : List ℕ) (xs ys : List Row) → map (seen d s log) xs ≡ map (seen d s' log) ys → map placeless xs ≡ map placeless ys
    → map (weighed d s log) xs ≡ map (weighed d s' log) ys
weighed_same d s s' log [] [] e p = refl
weighed_same d s s' log [] (y ∷ ys) e p = absurd (nil≢cons p)
weighed_same d s s' log (x ∷ xs) [] e p = absurd (nil≢cons (sym p))
weighed_same d s s' log (x ∷ xs) (y ∷ ys) e p =
    let v : seen d s log x ≡ seen d s' log y = cc in
    let w : placeless x ≡ placeless y = cc in
    let es : map (seen d s log) xs ≡ map (seen d s' log) ys = cc in
    let ps : map placeless xs ≡ map placeless ys = cc in
    ap₂ ◌∷◌ (ap₂ (λ (a : Record) (n : ℕ). record { value = a; caption = n }) v (ap (λ (r : Row). r.caption_length) w)) (weighed_same d s s' log xs ys es ps)

module _ (lent : ℕ) (s s' log : List ℕ) (x y : Snapshot) (e : read_snapshot lent s ≡ Ok x) (e' : read_snapshot lent s' ≡ Ok y) (k : ReadAlike s s' x y) where
  abbrev L : Bounds
  L = bounds_for lent

  placeless_replay : carry_outcome placeless (λ n. n) (replay (row_kind x.config.dimensions) L x.sequence x.rows (frames_of x.config log))
      ≡ carry_outcome placeless (λ n. n) (replay (row_kind y.config.dimensions) L y.sequence y.rows (frames_of y.config log))
  placeless_replay =
      sym (replay_carried (row_kind x.config.dimensions) (row_kind x.config.dimensions) placeless (placeless_carries x.config.dimensions) L (λ n. n) x.sequence x.rows (frames_of x.config log))
      ∙ ap₂ (λ (q : ℕ) (rs : List Row). replay (row_kind x.config.dimensions) L q rs (carry_frames placeless (λ n. n) (frames_of x.config log))) k.same_sequence k.same_rows
      ∙ ap (λ (c : Config). replay (row_kind c.dimensions) L y.sequence (map placeless y.rows) (carry_frames placeless (λ n. n) (frames_of c log))) k.same_config
      ∙ replay_carried (row_kind y.config.dimensions) (row_kind y.config.dimensions) placeless (placeless_carries y.config.dimensions) L (λ n. n) y.sequence y.rows (frames_of y.config log)

  same_answer : without_places (recover lent s log) ≡ without_places (recover lent s' log)
  same_answer =
      recover_alike without_places without_places lent s s' log x y e e' refl
      (ended_placeless x (replay (row_kind x.config.dimensions) L x.sequence x.rows (frames_of x.config log))
      ∙ ap₂ ended_with k.same_config placeless_replay
      ∙ sym (ended_placeless y (replay (row_kind y.config.dimensions) L y.sequence y.rows (frames_of y.config log))))

  module _ (bl : Bytes log) where
    weighed_replay : CutFrames.summary (carry_outcome (weighed x.config.dimensions s log) (λ n. n) (replay (row_kind x.config.dimensions) L x.sequence x.rows (frames_of x.config log)))
        ≡ CutFrames.summary (carry_outcome (weighed y.config.dimensions s' log) (λ n. n) (replay (row_kind y.config.dimensions) L y.sequence y.rows (frames_of y.config log)))
    weighed_replay =
        let d = x.config.dimensions in
        let sd : y.config.dimensions ≡ d = ap (λ (c : Config). c.dimensions) (sym k.same_config) in
        let seen_are : map (seen d s log) x.rows ≡ map (seen d s' log) y.rows
        = k.same_records log ∙ ap (λ (n : ℕ). map (seen n s' log) y.rows) sd in
        let fs = frames_of x.config log in
        let alike : carry_frames (weighed d s log) (λ n. n) fs ≡ carry_frames (weighed d s' log) (λ n. n) fs
        = ap (λ (l : List (Frame Weighed)). record { frames = l; ended = carry_end (λ n. n) fs.ended })
        (frames_alike (weighed d s log) (weighed d s' log) (λ n. n) fs.frames
        (in_frames (Logged x.config s log) (λ r. weighed d s log r ≡ weighed d s' log r) (λ r l. weighed_alike d s s' log r l.from_log) fs.frames (frames_logged x.config s log bl))) in
        ap CutFrames.summary
        (sym (replay_carried (row_kind d) (weighed_kind d) (weighed d s log) (weighed_carries d s log) L (λ n. n) x.sequence x.rows fs)
        ∙ ap₂ (replay (weighed_kind d) L x.sequence) (weighed_same d s s' log x.rows y.rows seen_are k.same_rows) alike
        ∙ replay_carried (row_kind d) (weighed_kind d) (weighed d s' log) (weighed_carries d s' log) L (λ n. n) x.sequence y.rows fs
        ∙ ap (λ (q : ℕ). carry_outcome (weighed d s' log) (λ n. n) (replay (row_kind d) L q y.rows fs)) k.same_sequence
        ∙ ap (λ (c : Config). carry_outcome (weighed c.dimensions s' log) (λ n. n) (replay (row_kind c.dimensions) L y.sequence y.rows (frames_of c log))) k.same_config)

    same_told : compared s log (recover lent s log) ≡ compared s' log (recover lent s' log)
    same_told =
        recover_alike (compared s log) (compared s' log) lent s s' log x y e e' refl
        (compared_weighed s log x (replay (row_kind x.config.dimensions) L x.sequence x.rows (frames_of x.config log))
        ∙ ap₂ (λ (c : Config). compare_weighed c log) k.same_config weighed_replay
        ∙ sym (compared_weighed s' log y (replay (row_kind y.config.dimensions) L y.sequence y.rows (frames_of y.config log))))

-- the whole answer, but for snapshot CRC and row offsets
pub deleted_captions_answer : (lent : ℕ) (s s' log : List ℕ) (x y : Snapshot) → DifferInDeleted s s'
    → read_snapshot lent s ≡ Ok x → read_snapshot lent s' ≡ Ok y → without_places (recover lent s log) ≡ without_places (recover lent s' log)
deleted_captions_answer lent s s' log x y k e e' = same_answer lent s s' log x y e e' (deleted_captions lent lent s s' x y k e e')

-- and the same records
pub deleted_captions_records : (lent : ℕ) (s s' log : List ℕ) (x y : Snapshot) → Bytes log → DifferInDeleted s s'
    → read_snapshot lent s ≡ Ok x → read_snapshot lent s' ≡ Ok y → compared s log (recover lent s log) ≡ compared s' log (recover lent s' log)
deleted_captions_records lent s s' log x y bl k e e' = same_told lent s s' log x y e e' (deleted_captions lent lent s s' x y k e e') bl

-- ---- in the words of the answer
placeless_live : (rows : List Row) → live_count (map placeless rows) ≡ live_count rows
unfolding live_count
placeless_live [] = refl
placeless_live (r ∷ rs) = ap (λ (n : ℕ). cond r.deleted n (suc n)) (placeless_live rs)

-- the active nodes go by IDs and states alone
placeless_nodes : (k : ℕ) (rows : List Row) → live_from k (map placeless rows) ≡ live_from k rows
unfolding live_from
placeless_nodes k [] = refl
placeless_nodes k (r ∷ rs) = ap (λ (vs : List ℕ). cond r.deleted vs (k ∷ vs)) (placeless_nodes (suc k) rs)

placeless_keys : (rows : List Row) (v : ℕ) → key_of (row_words (map placeless rows)) v ≡ key_of (row_words rows) v
unfolding row_words
placeless_keys [] v = refl
placeless_keys (r ∷ rs) zero = refl
placeless_keys (r ∷ rs) (suc v) =
    let e : 2 * suc v ≡ suc (suc (2 * v)) = omega arith in
    ap (λ (n : ℕ). get_or (row_words (map placeless (r ∷ rs))) n 0) e ∙ placeless_keys rs v ∙ sym (ap (λ (n : ℕ). get_or (row_words (r ∷ rs)) n 0) e)

same_insert : (a b : List ℕ) → ((v : ℕ) → key_of a v ≡ key_of b v) → (v : ℕ) (xs : List ℕ) → insert_node a v xs ≡ insert_node b v xs
unfolding insert_node
same_insert a b k v [] = refl
same_insert a b k v (x ∷ xs) =
    ap₂ (λ (t : Bool) (ys : List ℕ). cond t (v ∷ x ∷ xs) (x ∷ ys)) (ap₂ ltb (k v) (k x)) (same_insert a b k v xs)

same_sorted : (a b : List ℕ) → ((v : ℕ) → key_of a v ≡ key_of b v) → (vs : List ℕ) → sorted_nodes a vs ≡ sorted_nodes b vs
unfolding sorted_nodes
same_sorted a b k [] = refl
same_sorted a b k (v ∷ vs) = same_insert a b k v (sorted_nodes a vs) ∙ ap (insert_node b v) (same_sorted a b k vs)

pub placeless_active : (rows : List Row) → active_nodes (map placeless rows) ≡ active_nodes rows
placeless_active rows =
    same_sorted (row_words (map placeless rows)) (row_words rows) (placeless_keys rows) (live_nodes (map placeless rows))
    ∙ ap (sorted_nodes (row_words rows)) (placeless_nodes 0 rows)

-- the values of a recovery, or others where it is none
told_or : RecoveryTold → List ℕ → Recovery → RecoveryTold
told_or z log (recovered r) = told_without_crc (recovery_told log r)
told_or z log (refused_snapshot why) = z
told_or z log (refused_log why at) = z

active_or : List ℕ → Recovery → List ℕ
active_or z (recovered r) = active_nodes (rows_of r)
active_or z (refused_snapshot why) = z
active_or z (refused_log why at) = z

told_placeless : (z : RecoveryTold) (log : List ℕ) (r : Recovered) → told_or z log (without_places (recovered r)) ≡ told_without_crc (recovery_told log r)
unfolding told_or
told_placeless z log r =
    let rows = rows_of r in
    let d = r.config.dimensions in
    λ i. record {
      config = r.config;
      crc = 0;
      sequence = r.state.sequence;
      records = length-map rows placeless i;
      active = placeless_live rows i;
      replayed = r.state.replayed;
      skipped = r.state.skipped;
      keep = r.keep;
      tail = length log - r.keep;
      size = size_carried (row_kind d) (row_kind d) placeless (placeless_carries d) rows i;
    }

-- every value of the answer but the snapshot CRC, and the active entries
pub deleted_captions_told : (lent : ℕ) (s s' log : List ℕ) (x y : Snapshot) (r r' : Recovered) → DifferInDeleted s s'
    → read_snapshot lent s ≡ Ok x → read_snapshot lent s' ≡ Ok y → recover lent s log ≡ recovered r → recover lent s' log ≡ recovered r'
    → (told_without_crc (recovery_told log r) ≡ told_without_crc (recovery_told log r')) × (active_nodes (rows_of r) ≡ active_nodes (rows_of r'))
unfolding active_or
deleted_captions_told lent s s' log x y r r' k e e' a a' =
    let same : without_places (recovered r) ≡ without_places (recovered r')
    = ap without_places (sym a) ∙ deleted_captions_answer lent s s' log x y k e e' ∙ ap without_places a' in
    let z = recovery_told log r in (
      sym (told_placeless z log r) ∙ ap (told_or z log) same ∙ told_placeless z log r',
      sym (placeless_active (rows_of r)) ∙ ap (active_or []) same ∙ placeless_active (rows_of r'),
    )
