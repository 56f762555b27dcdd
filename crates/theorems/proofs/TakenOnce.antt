-- Each frame of an accepted log is taken once: where each node comes from, what is counted, and the other way.
use Rattle.std.specs.Prelude.{Ok}
use Prim.Native.Nat.{ℕ, ◌+◌, ◌≤◌}
use mathlib.Core.Path.{◌≡◌, sym, ap, ◌∙◌, subst, refl, ap₂}
use mathlib.Core.List.{List, [], ◌∷◌, ◌++◌, map, append_assoc, append-nil}
use Rattle.meaning.specs.Replay.{tail, Frames, End, replay, Operation, put, remove, Frame, Bounds, live_as, mark, apply_put, apply_remove, apply_all}
use Rattle.meaning.specs.Records.{row_kind, delete_row}
use Rattle.rows.specs.declared.Row.{Row}
use Rattle.meaning.specs.Log.{frames_of}
use Rattle.meaning.specs.Recovery.{Recovered, recovered, bounds_for, recover, rows_of, ended}
use Rattle.theorems.specs.EachFrameOnce.{above, TakenOnce, up_to, apply_frames, replayed_to, origin, puts_of, puts_in}
use Rattle.theorems.specs.FrameLists.{BackToBack, Consecutive, last_sequence}
use Rattle.theorems.proofs.Counted.{parted, replay_counts, replay_reaches}
use Rattle.theorems.proofs.LogLaws.{log_numbered, back_to_back}
use Rattle.theorems.proofs.LogCut.{end_after}
use Rattle.theorems.proofs.Recovering.{accepted, frames_to_tail, replays_frames, recover_read}
use Rattle.theorems.proofs.AtTheCut.{numbered_rising}
use Rattle.meaning.proofs.FramesAt.{frames_of_lem}
use Rattle.config.specs.Limits.{max_log_bytes}
use native.Mathlib.Omega.{arith}
use Rattle.meaning.specs.Snapshot.{Snapshot, read_snapshot}
use lib.ListN.{length}
use mathlib.Core.Bool.{Bool, true, false, cond}
use Rattle.layout.specs.declared.Shape.{Shape}
use Rattle.theorems.proofs.Carry.{map_append}
use Rattle.refusal.proofs.Results.{passed, answer_injective}
use Rattle.theorems.proofs.Kept.{put_done, RemoveDone, marks, leaves, remove_done}

mark_origin : (d id : ℕ) (rs : List Row) → map origin (mark (row_kind d) id rs) ≡ map origin rs
unfolding mark
mark_origin d id [] = refl
mark_origin d id (r ∷ rs) = ap₂ ◌∷◌ (go (live_as (row_kind d) id r)) (mark_origin d id rs)
  where
    go : (b : Bool) → origin (cond b (delete_row r) r) ≡ origin r
    go true = refl
    go false = refl

put_origin : (d : ℕ) (L : Bounds) (r : Row) (rs ts : List Row) → apply_put (row_kind d) L r rs ≡ Ok ts → map origin ts ≡ map origin rs ++ (origin r ∷ [])
put_origin d L r rs ts e =
    ap (map origin) (put_done (row_kind d) L r rs ts e).result
    ∙ map_append origin (mark (row_kind d) r.id.0 rs) (r ∷ [])
    ∙ ap (λ (l : List Row). l ++ (origin r ∷ [])) (mark_origin d r.id.0 rs)

remove_origin : (d : ℕ) (shape : Shape) (id : ℕ) (rs ts : List Row) → apply_remove (row_kind d) shape id rs ≡ Ok ts → map origin ts ≡ map origin rs
remove_origin d shape id rs ts e = go (remove_done (row_kind d) shape id rs ts e)
  where
    go : RemoveDone (row_kind d) shape id rs ts → map origin ts ≡ map origin rs
    go (marks _ h) = ap (map origin) h ∙ mark_origin d id rs
    go (leaves _ _ h) = ap (map origin) h

all_origin : (d : ℕ) (L : Bounds) (shape : Shape) (os : List (Operation Row)) (rs ts : List Row) → apply_all (row_kind d) L shape os rs ≡ Ok ts
    → map origin ts ≡ map origin rs ++ map origin (puts_of os)
unfolding apply_all puts_of
all_origin d L shape [] rs ts e = ap (map origin) (sym (answer_injective rs ts e)) ∙ sym (append-nil (map origin rs))
all_origin d L shape (put r ∷ os) rs ts e =
    let s = passed (apply_put (row_kind d) L r rs) _ ts e in
    all_origin d L shape os s.value ts s.then
    ∙ ap (λ (l : List Row). l ++ map origin (puts_of os)) (put_origin d L r rs s.value s.first)
    ∙ append_assoc (map origin rs) (origin r ∷ []) (map origin (puts_of os))
all_origin d L shape (remove id ∷ os) rs ts e =
    let s = passed (apply_remove (row_kind d) shape id rs) _ ts e in
    all_origin d L shape os s.value ts s.then
    ∙ ap (λ (l : List Row). l ++ map origin (puts_of os)) (remove_origin d shape id rs s.value s.first)

-- each node is a record of the snapshot or one put of a replayed frame, in order, each once and none else
pub frames_origin : (d : ℕ) (L : Bounds) (fs : List (Frame Row)) (rs ts : List Row) → apply_frames (row_kind d) L fs rs ≡ Ok ts
    → map origin ts ≡ map origin rs ++ map origin (puts_in fs)
unfolding apply_frames puts_in
frames_origin d L [] rs ts e = ap (map origin) (sym (answer_injective rs ts e)) ∙ sym (append-nil (map origin rs))
frames_origin d L (f ∷ fs) rs ts e =
    let s = passed (apply_all (row_kind d) L f.shape f.operations rs) _ ts e in
    frames_origin d L fs s.value ts s.then
    ∙ ap (λ (l : List Row). l ++ map origin (puts_in fs)) (all_origin d L f.shape f.operations rs s.value s.first)
    ∙ append_assoc (map origin rs) (map origin (puts_of f.operations)) (map origin (puts_in fs))
    ∙ ap (λ (l : List Row). map origin rs ++ l) (sym (map_append origin (puts_of f.operations) (puts_in fs)))

-- the sequence reached is the snapshot's and one for each replayed frame
pub last_counts : (n : ℕ) (fs : List (Frame Row)) → Consecutive n fs → last_sequence n fs ≡ n + length fs
last_counts n [] c = omega arith
last_counts n (f ∷ fs) c = let e = c.0 in omega (arith, last_counts f.sequence fs c.1)

pub taken_once : (lent : ℕ) (snapshot log : List ℕ) (r : Recovered) → recover lent snapshot log ≡ recovered r → TakenOnce lent snapshot log r
taken_once lent snapshot log r e =
    let a = accepted lent snapshot log r e in
    let S = a.read in
    let fs = (frames_of S.config log).frames in
    let k = replay_counts (row_kind S.config.dimensions) (bounds_for lent) S.sequence S.rows fs r.keep r.state r.keep (replays_frames lent snapshot log r a) in
    record {
      read = S;
      reads = a.reads;
      frames = fs;
      frames_are = frames_to_tail lent snapshot log r a;
      together = k.together;
      skipped = k.skipped;
      replayed = k.replayed;
      in_order = parted S.sequence fs (numbered_rising fs (log_numbered S.config log));
      consecutive = k.consecutive;
      back_to_back = subst (λ (x : Frames Row). BackToBack log 0 x.frames) (sym (frames_of_lem S.config log)) (back_to_back S.config log 0 0);
      keep = end_after S.config log fs (tail r.keep) (frames_to_tail lent snapshot log r a);
      numbered = log_numbered S.config log;
      sequence = k.sequence ∙ last_counts S.sequence (above S.sequence fs) k.consecutive ∙ ap (λ (n : ℕ). S.sequence + n) (sym k.replayed);
      rows = k.records;
      origins = frames_origin S.config.dimensions (bounds_for lent) (above S.sequence fs) S.rows (rows_of r) k.records;
    }

-- the other way
pub taken_if : (lent : ℕ) (snapshot log : List ℕ) (S : Snapshot) (k : ℕ) (rows : List Row) → length log ≤ max_log_bytes → read_snapshot lent snapshot ≡ Ok S
    → (frames_of S.config log).ended ≡ tail k
    → Consecutive S.sequence (above S.sequence (frames_of S.config log).frames)
    → apply_frames (row_kind S.config.dimensions) (bounds_for lent) (above S.sequence (frames_of S.config log).frames) S.rows ≡ Ok rows
    → recover lent snapshot log ≡ recovered (replayed_to S (frames_of S.config log).frames k rows)
taken_if lent snapshot log S k rows short reads end c applies =
    let q = S.sequence in
    let fs = (frames_of S.config log).frames in
    let K = row_kind S.config.dimensions in
    let is : frames_of S.config log ≡ record { frames = fs; ended = tail k } = ap (λ (x : End). record { frames = fs; ended = x }) end in
    let a : length (above q fs) + 0 ≡ length (above q fs) = omega arith in
    let b : length (up_to q fs) + 0 ≡ length (up_to q fs) = omega arith in
    recover_read lent snapshot log S reads short
    ∙ ap (ended S) (ap (replay K (bounds_for lent) q S.rows) is ∙ replay_reaches K (bounds_for lent) q S.rows fs k rows c applies)
    ∙ (λ i. recovered (record {
      config = S.config;
      crc = S.crc;
      state = record { records = rows; sequence = last_sequence q (above q fs); replayed = a i; skipped = b i };
      keep = k;
    }))
