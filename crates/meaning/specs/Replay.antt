-- Replay: what one operation, one frame and a list of frames do to a table of records. It looks at a record only through
-- its `Kind`, so it means the same over rows, which the code keeps, and over records by value, which the promises speak of.
use Rattle.std.specs.Prelude.{ℕ, suc, ◌+◌, Bool, true, false, not, cond, List, [], ◌∷◌, ◌++◌, length, ltb, leb, eqb, Ok, Err}
use Rattle.layout.specs.Layout.{snapshot_length}
use Rattle.layout.specs.declared.Shape.{Shape}
use Rattle.layout.specs.declared.Shape.TheVariants.{Single, Batch}
use Rattle.refusal.specs.Refusal.{Answer, ◌>>=◌, refuse}
use Rattle.refusal.specs.declared.Refusal.{Refusal}
use Rattle.refusal.specs.declared.Refusal.TheVariants.{TooFewRows, StorageLimits, InactiveDelete, GapAfterSnapshot}

-- what replay asks of a record: its ID, whether it is deleted, its encoded size, and the record once it is deleted
pub record Kind (A : Type 0) : Type 0 where
  pub id_of : A → ℕ
  pub deleted : A → Bool
  pub size_of : A → ℕ
  pub delete : A → A

pub data Operation (A : Type 0) : Type 0 where
  put : A → Operation A
  remove : ℕ → Operation A

-- a frame of the log as it was decoded: its first byte, its sequence, whether it is single or a batch, its operations
pub record Frame (A : Type 0) : Type 0 where
  pub start : ℕ
  pub sequence : ℕ
  pub shape : Shape
  pub operations : List (Operation A)

-- how a log ends after its last good frame: in a tail that begins at a byte, or in a frame that is refused, at its first byte
pub data End : Type 0 where
  tail : ℕ → End
  bad : Refusal → ℕ → End

-- a decoded log: its good frames in order, and how it ends
pub record Frames (A : Type 0) : Type 0 where
  pub frames : List (Frame A)
  pub ended : End

-- what recovery keeps: the records in node order, the sequence reached, and how many frames were replayed and skipped
pub record State (A : Type 0) : Type 0 where
  pub records : List A
  pub sequence : ℕ
  pub replayed : ℕ
  pub skipped : ℕ

-- what a log comes to: a state with the tail's first byte, or a refusal with its frame's first byte
pub data Outcome (A : Type 0) : Type 0 where
  reached : State A → ℕ → Outcome A
  stopped : Refusal → ℕ → Outcome A

-- the bounds that replay meets: rows lent, records and bytes of a snapshot
pub record Bounds : Type 0 where
  pub rows_lent : ℕ
  pub max_records : ℕ
  pub max_bytes : ℕ

-- the state before the first frame
abbrev pub begins : {A : Type 0} → ℕ → List A → State A
begins snapshot records = record { records = records; sequence = snapshot; replayed = 0; skipped = 0 }

-- the state with one frame more skipped
abbrev pub skip : {A : Type 0} → State A → State A
skip s = record { records = s.records; sequence = s.sequence; replayed = s.replayed; skipped = suc s.skipped }

-- one frame more replayed, which left these records
abbrev pub play : {A : Type 0} → Frame A → State A → List A → State A
play f s records = record { records = records; sequence = f.sequence; replayed = suc s.replayed; skipped = s.skipped }

abbrev pub finish : {A : Type 0} → End → State A → Outcome A
finish (tail at) s = reached s at
finish (bad why at) s = stopped why at

-- a refusal names its frame's first byte
abbrev pub onward : {A : Type 0} → ℕ → Answer (State A) → (State A → Outcome A) → Outcome A
onward start (Ok s) next = next s
onward start (Err why) next = stopped why start

-- a delete of an inactive ID: 29 in a single frame, nothing in a batch
abbrev pub absent : {A : Type 0} → Shape → List A → Answer (List A)
absent Single records = Err InactiveDelete
absent Batch records = Ok records

module _ {A : Type 0} (K : Kind A) where
  -- the record is live and bears this ID
  abbrev pub live_as : ℕ → A → Bool
  live_as id r = cond (K.deleted r) false (eqb (K.id_of r) id)

  -- an ID is active where some record is live under it
  unfoldable pub active : ℕ → List A → Bool
  active id [] = false
  active id (r ∷ rs) = cond (live_as id r) true (active id rs)

  abbrev pub mark_one : ℕ → A → A
  mark_one id r = cond (live_as id r) (K.delete r) r

  -- the records with the live one of this ID, if there is one, marked deleted
  unfoldable pub mark : ℕ → List A → List A
  mark id [] = []
  mark id (r ∷ rs) = mark_one id r ∷ mark id rs

  -- the encoded size of all records as they stand, deleted ones included
  unfoldable pub size : List A → ℕ
  size [] = 0
  size (r ∷ rs) = K.size_of r + size rs

  -- a put first marks the old node of its ID deleted, adds its size, then 28, then 19, then appends a node
  unfoldable pub apply_put : Bounds → A → List A → Answer (List A)
  apply_put bounds r records = do
    _ ← refuse StorageLimits (leb bounds.max_records (length records))
    _ ← refuse StorageLimits (ltb bounds.max_bytes (snapshot_length (size (mark (K.id_of r) records) + K.size_of r)))
    _ ← refuse TooFewRows (leb bounds.rows_lent (length records))
    Ok (mark (K.id_of r) records ++ (r ∷ []))

  -- a delete marks the live node of its ID
  unfoldable pub apply_remove : Shape → ℕ → List A → Answer (List A)
  apply_remove shape id records = cond (active id records) (Ok (mark id records)) (absent shape records)

  abbrev pub apply_one : Bounds → Shape → Operation A → List A → Answer (List A)
  apply_one bounds shape (put r) records = apply_put bounds r records
  apply_one bounds shape (remove id) records = apply_remove shape id records

  -- operations in order
  unfoldable pub apply_all : Bounds → Shape → List (Operation A) → List A → Answer (List A)
  apply_all bounds shape [] records = Ok records
  apply_all bounds shape (o ∷ os) records = apply_one bounds shape o records >>= apply_all bounds shape os

  -- a frame that comes after the snapshot: 27 where it is not the next, then its operations
  unfoldable pub replay_frame : Bounds → Frame A → State A → Answer (State A)
  replay_frame bounds f s = do
    _ ← refuse GapAfterSnapshot (not (eqb f.sequence (s.sequence + 1)))
    records ← apply_all bounds f.shape f.operations s.records
    Ok (play f s records)

  -- one frame: at or below the snapshot's sequence it counts as skipped, otherwise it is replayed
  unfoldable pub step : Bounds → ℕ → Frame A → State A → Answer (State A)
  step bounds snapshot f s = cond (leb f.sequence snapshot) (Ok (skip s)) (replay_frame bounds f s)

  -- all frames in order, then the log's end
  unfoldable pub run : Bounds → ℕ → List (Frame A) → End → State A → Outcome A
  run bounds snapshot [] end s = finish end s
  run bounds snapshot (f ∷ fs) end s = onward f.start (step bounds snapshot f s) (run bounds snapshot fs end)

  -- replay over a snapshot's records: the whole log
  unfoldable pub replay : Bounds → ℕ → List A → Frames A → Outcome A
  replay bounds snapshot records log = run bounds snapshot log.frames log.ended (begins snapshot records)
