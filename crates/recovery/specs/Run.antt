-- What recovery's steps come to: the frames that are skipped, one frame, those that are replayed, and the tables that are left.
use Rattle.std.specs.Prelude.{ℕ, ◌≤◌, false, List, [], ◌≡◌, length, Result, Ok, Err}
use Rattle.refusal.specs.Refusal.{Answer}
use Rattle.config.specs.Limits.{max_dimensions, max_snapshot_bytes}
use Rattle.config.specs.declared.Config.{Config}
use Rattle.rows.specs.Lent.{rows_lent}
use Rattle.rows.specs.Rows.{RowFits}
use Rattle.rows.specs.declared.Row.{Row}
use Rattle.meaning.specs.Calls.{recover_tables}
use Rattle.meaning.specs.Every.{Every}
use Rattle.meaning.specs.Log.{frames_of, frames_at}
use Rattle.meaning.specs.Records.{row_kind}
use Rattle.meaning.specs.Recovery as Meant
use Rattle.meaning.specs.Recovery.{live_count, ended}
use Rattle.meaning.specs.Replay.{State, Outcome, reached, stopped, Bounds, size, run, replay}
use Rattle.meaning.specs.Snapshot.{Snapshot, live_twice}
use Rattle.meaning.specs.Tables.{row_words, active_nodes, filled}
use Rattle.snapshot.specs.declared.SnapshotInfo.{SnapshotInfo}
use Rattle.tree_meaning.specs.Spares.{Spares}
use Rattle.replay.specs.Stands.{TableStands}
use Rattle.recovery.specs.Told.{recovery_answer, Recovery}
use Rattle.recovery.specs.declared.Reached.{Reached}
use Rattle.recovery.specs.declared.Skipped.{Skipped}
use Rattle.recovery.specs.declared.Skipped.TheVariants as Skips
use Rattle.recovery.specs.declared.RefusedFrame.{RefusedFrame}

-- the frames from `at` on, where the frame before has the sequence `previous`, over a state
abbrev pub run_from : Config → List ℕ → Bounds → ℕ → ℕ → ℕ → State Row → Outcome Row
run_from c log bounds snapshot previous at s =
    run (row_kind c.dimensions) bounds snapshot (frames_at c log previous at).frames (frames_at c log previous at).ended s

-- a snapshot's rows with k frames skipped
abbrev pub skipped_only : ℕ → List Row → ℕ → State Row
skipped_only snapshot rows k = record { records = rows; sequence = snapshot; replayed = 0; skipped = k }

-- the whole log over a snapshot's rows is, after the frames that were skipped: the rest, a tail, or a refusal
abbrev pub SkipsTo : Config → List ℕ → ℕ → Bounds → List Row → Result Skipped RefusedFrame → Type 0
SkipsTo c log snapshot bounds rows (Ok (Skips.More p)) =
    (p.at ≤ length log) × ((p.skipped ≤ p.at)
    × (replay (row_kind c.dimensions) bounds snapshot rows (frames_of c log) ≡ run_from c log bounds snapshot p.previous p.at (skipped_only snapshot rows p.skipped)))
SkipsTo c log snapshot bounds rows (Ok (Skips.Ended keep k)) =
    (keep ≤ length log) × (replay (row_kind c.dimensions) bounds snapshot rows (frames_of c log) ≡ reached (skipped_only snapshot rows k) keep)
SkipsTo c log snapshot bounds rows (Err f) = replay (row_kind c.dimensions) bounds snapshot rows (frames_of c log) ≡ stopped f.0 f.1

-- the state that was reached, with these rows
abbrev pub state_of : Reached → List Row → State Row
state_of r rows = record { records = rows; sequence = r.sequence; replayed = r.replayed; skipped = r.skipped }

-- a state is reached, and its rows stand
pub record ReachedAs (d : ℕ) (words entries : List ℕ) (s : State Row) (keep : ℕ) (r : Reached) : Type 0 where
  pub stands : TableStands d words entries r.table s.records
  pub state_is : state_of r s.records ≡ s
  pub keep_is : r.keep ≡ keep

-- what one frame leaves: the state that replay defines, with the next frame's first byte, or its refusal at its own
abbrev pub Steps : ℕ → ℕ → ℕ → Answer (State Row) → Result Reached RefusedFrame → List ℕ → List ℕ → Type 0
Steps d next start (Ok s) (Ok r) words entries = ReachedAs d words entries s next r
Steps d next start (Ok s) (Err f) words entries = ⊥
Steps d next start (Err why) (Ok r) words entries = ⊥
Steps d next start (Err why) (Err f) words entries = (f.0 ≡ why) × (f.1 ≡ start)

-- what all frames leave
abbrev pub Reaches : ℕ → Outcome Row → Result Reached RefusedFrame → List ℕ → List ℕ → Type 0
Reaches d (reached s keep) (Ok r) words entries = ReachedAs d words entries s keep r
Reaches d (reached s keep) (Err f) words entries = ⊥
Reaches d (stopped why at) (Ok r) words entries = ⊥
Reaches d (stopped why at) (Err f) words entries = (f.0 ≡ why) × (f.1 ≡ at)

-- these rows are what a snapshot's reading left
pub record Left (info : SnapshotInfo) (words entries : List ℕ) (rows : List Row) : Type 0 where
  pub few_dimensions : info.config.dimensions ≤ max_dimensions
  pub counted : info.records ≡ length rows
  pub live : info.active ≡ live_count rows
  pub sized : info.size ≡ size (row_kind info.config.dimensions) rows
  pub small : info.size ≤ max_snapshot_bytes
  pub enough : length rows ≤ rows_lent words entries
  pub packs : Every RowFits rows
  pub spares : Every Spares rows
  pub once : live_twice rows ≡ false
  pub rows_are : words ≡ filled (length words) (row_words rows)
  pub active_are : entries ≡ filled (length entries) (active_nodes rows)

-- some rows are
pub record SomeLeft (info : SnapshotInfo) (words entries : List ℕ) : Type 0 where
  pub rows : List Row
  pub left : Left info words entries rows

-- the snapshot that was read
abbrev pub snapshot_read : SnapshotInfo → List Row → Snapshot
snapshot_read info rows = record { config = info.config; crc = info.crc; sequence = info.sequence; rows = rows }

-- the recovery that ends in a state
abbrev pub ends_in : SnapshotInfo → State Row → ℕ → Meant.Recovery
ends_in info s keep = ended (snapshot_read info []) (reached s keep)

-- the answer and the tables after are this recovery's
pub record RecoversAs (log words entries : List ℕ) (x : Meant.Recovery) (r : Recovery) (words' entries' : List ℕ) : Type 0 where
  pub told : r ≡ recovery_answer log x
  pub rows_left : words' ≡ (recover_tables words entries x).rows
  pub active_left : entries' ≡ (recover_tables words entries x).active
