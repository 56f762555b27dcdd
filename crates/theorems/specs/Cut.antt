-- A log is cut before its first frame or after any frame that recovery reads without refusal, and a snapshot is written of the state there.
use Rattle.std.specs.Prelude.{ℕ, ◌≤◌, ◌≡◌, List, [], ◌∷◌, ◌++◌, take, Ok}
use Rattle.config.specs.Limits.{max_log_bytes}
use Rattle.rows.specs.declared.Row.{Row}
use Rattle.meaning.specs.Replay.{Kind, Frame, End, State, Bounds, step, begins}
use Rattle.meaning.specs.Records.{row_kind}
use Rattle.meaning.specs.Snapshot.{Snapshot, read_snapshot}
use Rattle.meaning.specs.Log.{frames_of}
use Rattle.meaning.specs.File.{file_of}
use Rattle.meaning.specs.Recovery.{Recovered, bounds_for, records_of}
use Rattle.theorems.specs.FrameLists.{byte_after}

module _ {A : Type 0} (K : Kind A) (L : Bounds) (q : ℕ) where
  -- the frames lead from one state to the other, each in order skipped or replayed
  abbrev pub Ran : List (Frame A) → State A → State A → Type 0
  Ran [] s t = s ≡ t
  Ran (f ∷ fs) s t = (m : State A) × (step K L q f s ≡ Ok m) × Ran fs m t

-- Of the log's frames some first ones are read without refusal, one after the other, to a state. `byte_after log 0 front` is the byte
-- behind the last of them, and 0 where there is none: before the first frame.
pub record Cut (lent : ℕ) (snapshot log : List ℕ) : Type 0 where
  pub accepted : Snapshot
  pub accepts : read_snapshot lent snapshot ≡ Ok accepted
  pub front : List (Frame Row)
  pub behind : List (Frame Row)
  pub end : End
  pub frames : frames_of accepted.config log ≡ record { frames = front ++ behind; ended = end }
  pub state : State Row
  pub reads : Ran (row_kind accepted.config.dimensions) (bounds_for lent) accepted.sequence front (begins accepted.sequence accepted.rows) state
  -- no premise within the log's bound; past it recovery reads no frame (20), and a cut before the first frame has 0 here
  pub short : byte_after log 0 front ≤ max_log_bytes

-- the full snapshot of a recovered state
abbrev pub full_snapshot : List ℕ → List ℕ → Recovered → List ℕ
full_snapshot snapshot log r = file_of r.config r.state.sequence (records_of snapshot log r)

module _ {lent : ℕ} {snapshot log : List ℕ} (cut : Cut lent snapshot log) where
  -- the byte at which the log is cut
  abbrev pub place : ℕ
  place = byte_after log 0 cut.front

  -- the state there
  abbrev pub there : Recovered
  there = record { config = cut.accepted.config; crc = cut.accepted.crc; state = cut.state; keep = place }

  -- the full snapshot of the state there
  abbrev pub new_snapshot : List ℕ
  new_snapshot = full_snapshot snapshot (take place log) there

-- a cut with this state there
pub record CutTo (lent : ℕ) (snapshot log : List ℕ) (r : Recovered) : Type 0 where
  pub cut : Cut lent snapshot log
  pub is : there cut ≡ r
