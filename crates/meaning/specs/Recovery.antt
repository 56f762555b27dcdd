-- Recovery of a snapshot and the log beside it, without repair.
use Rattle.std.specs.Prelude.{ℕ, suc, ◌-◌, cond, List, [], ◌∷◌, map, length, ltb, Ok, Err}
use Rattle.config.specs.Limits.{max_records, max_snapshot_bytes, max_log_bytes}
use Rattle.config.specs.declared.Config.{Config}
use Rattle.refusal.specs.Refusal.{Answer}
use Rattle.refusal.specs.declared.Refusal.{Refusal}
use Rattle.refusal.specs.declared.Refusal.TheVariants.{LogTooLong}
use Rattle.meaning.specs.Replay.{State, Outcome, reached, stopped, Bounds, size, replay}
use Rattle.rows.specs.declared.Row.{Row}
use Rattle.meaning.specs.Records.{Record, row_kind, seen}
use Rattle.meaning.specs.Snapshot.{Snapshot, read_snapshot}
use Rattle.meaning.specs.Log.{frames_of}

-- an accepted recovery: settings, snapshot CRC, the state reached, and the first byte of the tail
pub record Recovered : Type 0 where
  pub config : Config
  pub crc : ℕ
  pub state : State Row
  pub keep : ℕ

pub data Recovery : Type 0 where
  recovered : Recovered → Recovery
  refused_snapshot : Refusal → Recovery
  refused_log : Refusal → ℕ → Recovery

abbrev pub bounds_for : ℕ → Bounds
bounds_for rows_lent = record { rows_lent = rows_lent; max_records = max_records; max_bytes = max_snapshot_bytes }

abbrev pub ended : Snapshot → Outcome Row → Recovery
ended s (reached st keep) = recovered (record { config = s.config; crc = s.crc; state = st; keep = keep })
ended s (stopped why at) = refused_log why at

-- the log's frames, replayed over the snapshot's rows
abbrev pub replay_log : ℕ → List ℕ → Snapshot → Recovery
replay_log rows_lent log s =
    ended s (replay (row_kind s.config.dimensions) (bounds_for rows_lent) s.sequence s.rows (frames_of s.config log))

abbrev pub with_snapshot : ℕ → List ℕ → Answer Snapshot → Recovery
with_snapshot rows_lent log (Ok s) = replay_log rows_lent log s
with_snapshot rows_lent log (Err why) = refused_snapshot why

-- 20 before everything, the snapshot next, the log last
unfoldable pub recover : ℕ → List ℕ → List ℕ → Recovery
recover rows_lent snapshot log =
    cond (ltb max_log_bytes (length log)) (refused_log LogTooLong 0) (with_snapshot rows_lent log (read_snapshot rows_lent snapshot))

-- how many records are live
unfoldable pub live_count : List Row → ℕ
live_count [] = 0
live_count (r ∷ rs) = cond r.deleted (live_count rs) (suc (live_count rs))

-- a row per record
abbrev pub rows_of : Recovered → List Row
rows_of r = r.state.records

-- its counts, beside settings, snapshot CRC, sequence, replayed, skipped and keep
abbrev pub record_count : Recovered → ℕ
record_count r = length (rows_of r)

abbrev pub active_count : Recovered → ℕ
active_count r = live_count (rows_of r)

abbrev pub total_size : Recovered → ℕ
total_size r = size (row_kind r.config.dimensions) (rows_of r)

abbrev pub tail_length : List ℕ → Recovered → ℕ
tail_length log r = length log - r.keep

-- the records, as seen through the rows
abbrev pub records_of : List ℕ → List ℕ → Recovered → List Record
records_of snapshot log r = map (seen r.config.dimensions snapshot log) (rows_of r)
