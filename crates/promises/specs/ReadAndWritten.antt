-- Reader and writer together: what `read_snapshot` accepted and `write_snapshot` wrote recovers alike beside any log, and what
-- `write_snapshot` wrote of a state at a cut `read_snapshot` accepts.
use Rattle.refusal.specs.Refusal.{Answer}
use Rattle.std.specs.Prelude.{ℕ, ◌≤◌, ◌≡◌, List, ◌++◌, take, Ok}
use Rattle.crc32.specs.Crc.{crc_of}
use Rattle.fields.specs.Fields.{Bytes}
use Rattle.rows.specs.Lent.{rows_lent}
use Rattle.meaning.specs.File.{body_bytes}
use Rattle.meaning.specs.Recovery.{Recovered, recover, records_of, record_count, active_count, total_size}
use Rattle.snapshot.specs.declared.SnapshotInfo.{SnapshotInfo}
use Rattle.theorems.specs.Compared.{compared}
use Rattle.theorems.specs.Cut.{Cut, place, there}
use Rattle.promises.specs.Store.{ReadSnapshotMeets, WriteMeets}
use Rattle.promises.specs.WrittenFile.{WritesState}

-- what is told of the full snapshot of a recovered state
abbrev pub told_of_state : List ℕ → List ℕ → Recovered → SnapshotInfo
told_of_state snapshot log s =
    record {
      config = s.config;
      crc = crc_of (body_bytes s.config s.state.sequence (records_of snapshot log s));
      sequence = s.state.sequence;
      records = record_count s;
      active = active_count s;
      size = total_size s;
    }

pub record ReadAndWritten : Type 0 where
  -- A snapshot is read, and what the call told and left in the tables is handed to `write_snapshot` with any log (an empty one, say), and
  -- it answers n bytes: beside any other log they recover to the same records, settings, sequence, tail and replayed plus skipped as the
  -- snapshot itself, or to the same refusal
  pub read_then_written : (words active snapshot : List ℕ) → Bytes snapshot
      → (info : SnapshotInfo) (rows' active' : List ℕ) → ReadSnapshotMeets snapshot words active (Ok info) rows' active'
      → (lent_log : List ℕ) (n : ℕ) (out after : List ℕ) → WriteMeets info.config info.sequence rows' info.records snapshot lent_log out (Ok n) after
      → (log : List ℕ) → Bytes log
      → compared (take n after) log (recover (rows_lent words active) (take n after) log) ≡ compared snapshot log (recover (rows_lent words active) snapshot log)
  -- The state at a cut is handed to `write_snapshot`, with the log's front up to the cut and anything behind it, and it answers n bytes:
  -- `read_snapshot`, lent rows enough, accepts them, and tells the settings, sequence, records, active and size of that state, and the
  -- CRC of the file's body
  pub written_then_read : (words active snapshot log : List ℕ) (cut : Cut (rows_lent words active) snapshot log) → Bytes snapshot → Bytes log
      → (more : List ℕ) (n : ℕ) (out after : List ℕ) → WritesState words active (there cut) snapshot (take (place cut) log ++ more) out (Ok n) after
      → (lent_rows lent_active : List ℕ) → record_count (there cut) ≤ rows_lent lent_rows lent_active
      → (r : Answer SnapshotInfo) (rows' active' : List ℕ) → ReadSnapshotMeets (take n after) lent_rows lent_active r rows' active'
      → r ≡ Ok (told_of_state snapshot (take (place cut) log) (there cut))
