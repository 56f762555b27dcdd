-- The captions of deleted records do not count: two accepted snapshots that differ in nothing else, lengths included, recover with one
-- log and equal tables lent to the same answer, the same records and the same tables, snapshot CRC and row offsets excepted.
use Rattle.std.specs.Prelude.{ℕ, ◌≡◌, List, map, length, Ok}
use Rattle.fields.specs.Fields.{num, Bytes}
use Rattle.config.specs.declared.Config.{Config}
use Rattle.layout.specs.declared.Version.{Version}
use Rattle.rows.specs.Lent.{rows_lent}
use Rattle.rows.specs.Rows.{row_at}
use Rattle.rows.specs.declared.Row.{Row}
use Rattle.meaning.specs.Every.{Every}
use Rattle.meaning.specs.Records.{Record, seen}
use Rattle.meaning.specs.Snapshot.{Snapshot, read_snapshot}
use Rattle.meaning.specs.File.{file_of}
use Rattle.meaning.specs.Tables.{Tables, active_nodes}
use Rattle.meaning.specs.Recovery.{Recovered, Recovery, recovered, refused_snapshot, refused_log, recover, rows_of}
use Rattle.meaning.specs.Calls.{RecoveryTold, recovery_told, recover_call, recover_tables}
use Rattle.theorems.specs.Compared.{compared}
use Rattle.theorems.specs.FileRows.{as_read}
use Rattle.theorems.specs.AnyFile.{file_with, HeaderFits, Shaped}

-- two files of one version, settings and sequence, whose records, as raw bytes, differ at most in the captions of deleted ones
pub record DifferInDeleted (s s' : List ℕ) : Type 0 where
  pub version : Version
  pub config : Config
  pub sequence : ℕ
  pub records : List Record
  pub records' : List Record
  pub is : s ≡ file_with version config sequence records
  pub is' : s' ≡ file_with version config sequence records'
  pub fits : HeaderFits version config sequence (length records)
  pub shaped : Every (Shaped config.dimensions) records
  pub shaped' : Every (Shaped config.dimensions) records'
  pub same : map as_read records ≡ map as_read records'

-- a row without its place
abbrev pub placeless : Row → Row
placeless r = record { id = r.id; deleted = r.deleted; from_log = r.from_log; caption_length = r.caption_length; at = 0 }

-- an answer without snapshot CRC and row offsets. Its counts, size and active nodes are those of the rows without their places
abbrev pub without_places : Recovery → Recovery
without_places (recovered r) =
    recovered
    (record {
      config = r.config;
      crc = 0;
      state = record {
        records = map placeless r.state.records;
        sequence = r.state.sequence;
        replayed = r.state.replayed;
        skipped = r.state.skipped;
      };
      keep = r.keep;
    })
without_places (refused_snapshot why) = refused_snapshot why
without_places (refused_log why at) = refused_log why at

abbrev pub told_without_crc : RecoveryTold → RecoveryTold
told_without_crc t =
    record {
      config = t.config;
      crc = 0;
      sequence = t.sequence;
      records = t.records;
      active = t.active;
      replayed = t.replayed;
      skipped = t.skipped;
      keep = t.keep;
      tail = t.tail;
      size = t.size;
    }

-- the same tables, but for the places in the rows: as long, every row the same without its place, and the same entries
pub record SameButPlaces (t t' : Tables) : Type 0 where
  pub same_length : length t.rows ≡ length t'.rows
  pub same_rows : (node : ℕ) → placeless (row_at t.rows node) ≡ placeless (row_at t'.rows node)
  pub same_active : t.active ≡ t'.active

pub record DeletedCaptions : Type 0 where
  -- the whole answer, but for snapshot CRC and row offsets
  pub captions_answer : (lent : ℕ) (s s' log : List ℕ) (x y : Snapshot) → DifferInDeleted s s'
      → read_snapshot lent s ≡ Ok x → read_snapshot lent s' ≡ Ok y → without_places (recover lent s log) ≡ without_places (recover lent s' log)
  -- in the words of the answer: every value but the snapshot CRC, and the active entries
  pub captions_told : (lent : ℕ) (s s' log : List ℕ) (x y : Snapshot) (r r' : Recovered) → DifferInDeleted s s'
      → read_snapshot lent s ≡ Ok x → read_snapshot lent s' ≡ Ok y → recover lent s log ≡ recovered r → recover lent s' log ≡ recovered r'
      → (told_without_crc (recovery_told log r) ≡ told_without_crc (recovery_told log r')) × (active_nodes (rows_of r) ≡ active_nodes (rows_of r'))
  -- the same records
  pub captions_records : (lent : ℕ) (s s' log : List ℕ) (x y : Snapshot) → Bytes log → DifferInDeleted s s'
      → read_snapshot lent s ≡ Ok x → read_snapshot lent s' ≡ Ok y → compared s log (recover lent s log) ≡ compared s' log (recover lent s' log)
  -- the tables after, whether recovery accepts or refuses
  pub captions_tables : (words entries s s' log : List ℕ) (x y : Snapshot) → Bytes s → Bytes s' → Bytes log → DifferInDeleted s s'
      → read_snapshot (rows_lent words entries) s ≡ Ok x → read_snapshot (rows_lent words entries) s' ≡ Ok y
      → SameButPlaces (recover_tables words entries (recover_call words entries s log)) (recover_tables words entries (recover_call words entries s' log))
  -- the file written of an accepted snapshot of version 2 differs from it in no more
  pub rewritten : (lent : ℕ) (s : List ℕ) (x : Snapshot) (log : List ℕ) → Bytes s → read_snapshot lent s ≡ Ok x → num s 8 4 ≡ 2
      → DifferInDeleted s (file_of x.config x.sequence (map (seen x.config.dimensions s log) x.rows))
