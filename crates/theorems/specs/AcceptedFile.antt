-- Every accepted snapshot is, byte for byte, the file of its settings, its sequence and the records that stand in it, of version 1 or 2;
-- so of two accepted snapshots `DifferInDeleted` asks no more than that they differ in nothing else.
use Rattle.std.specs.Prelude.{ℕ, ◌≡◌, List, map, length, Ok}
use Rattle.fields.specs.Fields.{Bytes}
use Rattle.layout.specs.declared.Version.{Version}
use Rattle.meaning.specs.Every.{Every}
use Rattle.meaning.specs.Records.{Record, seen}
use Rattle.meaning.specs.Snapshot.{Snapshot, read_snapshot}
use Rattle.theorems.specs.FileRows.{as_read}
use Rattle.theorems.specs.AnyFile.{file_with, HeaderFits, Shaped}

-- a deleted record has here the caption that stands in the file
pub record LaidOut (s : List ℕ) (x : Snapshot) : Type 0 where
  pub version : Version
  pub records : List Record
  pub is : s ≡ file_with version x.config x.sequence records
  pub fits : HeaderFits version x.config x.sequence (length records)
  pub shaped : Every (Shaped x.config.dimensions) records
  -- the rows show these records as a reader makes them: a deleted one without caption
  pub shows : (log : List ℕ) → map (seen x.config.dimensions s log) x.rows ≡ map as_read records

pub record AcceptedFile : Type 0 where
  pub accepted_file : (lent : ℕ) (s : List ℕ) (x : Snapshot) → Bytes s → read_snapshot lent s ≡ Ok x → LaidOut s x
