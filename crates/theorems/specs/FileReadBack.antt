-- What the writer writes is read back: the same settings, sequence and records.
use Rattle.std.specs.Prelude.{ℕ, ◌≤◌, ◌≡◌, List, map, length, Ok}
use Rattle.crc32.specs.Crc.{crc_of}
use Rattle.fields.specs.Fields.{Bytes}
use Rattle.config.specs.Limits.{max_snapshot_bytes}
use Rattle.config.specs.declared.Config.{Config}
use Rattle.layout.specs.Layout.{header_length}
use Rattle.layout.specs.declared.Version.TheVariants.{Two}
use Rattle.meaning.specs.Every.{Every}
use Rattle.meaning.specs.Records.{Record, seen}
use Rattle.meaning.specs.Snapshot.{read_header, read_snapshot}
use Rattle.meaning.specs.File.{body_bytes, file_of}
use Rattle.meaning.specs.Recovery.{Recovered, recovered, recover, records_of}
use Rattle.theorems.specs.Cut.{full_snapshot}
use Rattle.theorems.specs.Storable.{Fit, Storable}
use Rattle.theorems.specs.FileRows.{file_rows}

pub record FileReadBack : Type 0 where
  pub file_header_back : (c : Config) (sequence : ℕ) (records : List Record) → Storable c sequence records
      → read_header (file_of c sequence records) ≡ Ok (record { config = c; sequence = sequence; count = length records; first = header_length Two })
  -- it is accepted where as many rows are lent
  pub file_back : (lent : ℕ) (c : Config) (sequence : ℕ) (records : List Record) → Storable c sequence records → length records ≤ lent
      → read_snapshot lent (file_of c sequence records)
      ≡ Ok (record { config = c; crc = crc_of (body_bytes c sequence records); sequence = sequence; rows = file_rows (header_length Two) records })
  -- its rows show the records that were written, beside any log
  pub file_seen : (c : Config) (sequence : ℕ) (records : List Record) (log : List ℕ) → Every (Fit c) records
      → map (seen c.dimensions (file_of c sequence records) log) (file_rows (header_length Two) records) ≡ records
  -- the records of a recovered state may be written, where their file is short enough
  pub recovered_storable : (lent : ℕ) (snapshot log : List ℕ) (r : Recovered) → Bytes snapshot → Bytes log → recover lent snapshot log ≡ recovered r
      → length (full_snapshot snapshot log r) ≤ max_snapshot_bytes → Storable r.config r.state.sequence (records_of snapshot log r)
