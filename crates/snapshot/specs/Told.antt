-- How the code's answers tell what the definitions give.
use Rattle.snapshot.specs.declared.SnapshotInfo.{SnapshotInfo}
use Rattle.std.specs.Prelude.{ℕ, length, Ok, Err}
use Rattle.refusal.specs.Refusal.{Answer, told}
use Rattle.meaning.specs.Replay.{size}
use Rattle.meaning.specs.Recovery.{live_count}
use Rattle.meaning.specs.Records.{row_kind}
use Rattle.meaning.specs.Snapshot as Meant
use Rattle.rows.specs.declared.Row.{Row}
use Rattle.snapshot.specs.declared.Header.{Header}
use Rattle.snapshot.specs.declared.Records.{Records}
use Rattle.snapshot.specs.declared.Parts.{Parts}

abbrev pub header_told : Answer Meant.Header → Answer Header
header_told = told (λ h. Ok (record { config = h.config; sequence = h.sequence; count = h.count; first = h.first })) (λ why. Err why)

abbrev pub meant_header : Header → Meant.Header
meant_header h = record { config = h.config; sequence = h.sequence; count = h.count; first = h.first }

abbrev pub record_told : Answer Meant.ReadRow → Answer (Row × ℕ)
record_told = told (λ x. Ok (x.row, x.next)) (λ why. Err why)

-- where the records, of d coordinates each, end, their encoded size, and a CRC
abbrev pub records_of : ℕ → ℕ → Meant.ReadRows → Records
records_of d crc x = record { next = x.next; size = size (row_kind d) x.rows; crc = crc }

abbrev pub records_told : ℕ → ℕ → Answer Meant.ReadRows → Answer Records
records_told d crc = told (λ x. Ok (records_of d crc x)) (λ why. Err why)

abbrev pub parts_of : Meant.Snapshot → Parts
parts_of x =
    record {
      config = x.config;
      crc = x.crc;
      sequence = x.sequence;
      records = length x.rows;
      size = size (row_kind x.config.dimensions) x.rows;
    }

abbrev pub parts_told : Answer Meant.Snapshot → Answer Parts
parts_told = told (λ x. Ok (parts_of x)) (λ why. Err why)

-- the parts of a snapshot, with how many of its records are live
abbrev pub info_of : Parts → ℕ → SnapshotInfo
info_of p active =
    record {
      config = p.config;
      crc = p.crc;
      sequence = p.sequence;
      records = p.records;
      active = active;
      size = p.size;
    }

-- what a reading answers: settings, CRC, sequence, how many records and how many of them live, their encoded size
abbrev pub read_told : Answer Meant.Snapshot → Answer SnapshotInfo
read_told = told (λ x. Ok (info_of (parts_of x) (live_count x.rows))) (λ why. Err why)
