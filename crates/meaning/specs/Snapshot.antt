-- A snapshot as it is read: its header, its records, and every refusal in document 01's order.
use Rattle.std.specs.Prelude.{ℕ, zero, suc, ◌+◌, ◌-◌, ◌/◌, Bool, true, false, not, cond, List, [], ◌∷◌, length, ltb, eqb, Ok, Err}
use Rattle.refusal.specs.Refusal.{Answer, ◌>>=◌, refuse}
use Rattle.refusal.specs.declared.Refusal.TheVariants.{LengthOutOfBounds, WrongMagic, WrongVersion, PastTheEnd, WrongCount, WrongFlag, VectorPastTheEnd, BytesLeftOver, WrongFileCrc, ActiveTwice, TooFewRows}
use Rattle.crc32.specs.Crc.{crc_of}
use Rattle.fields.specs.Fields.{part, num, le}
use Rattle.config.specs.Limits.{min_snapshot_bytes, max_snapshot_bytes, max_records}
use Rattle.config.specs.Settings.{settings, validate, metric_of}
use Rattle.config.specs.declared.Config.{Config}
use Rattle.config.specs.declared.Metric.{Metric}
use Rattle.config.specs.declared.Metric.TheVariants.{SquaredL2}
use Rattle.layout.specs.Layout.{magic, metric_length, header_length, crc_length, record_head, record_length}
use Rattle.layout.specs.declared.Version.{Version}
use Rattle.layout.specs.declared.Version.TheVariants.{One, Two}
use Rattle.rows.specs.declared.Row.{Row}
use Rattle.meaning.specs.Replay.{active}
use Rattle.meaning.specs.Records.{row_kind}
use Rattle.meaning.specs.Item.{item_at}

abbrev pub version_of : ℕ → Answer Version
version_of n = cond (eqb n 1) (Ok One) (cond (eqb n 2) (Ok Two) (Err WrongVersion))

-- version 1 means squared L2
abbrev pub header_metric : Version → List ℕ → Answer Metric
header_metric One s = Ok SquaredL2
header_metric Two s = metric_of (num s 24 4)

-- the header's fields by their places
abbrev pub header_config : Version → List ℕ → Metric → Config
header_config v s metric = settings (num s 12 4) (num s 16 4) (num s 20 4) (num s (24 + metric_length v) 8) metric

abbrev pub header_sequence : Version → List ℕ → ℕ
header_sequence v s = num s (32 + metric_length v) 8

abbrev pub header_count : Version → List ℕ → ℕ
header_count v s = num s (40 + metric_length v) 8

-- how many bytes stand before the file's CRC
abbrev pub body_length : List ℕ → ℕ
body_length s = length s - crc_length

-- version 1: a count over the sequence is refused too
abbrev pub over_sequence : Version → ℕ → ℕ → Bool
over_sequence One sequence count = ltb sequence count
over_sequence Two sequence count = false

-- `first` is where the records begin
pub record Header : Type 0 where
  pub config : Config
  pub sequence : ℕ
  pub count : ℕ
  pub first : ℕ

-- Sequence and count, once the settings are valid. All fields but the count lie inside the 48 bytes of body that every file has, so
-- 4 stands at the count alone.
unfoldable pub counted_header : List ℕ → Version → Config → Answer Header
counted_header s v c = do
  _ ← refuse PastTheEnd (ltb (body_length s) (header_length v))
  _ ← refuse WrongCount (ltb max_records (header_count v s))
  _ ← refuse WrongCount (ltb ((body_length s - header_length v) / record_length c.dimensions 0) (header_count v s))
  _ ← refuse WrongCount (over_sequence v (header_sequence v s) (header_count v s))
  Ok (record { config = c; sequence = header_sequence v s; count = header_count v s; first = header_length v })

-- fields in file order: metric, settings, sequence, count
unfoldable pub header_for : List ℕ → Version → Answer Header
header_for s v = do
  metric ← header_metric v s
  _ ← validate (header_config v s metric)
  counted_header s v (header_config v s metric)

unfoldable pub read_header : List ℕ → Answer Header
read_header s = do
  _ ← refuse LengthOutOfBounds (ltb (length s) min_snapshot_bytes)
  _ ← refuse LengthOutOfBounds (ltb max_snapshot_bytes (length s))
  _ ← refuse WrongMagic (not (eqb (num s 0 8) (le magic)))
  version_of (num s 8 4) >>= header_for s

-- a row read from a file, and where the next one begins
pub record ReadRow : Type 0 where
  pub row : Row
  pub next : ℕ

-- a deleted record is read in full, with an empty caption
abbrev pub snapshot_row : Config → List ℕ → ℕ → ℕ → ReadRow
snapshot_row c s at caption_length =
    record {
      row =
          record {
            id = record { 0 = num s at 8 };
            deleted = eqb (num s (at + 8) 1) 1;
            from_log = false;
            caption_length = cond (eqb (num s (at + 8) 1) 1) 0 caption_length;
            at = at + record_head;
          };
      next = at + record_length c.dimensions caption_length;
    }

-- one record from `at`, before `end`: ID, flag, coordinates, caption
unfoldable pub record_at : Config → List ℕ → ℕ → ℕ → Answer ReadRow
record_at c s end at = do
  _ ← refuse PastTheEnd (ltb end (at + record_head))
  _ ← refuse WrongFlag (ltb 1 (num s (at + 8) 1))
  caption_length ← item_at VectorPastTheEnd c s end (at + record_head)
  Ok (snapshot_row c s at caption_length)

pub record ReadRows : Type 0 where
  pub rows : List Row
  pub next : ℕ

unfoldable pub records_at : ℕ → Config → List ℕ → ℕ → ℕ → Answer ReadRows
records_at zero c s end at = Ok (record { rows = []; next = at })
records_at (suc n) c s end at = do
  this ← record_at c s end at
  rest ← records_at n c s end this.next
  Ok (record { rows = this.row ∷ rest.rows; next = rest.next })

-- some ID is live twice
unfoldable pub live_twice : List Row → Bool
live_twice [] = false
live_twice (r ∷ rs) = cond r.deleted (live_twice rs) (cond (active (row_kind 0) r.id.0 rs) true (live_twice rs))

pub record Snapshot : Type 0 where
  pub config : Config
  pub crc : ℕ
  pub sequence : ℕ
  pub rows : List Row

-- what follows the header: the records, 16, 17
unfoldable pub read_body : List ℕ → Header → Answer Snapshot
read_body s h = do
  found ← records_at h.count h.config s (body_length s) h.first
  _ ← refuse BytesLeftOver (not (eqb found.next (body_length s)))
  _ ← refuse WrongFileCrc (not (eqb (crc_of (part s 0 (body_length s))) (num s (body_length s) 4)))
  Ok (record { config = h.config; crc = num s (body_length s) 4; sequence = h.sequence; rows = found.rows })

-- the file up to and with its CRC, with as many rows lent
unfoldable pub read_parts : ℕ → List ℕ → Answer Snapshot
read_parts rows_lent s = do
  h ← read_header s
  _ ← refuse TooFewRows (ltb rows_lent h.count)
  read_body s h

-- the whole file: 18 comes last
unfoldable pub read_snapshot : ℕ → List ℕ → Answer Snapshot
read_snapshot rows_lent s = do
  x ← read_parts rows_lent s
  _ ← refuse ActiveTwice (live_twice x.rows)
  Ok x
