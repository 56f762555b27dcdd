-- Rows and records. A row tells where a record's bytes lie; the record is what they say.
use Rattle.std.specs.Prelude.{ℕ, ◌+◌, ◌*◌, Bool, true, List, [], length}
use Rattle.fields.specs.Fields.{part}
use Rattle.layout.specs.Layout.{caption_offset, record_length}
use Rattle.rows.specs.declared.Row.{Row}
use Rattle.sources.specs.Sources.{source_of}
use Rattle.meaning.specs.Replay.{Kind}

-- a record by value: ID, state, coordinate bytes, caption. Records are the same if these are
pub record Record : Type 0 where
  pub id : ℕ
  pub deleted : Bool
  pub vector : List ℕ
  pub caption : List ℕ

-- a deleted row has an empty caption
abbrev pub delete_row : Row → Row
delete_row r = record { id = r.id; deleted = true; from_log = r.from_log; caption_length = 0; at = r.at }

abbrev pub delete_record : Record → Record
delete_record r = record { id = r.id; deleted = true; vector = r.vector; caption = [] }

abbrev pub row_kind : ℕ → Kind Row
row_kind d = record { id_of = λ r. r.id.0; deleted = λ r. r.deleted; size_of = λ r. record_length d r.caption_length; delete = delete_row }

abbrev pub record_kind : ℕ → Kind Record
record_kind d =
    record { id_of = λ r. r.id; deleted = λ r. r.deleted; size_of = λ r. record_length d (length r.caption); delete = delete_record }

-- the source that a row names
abbrev pub source : List ℕ → List ℕ → Row → List ℕ
source snapshot log r = source_of snapshot log r.from_log

-- the caption begins 4 bytes after the last coordinate
abbrev pub caption_start : ℕ → Row → ℕ
caption_start d r = r.at + caption_offset d

-- what a row says of its sources
abbrev pub seen : ℕ → List ℕ → List ℕ → Row → Record
seen d snapshot log r =
    record {
      id = r.id.0;
      deleted = r.deleted;
      vector = part (source snapshot log r) r.at (4 * d);
      caption = part (source snapshot log r) (caption_start d r) r.caption_length;
    }
