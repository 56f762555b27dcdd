-- The rows of records that stand one after the other in a file.
use Rattle.std.specs.Prelude.{ℕ, ◌+◌, false, cond, List, [], ◌∷◌, length}
use Rattle.layout.specs.Layout.{record_head}
use Rattle.rows.specs.declared.Row.{Row}
use Rattle.meaning.specs.Records.{Record}
use Rattle.meaning.specs.File.{record_bytes}

-- what a reader makes of a record's caption: a deleted record has none
abbrev pub caption_read : Record → List ℕ
caption_read r = cond r.deleted [] r.caption

abbrev pub as_read : Record → Record
as_read r = record { id = r.id; deleted = r.deleted; vector = r.vector; caption = caption_read r }

-- the row of a record that stands at `at`
abbrev pub record_row : ℕ → Record → Row
record_row at r = record { id = record { 0 = r.id }; deleted = r.deleted; from_log = false; caption_length = length (caption_read r); at = at + record_head }

-- the rows of records that stand from `at` on
unfoldable pub file_rows : ℕ → List Record → List Row
file_rows at [] = []
file_rows at (r ∷ rs) = record_row at r ∷ file_rows (at + length (record_bytes r)) rs
