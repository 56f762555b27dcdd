-- What the writer's steps are told of the state and say of the rows that they write.
use Rattle.std.specs.Prelude.{ℕ, ◌≤◌, Bool, true, false, not, cond, List, [], ◌++◌, map, ◌≡◌, length}
use Rattle.config.specs.Limits.{max_dimensions}
use Rattle.config.specs.Settings.{Bounded, metric_number, ef_of}
use Rattle.config.specs.declared.Config.{Config}
use Rattle.layout.specs.Layout.{magic}
use Rattle.layout.specs.declared.Extent.{Extent}
use Rattle.layout.specs.declared.Extent.TheVariants.{Full, Compacted}
use Rattle.fields.specs.Fields.{bytes}
use Rattle.rows.specs.Lent.{rows_lent_plain}
use Rattle.rows.specs.Rows.{RowFits}
use Rattle.rows.specs.declared.Row.{Row}
use Rattle.sources.specs.Sources.{Inside, shown_part}
use Rattle.sources.specs.declared.Shown.TheVariants.{Caption}
use Rattle.meaning.specs.Replay.{size}
use Rattle.meaning.specs.Records.{row_kind, seen}
use Rattle.meaning.specs.Tables.{rows_in}
use Rattle.meaning.specs.File.{record_bytes, records_bytes}
use Rattle.meaning.specs.Writer.{any_misfit, written}
use Rattle.writer.specs.declared.Totals.{Totals}

-- a state that passed every test but those of the file's length
pub record Tested (c : Config) (words : List ℕ) (count : ℕ) (snapshot log : List ℕ) : Type 0 where
  pub bounded : Bounded c
  pub lent : count ≤ rows_lent_plain words
  pub fit : any_misfit c snapshot log (rows_in count words) ≡ false

-- a row that can be copied
pub record Copyable (d : ℕ) (snapshot log : List ℕ) (row : Row) : Type 0 where
  pub d_small : d ≤ max_dimensions
  pub row_fits : RowFits row
  pub inside : Inside snapshot log (shown_part Caption d row)

-- a row is written unless it is deleted and the snapshot is Compacted
abbrev pub keeps : Extent → Bool → Bool
keeps Full deleted = true
keeps Compacted deleted = not deleted

-- the bytes that one row adds to the records, and those of rows in node order
abbrev pub row_bytes : Extent → ℕ → List ℕ → List ℕ → Row → List ℕ
row_bytes extent d snapshot log r = cond (keeps extent r.deleted) (record_bytes (seen d snapshot log r)) []

abbrev pub rows_bytes : Extent → ℕ → List ℕ → List ℕ → List Row → List ℕ
rows_bytes extent d snapshot log rows = records_bytes (map (seen d snapshot log) (written extent rows))

-- how many records are written, and how many bytes they take
pub record TotalsOf (extent : Extent) (d : ℕ) (rows : List Row) (t : Totals) : Type 0 where
  pub records_are : t.records ≡ length (written extent rows)
  pub bytes_are : t.bytes ≡ size (row_kind d) (written extent rows)

-- more than any row adds: a caption length has 15 bits
abbrev pub most_of_a_row : ℕ
most_of_a_row = 65536

-- the first 28 bytes of a header
abbrev pub settings_bytes : Config → List ℕ
settings_bytes c =
    magic ++ (bytes 4 2 ++ (bytes 4 c.dimensions ++ (bytes 4 c.m ++ (bytes 4 (ef_of c) ++ bytes 4 (metric_number c.metric)))))
