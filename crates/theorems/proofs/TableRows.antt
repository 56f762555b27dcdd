-- A filled table gives its rows back, whatever stands behind them.
use Prim.Native.Nat.{ℕ}
use mathlib.Core.Path.{◌≡◌}
use mathlib.Core.List.{List}
use lib.ListN.{length}
use Rattle.rows.specs.Rows.{RowFits}
use Rattle.rows.specs.declared.Row.{Row}
use Rattle.meaning.specs.Tables.{row_words, rows_in, filled}
use Rattle.meaning.proofs.RowWords.{rows_of_words}
use Rattle.meaning.specs.Every.{Every}

-- the rows of a filled table are those it was filled with
pub rows_of_table : (n : ℕ) (rows : List Row) → Every RowFits rows → rows_in (length rows) (filled n (row_words rows)) ≡ rows
rows_of_table n rows all = rows_of_words rows _ all
