-- A table of plain words that holds rows at its front.
use Rattle.std.specs.Prelude.{ℕ, ◌*◌, List, ◌≡◌, length, take}
use Rattle.rows.specs.declared.Row.{Row}
use Rattle.meaning.specs.Tables.{row_words}

abbrev pub Holds : List ℕ → List Row → Type 0
Holds words rows = take (2 * length rows) words ≡ row_words rows
