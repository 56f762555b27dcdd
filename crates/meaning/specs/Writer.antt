-- The snapshot writer over a state that is handed in: its refusals in document 01's order, the bytes it writes, and the output after.
use Rattle.std.specs.Prelude.{ℕ, Bool, true, false, not, cond, List, [], ◌∷◌, map, ltb, eqb, Ok}
use Rattle.config.specs.Limits.{max_snapshot_bytes}
use Rattle.config.specs.declared.Config.{Config}
use Rattle.rows.specs.Lent.{rows_lent_plain}
use Rattle.refusal.specs.Refusal.{Answer, ◌>>=◌, refuse}
use Rattle.refusal.specs.declared.Refusal.TheVariants.{NoSuchNode, RowDoesNotFit, TooLarge, OutputTooShort}
use Rattle.meaning.specs.Replay.{size}
use Rattle.layout.specs.Layout.{snapshot_length}
use Rattle.layout.specs.declared.Extent.{Extent}
use Rattle.layout.specs.declared.Extent.TheVariants.{Full, Compacted}
use Rattle.rows.specs.declared.Row.{Row}
use Rattle.sources.specs.Sources.{outside, shown_part}
use Rattle.sources.specs.declared.Shown.TheVariants.{Caption}
use Rattle.config.specs.Settings.{validate, caption_limit}
use Rattle.meaning.specs.Records.{row_kind, seen}
use Rattle.meaning.specs.Tables.{rows_in}
use Rattle.meaning.specs.File.{file_of}

-- 31: the caption passes its source's end, the row is deleted with a caption length, or the length is over the limit
abbrev pub misfit : Config → List ℕ → List ℕ → Row → Bool
misfit c snapshot log r =
    cond (outside snapshot log (shown_part Caption c.dimensions r)) true
    (cond (cond r.deleted (not (eqb r.caption_length 0)) false) true (ltb (caption_limit c) r.caption_length))

unfoldable pub any_misfit : Config → List ℕ → List ℕ → List Row → Bool
any_misfit c snapshot log [] = false
any_misfit c snapshot log (r ∷ rs) = cond (misfit c snapshot log r) true (any_misfit c snapshot log rs)

-- full writes every row, compacted only the live ones
unfoldable pub live_rows : List Row → List Row
live_rows [] = []
live_rows (r ∷ rs) = cond r.deleted (live_rows rs) (r ∷ live_rows rs)

abbrev pub written : Extent → List Row → List Row
written Full rows = rows
written Compacted rows = live_rows rows

-- the state that is handed in: 30 exactly if the count exceeds the rows lent, then 31 for any row below the count
unfoldable pub state_rows : Config → List ℕ → ℕ → List ℕ → List ℕ → Answer (List Row)
state_rows c words count snapshot log = do
  _ ← refuse NoSuchNode (ltb (rows_lent_plain words) count)
  _ ← refuse RowDoesNotFit (any_misfit c snapshot log (rows_in count words))
  Ok (rows_in count words)

-- the length of a written snapshot
abbrev pub file_length : ℕ → List Row → ℕ
file_length d rows = snapshot_length (size (row_kind d) rows)

-- 34 exactly if the file would be over its limit, then 32; coordinates and captions are copied unchecked, in node order
unfoldable pub file_of_rows : Config → ℕ → List ℕ → List ℕ → ℕ → List Row → Answer (List ℕ)
file_of_rows c sequence snapshot log room rows = do
  _ ← refuse TooLarge (ltb max_snapshot_bytes (file_length c.dimensions rows))
  _ ← refuse OutputTooShort (ltb room (file_length c.dimensions rows))
  Ok (file_of c sequence (map (seen c.dimensions snapshot log) rows))

-- once the settings are valid
unfoldable pub write_valid : Extent → Config → ℕ → List ℕ → ℕ → List ℕ → List ℕ → ℕ → Answer (List ℕ)
write_valid extent c sequence words count snapshot log room = do
  rows ← state_rows c words count snapshot log
  file_of_rows c sequence snapshot log room (written extent rows)

unfoldable pub write : Extent → Config → ℕ → List ℕ → ℕ → List ℕ → List ℕ → ℕ → Answer (List ℕ)
write extent c sequence words count snapshot log room = do
  _ ← validate c
  write_valid extent c sequence words count snapshot log room
