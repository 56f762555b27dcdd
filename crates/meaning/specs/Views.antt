-- Lookup by ID, and the views that give a part of the snapshot or of the log.
use Rattle.std.specs.Prelude.{ℕ, suc, cond, List, [], ◌∷◌, ltb, leb, Ok, Err}
use Rattle.refusal.specs.Refusal.{Answer, ◌>>=◌, refuse}
use Rattle.refusal.specs.declared.Refusal.TheVariants.{WrongDimensions, NoSuchNode, RowDoesNotFit}
use Rattle.config.specs.Limits.{min_dimensions, max_dimensions}
use Rattle.rows.specs.Lent.{rows_lent_plain}
use Rattle.rows.specs.Rows.{row_at}
use Rattle.rows.specs.declared.Row.{Row}
use Rattle.sources.specs.Sources.{nothing, outside, shown_part}
use Rattle.sources.specs.declared.Shown.{Shown}
use Rattle.sources.specs.declared.Part.{Part}
use Rattle.meaning.specs.Replay.{live_as}
use Rattle.meaning.specs.Records.{row_kind}
use Rattle.meaning.specs.Tables.{rows_in}

pub data Lookup : Type 0 where
  node : ℕ → Lookup
  none : Lookup

-- the lowest live node of an ID among rows that begin at node k
unfoldable pub find_from : ℕ → ℕ → List Row → Lookup
find_from id k [] = none
find_from id k (r ∷ rs) = cond (live_as (row_kind 0) id r) (node k) (find_from id (suc k) rs)

-- a count above the rows lent is 30
unfoldable pub lookup : List ℕ → ℕ → ℕ → Answer Lookup
lookup words count id = do
  _ ← refuse NoSuchNode (ltb (rows_lent_plain words) count)
  Ok (find_from id 0 (rows_in count words))

-- the row of a node: d out of range is 6, then 30
unfoldable pub row_for : ℕ → List ℕ → ℕ → ℕ → Answer Row
row_for d words count n = do
  _ ← refuse WrongDimensions (ltb d min_dimensions)
  _ ← refuse WrongDimensions (ltb max_dimensions d)
  _ ← refuse NoSuchNode (leb count n)
  _ ← refuse NoSuchNode (ltb (rows_lent_plain words) count)
  Ok (row_at words n)

-- 31 for a part that is not inside its source
unfoldable pub part_for : Shown → ℕ → List ℕ → List ℕ → Row → Answer Part
part_for shown d snapshot log r = do
  _ ← refuse RowDoesNotFit (outside snapshot log (shown_part shown d r))
  Ok (shown_part shown d r)

unfoldable pub view : Shown → ℕ → List ℕ → ℕ → ℕ → List ℕ → List ℕ → Answer Part
view shown d words count n snapshot log = row_for d words count n >>= part_for shown d snapshot log

-- the part that a view gives; the call beside it tells the number, 0 where nothing is refused (`number_told`)
abbrev pub given : Answer Part → Part
given (Ok p) = p
given (Err why) = nothing
