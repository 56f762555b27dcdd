-- One level's neighbours, as a part of the cache.
use Rattle.std.specs.Prelude.{ℕ, zero, suc, ◌+◌, ◌*◌, List, ltb, leb, length, get_or, Ok, Err}
use Rattle.fields.specs.Fields.{part, num}
use Rattle.refusal.specs.Refusal.{Answer, ◌>>=◌, refuse}
use Rattle.refusal.specs.declared.Refusal.TheVariants.{NoSuchNode, RowDoesNotFit}
use Rattle.graph.specs.declared.CachePart.{CachePart}

-- the empty part at the cache's start
abbrev pub empty_part : CachePart
empty_part = record { at = 0; size = 0 }

-- the neighbours of the level whose degree is at `at`: 31 for a byte outside
unfoldable pub level_part : List ℕ → ℕ → Answer CachePart
level_part s at = do
  _ ← refuse RowDoesNotFit (ltb (length s) (at + 4))
  _ ← refuse RowDoesNotFit (ltb (length s) (at + 4 + 4 * num s at 4))
  Ok (record { at = at + 4; size = 4 * num s at 4 })

-- those of the level above it by so many
abbrev pub level_above : ℕ → List ℕ → ℕ → Answer CachePart
level_above zero s at = level_part s at
level_above (suc level) s at = do
  this ← level_part s at
  level_above level s (this.at + this.size)

-- 30, 31, 30, 31
unfoldable pub neighbours : List ℕ → List ℕ → ℕ → ℕ → ℕ → Answer CachePart
neighbours s starts count node level = do
  _ ← refuse NoSuchNode (leb count node)
  _ ← refuse NoSuchNode (ltb (length starts) count)
  _ ← refuse RowDoesNotFit (leb (length s) (get_or starts node 0))
  _ ← refuse NoSuchNode (leb (num s (get_or starts node 0) 1) level)
  level_above level s (get_or starts node 0 + 1)

-- the part that the view gives
abbrev pub part_given : Answer CachePart → CachePart
part_given (Ok p) = p
part_given (Err why) = empty_part

-- its bytes
abbrev pub part_of : List ℕ → CachePart → List ℕ
part_of s p = part s p.at p.size
