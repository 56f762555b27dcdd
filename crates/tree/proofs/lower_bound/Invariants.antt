-- The loop's invariant: the IDs up to `low` are below, those after `high` are not.
use Prim.Native.Nat.{ℕ, ◌-◌, ◌<◌, ◌≤◌}
use Rattle.links.specs.Links.{plain_rows}
use Rattle.tree.specs.Grown.{id_of}
use Rattle.tree.proofs.lower_bound.Given as goal

abbrev pub invariant-loop-low : goal.invariant-loop-low
invariant-loop-low l = (l.low ≤ l.high) × (l.high ≤ l.sorted) × ((u : ℕ) → 0 < u → u ≤ l.low → id_of (plain_rows l.words) u < l.id) × ((u : ℕ) → l.high < u → u ≤ l.sorted → l.id ≤ id_of (plain_rows l.words) u)

abbrev pub decreases-loop-low : goal.decreases-loop-low
decreases-loop-low l = l.high - l.low
