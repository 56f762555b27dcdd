-- `level_above` walks up to the level. The invariant: the walk from here is the whole walk.
use Prim.Native.Nat.{◌-◌, ◌≤◌}
use mathlib.Core.Path.{◌≡◌}
use lib.ListN.{length}
use Rattle.graph.specs.Neighbours.{level_above}
use Rattle.graph.proofs.level_above.Given as goal

abbrev pub invariant-loop : goal.invariant-loop
invariant-loop l = (l.at ≤ length l.s) × (level_above (l.level - l.counter) l.s l.at ≡ level_above l.level l.s l.first)
