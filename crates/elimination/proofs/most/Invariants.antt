-- `elimination::most` meets its contract. The loop's invariant: the window stands for what is passed, and 2400 bytes are left.
-- Assumes nothing.
use mathlib.Core.Path.{◌≡◌}
use Prim.Native.Nat.{◌+◌, ◌-◌, ◌≤◌}
use lib.ListN.{length, drop}
use Rattle.elimination.specs.Elimination.{Keeps}
use Rattle.elimination.proofs.most.Given as goal

abbrev pub invariant-loop-at : goal.invariant-loop-at
invariant-loop-at l = (4 ≤ l.at) × (l.at + 2400 ≤ length l.s) × (length l.v ≡ 10592) × Keeps l.initial.v (drop 4 l.s) l.v (drop l.at l.s)

abbrev pub decreases-loop-at : goal.decreases-loop-at
decreases-loop-at l = length l.s - l.at
