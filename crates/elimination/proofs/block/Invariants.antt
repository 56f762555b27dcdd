-- `elimination::block` meets its contract. The loop's invariant: j bytes went from the rest of the message into v.
-- Assumes nothing.
use mathlib.Core.Path.{◌≡◌}
use Prim.Native.Nat.{◌+◌}
use lib.ListN.{length, drop}
use Rattle.elimination.specs.Elimination.{Passed}
use Rattle.elimination.proofs.block.Given as goal

abbrev pub invariant-loop-j : goal.invariant-loop-j
invariant-loop-j l = (length l.v ≡ 10592) × Passed l.j l.initial.v (drop l.at l.s) l.v (drop (l.at + l.j) l.s)
