-- `glance` reads inside the piece: the four stretches together are the piece.
use Prim.Native.Nat.{◌+◌, ◌-◌, ◌≤◌}
use Rattle.pieces.specs.Sums.{stretch_length}
use Rattle.pieces.proofs.glance.Given as goal

abbrev pub invariant-loop-i : goal.invariant-loop-i
invariant-loop-i l = l.i ≤ stretch_length + 64

abbrev pub decreases-loop-i : goal.decreases-loop-i
decreases-loop-i l = stretch_length + 64 - l.i
