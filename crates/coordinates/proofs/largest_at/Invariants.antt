-- The invariant: gathering the rest from here gives what gathering all does.
use mathlib.Core.Path.{◌≡◌}
use Prim.Native.Nat.{◌+◌, ◌-◌, ◌*◌}
use lib.ListN.{drop}
use Rattle.coordinates.specs.Coordinates.{patterns}
use Rattle.coordinates.specs.Largest.{largest}
use Rattle.coordinates.proofs.largest_at.Given as goal

abbrev pub invariant-loop-i : goal.invariant-loop-i
invariant-loop-i l = largest l.most (patterns (l.d - l.i) (drop (l.at + 4 * l.i) l.s)) ≡ largest 0 (patterns l.d (drop l.at l.s))
