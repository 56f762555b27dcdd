-- The invariant: gathering the rest from here gives what gathering all does.
use mathlib.Core.Path.{◌≡◌}
use lib.ListN.{drop}
use Rattle.coordinates.specs.Largest.{largest}
use Rattle.coordinates.proofs.largest_of.Given as goal

abbrev pub invariant-loop-w : goal.invariant-loop-w
invariant-loop-w l = largest l.most (drop l.w-index l.c) ≡ largest 0 l.c
