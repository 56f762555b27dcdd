-- The coordinates so far stand at the front.
use mathlib.Core.Path.{◌≡◌}
use lib.ListN.{length, take}
use Rattle.fields.specs.Placed.{placed}
use Rattle.coordinates.specs.Coordinates.{coordinate_bytes}
use Rattle.encoder.proofs.write_coordinates.Given as goal

abbrev pub invariant-loop-i : goal.invariant-loop-i
invariant-loop-i l = (length l.out ≡ length l.initial.out) × (l.out ≡ placed 0 (coordinate_bytes (take l.i l.coordinates)) l.initial.out)
