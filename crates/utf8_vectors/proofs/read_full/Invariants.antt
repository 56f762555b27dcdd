-- What was read lies within the room. The measure is the room left: a read that gives nothing ends the loop.
use Rattle.std.proofs.Common.{length, ◌-◌, ◌≤◌}
use Rattle.utf8_vectors.proofs.read_full.Given as goal

abbrev pub invariant-loop-done : goal.invariant-loop-done
invariant-loop-done g l = l.done ≤ length l.room

abbrev pub decreases-loop-done : goal.decreases-loop-done
decreases-loop-done g l = length l.initial.room - l.done
