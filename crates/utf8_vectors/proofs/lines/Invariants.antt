-- Each turn goes past a line. The measure is what is left.
use Rattle.std.proofs.Common.{length, ◌-◌}
use Rattle.utf8_vectors.proofs.lines.Given as goal

abbrev pub decreases-loop-at : goal.decreases-loop-at
decreases-loop-at g l = length l.s - l.at
