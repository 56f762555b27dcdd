-- The sum has 32 bits.
use Rattle.std.proofs.Common.{◌<◌}
use Rattle.sorting_vectors.proofs.sum.Given as goal

abbrev pub invariant-loop-entry : goal.invariant-loop-entry
invariant-loop-entry l = l.h < 4294967296
