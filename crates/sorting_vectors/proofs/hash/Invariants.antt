-- The hash has 32 bits.
use Rattle.std.proofs.Common.{◌<◌}
use Rattle.sorting_vectors.proofs.hash.Given as goal

abbrev pub invariant-loop-i : goal.invariant-loop-i
invariant-loop-i l = l.h < 4294967296
