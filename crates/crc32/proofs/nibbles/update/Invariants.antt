-- `crc32::nibbles::update` meets its contract. The loop's invariant: the rest of the run from here is the whole run.
-- Assumes nothing.
use Rattle.crc32.proofs.Slices.{from, Underway}
use Rattle.crc32.proofs.nibbles.update.Given as goal

abbrev pub invariant-loop-b : goal.invariant-loop-b
invariant-loop-b l = Underway l.c-2 0 (from l.at l.bytes) l.c l.b-index
