-- `crc32::rows::ones` meets its contract. The loop's invariant: the rest of the run from here is the whole run.
-- Assumes nothing.
use Rattle.crc32.proofs.Slices.{from, Underway}
use Rattle.crc32.proofs.rows.ones.Given as goal

abbrev pub invariant-loop-b : goal.invariant-loop-b
invariant-loop-b l = Underway l.c-2 0 (from l.at l.s) l.c l.b-index
