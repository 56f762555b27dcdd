-- The invariant: the rest of the run from here is the whole run.
use mathlib.Core.Path.{◌≡◌}
use Rattle.std.specs.Slice.Iter.{chunks_rest}
use Rattle.crc32.specs.Crc.{all_ones, bytes_in}
use Rattle.measure_crc.proofs.parts.Given as goal

abbrev pub invariant-loop-part : goal.invariant-loop-part
invariant-loop-part l = bytes_in l.c (chunks_rest l.part-iterator) ≡ bytes_in all_ones l.bytes
