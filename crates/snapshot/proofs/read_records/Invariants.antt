-- `read_records` answers `records_at`, with the CRC. The invariant: the rows read so far stand in the table, and with those still to be read they are
-- the whole run; the sum is that of the bytes that went in.
use Prim.Native.Nat.{◌≤◌}
use Rattle.pieces.specs.Sums.{Sums}
use Rattle.snapshot.proofs.Reading.{Reading}
use Rattle.snapshot.proofs.read_records.Given as goal

abbrev pub invariant-loop-i : goal.invariant-loop-i
invariant-loop-i l = Reading l.config l.s l.end l.first l.count l.initial.rows l.rows l.at l.size l.i × Sums l.s l.sum × (l.sum.upto ≤ l.end)
