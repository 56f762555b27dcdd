-- `written_totals` sums over the table. The invariant: what is summed, with the rows from node i on, is the whole.
use Prim.Native.Nat.{◌+◌, ◌-◌, ◌*◌, ◌≤◌}
use mathlib.Core.Path.{◌≡◌}
use lib.ListN.{length}
use Rattle.meaning.specs.Replay.{size}
use Rattle.meaning.specs.Records.{row_kind}
use Rattle.meaning.specs.Tables.{rows_from, rows_in}
use Rattle.meaning.specs.Writer.{written}
use Rattle.writer.specs.RowsWritten.{most_of_a_row}
use Rattle.writer.proofs.written_totals.Given as goal

abbrev pub invariant-loop-i : goal.invariant-loop-i
invariant-loop-i l = (l.totals.records ≤ l.i) × (l.totals.bytes ≤ most_of_a_row * l.i)
    × (l.totals.records + length (written l.extent (rows_from (l.count - l.i) l.i l.rows)) ≡ length (written l.extent (rows_in l.count l.rows)))
    × (l.totals.bytes + size (row_kind l.d) (written l.extent (rows_from (l.count - l.i) l.i l.rows)) ≡ size (row_kind l.d) (written l.extent (rows_in l.count l.rows)))
