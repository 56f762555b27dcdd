-- `write_records` puts a row after the other. The invariant: the bytes of the rows from node i on, put at the cursor, make the whole; the sum is that of
-- bytes before the cursor, which no later row touches.
use Prim.Native.Nat.{◌+◌, ◌-◌, ◌≤◌}
use mathlib.Core.Path.{◌≡◌}
use mathlib.Core.Bool.{false}
use lib.ListN.{length}
use Rattle.pieces.specs.Sums.{Sums}
use Rattle.fields.specs.Placed.{placed}
use Rattle.layout.specs.Layout.{header_length}
use Rattle.layout.specs.declared.Version.TheVariants.{Two}
use Rattle.meaning.specs.Tables.{rows_from, rows_in}
use Rattle.meaning.specs.Writer.{any_misfit}
use Rattle.writer.specs.RowsWritten.{rows_bytes}
use Rattle.writer.proofs.write_records.Given as goal

abbrev pub invariant-loop-i : goal.invariant-loop-i
invariant-loop-i l = (length l.out ≡ length l.initial.out) × (any_misfit l.config l.snapshot l.log (rows_from (l.count - l.i) l.i l.rows) ≡ false)
    × (l.at + length (rows_bytes l.extent l.config.dimensions l.snapshot l.log (rows_from (l.count - l.i) l.i l.rows))
    ≡ header_length Two + length (rows_bytes l.extent l.config.dimensions l.snapshot l.log (rows_in l.count l.rows)))
    × (placed l.at (rows_bytes l.extent l.config.dimensions l.snapshot l.log (rows_from (l.count - l.i) l.i l.rows)) l.out
    ≡ placed (header_length Two) (rows_bytes l.extent l.config.dimensions l.snapshot l.log (rows_in l.count l.rows)) l.initial.out)
    × Sums l.out l.sum × (l.sum.upto ≤ l.at)
