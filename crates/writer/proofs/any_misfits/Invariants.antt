-- `any_misfits` scans the table. The invariant: the rows from node i on answer as all do.
use Prim.Native.Nat.{◌-◌}
use mathlib.Core.Path.{◌≡◌}
use Rattle.meaning.specs.Tables.{rows_from, rows_in}
use Rattle.meaning.specs.Writer.{any_misfit}
use Rattle.writer.proofs.any_misfits.Given as goal

abbrev pub invariant-loop-i : goal.invariant-loop-i
invariant-loop-i l = any_misfit l.config l.snapshot l.log (rows_from (l.count - l.i) l.i l.rows) ≡ any_misfit l.config l.snapshot l.log (rows_in l.count l.rows)
