-- `find` scans the table from its front. The invariant: the scan from node i on gives what the whole scan gives.
use Prim.Native.Nat.{◌-◌}
use mathlib.Core.Path.{◌≡◌}
use Rattle.meaning.specs.Tables.{rows_from, rows_in}
use Rattle.meaning.specs.Views.{find_from}
use Rattle.views.proofs.find.Given as goal

abbrev pub invariant-loop-i : goal.invariant-loop-i
invariant-loop-i l = find_from l.id.0 l.i (rows_from (l.count - l.i) l.i l.rows) ≡ find_from l.id.0 0 (rows_in l.count l.rows)
