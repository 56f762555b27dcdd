-- Those that are left end where all end.
use Prim.Native.Nat.{◌-◌, ◌≤◌}
use mathlib.Core.Path.{◌≡◌}
use Rattle.meaning.specs.Log.{operations_at}
use Rattle.store_log.specs.Told.{nexts_told}
use Rattle.store_log.proofs.check_operations.Given as goal

abbrev pub invariant-loop : goal.invariant-loop
invariant-loop l =
    (l.next ≤ l.end)
    × (nexts_told (operations_at (l.n - l.counter) l.config l.log l.end l.next) ≡ nexts_told (operations_at l.n l.config l.log l.end l.at))
