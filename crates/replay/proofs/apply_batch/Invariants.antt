-- What is left, applied to the rows that stand now, is all applied to those that stood.
use Prim.Native.Nat.{◌-◌}
use Rattle.replay.proofs.BatchLaws.{Turning}
use Rattle.replay.proofs.apply_batch.Given as goal

abbrev pub invariant-loop : goal.invariant-loop
invariant-loop l =
    Turning l.config l.log l.end l.n l.at l.lent l.initial.words l.initial.entries l.initial.kept l.words l.entries l.kept l.next (l.n - l.counter)
