-- The whole log is the run from here. The measure is how many bytes are left.
use Prim.Native.Nat.{◌-◌}
use lib.ListN.{length}
use Rattle.recovery.proofs.RunLaws.{Skipping}
use Rattle.recovery.proofs.skip_frames.Given as goal

abbrev pub invariant-loop-at : goal.invariant-loop-at
invariant-loop-at l = Skipping l.config l.log l.sequence l.previous l.at l.skipped

abbrev pub decreases-loop-at : goal.decreases-loop-at
decreases-loop-at l = length l.log - l.at
