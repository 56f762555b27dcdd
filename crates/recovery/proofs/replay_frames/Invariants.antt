-- The run from the beginning is the run from here. The measure is how many bytes are left.
use Prim.Native.Nat.{◌-◌}
use lib.ListN.{length}
use Rattle.meaning.specs.Recovery.{bounds_for}
use Rattle.recovery.proofs.RunLaws.{Going}
use Rattle.recovery.proofs.replay_frames.Given as goal

abbrev pub invariant-loop-reached : goal.invariant-loop-reached
invariant-loop-reached l =
    Going l.config l.log (bounds_for l.lent) l.snapshot l.initial.words l.initial.entries l.initial.reached l.initial.previous l.words l.entries l.reached l.previous

abbrev pub decreases-loop-reached : goal.decreases-loop-reached
decreases-loop-reached l = length l.log - l.reached.keep
