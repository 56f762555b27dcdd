-- `after_threes` passes whole characters.
use native.Mathlib.Omega.{arith}
use Rattle.utf8.proofs.Passing.{passes_next}
use Rattle.utf8.proofs.after_threes.Goals as goal

pub overflow_add-i : goal.overflow_add-i
overflow_add-i c = let p = passes_next c.loop-i.invariant (omega arith) c.three-n.ensures in omega arith

pub loop-i-preserved : goal.loop-i-preserved
loop-i-preserved c = passes_next c.loop-i.invariant (omega arith) c.three-n.ensures
