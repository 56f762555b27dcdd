-- `valid_front` ends where the valid front does.
use native.Mathlib.Omega.{arith}
use Rattle.utf8.proofs.Passing.{passes_next}
use Rattle.utf8.proofs.valid_front.Goals as goal

pub overflow_add-at : goal.overflow_add-at
overflow_add-at c = let p = passes_next c.loop-at.invariant (omega arith) c.char_length-n.ensures in omega arith

pub after_run-at-requires : goal.after_run-at-requires
after_run-at-requires c = let p = passes_next c.loop-at.invariant (omega arith) c.char_length-n.ensures in omega arith
