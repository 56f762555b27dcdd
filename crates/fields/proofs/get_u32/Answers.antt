-- `fields::get_u32` meets its contract: the number at a place is the sum of its bytes, at any width.
-- Assumes nothing.
use native.Mathlib.Omega.{arith}
use Rattle.fields.proofs.Readers.{num_sum}
use Rattle.fields.proofs.get_u32.Goals as goal

pub returns : goal.returns
returns c = let a = c.args in omega (arith, num_sum a.s.now a.at 0 4)
