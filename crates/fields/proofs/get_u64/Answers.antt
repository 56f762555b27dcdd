-- `fields::get_u64` meets its contract: a number is its low half and its high half.
-- Assumes nothing.
use native.Mathlib.Omega.{arith}
use Rattle.fields.proofs.Readers.{num_halves}
use Rattle.fields.proofs.get_u64.Goals as goal

pub returns : goal.returns
returns c = let a = c.args in omega (arith, num_halves a.s.now a.at 4 4 (omega arith))
