-- `fields::read_u8` meets its contract: the answer where there is room is the definition's. Where there is none, the check cites `Readers`.
-- Assumes nothing.
use mathlib.Core.Path.{sym, ap, ◌∙◌}
use Prim.Native.Nat.{ℕ, ◌+◌}
use native.Mathlib.Omega.{arith}
use Rattle.fields.proofs.Numbers.{num_one}
use Rattle.fields.proofs.Readers.{field8_room}
use Rattle.std.specs.Prelude.{Some}
use Rattle.fields.proofs.read_u8.Goals as goal

pub returns : goal.returns
returns c = let a = c.args in ap (λ (b : ℕ). Some (b, a.at + 1)) (sym (num_one a.s.now a.at)) ∙ sym (field8_room a.s.now a.at (omega arith))
