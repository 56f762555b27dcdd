-- `fields::read_u32` meets its contract: the answer where there is room is the definition's. Where there is none, the check cites `Readers`.
-- Assumes nothing.
use mathlib.Core.Path.{sym, ap, ◌∙◌}
use Prim.Native.Nat.{ℕ, ◌+◌}
use native.Mathlib.Omega.{arith}
use Rattle.fields.proofs.Readers.{field32_room}
use Rattle.std.specs.Prelude.{Some}
use Rattle.fields.proofs.read_u32.Goals as goal

pub returns : goal.returns
returns c = let a = c.args in ap (λ (v : ℕ). Some (v, a.at + 4)) c.get_u32.ensures ∙ sym (field32_room a.s.now a.at (omega arith))
