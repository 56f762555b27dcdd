-- A byte, and the sequence's bytes behind it.
use mathlib.Core.Path.{ap, ◌∙◌}
use Prim.Native.Nat.{ℕ}
use native.Mathlib.Omega.{arith}
use mathlib.Core.List.{List, ◌++◌}
use Rattle.fields.specs.Fields.{bytes}
use Rattle.fields.specs.Placed.{placed}
use Rattle.fields.proofs.Numbers.{length_bytes}
use Rattle.fields.proofs.PlacedLaws.{then_placed}
use Rattle.frames.proofs.Frames.{one_byte}
use borrow.Author.Rules.{rules}
use Rattle.frames.proofs.write_opcode.Goals as goal

pub returns : goal.returns
returns c =
    let a = c.args in
    let o = a.out.now in
    let one = c.put_u8 in
    let two = c.put_u64 in
    then_placed 0 (bytes 1 a.opcode) (bytes 8 a.sequence) o one.new.out two.new.out 1 (omega arith) one.ensures (omega (arith, length_bytes 1 a.opcode)) two.ensures
    ∙ ap (λ (l : List ℕ). placed 0 (l ++ bytes 8 a.sequence) o) (one_byte a.opcode (search rules))
