-- The ID's bytes behind the opcode and the sequence.
use Prim.Native.Nat.{ℕ}
use native.Mathlib.Omega.{arith}
use mathlib.Core.List.{List, ◌∷◌}
use Rattle.fields.specs.Fields.{bytes}
use Rattle.fields.proofs.Numbers.{length_bytes}
use Rattle.fields.proofs.PlacedLaws.{then_placed}
use Rattle.frames.proofs.write_delete.Goals as goal

pub returns : goal.returns
returns c =
    let a = c.args in
    let P : List ℕ = 2 ∷ bytes 8 a.sequence in
    let one = c.write_opcode in
    let two = c.put_u64 in
    then_placed 0 P (bytes 8 a.id) a.out.now one.new.out two.new.out 9 (omega arith) one.ensures (omega (arith, length_bytes 8 a.sequence)) two.ensures
