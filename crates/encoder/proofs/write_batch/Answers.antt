-- Opcode and sequence, the count, and the operations behind them.
use mathlib.Core.Path.{◌≡◌, ap, ◌∙◌}
use Prim.Native.Nat.{ℕ, ◌+◌, ◌-◌, ◌/◌}
use native.Mathlib.Omega.{arith}
use mathlib.Core.List.{List, ◌∷◌, ◌++◌}
use native.Mathlib.Nat.{le_refl}
use borrow.Rule.Slice.PartMut.{put_mid, mid_len}
use lib.ListN.{length, length-append}
use Rattle.fields.specs.Fields.{bytes}
use Rattle.fields.specs.Placed.{placed}
use Rattle.fields.proofs.Numbers.{length_bytes}
use Rattle.fields.proofs.PlacedLaws.{placed_lent, then_placed}
use Rattle.layout.specs.declared.Shape.TheVariants.{Batch}
use Rattle.meaning.specs.Encoder.{tagged_bytes}
use Rattle.encoder.specs.Requests.{tagged_of}
use Rattle.encoder.proofs.RequestLaws.{length_tagged, length_payload, batch_payload}
use Rattle.encoder.proofs.write_batch.Goals as goal

pub write_opcode-requires : goal.write_opcode-requires
write_opcode-requires c =
    let a = c.args in
    let size = length_payload Batch a.sequence (tagged_of a.config a.operations.now a.coordinates.now a.captions.now) tt in
    omega (arith, size)

pub put_u32-requires : goal.put_u32-requires
put_u32-requires c =
    let a = c.args in
    let size = length_payload Batch a.sequence (tagged_of a.config a.operations.now a.coordinates.now a.captions.now) tt in
    omega (arith, size, c.write_opcode.auto.out)

pub slice_bounds-write_operations-count : goal.slice_bounds-write_operations-count
slice_bounds-write_operations-count c =
    let a = c.args in
    let size = length_payload Batch a.sequence (tagged_of a.config a.operations.now a.coordinates.now a.captions.now) tt in
    omega (arith, size, c.write_opcode.auto.out, c.put_u32.auto.out)

pub slice_bounds-write_operations-start : goal.slice_bounds-write_operations-start
slice_bounds-write_operations-start c =
    let a = c.args in
    let size = length_payload Batch a.sequence (tagged_of a.config a.operations.now a.coordinates.now a.captions.now) tt in
    omega (arith, size, c.write_opcode.auto.out, c.put_u32.auto.out)

pub write_operations-requires-clause-captions_in_bounds : goal.write_operations-requires-clause-captions_in_bounds
write_operations-requires-clause-captions_in_bounds c =
    let a = c.args in
    let size = length_payload Batch a.sequence (tagged_of a.config a.operations.now a.coordinates.now a.captions.now) tt in
    let two = c.put_u32.new.out in
    omega (arith, size, mid_len 13 (length two) two (le_refl (length two)), c.write_opcode.auto.out, c.put_u32.auto.out)

pub returns : goal.returns
returns c =
    let a = c.args in
    let o = a.out.now in
    let words = a.operations.now in
    let es = tagged_of a.config words a.coordinates.now a.captions.now in
    let size = length_payload Batch a.sequence es tt in
    let P : List ℕ = 3 ∷ bytes 8 a.sequence in
    let N = bytes 4 (length words / 2) in
    let T = tagged_bytes es in
    let one = c.write_opcode.new.out in
    let two = c.put_u32.new.out in
    let ys = c.write_operations.new.out in
    let P9 : 9 ≡ 0 + length P = omega (arith, length_bytes 8 a.sequence) in
    let PN : 13 ≡ 0 + length (P ++ N) = omega (arith, length-append P N, length_bytes 4 (length words / 2)) in
    let e2 = then_placed 0 P N o one two 9 (omega arith) c.write_opcode.ensures P9 c.put_u32.ensures in
    then_placed 0 (P ++ N) T o two (put_mid 13 (length two - 13) two ys) 13 (omega arith) e2 PN
    (placed_lent 13 T two ys (omega (arith, size, c.write_opcode.auto.out, c.put_u32.auto.out)) c.write_operations.ensures)
    ∙ ap (λ (l : List ℕ). placed 0 l o)
    (batch_payload a.sequence (length words / 2) es (length_tagged a.config words a.coordinates.now a.captions.now es c.requires.accepted.tagged_is))
