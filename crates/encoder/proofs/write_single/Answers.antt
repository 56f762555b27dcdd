-- The tag and the sequence, and the fields behind them.
use mathlib.Core.Path.{sym, ap, ◌∙◌}
use Prim.Native.Nat.{ℕ, ◌-◌}
use native.Mathlib.Omega.{arith}
use mathlib.Core.List.{List, ◌∷◌}
use native.Mathlib.Nat.{le_refl}
use borrow.Rule.Slice.PartMut.{put_mid, mid_len}
use lib.ListN.{length}
use Rattle.fields.specs.Fields.{bytes}
use Rattle.fields.specs.Placed.{placed}
use Rattle.fields.proofs.Numbers.{length_bytes}
use Rattle.fields.proofs.PlacedLaws.{placed_lent, then_placed}
use Rattle.encoder.specs.Requests.{tag_of, fields_of}
use Rattle.encoder.proofs.RunLaws.{one_operation}
use Rattle.encoder.proofs.write_single.Goals as goal

pub write_opcode-requires : goal.write_opcode-requires
write_opcode-requires c =
    let one = one_operation _ _ _ _ _ c.requires.accepted c.requires.operations_len c.operation_at-o.ensures in
    omega (arith, one.long c.args.sequence)

pub slice_bounds-write_fields-count : goal.slice_bounds-write_fields-count
slice_bounds-write_fields-count c =
    let one = one_operation _ _ _ _ _ c.requires.accepted c.requires.operations_len c.operation_at-o.ensures in
    omega (arith, one.long c.args.sequence, c.write_opcode.auto.out)

pub slice_bounds-write_fields-start : goal.slice_bounds-write_fields-start
slice_bounds-write_fields-start c =
    let one = one_operation _ _ _ _ _ c.requires.accepted c.requires.operations_len c.operation_at-o.ensures in
    omega (arith, one.long c.args.sequence, c.write_opcode.auto.out)

pub write_fields-requires-clause-fits : goal.write_fields-requires-clause-fits
write_fields-requires-clause-fits c = (one_operation _ _ _ _ _ c.requires.accepted c.requires.operations_len c.operation_at-o.ensures).fits

pub write_fields-requires-clause-o_in_bounds : goal.write_fields-requires-clause-o_in_bounds
write_fields-requires-clause-o_in_bounds c =
    let one = one_operation _ _ _ _ _ c.requires.accepted c.requires.operations_len c.operation_at-o.ensures in
    let out = c.write_opcode.new.out in
    omega (arith, one.long c.args.sequence, mid_len 9 (length out) out (le_refl (length out)), c.write_opcode.auto.out)

pub returns : goal.returns
returns c =
    let a = c.args in
    let o = a.out.now in
    let op = c.operation_at-o.result in
    let one = one_operation _ _ _ _ _ c.requires.accepted c.requires.operations_len c.operation_at-o.ensures in
    let long = one.long a.sequence in
    let F = fields_of a.config.dimensions a.coordinates.now a.captions.now op in
    let P : List ℕ = tag_of op.put ∷ bytes 8 a.sequence in
    let first = c.write_opcode in
    let out = first.new.out in
    let ys = c.write_fields.new.out in
    let e = first.ensures ∙ ap (λ (t : ℕ). placed 0 (t ∷ bytes 8 a.sequence) o) c.tag.ensures in
    then_placed 0 P F o out (put_mid 9 (length out - 9) out ys) 9 (omega arith) e (omega (arith, length_bytes 8 a.sequence))
    (placed_lent 9 F out ys (omega (arith, long, first.auto.out)) c.write_fields.ensures.out_after)
    ∙ ap (λ (l : List ℕ). placed 0 l o) (sym (one.payload a.sequence))
