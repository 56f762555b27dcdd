-- What is written stands, and what is left follows: `Left`.
use mathlib.Core.Path.{sym, ap, subst, ◌∙◌}
use Prim.Native.Nat.{ℕ, suc, ◌+◌, ◌-◌, ◌≤◌}
use native.Mathlib.Omega.{arith}
use native.Mathlib.Nat.{le_refl}
use mathlib.Core.List.{List, ◌∷◌}
use borrow.Rule.Slice.PartMut.{mid_of, put_mid, mid_len}
use lib.ListN.{length, drop}
use Rattle.fields.specs.Placed.{placed}
use Rattle.fields.proofs.PlacedLaws.{placed_lent}
use Rattle.encoder.specs.Requests.{taken, tag_of, fields_of, Fits}
use Rattle.encoder.proofs.RunLaws.{rest_is, Left, left_start, left_end, left_next}
use Rattle.encoder.proofs.write_operations.Goals as goal

pub loop-k-init : goal.loop-k-init
loop-k-init c = left_start _ _ _ _ _ c.requires.captions_in_bounds c.requires.accepted

pub write_operation-at-requires-clause-fits : goal.write_operation-at-requires-clause-fits
write_operation-at-requires-clause-fits c =
    let l = c.loop-k in
    let op = c.operation_at-o.result in
    let x = left_next _ _ _ _ _ c.requires.captions_in_bounds l.out l.at l.from l.k op l.invariant c.loop-k-test.true c.operation_at-o.ensures in
    subst (λ (cs : List ℕ). Fits c.args.config.dimensions cs c.args.captions.now op) (sym (rest_is l.from c.args.coordinates.now)) x.fits

pub write_operation-at-requires-clause-o_in_bounds : goal.write_operation-at-requires-clause-o_in_bounds
write_operation-at-requires-clause-o_in_bounds c =
    let l = c.loop-k in
    let op = c.operation_at-o.result in
    let coords = c.args.coordinates.now in
    let captions = c.args.captions.now in
    let d = c.args.config.dimensions in
    let x = left_next _ _ _ _ _ c.requires.captions_in_bounds l.out l.at l.from l.k op l.invariant c.loop-k-test.true c.operation_at-o.ensures in
    let mid = mid_of l.at (length l.out - l.at) l.out in
    let room : suc (length (fields_of d (drop l.from coords) captions op)) ≤ length mid = omega (arith, x.room, mid_len l.at (length l.out) l.out (le_refl (length l.out))) in
    subst (λ (cs : List ℕ). suc (length (fields_of d cs captions op)) ≤ length mid) (sym (rest_is l.from coords)) room

pub overflow_add-at : goal.overflow_add-at
overflow_add-at c =
    let l = c.loop-k in
    let op = c.operation_at-o.result in
    let x = left_next _ _ _ _ _ c.requires.captions_in_bounds l.out l.at l.from l.k op l.invariant c.loop-k-test.true c.operation_at-o.ensures in
    let e = c.write_operation-at.ensures.value
    ∙ ap (λ (cs : List ℕ). suc (length (fields_of c.args.config.dimensions cs c.args.captions.now op))) (rest_is l.from c.args.coordinates.now) in
    omega (arith, x.room, x.kept, e)

pub loop-k-preserved : goal.loop-k-preserved
loop-k-preserved c =
    let l = c.loop-k in
    let w = c.write_operation-at in
    let op = c.operation_at-o.result in
    let coords = c.args.coordinates.now in
    let captions = c.args.captions.now in
    let d = c.args.config.dimensions in
    let x = left_next _ _ _ _ _ c.requires.captions_in_bounds l.out l.at l.from l.k op l.invariant c.loop-k-test.true c.operation_at-o.ensures in
    let out' = put_mid l.at (length l.out - l.at) l.out w.new.out in
    let e = w.ensures.value ∙ ap (λ (cs : List ℕ). suc (length (fields_of d cs captions op))) (rest_is l.from coords) in
    let f = w.ensures.out_after ∙ ap (λ (cs : List ℕ). placed 0 (tag_of op.put ∷ fields_of d cs captions op) (mid_of l.at (length l.out - l.at) l.out)) (rest_is l.from coords) in
    let on = x.after out' (placed_lent l.at (tag_of op.put ∷ fields_of d (drop l.from coords) captions op) l.out w.new.out (omega (arith, x.room)) f) in
    subst (λ (n : ℕ). Left c.args.config c.args.operations.now coords captions c.args.out.now out' (l.at + w.result) (l.from + n) (l.k + 1)) (sym c.taken-from.ensures.0)
    (subst (λ (n : ℕ). Left c.args.config c.args.operations.now coords captions c.args.out.now out' (l.at + n) (l.from + taken op.put d) (l.k + 1)) (sym e) on)

pub returns : goal.returns
returns c = left_end _ _ _ _ _ c.requires.captions_in_bounds _ _ _ _ c.loop-k.invariant c.loop-k-test.false
