-- `fields::copy` meets its contract.
use mathlib.Core.List.{List}
use mathlib.Core.Path.{refl, sym, ap, ◌∙◌}
use Prim.Native.Nat.{ℕ}
use native.Mathlib.Omega.{arith}
use lib.ListN.{get_or, set, length-set}
use Rattle.fields.proofs.PlacedLaws.{placed_front}
use Rattle.fields.proofs.Writers.{copy_more, copy_all}
use Rattle.fields.proofs.copy.Goals as goal

pub loop-i-init : goal.loop-i-init
loop-i-init c = (refl, refl)

pub loop-i-preserved : goal.loop-i-preserved
loop-i-preserved c =
    let l = c.loop-i in
    let a = c.args in
    let e = ap (λ (t : List ℕ). set t l.i (get_or a.src.now l.i 0)) l.invariant.1 in
    (simp length-set l.invariant.0, e ∙ copy_more l.i a.src.now a.out.now (omega arith) (omega arith))

pub returns : goal.returns
returns c =
    let l = c.loop-i in
    let a = c.args in
    l.invariant.1 ∙ copy_all l.i a.src.now a.out.now (omega arith) ∙ sym (placed_front a.src.now a.out.now)
