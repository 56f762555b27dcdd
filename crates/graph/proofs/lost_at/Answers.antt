-- `lost_at` answers whether a neighbour lacks the level. The invariant: no neighbour passed lacks it, so the rest tells.
use Prim.Native.Nat.{ℕ, ◌+◌, ◌*◌, ◌<◌}
use native.Mathlib.Omega.{arith}
use mathlib.Core.Path.{◌≡◌, sym, ap, ◌∙◌}
use mathlib.Core.List.{List}
use borrow.Author.Tests.{le-leb, lt-leb}
use lib.Dec.{leb}
use lib.ListN.{get_or}
use Rattle.fields.specs.Fields.{num}
use Rattle.graph.specs.Cache.{numbers_at}
use Rattle.graph.proofs.Decode.{length_numbers, get_d_numbers}
use Rattle.graph.proofs.Walk.{height_is, walking_here, walking_on}
use Rattle.graph.proofs.lost_at.Goals as goal

-- the i-th of the numbers, as the code reads it
number_is : (n : ℕ) (s : List ℕ) (at i x : ℕ) → i < n → x ≡ num s (at + 4 * i) 4 → x ≡ get_or (numbers_at n s at) i 0
number_is n s at i x h e = e ∙ sym (get_d_numbers n s at i h)

pub bounds-starts-x : goal.bounds-starts-x
bounds-starts-x c =
    let a = c.args in
    let i = c.loop-i.i in
    omega (arith, number_is a.degree a.s.now a.first i _ c.loop-i-test.true c.get_u32-x.ensures, c.requires.by_index i)

pub returns-then-wide-level : goal.returns-then-wide-level
returns-then-wide-level c =
    let a = c.args in
    let i = c.loop-i.i in
    let high = height_is a.s.now a.starts.now _ _ _ (number_is a.degree a.s.now a.first i _ c.loop-i-test.true c.get_u32-x.ensures) c.wide.ensures.0 in
    walking_here 0 c.loop-i.invariant (omega (arith, length_numbers a.degree a.s.now a.first)) (ap (λ (n : ℕ). leb n a.level) (sym high) ∙ le-leb _ _ c.if-wide-level.true)

pub loop-i-preserved : goal.loop-i-preserved
loop-i-preserved c =
    let a = c.args in
    let i = c.loop-i.i in
    let high = height_is a.s.now a.starts.now _ _ _ (number_is a.degree a.s.now a.first i _ c.loop-i-test.true c.get_u32-x.ensures) c.wide.ensures.0 in
    walking_on 0 c.loop-i.invariant (omega (arith, length_numbers a.degree a.s.now a.first)) (ap (λ (n : ℕ). leb n a.level) (sym high) ∙ lt-leb _ _ c.if-wide-level.false)
