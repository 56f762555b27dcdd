-- `elimination::block` meets its contract. The loop's invariant: j bytes went from the rest of the message into v.
-- Assumes nothing.
use mathlib.Core.Path.{◌≡◌}
use Prim.Native.Nat.{◌+◌, ◌<◌}
use native.Mathlib.Omega.{arith}
use lib.ListN.{length}
use Rattle.elimination.proofs.Fold.{passed_next}
use borrow.Author.Rules.{rules}
use Rattle.elimination.proofs.block.Goals as goal

pub loop-j-preserved : goal.loop-j-preserved
loop-j-preserved c =
    let l = c.loop-j in
    let a = c.args in
    let s = a.s.now in
    let room : 2400 + l.j < length l.v = omega arith in
    let inside : a.at + l.j < length s = omega arith in
    let e : a.at + (l.j + 1) ≡ a.at + l.j + 1 = omega arith in
    (search rules, λ step r x. passed_next step r l.j (a.at + l.j) (a.at + (l.j + 1)) x _ l.v s room inside e (l.invariant.1 step r x))
