-- `tree::lower_bound` meets its contract.
-- Assumes nothing.
use Prim.Native.Nat.{ℕ, suc, ◌+◌, ◌-◌, ◌/◌, ◌<◌, ◌≤◌}
use native.Mathlib.Omega.{arith}
use mathlib.Core.Path.{sym, subst}
use Rattle.links.specs.Links.{plain_rows}
use Rattle.tree.specs.Grown.{id_of}
use Rattle.links.proofs.PlainLaws.{id_of_link, next_id}
use Rattle.tree.proofs.FrontLaws.{bound_low, bound_high}
use Rattle.tree.proofs.lower_bound.Goals as goal

pub returns-then-words-sorted : goal.returns-then-words-sorted
returns-then-words-sorted c =
    let a = c.args in
    let w = a.words.now in
    let l : id_of (plain_rows w) a.sorted < a.id = subst (λ (x : ℕ). x < a.id) (sym (id_of_link w a.sorted)) c.if-words-sorted.true in
    record {
      up_to = omega arith;
      below = bound_low (plain_rows w) a.sorted a.id c.requires.rising a.sorted (omega arith) l;
      from = λ u p q. absurd (omega arith);
    }

pub loop-low-preserved-then-words-middle : goal.loop-low-preserved-then-words-middle
loop-low-preserved-then-words-middle c =
    let a = c.args in
    let w = a.words.now in
    let l = c.loop-low in
    let m : ℕ = l.low + (l.high - l.low) / 2 in
    let h : m < l.high = omega arith in
    let e = next_id w m in
    let k : id_of (plain_rows w) (suc m) < a.id = subst (λ (x : ℕ). x < a.id) (sym e) c.if-words-middle.true in
    (omega arith, l.invariant.1, (λ u p q. bound_low (plain_rows w) a.sorted a.id c.requires.rising (suc m) (omega arith) k u p (omega arith)), l.invariant.3)

pub loop-low-preserved : goal.loop-low-preserved
loop-low-preserved c =
    let a = c.args in
    let w = a.words.now in
    let l = c.loop-low in
    let m : ℕ = l.low + (l.high - l.low) / 2 in
    let h : m < l.high = omega arith in
    let e = next_id w m in
    let k : a.id ≤ id_of (plain_rows w) (suc m) = subst (λ (x : ℕ). a.id ≤ x) (sym e) c.if-words-middle.false in
    (omega arith, omega arith, l.invariant.2, λ u p q. bound_high (plain_rows w) a.sorted a.id c.requires.rising (suc m) (omega arith) k u (omega arith) q)
