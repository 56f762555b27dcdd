-- `elimination::most` meets its contract. The loop's invariant: the window stands for what is passed, and 2400 bytes are left.
-- Assumes nothing.
use mathlib.Core.Path.{◌≡◌, subst}
use Prim.Native.Nat.{ℕ, ◌+◌, ◌-◌}
use native.Mathlib.Omega.{arith}
use lib.ListN.{length, drop}
use Rattle.elimination.specs.Elimination.{Stands}
use Rattle.elimination.proofs.most.Goals as goal

pub returns : goal.returns
returns c =
    let l = c.loop-at in
    let s = c.args.s.now in
    let e : l.at + (length s - 2400 - l.at) ≡ length s - 2400 = omega arith in
    record {
      v_len_2 = c.onward-2.ensures.v_len_2;
      keeps = λ step r x st. subst (λ (n : ℕ). Stands step c.onward-2.new.v (drop n s) x) e (c.onward-2.ensures.keeps step r x (l.invariant.3 step r x st));
    }
