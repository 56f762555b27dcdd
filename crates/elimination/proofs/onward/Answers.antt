-- `elimination::onward` meets its contract: n bytes pass, and the window moves on by as many.
-- Assumes nothing.
use Prim.Native.Nat.{◌+◌}
use lib.ListN.{drop}
use Rattle.elimination.proofs.Fold.{stands_kept}
use Rattle.elimination.proofs.onward.Goals as goal

pub returns : goal.returns
returns c =
    let b = c.block in
    let a = c.args in
    let s = a.s.now in
    record {
      v_len_2 = c.keep.ensures.v_len_2;
      keeps = λ step r x st. stands_kept step r a.n x a.v.now b.new.v c.keep.new.v (drop a.at s) (drop (a.at + a.n) s) (b.ensures.passed step r) c.keep.ensures.v_after st;
    }
