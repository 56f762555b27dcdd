-- `elimination::clear` meets its contract: the part behind the window comes back as zeros.
-- Assumes nothing.
-- `same_len_mid`, `take_put` and `mid_len` are the borrow checker's laws of a part that was lent and came back.
use mathlib.Core.Path.{◌≡◌, ap, ◌∙◌}
use mathlib.Core.List.{List, ◌++◌}
use Prim.Native.Nat.{ℕ, ◌+◌, ◌-◌}
use native.Mathlib.Omega.{arith}
use borrow.Rule.Slice.PartMut.{mid_len, post_of, same_len_mid, take_put}
use lib.ListN.{length, get_or, take, replicate, length-replicate, get_or-append, get_or-replicate}
use lib.Seq.{length-take-le}
use Rattle.std.proofs.lemmas.List.{get_or-append_right}
use Rattle.elimination.proofs.clear.Goals as goal

pub returns : goal.returns
returns c =
    let v = c.args.v.now in
    let zeros = c.fill.new.self in
    let long = mid_len 2400 4800 v (omega (arith, c.requires)) in
    let is : zeros ≡ replicate 2400 0 = c.fill.ensures.after (λ y e. e) ∙ ap (λ (n : ℕ). replicate n 0) long in
    let as_long = ap length is ∙ length-replicate {A = ℕ} 2400 0 in
    record {
      v_len = same_len_mid 2400 2400 v zeros c.fill.ensures.len ∙ c.requires;
      v_unchanged = take_put 2400 2400 v zeros (omega (arith, c.requires));
      clear = λ k h.
          let e : 2400 + k - 2400 ≡ k = omega arith in
          get_or-append_right (take 2400 v) _ 2400 (2400 + k) 0 (length-take-le 2400 v (omega (arith, c.requires))) (omega arith)
          ∙ ap (λ (i : ℕ). get_or (zeros ++ post_of 2400 2400 v) i 0) e
          ∙ get_or-append zeros (post_of 2400 2400 v) 0 k (omega (arith, as_long))
          ∙ ap (λ (l : List ℕ). get_or l k 0) is
          ∙ get_or-replicate {A = ℕ} 2400 k 0 0 h;
    }
