-- `elimination::eliminate` meets its contract: the window is started, moved over most of the message, and eliminated itself.
-- Assumes nothing.
use mathlib.Core.Path.{◌≡◌, ◌∙◌}
use mathlib.Core.List.{◌∷◌}
use Prim.Native.Nat.{◌-◌, ◌≤◌}
use native.Mathlib.Omega.{arith}
use lib.ListN.{length, drop, length-drop}
use Rattle.elimination.specs.Elimination.{run}
use Rattle.elimination.proofs.Fold.{stands_start, stands_last}
use Rattle.elimination.proofs.eliminate.Goals as goal

pub returns : goal.returns
returns c =
    let cleared = c.clear in
    let most = c.most in
    let started = c.start in
    let a = c.args in
    let s = a.s.now in
    let rest = drop (length s - 2400) s in
    let w = cleared.new.v in
    let out = c.last.new.out in
    let room : 4800 ≤ length w = omega (arith, cleared.ensures.v_len) in
    let left : length rest ≡ 2400 = length-drop (length s - 2400) s ∙ omega arith in
    record {
      out_len_2 = c.last.ensures.out_len_2;
      alike = λ step r.
          stands_last step r w room cleared.ensures.clear rest out c.last.ensures.out_len_2 left c.last.ensures.last most.new.v
          (run step 0 (a.a ∷ a.b ∷ a.c ∷ a.d ∷ drop 4 s)) cleared.ensures.v_unchanged
          (most.ensures.keeps step r (run step 0 (a.a ∷ a.b ∷ a.c ∷ a.d ∷ drop 4 s))
          (stands_start step r a.a a.b a.c a.d started.new.v (drop 4 s) (started.ensures.started step r)));
    }
