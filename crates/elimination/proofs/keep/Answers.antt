-- `elimination::keep` meets its contract: what is copied to the front is the window n places on.
-- Assumes nothing.
use mathlib.Core.Path.{◌≡◌, ap, ◌∙◌}
use Prim.Native.Nat.{◌+◌, ◌-◌}
use native.Mathlib.Omega.{arith}
use lib.ListN.{take, drop, length-drop}
use lib.Seq.{paste}
use Rattle.std.proofs.lemmas.List.Edits.{take-paste}
use Rattle.elimination.proofs.keep.Goals as goal

pub returns-clause-v_after : goal.returns-clause-v_after
returns-clause-v_after c =
    let v = c.args.v.now in
    let n = c.args.n in
    let whole : n + 2400 - n ≡ 2400 = omega arith in
    ap (take 2400) (c.copy_within.ensures.after ∙ ap (paste v 0 (drop n v)) whole)
    ∙ take-paste v 0 (drop n v) 2400 (omega arith) (omega (arith, length-drop n v, c.requires.v_len))
