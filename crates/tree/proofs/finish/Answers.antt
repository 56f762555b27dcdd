-- `tree::finish` meets its contract.
-- Assumes nothing.
use Prim.Native.Nat.{ℕ, ◌*◌}
use mathlib.Core.Path.{ap, ◌∙◌}
use mathlib.Core.List.{List, ◌++◌}
use lib.ListN.{drop}
use Rattle.links.proofs.PlainLaws.{plain_take}
use Rattle.tree.proofs.finish.Goals as goal

pub returns : goal.returns
returns c =
    let a = c.args in
    let n : ℕ = a.tree.count in
    ap (λ (l : List ℕ). l ++ drop (2 * n) a.words.now) (c.clear.ensures ∙ plain_take a.words.now n)
