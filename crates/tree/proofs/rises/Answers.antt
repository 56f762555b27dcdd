-- `tree::rises` meets its contract.
-- Assumes nothing.
use Prim.Native.Nat.{ℕ, ◌*◌, ◌-◌, ◌<◌, ◌≤◌}
use native.Mathlib.Omega.{arith}
use mathlib.Core.Bool.{Bool, true, false}
use mathlib.Core.Path.{◌≡◌, refl, sym, subst}
use mathlib.Core.List.{List}
use borrow.Author.Tests.{ltb-true}
use lib.Dec.{ltb}
use lib.ListN.{get_or}
use Rattle.links.specs.Links.{plain_rows}
use Rattle.tree.specs.Grown.{Rises}
use Rattle.tree.specs.declared.Tree.{Tree}
use Rattle.links.proofs.PlainLaws.{id_of_link}
use Rattle.tree.proofs.rises.Goals as goal

by_test : (words : List ℕ) (t : Tree) (id : ℕ) (b : Bool) → ltb (get_or words (2 * t.count - 2) 0) id ≡ b → t.count ≤ t.sorted → 0 < t.count → Rises (plain_rows words) t id b
by_test words t id true e f p =
    record { whole = f; over = λ q. subst (λ (x : ℕ). x < id) (sym (id_of_link words t.count)) (ltb-true _ _ e) }
by_test words t id false e f p = p

pub returns : goal.returns
returns c =
    let a = c.args in
    let n = a.tree.count in
    let w = a.words.now in
    by_test w a.tree a.id (ltb (get_or w (2 * n - 2) 0) a.id) refl (omega arith) (omega arith)
