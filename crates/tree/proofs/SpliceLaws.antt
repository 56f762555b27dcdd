-- A row put into a cell, with the links of the node that was there.
use Prim.Native.Nat.{ℕ, suc, ◌+◌, ◌*◌, ◌-◌, ◌<◌, ◌≤◌}
use native.Mathlib.Omega.{arith}
use mathlib.Core.List.{List}
use mathlib.Core.Path.{◌≡◌, refl, sym, ap, ◌∙◌, subst}
use lib.ListN.{get_or, set}
use lib.Seq.{get_or-set_other}
use borrow.Author.Tests.{eq-eqb, ne_eqb}
use Rattle.digital_tree.specs.Look.{mixed_id, Inside}
use Rattle.digital_tree.proofs.ShapeLaws.{cells_inside}
use Rattle.digital_tree.proofs.PutLaws.{Same, yes, no, same}
use Rattle.tree.specs.declared.Tree.{Tree}
use Rattle.links.specs.Links.{link_in, plain_rows, put_at, Attached}
use Rattle.tree.specs.Grown.{id_of, link_of, Grown, child_of, Spliced}
use Rattle.tree.proofs.TreeLinks.{links_same, link_in_lem}
use Rattle.tree.proofs.FrontLaws.{plain_put}

put_word : (words : List ℕ) (n id word o : ℕ) → 0 < o → o ≤ n → get_or (put_at words n id word) (2 * o - 1) 0 ≡ get_or words (2 * o - 1) 0
unfolding put_at
put_word words n id word o p h =
    get_or-set_other (set words (2 * n) id) (2 * n + 1) (2 * o - 1) word 0 (λ e. omega arith) ∙ get_or-set_other words (2 * n) (2 * o - 1) id 0 (λ e. omega arith)

-- the links of the node that was in the cell, and then the cell's
pub spliced : (t : Tree) (words entries : List ℕ) (y id word : ℕ) (w₀ : List ℕ) → w₀ ≡ put_at words t.count id word
    → (link left right : ℕ) → link ≡ suc t.count
    → left ≡ child_of t words entries (link_in t.root words entries y) 0
    → right ≡ child_of t words entries (link_in t.root words entries y) 1
    → (root' : ℕ) (words' entries' : List ℕ) → Attached t.root w₀ entries root' words' entries' y link left right
    → Spliced t words entries root' words' entries' y id word
spliced t words entries y id word w₀ written link left right is l-is r-is root' words' entries' a =
    record {
      there = a.there ∙ is;
      children = λ s h. children s h (same s 0);
      others = λ z n k h.
          a.others z n (λ e. omega arith) k
          ∙ ap (λ (l : List ℕ). link_in t.root l entries z) written
          ∙ links_same t.root t.count words entries (put_at words t.count id word) entries (put_word words t.count id word) (λ o p q. refl) z k h;
      rows = a.rows ∙ ap plain_rows written ∙ plain_put words t.count id word;
    }
  where
    children : (s : ℕ) → s < 2 → Same s 0 → link_in root' words' entries' (2 * suc t.count + s) ≡ child_of t words entries (link_in t.root words entries y) s
    children s h (yes e) =
        let q : 2 * suc t.count + s ≡ 2 * link = omega arith in
        ap (link_in root' words' entries') q ∙ a.to_left ∙ l-is ∙ ap (child_of t words entries (link_in t.root words entries y)) (sym e)
    children s h (no e) =
        let q : 2 * suc t.count + s ≡ 2 * link + 1 = omega arith in
        let one : 1 ≡ s = omega arith in
        ap (link_in root' words' entries') q ∙ a.to_right ∙ r-is ∙ ap (child_of t words entries (link_in t.root words entries y)) one

-- the links that are read are of the tree
module _ (t : Tree) (words entries : List ℕ) (g : Grown t words entries) (y : ℕ) (i : Inside t.sorted t.count y) where
  pub old_small : link_in t.root words entries y ≤ t.count
  old_small = subst (λ (x : ℕ). x ≤ t.count) (link_in_lem t words entries y i) (g.shape.within y)

  pub child_small : (b : ℕ) → b < 2 → child_of t words entries (link_in t.root words entries y) b ≤ t.count
  child_small b h = go (same (link_in t.root words entries y) 0)
    where
      go : Same (link_in t.root words entries y) 0 → child_of t words entries (link_in t.root words entries y) b ≤ t.count
      go (yes e) = rw (eq-eqb (link_in t.root words entries y) 0 e) (omega arith)
      go (no e) =
          let l : link_of t words entries y ≡ link_in t.root words entries y = link_in_lem t words entries y i in
          let p : 0 < link_of t words entries y = omega arith in
          let k = cells_inside mixed_id (id_of (plain_rows words)) (link_of t words entries) t.sorted t.count g.level g.shape y b p h in
          let z : ℕ = 2 * link_of t words entries y + b in
          let w : link_of t words entries (2 * link_of t words entries y + b) ≤ t.count = g.shape.within (2 * link_of t words entries y + b) in
          rw (ne_eqb (link_in t.root words entries y) 0 e)
          (subst (λ (x : ℕ). x ≤ t.count) (link_in_lem t words entries _ k ∙ ap (λ (u : ℕ). link_in t.root words entries (2 * u + b)) l) w)
