-- The links of a tree are those of its cells, and 0 elsewhere.
use Prim.Native.Nat.{ℕ, ◌*◌, ◌-◌, ◌/◌, ◌<◌, ◌≤◌}
use native.Mathlib.Omega.{arith}
use mathlib.Core.Bool.{Bool, true, false, cond, true≢false, false≢true}
use mathlib.Core.List.{List}
use mathlib.Core.Path.{◌≡◌, refl, sym, ap, ap₂, ◌∙◌, subst}
use lib.Dec.{eqb, ltb, leb}
use lib.ListN.{get_or}
use borrow.Author.Tests.{ne_eqb, lt-ltb, le-leb, ltb-true, leb-true}
use Rattle.digital_tree.specs.Look.{Inside}
use Rattle.digital_tree.proofs.PutLaws.{Same, yes, no, same}
use Rattle.tree.specs.declared.Tree.{Tree}
use Rattle.links.specs.Links.{link_in, left_of, right_of}
use Rattle.tree.specs.Grown.{in_tree, link_of, Grown}
use Rattle.links.proofs.LinkLaws.{Cell, cell, top, unused, left, right, link_top, link_left, link_right}

pub inside_zero : (low high : ℕ) → Inside low high 0
inside_zero low high = record { below = omega arith; above = λ h. absurd (omega arith) }

in_tree_lem : (t : Tree) (z : ℕ) → Inside t.sorted t.count z → in_tree t z ≡ true
unfolding in_tree
in_tree_lem t z i = go (same z 0)
  where
    go : Same z 0 → cond (eqb z 0) true (cond (ltb t.sorted (z / 2)) (leb (z / 2) t.count) false) ≡ true
    go (yes e) = ap (λ (x : ℕ). cond (eqb x 0) true (cond (ltb t.sorted (x / 2)) (leb (x / 2) t.count) false)) e
    go (no n) = simp (ne_eqb z 0 n, lt-ltb t.sorted (z / 2) (i.above (omega arith)), le-leb (z / 2) t.count i.below)

both_true : (b x : Bool) → cond b x false ≡ true → (b ≡ true) × (x ≡ true)
both_true true x e = (refl, e)
both_true false x e = absurd (false≢true e)

tree_in : (t : Tree) (z : ℕ) → in_tree t z ≡ true → Inside t.sorted t.count z
unfolding in_tree
tree_in t z e = go (same z 0)
  where
    go : Same z 0 → Inside t.sorted t.count z
    go (yes q) = subst (λ (x : ℕ). Inside t.sorted t.count x) (sym q) (inside_zero t.sorted t.count)
    go (no n) =
        let b = both_true (ltb t.sorted (z / 2)) (leb (z / 2) t.count) (simp (ne_eqb z 0 n) at e) in
        record { below = leb-true _ _ b.1; above = λ k. ltb-true _ _ b.0 }

module _ (t : Tree) (words entries : List ℕ) where
  pub link_in_lem : (z : ℕ) → Inside t.sorted t.count z → link_of t words entries z ≡ link_in t.root words entries z
  unfolding link_of
  link_in_lem z i = simp (in_tree_lem t z i)

  out : (z : ℕ) → in_tree t z ≡ false → link_of t words entries z ≡ 0
  unfolding link_of
  out z e = simp e

  -- a cell is inside, or there is no link in it
  pub data Place (z : ℕ) : Type 0 where
    inside : Inside t.sorted t.count z → Place z
    outside : (Inside t.sorted t.count z → ⊥) → link_of t words entries z ≡ 0 → Place z

  pub place : (z : ℕ) → Place z
  place z = go (in_tree t z) refl
    where
      go : (b : Bool) → in_tree t z ≡ b → Place z
      go true e = inside (tree_in t z e)
      go false e = outside (λ i. true≢false (sym (in_tree_lem t z i) ∙ e)) (out z e)

  pub link_out : (z : ℕ) → (Inside t.sorted t.count z → ⊥) → link_of t words entries z ≡ 0
  link_out z n = go (place z)
    where
      go : Place z → link_of t words entries z ≡ 0
      go (inside i) = absurd (n i)
      go (outside k e) = e

  pub link_inside : (z : ℕ) → 0 < link_of t words entries z → Inside t.sorted t.count z
  link_inside z p = go (place z)
    where
      go : Place z → Inside t.sorted t.count z
      go (inside i) = i
      go (outside k e) = absurd (omega arith)

-- a row after the first n, and other words and entries that no cell up to n reads, change no link
pub links_same : (root n : ℕ) (words entries words' entries' : List ℕ)
    → ((o : ℕ) → 0 < o → o ≤ n → get_or words' (2 * o - 1) 0 ≡ get_or words (2 * o - 1) 0)
    → ((o : ℕ) → 0 < o → o ≤ n → get_or entries' (o - 1) 0 ≡ get_or entries (o - 1) 0)
    → (z : ℕ) → (z ≡ 1 → ⊥) → z / 2 ≤ n → link_in root words' entries' z ≡ link_in root words entries z
links_same root n words entries words' entries' f g z k h = go (cell z)
  where
    go : Cell z → link_in root words' entries' z ≡ link_in root words entries z
    go (top e) = ap (link_in root words' entries') e ∙ link_top root words' entries' ∙ sym (ap (link_in root words entries) e ∙ link_top root words entries)
    go (unused e) = absurd (k e)
    go (left o p e) =
        let q : o ≤ n = omega arith in
        ap (link_in root words' entries') e
        ∙ link_left root words' entries' o p
        ∙ ap₂ left_of (f o p q) (g o p q)
        ∙ sym (ap (link_in root words entries) e ∙ link_left root words entries o p)
    go (right o p e) =
        let q : o ≤ n = omega arith in
        ap (link_in root words' entries') e
        ∙ link_right root words' entries' o p
        ∙ ap right_of (g o p q)
        ∙ sym (ap (link_in root words entries) e ∙ link_right root words entries o p)

-- no cell of a tree is cell 1
pub not_one : (low high z : ℕ) → Inside low high z → z ≡ 1 → ⊥
not_one low high z i e = let h = i.above (omega arith) in omega arith

-- what is read is the tree's link, and lies in the table
module _ (t : Tree) (words entries : List ℕ) (g : Grown t words entries) (z : ℕ) (i : Inside t.sorted t.count z) (u : ℕ) (is : u ≡ link_in t.root words entries z) where
  pub read_is : link_of t words entries z ≡ u
  read_is = link_in_lem t words entries z i ∙ sym is

  pub read_in_table : u ≤ t.count
  read_in_table = subst (λ (x : ℕ). x ≤ t.count) read_is (g.shape.within z)
