-- What the tree's search answers.
use Prim.Native.Nat.{ℕ, suc, ◌+◌, ◌*◌, ◌-◌, ◌^◌, ◌<◌, ◌≤◌}
use native.Mathlib.Omega.{arith}
use mathlib.Core.Bool.{Bool, true, false, cond}
use mathlib.Core.List.{List}
use mathlib.Core.Logic.{⊎_elim}
use mathlib.Core.Path.{◌≡◌, refl, sym, ap, ◌∙◌, subst}
use lib.Dec.{eqb, ltb, leb}
use lib.ListN.{get_or}
use borrow.Author.Tests.{ne_eqb, ltb-true, ltb-false, leb-true, leb-false}
use Rattle.digital_tree.proofs.PutLaws.{Same, yes, no, same}
use Rattle.tree.specs.declared.Tree.{Tree}
use Rattle.links.specs.Links.{deleted_unit, plain_rows, live_link}
use Rattle.tree.specs.Grown.{id_of, Live, Absent, Finds, found, none, link_of, cell_of, Grown}
use Rattle.links.proofs.WordLaws.{live_plain, plain_live}
use Rattle.links.proofs.PlainLaws.{word_of_link, next_word}
use Rattle.tree.proofs.InsertLaws.{Words, cell_ends}

pub live_word : (words : List ℕ) (u : ℕ) → 0 < u → Live (plain_rows words) u → get_or words (2 * u - 1) 0 < deleted_unit
live_word words u p l = plain_live (get_or words (2 * u - 1) 0) (subst (λ (x : ℕ). x < deleted_unit) (word_of_link words u p) l)

pub word_live : (words : List ℕ) (u : ℕ) → 0 < u → get_or words (2 * u - 1) 0 < deleted_unit → Live (plain_rows words) u
word_live words u p l = subst (λ (x : ℕ). x < deleted_unit) (sym (word_of_link words u p)) (live_plain (get_or words (2 * u - 1) 0) l)

-- the same by node
pub next_live : (words : List ℕ) (m : ℕ) → Live (plain_rows words) (suc m) → get_or words (2 * m + 1) 0 < deleted_unit
next_live words m l = plain_live (get_or words (2 * m + 1) 0) (subst (λ (x : ℕ). x < deleted_unit) (next_word words m) l)

pub live_next : (words : List ℕ) (m : ℕ) → get_or words (2 * m + 1) 0 < deleted_unit → Live (plain_rows words) (suc m)
live_next words m l = subst (λ (x : ℕ). x < deleted_unit) (sym (next_word words m)) (live_plain (get_or words (2 * m + 1) 0) l)

module _ (t : Tree) (words entries : List ℕ) (g : Grown t words entries) (bounded : Words words) (id : ℕ) (fits : id < 2 ^ 64)
    (absent : Absent (plain_rows words) t.sorted id) where
  -- a live row of this ID is the one in the cell
  there : (u : ℕ) → 0 < u → u ≤ t.count → Live (plain_rows words) u → id_of (plain_rows words) u ≡ id → link_of t words entries (cell_of t words entries id) ≡ u
  there u p h l e = go (ltb t.sorted u) refl
    where
      go : (b : Bool) → ltb t.sorted u ≡ b → link_of t words entries (cell_of t words entries id) ≡ u
      go true o = ap (λ (x : ℕ). link_of t words entries (cell_of t words entries x)) (sym e) ∙ g.complete u (ltb-true _ _ o) h l
      go false o = absurd (absent u p (ltb-false _ _ o) l e)

  pub finds_live : Finds (plain_rows words) t.count id (live_link words (link_of t words entries (cell_of t words entries id)))
  unfolding live_link
  finds_live = go (link_of t words entries (cell_of t words entries id)) refl
    where
      go : (v : ℕ) → link_of t words entries (cell_of t words entries id) ≡ v → Finds (plain_rows words) t.count id (cond (eqb v 0) 0 (cond (leb deleted_unit (get_or words (2 * v - 1) 0)) 0 v))
      go v e = at (same v 0) (leb deleted_unit (get_or words (2 * v - 1) 0)) refl
        where
          at : Same v 0 → (b : Bool) → leb deleted_unit (get_or words (2 * v - 1) 0) ≡ b → Finds (plain_rows words) t.count id (cond (eqb v 0) 0 (cond (leb deleted_unit (get_or words (2 * v - 1) 0)) 0 v))
          at (yes z) b o =
              subst (λ (x : ℕ). Finds (plain_rows words) t.count id (cond (eqb x 0) 0 (cond (leb deleted_unit (get_or words (2 * x - 1) 0)) 0 x))) (sym z)
              (none (λ u p h l q. (let k = there u p h l q in omega arith)))
          at (no z) true o =
              rw (ne_eqb v 0 z, o)
              (none (λ u p h l q.
              (let k : u ≡ v = sym (there u p h l q) ∙ e in
              let w = live_word words u p l in
              let a : deleted_unit ≤ get_or words (2 * v - 1) 0 = leb-true _ _ o in
              let i : get_or words (2 * u - 1) 0 ≡ get_or words (2 * v - 1) 0 = ap (λ (x : ℕ). get_or words (2 * x - 1) 0) k in
              omega arith)))
          at (no z) false o =
              let p : 0 < v = omega arith in
              let w = g.shape.within (cell_of t words entries id) in
              let i : id_of (plain_rows words) v ≡ id
              = ⊎_elim (λ k. absurd (z (sym e ∙ k))) (λ k. ap (id_of (plain_rows words)) (sym e) ∙ k) (cell_ends t words entries g bounded id fits).stops in
              rw (ne_eqb v 0 z, o) (found p (omega arith) (word_live words v p (leb-false _ _ o)) i)

-- a row that the front found is the one of the whole table
pub finds_front : (rows : List ℕ) (k n id u : ℕ) → k ≤ n → 0 < u → Finds rows k id u → Finds rows n id u
finds_front rows k n id u h p (found a b c d) = found a (omega arith) c d
finds_front rows k n id u h p (none a) = absurd (omega arith)

pub none_front : (rows : List ℕ) (k id u : ℕ) → u ≤ 0 → Finds rows k id u → Absent rows k id
none_front rows k id u h (found a b c d) = absurd (omega arith)
none_front rows k id u h (none a) = a

-- what is found is a row of the table
pub finds_within : (rows : List ℕ) (n id u : ℕ) → Finds rows n id u → u ≤ n
finds_within rows n id u (found a b c d) = b
finds_within rows n id u (none a) = omega arith
