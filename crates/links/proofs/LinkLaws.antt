-- What cells hold, and after a link is stored in one of them.
use Prim.Native.Nat.{ℕ, ◌+◌, ◌*◌, ◌-◌, ◌/◌, ◌%◌, ◌<◌, ◌≤◌}
use native.Mathlib.Omega.{arith}
use mathlib.Core.Bool.{true, false}
use mathlib.Core.List.{List}
use mathlib.Core.Path.{◌≡◌, refl, sym, ap, ap₂, ◌∙◌}
use lib.Dec.{eqb}
use lib.ListN.{length, get_or, set}
use lib.Seq.{get_or-set_same, get_or-set_other}
use borrow.Author.Tests.{eq-eqb, ne_eqb}
use Rattle.digital_tree.proofs.PutLaws.{Same, yes, no, same}
use Rattle.links.specs.Links.{links, left_of, right_of, word_with_left, entry_with_left, entry_with_right, link_in}
use Rattle.links.specs.Links.{Linked, Attached}
use Rattle.links.proofs.WordLaws.{left_set, right_after_left, right_set, left_after_right, plain_with_left}
use Rattle.links.proofs.PlainLaws.{same_rows}

-- a cell: the root's, the one that no link has, a left one, a right one
pub data Cell (z : ℕ) : Type 0 where
  top : z ≡ 0 → Cell z
  unused : z ≡ 1 → Cell z
  left : (o : ℕ) → 0 < o → z ≡ 2 * o → Cell z
  right : (o : ℕ) → 0 < o → z ≡ 2 * o + 1 → Cell z

pub cell : (z : ℕ) → Cell z
cell z = go (same z 0) (same z 1) (same (z % 2) 0)
  where
    go : Same z 0 → Same z 1 → Same (z % 2) 0 → Cell z
    go (yes a) b c = top a
    go (no a) (yes b) c = unused b
    go (no a) (no b) (yes c) = left (z / 2) (omega arith) (omega arith)
    go (no a) (no b) (no c) = right (z / 2) (omega arith) (omega arith)

module _ (root : ℕ) (words entries : List ℕ) where
  pub link_top : link_in root words entries 0 ≡ root
  unfolding link_in
  link_top = refl

  pub link_left : (o : ℕ) → 0 < o → link_in root words entries (2 * o) ≡ left_of (get_or words (2 * o - 1) 0) (get_or entries (o - 1) 0)
  unfolding link_in
  link_left o p =
      let a : eqb (2 * o) 0 ≡ false = ne_eqb (2 * o) 0 (λ e. omega arith) in
      let b : eqb (2 * o % 2) 0 ≡ true = eq-eqb (2 * o % 2) 0 (omega arith) in
      let h : 2 * o / 2 ≡ o = omega arith in
      simp (a, b, h)

  pub link_right : (o : ℕ) → 0 < o → link_in root words entries (2 * o + 1) ≡ right_of (get_or entries (o - 1) 0)
  unfolding link_in
  link_right o p =
      let a : eqb (2 * o + 1) 0 ≡ false = ne_eqb (2 * o + 1) 0 (λ e. omega arith) in
      let b : eqb ((2 * o + 1) % 2) 0 ≡ false = ne_eqb ((2 * o + 1) % 2) 0 (λ e. omega arith) in
      let h : (2 * o + 1) / 2 ≡ o = omega arith in
      simp (a, b, h)

-- two tables that hold the same in every cell but one
module _ (root root' : ℕ) (words entries words' entries' : List ℕ) (c : ℕ)
    (tops : (0 ≡ c → ⊥) → root' ≡ root)
    (lefts : (o : ℕ) → 0 < o → (2 * o ≡ c → ⊥) → left_of (get_or words' (2 * o - 1) 0) (get_or entries' (o - 1) 0) ≡ left_of (get_or words (2 * o - 1) 0) (get_or entries (o - 1) 0))
    (rights : (o : ℕ) → 0 < o → (2 * o + 1 ≡ c → ⊥) → right_of (get_or entries' (o - 1) 0) ≡ right_of (get_or entries (o - 1) 0)) where
  pub other_cells : (z : ℕ) → (z ≡ c → ⊥) → (z ≡ 1 → ⊥) → link_in root' words' entries' z ≡ link_in root words entries z
  other_cells z n m = go (cell z)
    where
      go : Cell z → link_in root' words' entries' z ≡ link_in root words entries z
      go (top e) = ap (link_in root' words' entries') e ∙ link_top root' words' entries' ∙ tops (λ q. n (e ∙ q)) ∙ sym (ap (link_in root words entries) e ∙ link_top root words entries)
      go (unused e) = absurd (m e)
      go (left o p e) =
          ap (link_in root' words' entries') e
          ∙ link_left root' words' entries' o p
          ∙ lefts o p (λ q. n (e ∙ q))
          ∙ sym (ap (link_in root words entries) e ∙ link_left root words entries o p)
      go (right o p e) =
          ap (link_in root' words' entries') e
          ∙ link_right root' words' entries' o p
          ∙ rights o p (λ q. n (e ∙ q))
          ∙ sym (ap (link_in root words entries) e ∙ link_right root words entries o p)

pub linked_top : (root : ℕ) (words entries : List ℕ) (u : ℕ) → Linked root words entries u words entries 0 u
linked_top root words entries u =
    record {
      there = link_top u words entries;
      others = other_cells root u words entries words entries 0 (λ n. absurd (n refl)) (λ o p n. refl) (λ o p n. refl);
      rows = refl;
    }

module _ (root : ℕ) (words entries : List ℕ) (o u : ℕ) (p : 0 < o) (fits : o ≤ length entries) (h : u < links) where
  entry_same : (x : ℕ) → get_or (set entries (o - 1) x) (o - 1) 0 ≡ x
  entry_same x = get_or-set_same entries (o - 1) x 0 (omega arith)

  entry_other : (x q : ℕ) → 0 < q → (q ≡ o → ⊥) → get_or (set entries (o - 1) x) (q - 1) 0 ≡ get_or entries (q - 1) 0
  entry_other x q r n = get_or-set_other entries (o - 1) (q - 1) x 0 (λ e. n (omega arith))

  pub linked_right : Linked root words entries root words (set entries (o - 1) (entry_with_right (get_or entries (o - 1) 0) u)) (2 * o + 1) u
  linked_right =
      record {
        there = link_right root words entries' o p ∙ ap right_of (entry_same x) ∙ right_set 0 e u h;
        others = other_cells root root words entries words entries' (2 * o + 1) (λ n. refl) (λ q r n. lefts q r (same q o)) rights;
        rows = refl;
      }
    where
      e : ℕ
      e = get_or entries (o - 1) 0

      x : ℕ
      x = entry_with_right (get_or entries (o - 1) 0) u

      entries' : List ℕ
      entries' = set entries (o - 1) (entry_with_right (get_or entries (o - 1) 0) u)

      lefts : (q : ℕ) → 0 < q → Same q o → left_of (get_or words (2 * q - 1) 0) (get_or entries' (q - 1) 0) ≡ left_of (get_or words (2 * q - 1) 0) (get_or entries (q - 1) 0)
      lefts q r (yes k) =
          let j : q - 1 ≡ o - 1 = omega arith in
          ap (left_of (get_or words (2 * q - 1) 0)) (ap (λ (i : ℕ). get_or entries' i 0) j ∙ entry_same x)
          ∙ left_after_right (get_or words (2 * q - 1) 0) e u h
          ∙ ap (left_of (get_or words (2 * q - 1) 0)) (ap (λ (i : ℕ). get_or entries i 0) (sym j))
      lefts q r (no k) = ap (left_of (get_or words (2 * q - 1) 0)) (entry_other x q r k)

      rights : (q : ℕ) → 0 < q → (2 * q + 1 ≡ 2 * o + 1 → ⊥) → right_of (get_or entries' (q - 1) 0) ≡ right_of (get_or entries (q - 1) 0)
      rights q r n = ap right_of (entry_other x q r (λ k. n (omega arith)))

  pub linked_left : 2 * o ≤ length words
      → Linked root words entries root (set words (2 * o - 1) (word_with_left (get_or words (2 * o - 1) 0) u)) (set entries (o - 1) (entry_with_left (get_or entries (o - 1) 0) u)) (2 * o) u
  linked_left wide =
      record {
        there = link_left root words' entries' o p ∙ ap₂ left_of word_same (entry_same x) ∙ left_set w e u h;
        others = other_cells root root words entries words' entries' (2 * o) (λ n. refl) lefts (λ q r n. rights q r (same q o));
        rows = same_rows words o y p (plain_with_left w e u h);
      }
    where
      e : ℕ
      e = get_or entries (o - 1) 0

      w : ℕ
      w = get_or words (2 * o - 1) 0

      x : ℕ
      x = entry_with_left (get_or entries (o - 1) 0) u

      y : ℕ
      y = word_with_left (get_or words (2 * o - 1) 0) u

      words' : List ℕ
      words' = set words (2 * o - 1) (word_with_left (get_or words (2 * o - 1) 0) u)

      entries' : List ℕ
      entries' = set entries (o - 1) (entry_with_left (get_or entries (o - 1) 0) u)

      word_same : get_or words' (2 * o - 1) 0 ≡ y
      word_same = get_or-set_same words (2 * o - 1) y 0 (omega arith)

      lefts : (q : ℕ) → 0 < q → (2 * q ≡ 2 * o → ⊥) → left_of (get_or words' (2 * q - 1) 0) (get_or entries' (q - 1) 0) ≡ left_of (get_or words (2 * q - 1) 0) (get_or entries (q - 1) 0)
      lefts q r n = ap₂ left_of (get_or-set_other words (2 * o - 1) (2 * q - 1) y 0 (λ k. n (omega arith))) (entry_other x q r (λ k. n (omega arith)))

      rights : (q : ℕ) → 0 < q → Same q o → right_of (get_or entries' (q - 1) 0) ≡ right_of (get_or entries (q - 1) 0)
      rights q r (yes k) =
          let j : q - 1 ≡ o - 1 = omega arith in
          ap right_of (ap (λ (i : ℕ). get_or entries' i 0) j ∙ entry_same x) ∙ right_after_left w e u h ∙ ap right_of (ap (λ (i : ℕ). get_or entries i 0) (sym j))
      rights q r (no k) = ap right_of (entry_other x q r k)

-- three stores: the two links, then the cell's
pub attached : (root : ℕ) (words entries : List ℕ) (y link l r : ℕ) → y / 2 < link → (r₁ r₂ r₃ : ℕ) (w₁ e₁ w₂ e₂ w₃ e₃ : List ℕ)
    → Linked root words entries r₁ w₁ e₁ (2 * link) l → Linked r₁ w₁ e₁ r₂ w₂ e₂ (2 * link + 1) r → Linked r₂ w₂ e₂ r₃ w₃ e₃ y link
    → Attached root words entries r₃ w₃ e₃ y link l r
attached root words entries y link l r owner r₁ r₂ r₃ w₁ e₁ w₂ e₂ w₃ e₃ a b c =
    record {
      there = c.there;
      to_left = c.others (2 * link) (λ e. omega arith) (λ e. omega arith) ∙ b.others (2 * link) (λ e. omega arith) (λ e. omega arith) ∙ a.there;
      to_right = c.others (2 * link + 1) (λ e. omega arith) (λ e. omega arith) ∙ b.there;
      others = λ z n k h. c.others z n h ∙ b.others z (λ e. k (omega arith)) h ∙ a.others z (λ e. k (omega arith)) h;
      rows = c.rows ∙ b.rows ∙ a.rows;
    }
