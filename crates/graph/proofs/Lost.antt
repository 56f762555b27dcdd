-- Laws of 49 and 50: tests over lists, the walk over a node's levels above the lowest, and heights that agree.
use Prim.Native.Nat.{ℕ, zero, suc, ◌+◌, ◌*◌, ◌-◌, ◌≤◌, ◌<◌}
use mathlib.Core.Path.{◌≡◌, refl, sym, ap, ap₂, subst, ◌∙◌}
use mathlib.Core.Bool.{Bool, true, false, cond, true≢false}
use mathlib.Core.List.{List, [], ◌∷◌}
use native.Mathlib.Omega.{arith}
use borrow.Author.Tests.{lt-leb}
use lib.Dec.{leb}
use lib.ListN.{length, get_or, drop}
use Rattle.fields.specs.Fields.{num}
use Rattle.fields.proofs.Numbers.{num_one}
use Rattle.graph.specs.Graph.{Links, any_of, lost_at, lost_from}
use Rattle.graph.specs.Layout.{links_length, node_length}
use Rattle.graph.specs.Cache.{numbers_at, levels_at, links_at}
use Rattle.graph.specs.Decoded.{height_at}
use Rattle.graph.proofs.Decode.{length_numbers}
use Rattle.graph.proofs.Walk.{levels_turn, levels_length, links_first, lost_on}

-- ---- tests over lists
pub any_none : {A : Type 0} (test : A → Bool) (d : A) (xs : List A) → ((i : ℕ) → i < length xs → test (get_or xs i d) ≡ false) → any_of test xs ≡ false
any_none test d [] h = refl
any_none test d (x ∷ xs) h =
    ap (λ (b : Bool). cond b true (any_of test xs)) (h 0 (omega arith)) ∙ any_none test d xs (λ i k. h (suc i) (omega arith))

pub any_same : {A : Type 0} (f g : A → Bool) (d : A) (xs : List A) → ((i : ℕ) → i < length xs → f (get_or xs i d) ≡ g (get_or xs i d)) → any_of f xs ≡ any_of g xs
any_same f g d [] h = refl
any_same f g d (x ∷ xs) h =
    ap₂ (λ (a b : Bool). cond a true b) (h 0 (omega arith)) (any_same f g d xs (λ i k. h (suc i) (omega arith)))

split_cond : (a b : Bool) → cond a true b ≡ false → (a ≡ false) × (b ≡ false)
split_cond true b e = absurd (true≢false e)
split_cond false b e = (refl, e)

pub none_at : {A : Type 0} (test : A → Bool) (d : A) (xs : List A) → any_of test xs ≡ false → (i : ℕ) → i < length xs → test (get_or xs i d) ≡ false
none_at test d [] e i h = absurd (omega arith)
none_at test d (x ∷ xs) e zero h = (split_cond (test x) (any_of test xs) e).0
none_at test d (x ∷ xs) e (suc i) h = none_at test d xs (split_cond (test x) (any_of test xs) e).1 i (omega arith)

-- ---- levels
pub lost_none_at : (height : ℕ → ℕ) (level : ℕ) (links : Links) → lost_from height level links ≡ false
    → (i : ℕ) → i < length links → lost_at height (level + i) (get_or links i []) ≡ false
lost_none_at height level [] e i h = absurd (omega arith)
lost_none_at height level (ns ∷ links) e zero h =
    let z : level + zero ≡ level = omega arith in
    ap (λ (l : ℕ). lost_at height l ns) z ∙ (split_cond (lost_at height level ns) (lost_from height (suc level) links) e).0
lost_none_at height level (ns ∷ links) e (suc i) h =
    let z : level + suc i ≡ suc level + i = omega arith in
    ap (λ (l : ℕ). lost_at height l (get_or links i [])) z
    ∙ lost_none_at height (suc level) links (split_cond (lost_at height level ns) (lost_from height (suc level) links) e).1 i (omega arith)

-- heights that agree on all neighbours
pub lost_same : (f g : ℕ → ℕ) (level : ℕ) (links : Links)
    → ((l i : ℕ) → l < length links → i < length (get_or links l []) → f (get_or (get_or links l []) i 0) ≡ g (get_or (get_or links l []) i 0))
    → lost_from f level links ≡ lost_from g level links
lost_same f g level [] h = refl
lost_same f g level (ns ∷ links) h =
    ap₂ (λ (a b : Bool). cond a true b)
    (any_same (λ x. leb (f x) level) (λ x. leb (g x) level) 0 ns (λ i k. ap (λ (n : ℕ). leb n level) (h 0 i (omega arith) k)))
    (lost_same f g (suc level) links (λ l i j k. h (suc l) i (omega arith) k))

-- where every neighbour at level 0 has a level, only those above tell
pub lost_above_lowest : (height : ℕ → ℕ) (links : Links) → ((i : ℕ) → i < length (get_or links 0 []) → 1 ≤ height (get_or (get_or links 0 []) i 0))
    → lost_from height 0 links ≡ lost_from height 1 (drop 1 links)
lost_above_lowest height [] h = refl
lost_above_lowest height (ns ∷ links) h =
    ap (λ (b : Bool). cond b true (lost_from height 1 links))
    (any_none (λ x. leb (height x) 0) 0 ns (λ i k. lt-leb (height (get_or ns i 0)) 0 (h i k)))

-- ---- the walk above the lowest level
pub record Looking (s starts : List ℕ) (start levels : ℕ) (at level : ℕ) : Type 0 where
  pub inside : at + links_length (levels_at (levels - level) s at) ≤ length s
  pub near : (l i : ℕ) → get_or (get_or (levels_at (levels - level) s at) l []) i 0 < length starts
  pub whole :
      lost_from (height_at s starts) level (levels_at (levels - level) s at) ≡ lost_from (height_at s starts) 1 (drop 1 (links_at s start))

-- room for the lowest level
pub lowest_room : (s : List ℕ) (start : ℕ) → start + node_length (links_at s start) ≤ length s → 1 ≤ num s start 1
    → start + 5 + 4 * num s (start + 1) 4 + links_length (levels_at (num s start 1 - 1) s (start + 1 + 4 + 4 * num s (start + 1) 4)) ≤ length s
lowest_room s start h t =
    let e = ap links_length (links_first s start t) in
    let l = length_numbers (num s (start + 1) 4) s (start + 1 + 4) in
    omega arith

module _ {s starts : List ℕ} {start levels : ℕ} where
  pub looking_begin : {degree : ℕ} → levels ≡ get_or s start 0 → degree ≡ num s (start + 1) 4 → start + node_length (links_at s start) ≤ length s → 1 ≤ num s start 1
      → ((l i : ℕ) → get_or (get_or (links_at s start) l []) i 0 < length starts) → Looking s starts start levels (start + 5 + 4 * degree) 1
  looking_begin {degree} e d h t near =
      let n : levels ≡ num s start 1 = e ∙ sym (num_one s start) in
      let p : start + 5 + 4 * degree ≡ start + 1 + 4 + 4 * num s (start + 1) 4 = omega arith in
      let rest : levels_at (levels - 1) s (start + 5 + 4 * degree) ≡ levels_at (num s start 1 - 1) s (start + 1 + 4 + 4 * num s (start + 1) 4) =
      ap₂ (λ (k a : ℕ). levels_at (k - 1) s a) n p in
      let first = links_first s start t in
      let room = lowest_room s start h t in
      let size = ap links_length rest in
      record {
        inside = omega arith;
        near =
            λ l i.
            subst (λ (links : Links). get_or (get_or links l []) i 0 < length starts) (sym rest)
            (subst (λ (links : Links). get_or (get_or links (suc l) []) i 0 < length starts) first (near (suc l) i));
        whole = ap (lost_from (height_at s starts) 1) (rest ∙ sym (ap (drop 1) first));
      }

  module _ {at level : ℕ} (l : Looking s starts start levels at level) (h : level < levels) where
    pub looking_room : at + 4 + 4 * num s at 4 ≤ length s
    looking_room = let i = l.inside in omega (arith, levels_length levels level s at h)

    pub looking_near : (i : ℕ) → get_or (numbers_at (num s at 4) s (at + 4)) i 0 < length starts
    looking_near i = subst (λ (links : Links). get_or (get_or links 0 []) i 0 < length starts) (levels_turn levels level s at h) (l.near 0 i)

    pub looking_more : {degree : ℕ} → degree ≡ num s at 4 → lost_at (height_at s starts) level (numbers_at (num s at 4) s (at + 4)) ≡ false
        → Looking s starts start levels (at + (4 + 4 * degree)) (level + 1)
    looking_more {degree} d t =
        let p : at + (4 + 4 * degree) ≡ at + 4 + 4 * num s at 4 = omega arith in
        let turn = levels_turn levels level s at h in
        let rest = ap (levels_at (levels - (level + 1)) s) p in
        let size = ap links_length rest in
        let i = l.inside in
        record {
          inside = omega (arith, levels_length levels level s at h);
          near =
              λ k i.
              subst (λ (links : Links). get_or (get_or links k []) i 0 < length starts) (sym rest)
              (subst (λ (links : Links). get_or (get_or links (suc k) []) i 0 < length starts) turn (l.near (suc k) i));
          whole =
              ap (lost_from (height_at s starts) (level + 1)) rest
              ∙ sym (lost_on (height_at s starts) level (levels_at (levels - level) s at) (levels_at (levels - (level + 1)) s (at + 4 + 4 * num s at 4)) (numbers_at (num s at 4) s (at + 4)) turn t)
              ∙ l.whole;
        }
