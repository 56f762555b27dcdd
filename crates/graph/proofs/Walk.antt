-- Loops that walk what was tested: numbers, levels and nodes in a row, one at a turn.
use Prim.Native.Nat.{ℕ, suc, ◌+◌, ◌*◌, ◌-◌, ◌≤◌, ◌<◌}
use mathlib.Core.Path.{◌≡◌, sym, ap, ◌∙◌}
use mathlib.Core.Bool.{Bool, true, false, cond}
use mathlib.Core.List.{List, [], ◌∷◌}
use native.Mathlib.Numerals.{add-one}
use native.Mathlib.Omega.{arith}
use lib.ListN.{length, get_or, drop, drop_of_length-le}
use lib.Seq.{drop-cons}
use Rattle.fields.specs.Fields.{num}
use Rattle.fields.proofs.Numbers.{num_one}
use Rattle.graph.specs.Graph.{Links, any_of, lost_at, lost_from}
use Rattle.graph.specs.Layout.{links_length, node_length}
use Rattle.graph.specs.Cache.{numbers_at, levels_at, links_at}
use Rattle.graph.specs.Decoded.{height_at}
use Rattle.graph.proofs.Decode.{length_numbers}

-- a levels byte as the code reads it
pub height_is : (s starts : List ℕ) (x y b : ℕ) → x ≡ y → b ≡ get_or s (get_or starts x 0) 0 → b ≡ height_at s starts y
height_is s starts x y b e f = f ∙ sym (num_one s (get_or starts x 0)) ∙ ap (λ (z : ℕ). height_at s starts z) e

-- ---- levels
pub levels_turn : (n i : ℕ) (s : List ℕ) (at : ℕ) → i < n
    → levels_at (n - i) s at ≡ numbers_at (num s at 4) s (at + 4) ∷ levels_at (n - (i + 1)) s (at + 4 + 4 * num s at 4)
levels_turn n i s at h = let e : n - i ≡ suc (n - (i + 1)) = omega arith in ap (λ (m : ℕ). levels_at m s at) e

pub levels_over : (n i : ℕ) (s : List ℕ) (at : ℕ) → n ≤ i → levels_at (n - i) s at ≡ []
levels_over n i s at h = let e : n - i ≡ 0 = omega arith in ap (λ (m : ℕ). levels_at m s at) e

pub levels_length : (n i : ℕ) (s : List ℕ) (at : ℕ) → i < n
    → links_length (levels_at (n - i) s at) ≡ 4 + 4 * num s at 4 + links_length (levels_at (n - (i + 1)) s (at + 4 + 4 * num s at 4))
levels_length n i s at h =
    let e = ap links_length (levels_turn n i s at h) in
    let l = length_numbers (num s at 4) s (at + 4) in
    omega arith

-- the walk over a node's levels, where it begins
pub links_begin : (s : List ℕ) (at levels : ℕ) → levels ≡ get_or s at 0 → at + 1 + links_length (levels_at (levels - 0) s (at + 1)) ≡ at + node_length (links_at s at)
unfolding links_at
links_begin s at levels e =
    let z : levels - 0 ≡ levels = omega arith in
    let w = ap (λ (n : ℕ). links_length (levels_at n s (at + 1))) (z ∙ e ∙ sym (num_one s at)) in
    omega arith

-- and goes on
pub links_on : (s : List ℕ) (levels level next degree all : ℕ) → level < levels → degree ≡ num s next 4
    → next + links_length (levels_at (levels - level) s next) ≡ all
    → next + (4 + 4 * degree) + links_length (levels_at (levels - (level + 1)) s (next + (4 + 4 * degree))) ≡ all
links_on s levels level next degree all h d e =
    let p : next + (4 + 4 * degree) ≡ next + 4 + 4 * num s next 4 = omega arith in
    let w = ap (λ (n : ℕ). links_length (levels_at (levels - (level + 1)) s n)) p in
    omega (arith, levels_length levels level s next h)

-- level 0 and those above it
pub links_first : (s : List ℕ) (at : ℕ) → 1 ≤ num s at 1 → links_at s at ≡ numbers_at (num s (at + 1) 4) s (at + 1 + 4) ∷ levels_at (num s at 1 - 1) s (at + 1 + 4 + 4 * num s (at + 1) 4)
unfolding links_at
links_first s at h = let e : num s at 1 ≡ suc (num s at 1 - 1) = omega arith in ap (λ (m : ℕ). levels_at m s (at + 1)) e

pub lost_on : (height : ℕ → ℕ) (level : ℕ) (links above : Links) (ns : List ℕ) → links ≡ ns ∷ above → lost_at height level ns ≡ false
    → lost_from height level links ≡ lost_from height (level + 1) above
lost_on height level links above ns e t =
    ap (lost_from height level) e ∙ ap (λ (b : Bool). cond b true (lost_from height (suc level) above)) t ∙ ap (λ (k : ℕ). lost_from height k above) (sym (add-one level))

-- ---- a walk over a list that looks for one of a kind: none passed is of it, so the rest tells
pub record Walking {A : Type 0} (test : A → Bool) (xs : List A) (i : ℕ) : Type 0 where
  pub rest : any_of test (drop i xs) ≡ any_of test xs

module _ {A : Type 0} {test : A → Bool} {xs : List A} where
  module _ {i : ℕ} (d : A) (w : Walking test xs i) (h : i < length xs) where
    next : (b : Bool) → test (get_or xs i d) ≡ b → any_of test (drop i xs) ≡ cond b true (any_of test (drop (i + 1) xs))
    next b e = rw (drop-cons xs i d, add-one) (ap (λ (b : Bool). cond b true (any_of test (drop (suc i) xs))) e)

    pub walking_here : test (get_or xs i d) ≡ true → true ≡ any_of test xs
    walking_here e = sym (next true e) ∙ w.rest

    pub walking_on : test (get_or xs i d) ≡ false → Walking test xs (i + 1)
    walking_on e = record { rest = sym (next false e) ∙ w.rest }

  pub walking_over : {i : ℕ} → Walking test xs i → length xs ≤ i → false ≡ any_of test xs
  walking_over w h = sym (ap (any_of test) (drop_of_length-le xs h)) ∙ w.rest

pub ruleset walking = (walking_here, walking_on, walking_over)
