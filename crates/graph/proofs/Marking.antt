-- Laws of marks: a fresh mark is on no node, and a node that is marked joins those before it.
use Prim.Native.Nat.{ℕ, zero, suc, ◌+◌, ◌*◌, ◌≤◌, ◌<◌}
use mathlib.Core.Path.{◌≡◌, refl, sym, ap, ◌∙◌}
use mathlib.Core.Bool.{Bool, true, false, cond}
use mathlib.Core.List.{List, [], ◌∷◌, ◌++◌}
use native.Mathlib.Numerals.{add-one}
use native.Mathlib.Omega.{arith}
use borrow.Author.Tests.{eq-eqb, eqb-true, eqb-false}
use lib.Dec.{eqb}
use lib.ListN.{length, get_or, set}
use lib.Seq.{get_or-set_same, get_or-set_other}
use Rattle.fields.specs.Fields.{num}
use Rattle.graph.specs.Graph.{among}
use Rattle.graph.specs.Cache.{numbers_at}
use Rattle.graph.specs.Marks.{Under, Marked}

pub under_more : (marks : List ℕ) (a b : ℕ) → a ≤ b → Under marks a → Under marks b
under_more marks a b h u = record { under = λ x. let k = u.under x in omega arith }

pub under_set : (marks : List ℕ) (x mark : ℕ) → Under marks (mark + 1) → Under (set marks x mark) (mark + 1)
under_set marks x mark u = record { under = λ y. go marks x y (u.under y) }
  where
    go : (l : List ℕ) (x y : ℕ) → get_or l y 0 < mark + 1 → get_or (set l x mark) y 0 < mark + 1
    go [] x y h = h
    go (a ∷ l) zero zero h = omega arith
    go (a ∷ l) zero (suc y) h = h
    go (a ∷ l) (suc x) zero h = h
    go (a ∷ l) (suc x) (suc y) h = go l x y h

among_last : (x : ℕ) (l : List ℕ) → among x (l ++ (x ∷ [])) ≡ true
among_last x [] = ap (λ (t : Bool). cond t true false) (eq-eqb x x refl)
among_last x (y ∷ l) = go (eqb x y) (among_last x l)
  where
    go : (t : Bool) → among x (l ++ (x ∷ [])) ≡ true → cond t true (among x (l ++ (x ∷ []))) ≡ true
    go true e = refl
    go false e = e

among_other : (y x : ℕ) (l : List ℕ) → eqb y x ≡ false → among y (l ++ (x ∷ [])) ≡ among y l
among_other y x [] e = ap (λ (t : Bool). cond t true false) e
among_other y x (z ∷ l) e = ap (λ (t : Bool). cond (eqb y z) true t) (among_other y x l e)

pub marked_more : (count mark : ℕ) (before marks : List ℕ) (x : ℕ) → count ≤ length marks → x < count
    → Marked count mark before marks → Marked count mark (before ++ (x ∷ [])) (set marks x mark)
marked_more count mark before marks x h k m = record { marked = λ y j. go y j (eqb y x) refl }
  where
    go : (y : ℕ) → y < count → (t : Bool) → eqb y x ≡ t → eqb (get_or (set marks x mark) y 0) mark ≡ among y (before ++ (x ∷ []))
    go y j true e =
        let s = eqb-true y x e in
        eq-eqb _ _ (ap (λ (z : ℕ). get_or (set marks x mark) z 0) s ∙ get_or-set_same marks x mark 0 (omega arith))
        ∙ sym (ap (λ (z : ℕ). among z (before ++ (x ∷ []))) s ∙ among_last x before)
    go y j false e =
        ap (λ (z : ℕ). eqb z mark) (get_or-set_other marks x y mark 0 (eqb-false y x e)) ∙ m.marked y j ∙ sym (among_other y x before e)

-- one number more
pub numbers_more : (n : ℕ) (s : List ℕ) (at : ℕ) → numbers_at (n + 1) s at ≡ numbers_at n s at ++ (num s (at + 4 * n) 4 ∷ [])
numbers_more n s at = ap (λ (m : ℕ). numbers_at m s at) (add-one n) ∙ go n at
  where
    go : (n at : ℕ) → numbers_at (suc n) s at ≡ numbers_at n s at ++ (num s (at + 4 * n) 4 ∷ [])
    go zero at = let e : at ≡ at + 4 * zero = omega arith in ap (λ (a : ℕ). num s a 4 ∷ []) e
    go (suc n) at =
        let e : at + 4 + 4 * n ≡ at + 4 * suc n = omega arith in
        ap (λ (l : List ℕ). num s at 4 ∷ l) (go n (at + 4) ∙ ap (λ (a : ℕ). numbers_at n s (at + 4) ++ (num s a 4 ∷ [])) e)
