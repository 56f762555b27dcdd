-- A number's digits are digits, and tell the number.
use Prim.Native.Nat.{ℕ, zero, suc, ◌+◌, ◌*◌, ◌-◌, ◌/◌, ◌%◌, ◌≤◌, ◌<◌}
use native.Mathlib.Nat.{not-suc-le-zero}
use native.Mathlib.Omega.{arith}
use mathlib.Core.Path.{◌≡◌, refl, sym, ap, ◌∙◌}
use mathlib.Core.Bool.{Bool, true, false, cond}
use mathlib.Core.List.{List, [], ◌∷◌, ◌++◌}
use lib.Dec.{ltb}
use borrow.Author.Tests.{ltb-false}
use Rattle.meaning.specs.Every.{Every}
use Rattle.meaning.proofs.EveryLaws.{every_append, every_map}
use Rattle.listing_text.specs.Decimal.{digit, decimal_by, decimal}
use Rattle.listing_theorems.specs.ListingTells.{Without}

abbrev Digit : ℕ → Type 0
Digit y = 48 ≤ y

digits_by : (k n : ℕ) → Every Digit (decimal_by k n)
unfolding decimal_by
digits_by zero n = tt
digits_by (suc k) n = by (ltb n 10) (digits_by k (n / 10))
  where
    by : (t : Bool) → Every Digit (decimal_by k (n / 10)) → Every Digit (cond t (digit n ∷ []) (decimal_by k (n / 10) ++ (digit (n % 10) ∷ [])))
    by true all = (omega arith, tt)
    by false all = every_append Digit (decimal_by k (n / 10)) (digit (n % 10) ∷ []) all (omega arith, tt)

pub decimal_without : (x n : ℕ) → x < 48 → Without x (decimal n)
unfolding decimal
decimal_without x n h = every_map Digit (λ (y : ℕ). y ≡ x → ⊥) (λ y d e. omega arith) (decimal_by (suc n) n) (digits_by (suc n) n)

-- the number that digits tell, behind those that told v
value : ℕ → List ℕ → ℕ
value v [] = v
value v (y ∷ l) = value (v * 10 + (y - 48)) l

value_more : (v : ℕ) (l : List ℕ) (y : ℕ) → value v (l ++ (y ∷ [])) ≡ value v l * 10 + (y - 48)
unfolding value
value_more v [] y = refl
value_more v (x ∷ l) y = value_more (v * 10 + (x - 48)) l y

value_by : (k n : ℕ) → n < k → value 0 (decimal_by k n) ≡ n
unfolding value decimal_by
value_by zero n h = absurd (not-suc-le-zero h)
value_by (suc k) n h = by (ltb n 10) refl (λ large. value_by k (n / 10) (omega arith))
  where
    by : (t : Bool) → ltb n 10 ≡ t → (10 ≤ n → value 0 (decimal_by k (n / 10)) ≡ n / 10)
        → value 0 (cond t (digit n ∷ []) (decimal_by k (n / 10) ++ (digit (n % 10) ∷ []))) ≡ n
    by true e less = omega arith
    by false e less =
        let d = value_more 0 (decimal_by k (n / 10)) (digit (n % 10)) in
        let v = less (ltb-false n 10 e) in
        omega (arith, d, v)

pub decimal_tells : (n m : ℕ) → decimal n ≡ decimal m → n ≡ m
unfolding decimal
decimal_tells n m e = sym (value_by (suc n) n (omega arith)) ∙ ap (value 0) e ∙ value_by (suc m) m (omega arith)
