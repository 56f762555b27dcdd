-- Laws of `decimal`: the digits of n are those of n / 10 and one more, and how many they are.
use Prim.Native.Nat.{ℕ, zero, suc, ◌+◌, ◌/◌, ◌%◌, ◌^◌, ◌≤◌, ◌<◌}
use native.Mathlib.Nat.{not-suc-le-zero}
use native.Mathlib.Omega.{arith}
use mathlib.Core.Path.{◌≡◌, refl, ap, ◌∙◌}
use mathlib.Core.Bool.{Bool, true, false, cond}
use mathlib.Core.List.{List, [], ◌∷◌, ◌++◌}
use lib.Dec.{ltb}
use lib.ListN.{length, length-append}
use borrow.Author.Tests.{lt-ltb, le-ltb, ltb-true, ltb-false}
use Rattle.listing_text.specs.Decimal.{digit, decimal_by, decimal}

-- where two bounds hold all digits, both give the same
same_by : (k j n : ℕ) → n < k → n < j → decimal_by k n ≡ decimal_by j n
unfolding decimal_by
same_by zero j n h g = absurd (not-suc-le-zero h)
same_by (suc k) zero n h g = absurd (not-suc-le-zero g)
same_by (suc k) (suc j) n h g = by (ltb n 10) refl (λ large. same_by k j (n / 10) (omega arith) (omega arith))
  where
    by : (t : Bool) → ltb n 10 ≡ t → (10 ≤ n → decimal_by k (n / 10) ≡ decimal_by j (n / 10))
        → cond t (digit n ∷ []) (decimal_by k (n / 10) ++ (digit (n % 10) ∷ [])) ≡ cond t (digit n ∷ []) (decimal_by j (n / 10) ++ (digit (n % 10) ∷ []))
    by true e less = refl
    by false e less = ap (λ (l : List ℕ). l ++ (digit (n % 10) ∷ [])) (less (ltb-false n 10 e))

pub decimal_one : (n : ℕ) → n < 10 → decimal n ≡ digit n ∷ []
unfolding decimal decimal_by
decimal_one n h = simp (lt-ltb n 10 h)

pub decimal_more : (n : ℕ) → 10 ≤ n → decimal n ≡ decimal (n / 10) ++ (digit (n % 10) ∷ [])
unfolding decimal decimal_by
decimal_more n h =
    simp (le-ltb n 10 h) (ap (λ (l : List ℕ). l ++ (digit (n % 10) ∷ [])) (same_by n (suc (n / 10)) (n / 10) (omega arith) (omega arith)))

pub length_one : (n : ℕ) → n < 10 → length (decimal n) ≡ 1
length_one n h = ap length (decimal_one n h)

pub length_more : (n : ℕ) → 10 ≤ n → length (decimal n) ≡ length (decimal (n / 10)) + 1
length_more n h = ap length (decimal_more n h) ∙ length-append (decimal (n / 10)) (digit (n % 10) ∷ [])

pub length_some : (n : ℕ) → 0 < length (decimal n)
length_some n = by (ltb n 10) refl
  where
    by : (t : Bool) → ltb n 10 ≡ t → 0 < length (decimal n)
    by true e = omega (arith, length_one n (ltb-true n 10 e))
    by false e = omega (arith, length_more n (ltb-false n 10 e))

pub length_within : (k n : ℕ) → n < 10 ^ suc k → length (decimal n) ≤ suc k
length_within zero n h = omega (arith, length_one n h)
length_within (suc k) n h = by (ltb n 10) refl (λ large. length_within k (n / 10) (omega arith))
  where
    by : (t : Bool) → ltb n 10 ≡ t → (10 ≤ n → length (decimal (n / 10)) ≤ suc k) → length (decimal n) ≤ suc (suc k)
    by true e less = omega (arith, length_one n (ltb-true n 10 e))
    by false e less = omega (arith, length_more n (ltb-false n 10 e), less (ltb-false n 10 e))
