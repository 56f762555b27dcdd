-- The count of leading ones of a byte, `count_leading_zeros 8 (255 - b)`, tells its range: each law is one test computed at all 256 bytes.
use mathlib.Core.Path.{◌≡◌, sym, subst}
use mathlib.Core.Logic.{◌⊎◌, inl, inr, ⊎_elim}
use mathlib.Core.Bool.{Bool, true, false, cond, ◌&&◌, ◌||◌}
use Prim.Native.Nat.{ℕ, zero, suc, ◌-◌, ◌≤◌, ◌<◌}
use native.Mathlib.Nat.{not-suc-le-zero, le_of_suc-le-suc, eq-or-lt_of_le}
use borrow.Author.Tests.{eq-eqb, ne_eqb}
use lib.Count.{count_leading_zeros}
use lib.Dec.{T, leb, eqb, leb→le}
use Rattle.utf8.specs.Utf8.{Range}

-- a test that passes at each number below n passes at any of them
abbrev each : (ℕ → Bool) → ℕ → Bool
each f zero = true
each f (suc n) = f n && each f n

and_left : (x y : Bool) → T (x && y) → T x
and_left true y t = tt
and_left false y t = t

and_right : (x y : Bool) → T (x && y) → T y
and_right true y t = t
and_right false y t = absurd t

or_cases : (x y : Bool) → T (x || y) → T x ⊎ T y
or_cases true y t = inl tt
or_cases false y t = inr t

below : (f : ℕ → Bool) (n : ℕ) → T (each f n) → (k : ℕ) → k < n → T (f k)
below f zero t k h = absurd (not-suc-le-zero h)
below f (suc n) t k h =
    ⊎_elim (λ e. subst (λ (x : ℕ). T (f x)) (sym e) (and_left (f n) (each f n) t))
    (λ l. below f n (and_right (f n) (each f n) t) k l) (eq-or-lt_of_le (le_of_suc-le-suc h))

in_range_lem : ℕ → ℕ → ℕ → Bool
in_range_lem low high b = leb low b && leb b high

ranged : ℕ → ℕ → ℕ → ℕ → Bool
ranged n low high b = cond (eqb (count_leading_zeros 8 (255 - b)) n) (in_range_lem low high b) true

range_of : (n low high : ℕ) → T (each (ranged n low high) 256) → (b : ℕ) → b < 256 → count_leading_zeros 8 (255 - b) ≡ n → Range low high b
unfolding ranged in_range_lem
range_of n low high t b h e =
    let x : T (ranged n low high b) = below (ranged n low high) 256 t b h in
    let y : T (in_range_lem low high b) = simp (eq-eqb (count_leading_zeros 8 (255 - b)) n e) at x in
    record { at_least = leb→le low b (and_left (leb low b) (leb b high) y); at_most = leb→le b high (and_right (leb low b) (leb b high) y) }

-- the range of a byte, by its leading ones
pub record Leads (b : ℕ) : Type 0 where
  pub none : count_leading_zeros 8 (255 - b) ≡ 0 → Range 0x00 0x7F b
  pub two : count_leading_zeros 8 (255 - b) ≡ 2 → Range 0xC0 0xDF b
  pub three : count_leading_zeros 8 (255 - b) ≡ 3 → Range 0xE0 0xEF b
  pub four : count_leading_zeros 8 (255 - b) ≡ 4 → Range 0xF0 0xF7 b

pub leads : (b : ℕ) → b < 256 → Leads b
unfolding ranged in_range_lem count_leading_zeros
leads b h =
    record { none = range_of 0 0x00 0x7F tt b h; two = range_of 2 0xC0 0xDF tt b h; three = range_of 3 0xE0 0xEF tt b h; four = range_of 4 0xF0 0xF7 tt b h }

-- any other count: a tail, or nothing that RFC 3629 has
other : ℕ → Bool
other b =
    eqb (count_leading_zeros 8 (255 - b)) 0
    || (eqb (count_leading_zeros 8 (255 - b)) 2
    || (eqb (count_leading_zeros 8 (255 - b)) 3 || (eqb (count_leading_zeros 8 (255 - b)) 4 || (in_range_lem 0x80 0xBF b || leb 0xF8 b))))

pub ones_other : (b : ℕ) → b < 256 → (count_leading_zeros 8 (255 - b) ≡ 0 → ⊥) → (count_leading_zeros 8 (255 - b) ≡ 2 → ⊥) → (count_leading_zeros 8 (255 - b) ≡ 3 → ⊥)
    → (count_leading_zeros 8 (255 - b) ≡ 4 → ⊥) → Range 0x80 0xBF b ⊎ (0xF8 ≤ b)
unfolding other in_range_lem count_leading_zeros
ones_other b h e0 e2 e3 e4 =
    let n = count_leading_zeros 8 (255 - b) in
    let x : T (other b) = below other 256 tt b h in
    let y : T (in_range_lem 0x80 0xBF b || leb 0xF8 b) = simp (ne_eqb n 0 e0, ne_eqb n 2 e2, ne_eqb n 3 e3, ne_eqb n 4 e4) at x in
    ⊎_elim
    (λ t. inl (record { at_least = leb→le 0x80 b (and_left (leb 0x80 b) (leb b 0xBF) t); at_most = leb→le b 0xBF (and_right (leb 0x80 b) (leb b 0xBF) t) }))
    (λ t. inr (leb→le 0xF8 b t))
    (or_cases (in_range_lem 0x80 0xBF b) (leb 0xF8 b) y)
