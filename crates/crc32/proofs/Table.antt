-- The rule of a table of rows, by one test that antt computes: a row's first entries from the steps, each later entry
-- from the one a row before.
-- Assumes nothing.
use mathlib.Core.Path.{◌≡◌, refl, sym, ap, ◌∙◌}
use mathlib.Core.Bool.{Bool, true, false}
use mathlib.Core.List.{List, [], ◌∷◌}
use Prim.Native.Nat.{ℕ, zero, suc, ◌+◌, ◌*◌, ◌^◌, ◌<◌}
use native.Mathlib.Nat.{not-suc-le-zero, le_of_suc-le-suc, suc-add, add-suc, zero-add, add-zero, suc-mul, zero-mul}
use native.Mathlib.Omega.{arith}
use lib.Arith.{digits_lt}
use lib.Dec.{T, eqb, eqb→eq}
use lib.ListN.{length, get_or, drop, length-drop}
use lib.Seq.{get_or-drop}
use Rattle.crc32.specs.Steps.{shifts, turns, Digits}

abbrev pub both : Bool → Bool → Bool
both true b = b
both false b = false

both_left : (a b : Bool) → T (both a b) → T a
both_left true b t = tt
both_left false b t = t

both_right : (a b : Bool) → T (both a b) → T b
both_right true b t = t
both_right false b t = absurd t

-- of two lists, each entry of the second is that of the first w steps on, as far as both go
abbrev pub steps : ℕ → List ℕ → List ℕ → Bool
steps w [] ys = true
steps w (x ∷ xs) [] = true
steps w (x ∷ xs) (y ∷ ys) = both (eqb y (shifts w x)) (steps w xs ys)

pub steps_at : (w : ℕ) (xs ys : List ℕ) → T (steps w xs ys) → (i : ℕ) → i < length xs → i < length ys
    → get_or ys i 0 ≡ shifts w (get_or xs i 0)
steps_at w [] ys t i h k = absurd (not-suc-le-zero h)
steps_at w (x ∷ xs) [] t i h k = absurd (not-suc-le-zero k)
steps_at w (x ∷ xs) (y ∷ ys) t zero h k = eqb→eq y (shifts w x) (both_left (eqb y (shifts w x)) (steps w xs ys) t)
steps_at w (x ∷ xs) (y ∷ ys) t (suc i) h k =
    steps_at w xs ys (both_right (eqb y (shifts w x)) (steps w xs ys) t) i (le_of_suc-le-suc h) (le_of_suc-le-suc k)

-- the n numbers from k on
abbrev pub count_from : ℕ → ℕ → List ℕ
count_from zero k = []
count_from (suc n) k = k ∷ count_from n (suc k)

length_count : (n k : ℕ) → length (count_from n k) ≡ n
length_count zero k = refl
length_count (suc n) k = ap suc (length_count n (suc k))

count_at : (n k i : ℕ) → i < n → get_or (count_from n k) i 0 ≡ k + i
count_at zero k i h = absurd (not-suc-le-zero h)
count_at (suc n) k zero h = sym (add-zero k)
count_at (suc n) k (suc i) h = count_at n (suc k) i (le_of_suc-le-suc h) ∙ suc-add k i ∙ sym (add-suc k i)

turns_last : (w n x : ℕ) → shifts w (turns w n x) ≡ turns w n (shifts w x)
unfolding turns
turns_last w zero x = refl
turns_last w (suc n) x = turns_last w n (shifts w x)

module _ (w n : ℕ) (t : List ℕ) (size : length t ≡ n * 2 ^ w) (first : T (steps w (count_from (2 ^ w) 0) t)) (later : T (steps w t (drop (2 ^ w) t))) where
  place_lt : (j k : ℕ) → j < n → k < 2 ^ w → j * 2 ^ w + k < length t
  place_lt j k h l = omega (arith, digits_lt h l)

  entry_at : (j k : ℕ) → j < n → k < 2 ^ w → get_or t (j * 2 ^ w + k) 0 ≡ turns w (suc j) k
  unfolding turns
  entry_at zero k h l =
      let e : 0 * 2 ^ w + k ≡ k = ap (λ (x : ℕ). x + k) (zero-mul (2 ^ w)) ∙ zero-add k in
      let inside : k < length t = omega (arith, place_lt 0 k h l) in
      ap (λ (i : ℕ). get_or t i 0) e
      ∙ steps_at w (count_from (2 ^ w) 0) t first k (omega (arith, length_count (2 ^ w) 0)) inside
      ∙ ap (shifts w) (count_at (2 ^ w) 0 k l ∙ zero-add k)
  entry_at (suc j) k h l =
      let i = j * 2 ^ w + k in
      let less : j < n = omega arith in
      let e : suc j * 2 ^ w + k ≡ 2 ^ w + i = omega (arith, suc-mul j (2 ^ w)) in
      let inside : i < length (drop (2 ^ w) t) = omega (arith, length-drop (2 ^ w) t, place_lt (suc j) k h l) in
      ap (λ (m : ℕ). get_or t m 0) e
      ∙ sym (get_or-drop (2 ^ w) t i 0)
      ∙ steps_at w t (drop (2 ^ w) t) later i (place_lt j k less l) inside
      ∙ ap (shifts w) (entry_at j k less l)
      ∙ turns_last w (suc j) k

  pub digits_rule : Digits w n t
  digits_rule = record { entry = entry_at }
