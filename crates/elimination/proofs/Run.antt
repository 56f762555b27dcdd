-- Bytes into a register: part after part, one more byte, and zero bytes.
-- Assumes nothing.
use mathlib.Core.Path.{◌≡◌, refl, sym, ap, ◌∙◌}
use mathlib.Core.List.{List, [], ◌∷◌, ◌++◌}
use Prim.Native.Nat.{ℕ, zero, suc, ◌+◌, ◌≤◌, ◌<◌}
use native.Mathlib.Numerals.{add-one}
use native.Mathlib.Omega.{arith}
use lib.Bits.{xor_self}
use lib.ListN.{length, get_or, take, drop, length-drop}
use lib.Seq.{take-suc, take-add, drop-cons, get_or-drop}
use Rattle.elimination.specs.Elimination.{run, zeros, Register}

pub run_append : (step : ℕ → ℕ → ℕ) (c : ℕ) (a b : List ℕ) → run step c (a ++ b) ≡ run step (run step c a) b
unfolding run
run_append step c [] b = refl
run_append step c (x ∷ a) b = run_append step (step c x) a b

-- one byte more of v
pub run_next : (step : ℕ → ℕ → ℕ) (x n : ℕ) (v : List ℕ) → n < length v
    → run step x (take (suc n) v) ≡ step (run step x (take n v)) (get_or v n 0)
unfolding run
run_next step x n v h =
    ap (run step x) (take-suc v n 0 h) ∙ run_append step x (take n v) (get_or v n 0 ∷ [])

-- a turn over one byte: the rest of the run is the same run
pub run_onward : (step : ℕ → ℕ → ℕ) (c i : ℕ) (s : List ℕ) → i < length s
    → run step (step c (get_or s i 0)) (drop (i + 1) s) ≡ run step c (drop i s)
unfolding run
run_onward step c i s h =
    sym (ap (run step c) (drop-cons s i 0 h ∙ ap (λ (m : ℕ). get_or s i 0 ∷ drop m s) (sym (add-one i))))

-- n bytes that are zero
pub run_zeros : (step : ℕ → ℕ → ℕ) (c n : ℕ) (l : List ℕ) → n ≤ length l
    → ((k : ℕ) → k < n → get_or l k 0 ≡ 0) → run step c (take n l) ≡ zeros step n c
unfolding run zeros
run_zeros step c zero l h z = refl
run_zeros step c (suc n) [] h z = absurd (omega arith)
run_zeros step c (suc n) (b ∷ l) h z =
    ap (λ (x : ℕ). run step (step c x) (take n l)) (z 0 (omega arith))
    ∙ run_zeros step (step c 0) n l (omega arith) (λ k i. z (suc k) (omega arith))

-- n bytes, and then m that are zero
pub run_then_zeros : (step : ℕ → ℕ → ℕ) (x n m : ℕ) (v : List ℕ) → n + m ≤ length v
    → ((k : ℕ) → k < m → get_or v (n + k) 0 ≡ 0) → run step x (take (n + m) v) ≡ zeros step m (run step x (take n v))
run_then_zeros step x n m v h z =
    ap (run step x) (take-add n m v)
    ∙ run_append step x (take n v) (take m (drop n v))
    ∙ run_zeros step (run step x (take n v)) m (drop n v) (omega (arith, length-drop n v)) (λ k i. get_or-drop n v k 0 ∙ z k i)

module _ (step : ℕ → ℕ → ℕ) (r : Register step) where
  -- the zero register stays zero
  pub step_zero : step 0 0 ≡ 0
  step_zero = r.linear 0 0 0 0 ∙ xor_self (step 0 0)

  pub zeros_zero : (n : ℕ) → zeros step n 0 ≡ 0
  unfolding zeros
  zeros_zero zero = refl
  zeros_zero (suc n) = ap (zeros step n) step_zero ∙ zeros_zero n
