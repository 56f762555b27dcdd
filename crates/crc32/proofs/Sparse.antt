-- THE SPARSE IDENTITY, for which bytes can be eliminated: 2400 zero bytes do what 1240, 936, 712 and none do together.
-- As polynomials: x^19200 + x^9920 + x^7488 + x^5696 + 1 is a multiple of the CRC's, or, a word X = x^64 at a time,
-- X^300 = X^155 + X^117 + X^89 + 1.
-- One register is enough to compute it for: that of the polynomial 1, which is 2^31; the registers for which the two sides
-- agree are closed under a zero bit (times x) and under xor (sums), and from 1 these make every polynomial below degree 32.
-- Assumes nothing.
use mathlib.Core.Path.{◌≡◌, refl, sym, ap, ap₂, ◌∙◌}
use Prim.Native.Nat.{ℕ, zero, suc, ◌+◌, ◌-◌, ◌*◌, ◌/◌, ◌%◌, ◌^◌, ◌≤◌, ◌<◌}
use native.Mathlib.Nat.{mod-lt, pow-suc, div-lt_iff_lt-mul}
use native.Mathlib.Omega.{arith}
use lib.Arith.{lt-one}
use lib.Bits.{bit_xor, xor_shifted}
use lib.Pow.{pow_pos, split}
use Rattle.elimination.proofs.Xor.{xor4}
use Rattle.crc32.specs.Steps.{shift, shifts, turns, rounds}
use Rattle.crc32.proofs.Shift.{shift_xor, shift_high, turns_xor, turns_add, turns_zero}

-- what holds of 0 and 2^31, and of a register after a zero bit and of two registers' xor where it holds of them, holds of all
module _ (P : ℕ → Type 0) (none : P 0) (one : P 2147483648) (next : (s : ℕ) → P s → P (shift s)) (sum : (a b : ℕ) → P a → P b → P (bit_xor a b)) where
  power : (k n : ℕ) → k + n ≡ 31 → P (2 ^ k)
  power k zero e = let f : k ≡ 31 = omega arith in rw f one
  power k (suc n) e =
      let m : 1 * 2 ^ suc k ≡ 2 ^ suc k = omega arith in
      let l : 1 * 2 ^ k ≡ 2 ^ k = omega arith in
      let f : shift (2 ^ suc k) ≡ 2 ^ k = ap shift (sym m) ∙ shift_high 1 k ∙ l in
      rw f at (next (2 ^ suc k) (power (suc k) n (omega arith)))

  bit : (b k : ℕ) → b < 2 → k ≤ 31 → P (b * 2 ^ k)
  bit zero k h l = let e : 0 * 2 ^ k ≡ 0 = omega arith in rw e none
  bit (suc zero) k h l = let e : 1 * 2 ^ k ≡ 2 ^ k = omega arith in rw e (power k (31 - k) (omega arith))
  bit (suc (suc b)) k h l = absurd (omega arith)

  below : (k s : ℕ) → k ≤ 32 → s < 2 ^ k → P s
  below zero s l h = rw (lt-one h) none
  below (suc k) s l h =
      let low : s % 2 ^ k < 2 ^ k = mod-lt s (pow_pos k) in
      let room : s < 2 * 2 ^ k = omega (arith, pow-suc 2 k) in
      let top : s / 2 ^ k < 2 = (div-lt_iff_lt-mul (pow_pos k)).1 room in
      let whole : bit_xor (s / 2 ^ k * 2 ^ k) (s % 2 ^ k) ≡ s = xor_shifted (s / 2 ^ k) k (s % 2 ^ k) low ∙ split s k in
      rw whole at (sum (s / 2 ^ k * 2 ^ k) (s % 2 ^ k) (bit (s / 2 ^ k) k top (omega arith)) (below k (s % 2 ^ k) (omega arith) low))

  pub every_register : (s : ℕ) → s < 4294967296 → P s
  every_register s h = below 32 s (omega arith) h

-- the two sides
abbrev pub Agree : ℕ → Type 0
Agree s = rounds 2400 s ≡ bit_xor (rounds 1240 s) (bit_xor (rounds 936 s) (bit_xor (rounds 712 s) s))

after_712 : rounds 712 2147483648 ≡ 946567468
unfolding turns shifts shift
after_712 = refl

after_936 : rounds 224 946567468 ≡ 1175506766
unfolding turns shifts shift
after_936 = refl

after_1240 : rounds 304 1175506766 ≡ 2959923812
unfolding turns shifts shift
after_1240 = refl

after_2400 : rounds 1160 2959923812 ≡ 1310157830
unfolding turns shifts shift
after_2400 = refl

agree_one : Agree 2147483648
agree_one =
    let p : rounds 936 2147483648 ≡ 1175506766 = turns_add 8 712 224 2147483648 ∙ ap (rounds 224) after_712 ∙ after_936 in
    let q : rounds 1240 2147483648 ≡ 2959923812 = turns_add 8 936 304 2147483648 ∙ ap (rounds 304) p ∙ after_1240 in
    let r : rounds 2400 2147483648 ≡ 1310157830 = turns_add 8 1240 1160 2147483648 ∙ ap (rounds 1160) q ∙ after_2400 in
    r ∙ sym (ap₂ bit_xor q (ap₂ bit_xor p (ap (λ (x : ℕ). bit_xor x 2147483648) after_712)))

agree_none : Agree 0
agree_none =
    turns_zero 8 2400
    ∙ sym (ap₂ bit_xor (turns_zero 8 1240) (ap₂ bit_xor (turns_zero 8 936) (ap (λ (x : ℕ). bit_xor x 0) (turns_zero 8 712))))

shifts_shift : (k s : ℕ) → shifts k (shift s) ≡ shift (shifts k s)
unfolding shifts
shifts_shift zero s = refl
shifts_shift (suc k) s = shifts_shift k (shift s)

turns_shift : (n s : ℕ) → rounds n (shift s) ≡ shift (rounds n s)
unfolding turns
turns_shift zero s = refl
turns_shift (suc n) s = ap (rounds n) (shifts_shift 8 s) ∙ turns_shift n (shifts 8 s)

agree_next : (s : ℕ) → Agree s → Agree (shift s)
agree_next s e =
    turns_shift 2400 s
    ∙ ap shift e
    ∙ shift_xor (rounds 1240 s) (bit_xor (rounds 936 s) (bit_xor (rounds 712 s) s))
    ∙ ap₂ bit_xor (sym (turns_shift 1240 s))
    (shift_xor (rounds 936 s) (bit_xor (rounds 712 s) s)
    ∙ ap₂ bit_xor (sym (turns_shift 936 s))
    (shift_xor (rounds 712 s) s ∙ ap (λ (x : ℕ). bit_xor x (shift s)) (sym (turns_shift 712 s))))

agree_sum : (a b : ℕ) → Agree a → Agree b → Agree (bit_xor a b)
agree_sum a b e f =
    turns_xor 8 2400 a b
    ∙ ap₂ bit_xor e f
    ∙ xor4 (rounds 1240 a) (bit_xor (rounds 936 a) (bit_xor (rounds 712 a) a)) (rounds 1240 b) (bit_xor (rounds 936 b) (bit_xor (rounds 712 b) b))
    ∙ ap₂ bit_xor (sym (turns_xor 8 1240 a b))
    (xor4 (rounds 936 a) (bit_xor (rounds 712 a) a) (rounds 936 b) (bit_xor (rounds 712 b) b)
    ∙ ap₂ bit_xor (sym (turns_xor 8 936 a b))
    (xor4 (rounds 712 a) a (rounds 712 b) b ∙ ap (λ (x : ℕ). bit_xor x (bit_xor a b)) (sym (turns_xor 8 712 a b))))

pub sparse : (s : ℕ) → s < 4294967296
    → rounds 2400 s ≡ bit_xor (rounds 1240 s) (bit_xor (rounds 936 s) (bit_xor (rounds 712 s) s))
sparse = every_register Agree agree_none agree_one agree_next agree_sum
