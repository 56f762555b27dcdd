-- Zero bits into the register: linear over xor, and why a table of the low digits is enough.
-- Assumes nothing.
use mathlib.Core.Path.{◌≡◌, refl, sym, ap, ap₂, ◌∙◌}
use Prim.Native.Nat.{ℕ, zero, suc, ◌+◌, ◌*◌, ◌/◌, ◌%◌, ◌^◌, ◌<◌}
use native.Mathlib.Nat.{mod-lt, suc-add, zero-mul}
use native.Mathlib.Omega.{arith}
use lib.Bits.{differ, bit_xor, xor_comm, xor_self, xor_zero_r, xor_lt, xor_shifted, shifted_half, shifted_even}
use lib.Pow.{pow_pos, split}
use Rattle.crc32.specs.Crc.{polynomial}
use Rattle.crc32.specs.Steps.{shift, shifts, turns}
use Rattle.elimination.proofs.Xor.{bit_lt, xor_half, xor_odd, xor4}

-- a single bit times a number is linear over the bit
pub bit_times : (x y p : ℕ) → x < 2 → y < 2 → differ x y * p ≡ bit_xor (x * p) (y * p)
bit_times zero y p hx hy = ap (λ (n : ℕ). bit_xor n (y * p)) (sym (zero-mul p))
bit_times (suc zero) zero p hx hy = sym (ap (bit_xor (1 * p)) (zero-mul p) ∙ xor_zero_r (1 * p))
bit_times (suc zero) (suc zero) p hx hy = zero-mul p ∙ sym (xor_self (1 * p))
bit_times (suc zero) (suc (suc y)) p hx hy = absurd (omega arith)
bit_times (suc (suc x)) y p hx hy = absurd (omega arith)

pub shift_xor : (a b : ℕ) → shift (bit_xor a b) ≡ bit_xor (shift a) (shift b)
unfolding shift
shift_xor a b =
    ap₂ (λ (x y : ℕ). bit_xor (x * polynomial) y) (xor_odd a b) (xor_half a b)
    ∙ ap (λ (x : ℕ). bit_xor x (bit_xor (a / 2) (b / 2))) (bit_times (a % 2) (b % 2) polynomial (bit_lt a) (bit_lt b))
    ∙ xor4 (a % 2 * polynomial) (b % 2 * polynomial) (a / 2) (b / 2)

pub shifts_xor : (k a b : ℕ) → shifts k (bit_xor a b) ≡ bit_xor (shifts k a) (shifts k b)
unfolding shifts
shifts_xor zero a b = refl
shifts_xor (suc k) a b = ap (shifts k) (shift_xor a b) ∙ shifts_xor k (shift a) (shift b)

pub turns_xor : (w n a b : ℕ) → turns w n (bit_xor a b) ≡ bit_xor (turns w n a) (turns w n b)
unfolding turns
turns_xor w zero a b = refl
turns_xor w (suc n) a b = ap (turns w n) (shifts_xor w a b) ∙ turns_xor w n (shifts w a) (shifts w b)

pub shifts_add : (m n a : ℕ) → shifts (m + n) a ≡ shifts n (shifts m a)
unfolding shifts
shifts_add zero n a = let e : 0 + n ≡ n = omega arith in ap (λ (k : ℕ). shifts k a) e
shifts_add (suc m) n a = ap (λ (k : ℕ). shifts k a) (suc-add m n) ∙ shifts_add m n (shift a)

pub turns_add : (w m n a : ℕ) → turns w (m + n) a ≡ turns w n (turns w m a)
unfolding turns
turns_add w zero n a = let e : 0 + n ≡ n = omega arith in ap (λ (k : ℕ). turns w k a) e
turns_add w (suc m) n a = ap (λ (k : ℕ). turns w k a) (suc-add m n) ∙ turns_add w m n (shifts w a)

-- the zero register stays zero
pub shifts_zero : (k : ℕ) → shifts k 0 ≡ 0
unfolding shifts shift
shifts_zero zero = refl
shifts_zero (suc k) = shifts_zero k

pub turns_zero : (w n : ℕ) → turns w n 0 ≡ 0
unfolding turns
turns_zero w zero = refl
turns_zero w (suc n) = ap (turns w n) (shifts_zero w) ∙ turns_zero w n

-- what stands above the k low bits only moves down
pub shift_high : (y k : ℕ) → shift (y * 2 ^ suc k) ≡ y * 2 ^ k
unfolding shift
shift_high y k = ap₂ (λ (x z : ℕ). bit_xor (x * polynomial) z) (shifted_even y k) (shifted_half y k)

pub shifts_high : (k y : ℕ) → shifts k (y * 2 ^ k) ≡ y
unfolding shifts
shifts_high zero y = omega arith
shifts_high (suc k) y = ap (shifts k) (shift_high y k) ∙ shifts_high k y

-- so k bits are a look at the k low bits, and the rest moved down
pub shifts_split : (k x : ℕ) → shifts k x ≡ bit_xor (shifts k (x % 2 ^ k)) (x / 2 ^ k)
shifts_split k x =
    ap (shifts k) (sym (xor_shifted (x / 2 ^ k) k (x % 2 ^ k) (mod-lt x (pow_pos k)) ∙ split x k))
    ∙ shifts_xor k (x / 2 ^ k * 2 ^ k) (x % 2 ^ k)
    ∙ ap (λ (y : ℕ). bit_xor y (shifts k (x % 2 ^ k))) (shifts_high k (x / 2 ^ k))
    ∙ xor_comm (x / 2 ^ k) (shifts k (x % 2 ^ k))

pub turns_split : (w n x : ℕ) → turns w (suc n) x ≡ bit_xor (turns w (suc n) (x % 2 ^ w)) (turns w n (x / 2 ^ w))
unfolding turns
turns_split w n x = ap (turns w n) (shifts_split w x) ∙ turns_xor w n (shifts w (x % 2 ^ w)) (x / 2 ^ w)

-- a round of 8 bits is two of 4
pub rounds_halves : (n x : ℕ) → turns 8 n x ≡ turns 4 (n + n) x
unfolding turns
rounds_halves zero x = refl
rounds_halves (suc n) x =
    let e : suc n + suc n ≡ suc (suc (n + n)) = omega arith in
    ap (turns 8 n) (shifts_add 4 4 x) ∙ rounds_halves n (shifts 4 (shifts 4 x)) ∙ ap (λ (m : ℕ). turns 4 m x) (sym e)

-- 32 bits in, 32 bits out
pub shift_lt : (a : ℕ) → a < 4294967296 → shift a < 4294967296
unfolding shift
shift_lt a h =
    let p : a % 2 * polynomial < 4294967296 = omega (arith, bit_lt a) in
    let q : a / 2 < 4294967296 = omega arith in
    xor_lt 32 (a % 2 * polynomial) (a / 2) p q
