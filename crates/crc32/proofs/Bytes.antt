-- Bytes into the register: their order, their linearity, and the CRC's bound.
-- Assumes nothing.
use mathlib.Core.Path.{◌≡◌, refl, sym, ap, ap₂, ◌∙◌}
use mathlib.Core.List.{List, [], ◌∷◌, ◌++◌}
use Prim.Native.Nat.{ℕ, zero, suc, ◌*◌, ◌/◌, ◌%◌, ◌^◌, ◌<◌}
use native.Mathlib.Omega.{arith}
use native.Mathlib.Nat.{pow-suc}
use lib.Bits.{differ, bit_xor, xor_lt, xor_zero_r}
use lib.ListN.{length}
use lib.Arith.{lt-one}
use lib.Pow.{pow_pos}
use Rattle.crc32.specs.Crc.{polynomial, all_ones, bit_in, bits_in, bytes_in, crc_of}
use Rattle.crc32.specs.Steps.{shift, shifts, turns}
use Rattle.elimination.proofs.Xor.{bit_lt, differ_lt, differ4, xor_half, xor_odd, xor_assoc, xor4}
use Rattle.crc32.proofs.Shift.{bit_times}

-- the bytes of two parts go in one part after the other
pub bytes_in_append : (c : ℕ) (a b : List ℕ) → bytes_in c (a ++ b) ≡ bytes_in (bytes_in c a) b
unfolding bytes_in
bytes_in_append c [] b = refl
bytes_in_append c (x ∷ a) b = bytes_in_append (bits_in 8 c x) a b

pub crc_append : (a b : List ℕ) → crc_of (a ++ b) ≡ bit_xor (bytes_in (bytes_in all_ones a) b) all_ones
unfolding crc_of
crc_append a b = ap (λ (x : ℕ). bit_xor x all_ones) (bytes_in_append all_ones a b)

pub bit_in_lt : (c d : ℕ) → c < 4294967296 → d < 2 → bit_in c d < 4294967296
unfolding bit_in
bit_in_lt c d h k =
    let p : differ (c % 2) d * polynomial < 4294967296 = omega (arith, differ_lt (c % 2) d (bit_lt c) k) in
    let q : c / 2 < 4294967296 = omega arith in
    xor_lt 32 (differ (c % 2) d * polynomial) (c / 2) p q

pub bits_in_lt : (k c b : ℕ) → c < 4294967296 → bits_in k c b < 4294967296
unfolding bits_in
bits_in_lt zero c b h = h
bits_in_lt (suc k) c b h = bits_in_lt k (bit_in c (b % 2)) (b / 2) (bit_in_lt c (b % 2) h (bit_lt b))

pub bytes_in_lt : (c : ℕ) (bs : List ℕ) → c < 4294967296 → bytes_in c bs < 4294967296
unfolding bytes_in
bytes_in_lt c [] h = h
bytes_in_lt c (b ∷ bs) h = bytes_in_lt (bits_in 8 c b) bs (bits_in_lt 8 c b h)

-- of any list: no element need be below 256
pub crc_lt : (bs : List ℕ) → crc_of bs < 4294967296
unfolding crc_of
crc_lt bs = xor_lt 32 (bytes_in all_ones bs) all_ones (bytes_in_lt all_ones bs (omega arith)) (omega arith)

-- bits into the xor of two registers: the xor of the bits into each
pub bit_in_both : (x y p q : ℕ) → p < 2 → q < 2 → bit_in (bit_xor x y) (differ p q) ≡ bit_xor (bit_in x p) (bit_in y q)
unfolding bit_in
bit_in_both x y p q hp hq =
    ap₂ (λ (d h : ℕ). bit_xor (differ d (differ p q) * polynomial) h) (xor_odd x y) (xor_half x y)
    ∙ ap (λ (d : ℕ). bit_xor (d * polynomial) (bit_xor (x / 2) (y / 2))) (differ4 (x % 2) (y % 2) p q (bit_lt x) (bit_lt y) hp hq)
    ∙ ap (λ (d : ℕ). bit_xor d (bit_xor (x / 2) (y / 2)))
    (bit_times (differ (x % 2) p) (differ (y % 2) q) polynomial (differ_lt (x % 2) p (bit_lt x) hp) (differ_lt (y % 2) q (bit_lt y) hq))
    ∙ xor4 (differ (x % 2) p * polynomial) (differ (y % 2) q * polynomial) (x / 2) (y / 2)

pub bits_in_both : (k x y a b : ℕ) → bits_in k (bit_xor x y) (bit_xor a b) ≡ bit_xor (bits_in k x a) (bits_in k y b)
unfolding bits_in
bits_in_both zero x y a b = refl
bits_in_both (suc k) x y a b =
    ap₂ (λ (d h : ℕ). bits_in k (bit_in (bit_xor x y) d) h) (xor_odd a b) (xor_half a b)
    ∙ ap (λ (c : ℕ). bits_in k c (bit_xor (a / 2) (b / 2))) (bit_in_both x y (a % 2) (b % 2) (bit_lt a) (bit_lt b))
    ∙ bits_in_both k (bit_in x (a % 2)) (bit_in y (b % 2)) (a / 2) (b / 2)

-- the bits of a number below 2 ^ k may go in at once
pub bits_in_lem : (k c b : ℕ) → b < 2 ^ k → bits_in k c b ≡ shifts k (bit_xor c b)
unfolding bits_in shifts bit_in shift
bits_in_lem zero c b h = sym (ap (bit_xor c) (lt-one h) ∙ xor_zero_r c)
bits_in_lem (suc k) c b h =
    let half : b / 2 < 2 ^ k = omega (arith, pow-suc 2 k) in
    bits_in_lem k (bit_in c (b % 2)) (b / 2) half
    ∙ ap (shifts k)
    (xor_assoc (differ (c % 2) (b % 2) * polynomial) (c / 2) (b / 2)
    ∙ sym (ap₂ (λ (x y : ℕ). bit_xor (x * polynomial) y) (xor_odd c b) (xor_half c b)))

pub bits_in_zero : (k c : ℕ) → bits_in k c 0 ≡ shifts k c
bits_in_zero k c = bits_in_lem k c 0 (pow_pos k) ∙ ap (shifts k) (xor_zero_r c)

-- a part x of the register goes on as if zero bits came in
pub bits_in_xor : (k x y b : ℕ) → bits_in k (bit_xor x y) b ≡ bit_xor (shifts k x) (bits_in k y b)
bits_in_xor k x y b = bits_in_both k x y 0 b ∙ ap (λ (z : ℕ). bit_xor z (bits_in k y b)) (bits_in_zero k x)

pub bytes_in_xor : (x y : ℕ) (bs : List ℕ) → bytes_in (bit_xor x y) bs ≡ bit_xor (turns 8 (length bs) x) (bytes_in y bs)
unfolding bytes_in turns
bytes_in_xor x y [] = refl
bytes_in_xor x y (b ∷ bs) = ap (λ (c : ℕ). bytes_in c bs) (bits_in_xor 8 x y b) ∙ bytes_in_xor (shifts 8 x) (bits_in 8 y b) bs

-- so the register at the start may be put in at the end
pub bytes_in_start : (c : ℕ) (bs : List ℕ) → bytes_in c bs ≡ bit_xor (turns 8 (length bs) c) (bytes_in 0 bs)
bytes_in_start c bs = ap (λ (x : ℕ). bytes_in x bs) (sym (xor_zero_r c)) ∙ bytes_in_xor c 0 bs
