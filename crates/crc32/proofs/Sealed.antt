-- A run of bytes followed by its CRC, least byte first.
-- Assumes nothing.
use mathlib.Core.Path.{◌≡◌, refl, sym, ap, ◌∙◌}
use mathlib.Core.List.{List, [], ◌∷◌, ◌++◌}
use Prim.Native.Nat.{ℕ, zero, suc, ◌+◌, ◌*◌, ◌/◌, ◌%◌, ◌^◌, ◌<◌}
use native.Mathlib.Nat.{mod-lt, zero-lt-suc, pow-suc}
use native.Mathlib.Omega.{arith}
use lib.Arith.{lt-one}
use lib.Bits.{bit_xor, xor_comm, xor_zero_r, xor_shifted}
use lib.Pow.{split}
use lib.ListN.{length, take, drop}
use lib.Seq.{take-append_seam, drop-append_seam}
use Rattle.crc32.specs.Crc.{all_ones, bits_in, bytes_in, crc_of}
use Rattle.crc32.specs.Steps.{shift, shifts, turns}
use Rattle.elimination.proofs.Xor.{xor_assoc, xor_twice}
use Rattle.crc32.proofs.Shift.{shifts_xor, shifts_high}
use Rattle.crc32.proofs.Bytes.{bits_in_lem, bytes_in_append, crc_lt}

-- the number that bytes stand for, least byte first
unfoldable pub le : List ℕ → ℕ
le [] = 0
le (b ∷ bs) = b + 256 * le bs

-- the n low bytes of v, least first
unfoldable pub bytes : ℕ → ℕ → List ℕ
bytes zero v = []
bytes (suc n) v = (v % 256) ∷ bytes n (v / 256)

pub length_bytes : (n v : ℕ) → length (bytes n v) ≡ n
unfolding bytes
length_bytes zero v = refl
length_bytes (suc n) v = ap suc (length_bytes n (v / 256))

pub le_bytes : (n v : ℕ) → v < 256 ^ n → le (bytes n v) ≡ v
unfolding le bytes
le_bytes zero v h = sym (lt-one h)
le_bytes (suc n) v h =
    let k : v / 256 < 256 ^ n = omega (arith, pow-suc 256 n) in
    ap (λ (x : ℕ). v % 256 + 256 * x) (le_bytes n (v / 256) k) ∙ omega arith

-- n bytes go in at once, as the number that they stand for
pub bytes_in_bytes : (n c v : ℕ) → v < 256 ^ n → bytes_in c (bytes n v) ≡ turns 8 n (bit_xor c v)
unfolding bytes_in bytes turns
bytes_in_bytes zero c v h = sym (ap (bit_xor c) (lt-one h) ∙ xor_zero_r c)
bytes_in_bytes (suc n) c v h =
    let k : v / 256 < 256 ^ n = omega (arith, pow-suc 256 n) in
    let low : v % 256 < 256 = mod-lt v (zero-lt-suc 255) in
    let parts : bit_xor (v % 256) (v / 256 * 256) ≡ v =
    xor_comm (v % 256) (v / 256 * 256) ∙ xor_shifted (v / 256) 8 (v % 256) low ∙ split v 8 in
    let whole : bit_xor (shifts 8 (bit_xor c (v % 256))) (v / 256) ≡ shifts 8 (bit_xor c v) =
    ap (bit_xor (shifts 8 (bit_xor c (v % 256)))) (sym (shifts_high 8 (v / 256)))
    ∙ sym (shifts_xor 8 (bit_xor c (v % 256)) (v / 256 * 256))
    ∙ ap (shifts 8) (xor_assoc c (v % 256) (v / 256 * 256) ∙ ap (bit_xor c) parts) in
    bytes_in_bytes n (bits_in 8 c (v % 256)) (v / 256) k
    ∙ ap (λ (x : ℕ). turns 8 n (bit_xor x (v / 256))) (bits_in_lem 8 c (v % 256) low)
    ∙ ap (turns 8 n) whole

-- the four bytes of a CRC, read back
pub le_crc : (a : List ℕ) → le (bytes 4 (crc_of a)) ≡ crc_of a
le_crc a = le_bytes 4 (crc_of a) (crc_lt a)

-- the CRC of a run that ends in its own CRC is one constant
pub crc_residue : (a : List ℕ) → crc_of (a ++ bytes 4 (crc_of a)) ≡ 0x2144DF1C
unfolding crc_of turns shifts shift
crc_residue a =
    let c = bytes_in all_ones a in
    ap (λ (x : ℕ). bit_xor x all_ones)
    (bytes_in_append all_ones a (bytes 4 (crc_of a))
    ∙ bytes_in_bytes 4 c (crc_of a) (crc_lt a)
    ∙ ap (turns 8 4) (xor_twice c all_ones))

-- what stands before the last four bytes has the CRC that they say
pub sealed_crc : (a : List ℕ)
    → le (drop (length a) (a ++ bytes 4 (crc_of a))) ≡ crc_of (take (length a) (a ++ bytes 4 (crc_of a)))
sealed_crc a =
    ap le (drop-append_seam a (bytes 4 (crc_of a)))
    ∙ le_crc a
    ∙ ap crc_of (sym (take-append_seam a (bytes 4 (crc_of a))))
