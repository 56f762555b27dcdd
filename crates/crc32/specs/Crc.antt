-- The CRC-32 of IEEE 802.3, clause 3.2.9, one bit after the other.
-- A byte goes in lowest bit first, so the register stands reflected: its lowest bit is the coefficient of x^31,
-- a step divides by 2, and the polynomial x^32 + x^26 + x^23 + x^22 + x^16 + x^12 + x^11 + x^10 + x^8 + x^7 + x^5
-- + x^4 + x^2 + x + 1 is 0xEDB88320. The register starts as all ones, and its complement is the CRC.
-- Assumes nothing.
use Rattle.std.specs.Prelude.{List, [], ◌∷◌, ℕ, zero, suc, ◌*◌, ◌/◌, ◌%◌}
use Rattle.std.specs.Int.Bits.{differ, bit_xor}

abbrev pub polynomial : ℕ
polynomial = 0xEDB88320

abbrev pub all_ones : ℕ
all_ones = 0xFFFFFFFF

-- the bit d goes into the register c: the polynomial is taken off where the bit that leaves c differs from d
unfoldable pub bit_in : ℕ → ℕ → ℕ
bit_in c d = bit_xor (differ (c % 2) d * polynomial) (c / 2)

-- the k low bits of b go in, the lowest first
unfoldable pub bits_in : ℕ → ℕ → ℕ → ℕ
bits_in zero c b = c
bits_in (suc k) c b = bits_in k (bit_in c (b % 2)) (b / 2)

-- the bytes go in, in their order
unfoldable pub bytes_in : ℕ → List ℕ → ℕ
bytes_in c [] = c
bytes_in c (b ∷ bs) = bytes_in (bits_in 8 c b) bs

unfoldable pub crc_of : List ℕ → ℕ
crc_of bs = bit_xor (bytes_in all_ones bs) all_ones
