-- What the tables hold: the register after a number of zero bits.
-- Assumes nothing.
use Rattle.std.specs.Prelude.{◌≡◌, List, ℕ, zero, suc, ◌+◌, ◌*◌, ◌/◌, ◌%◌, ◌^◌, ◌<◌, get_or}
use Rattle.std.specs.Int.Bits.{bit_xor}
use Rattle.crc32.specs.Crc.{polynomial}

-- a zero bit goes in
unfoldable pub shift : ℕ → ℕ
shift c = bit_xor (c % 2 * polynomial) (c / 2)

-- k zero bits go in
unfoldable pub shifts : ℕ → ℕ → ℕ
shifts zero c = c
shifts (suc k) c = shifts k (shift c)

-- n times w zero bits go in
unfoldable pub turns : ℕ → ℕ → ℕ → ℕ
turns w zero c = c
turns w (suc n) c = turns w n (shifts w c)

-- n zero bytes go in
abbrev pub rounds : ℕ → ℕ → ℕ
rounds n c = turns 8 n c

-- t has n rows, one for each number of w-bit digits that follow: row j has, for each digit, the register after j + 1 times w bits
pub record Digits (w n : ℕ) (t : List ℕ) : Type 0 where
  pub entry : (j k : ℕ) → j < n → k < 2 ^ w → get_or t (j * 2 ^ w + k) 0 ≡ turns w (suc j) k

-- n rows of 256: entry j * 256 + k is the byte k followed by j zero bytes, rounds (suc j) k
abbrev pub Rows : ℕ → List ℕ → Type 0
Rows n t = Digits 8 n t
