-- A running sum, which is the register that the first bytes of a file leave, and how long a piece is.
use Rattle.std.specs.Prelude.{List, ◌≡◌, ℕ, take}
use Rattle.crc32.specs.Crc.{all_ones, bytes_in}
use Rattle.pieces.specs.declared.Sum.{Sum}

abbrev pub Sums : List ℕ → Sum → Type 0
Sums s sum = sum.register ≡ bytes_in all_ones (take sum.upto s)

abbrev pub piece_length : ℕ
piece_length = 131072

abbrev pub stretch_length : ℕ
stretch_length = 32768
