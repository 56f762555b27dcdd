-- Values that are known: of nothing, and the check value of the digits 1 to 9.
-- Assumes nothing.
use mathlib.Core.Path.{◌≡◌, refl}
use mathlib.Core.List.{[], ◌∷◌}
use Rattle.crc32.specs.Crc.{bit_in, bits_in, bytes_in, crc_of}

pub crc_nothing : crc_of [] ≡ 0
unfolding crc_of bytes_in
crc_nothing = refl

pub crc_check : crc_of (49 ∷ 50 ∷ 51 ∷ 52 ∷ 53 ∷ 54 ∷ 55 ∷ 56 ∷ 57 ∷ []) ≡ 0xCBF43926
unfolding crc_of bytes_in bits_in bit_in
crc_check = refl
