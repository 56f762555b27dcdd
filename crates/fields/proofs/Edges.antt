-- Worked examples, by computing.
-- Assumes nothing.
use mathlib.Core.Path.{◌≡◌, refl}
use mathlib.Core.List.{[], ◌∷◌}
use Rattle.fields.specs.Fields.{le, num, bytes, field32}
use Rattle.std.specs.Prelude.{Some, None}

-- the least significant byte comes first, read and written
pub read_0x12345678 : num (9 ∷ 120 ∷ 86 ∷ 52 ∷ 18 ∷ []) 1 4 ≡ 305419896
unfolding le
read_0x12345678 = refl

pub written_0x12345678 : bytes 4 305419896 ≡ 120 ∷ 86 ∷ 52 ∷ 18 ∷ []
unfolding bytes
written_0x12345678 = refl

-- a field may end where the list does, and not one byte behind; nor may a cursor near 2 ^ 64 wrap
pub read_to_the_end : field32 (9 ∷ 1 ∷ 0 ∷ 0 ∷ 0 ∷ []) 1 ≡ Some (1, 5)
unfolding field32 le
read_to_the_end = refl

pub one_byte_too_few : field32 (9 ∷ 1 ∷ 0 ∷ 0 ∷ []) 1 ≡ None
unfolding field32 le
one_byte_too_few = refl

pub cursor_near_the_top : field32 (1 ∷ 0 ∷ 0 ∷ 0 ∷ []) 18446744073709551615 ≡ None
unfolding field32 le
cursor_near_the_top = refl
