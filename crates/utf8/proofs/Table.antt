-- Document 01's P9, computed: F4 8F BF BF is UTF-8; C0 80, ED A0 80 and F4 90 80 80 are not; empty is.
use mathlib.Core.Path.{◌≡◌, refl}
use mathlib.Core.Bool.{true, false}
use mathlib.Core.List.{[], ◌∷◌}
use Rattle.utf8.specs.Utf8.{char_length, front_in, valid_front, is_utf8}

pub the_last : is_utf8 (0xF4 ∷ 0x8F ∷ 0xBF ∷ 0xBF ∷ []) ≡ true
unfolding is_utf8 valid_front front_in char_length
the_last = refl

pub overlong : is_utf8 (0xC0 ∷ 0x80 ∷ []) ≡ false
unfolding is_utf8 valid_front front_in char_length
overlong = refl

pub surrogate : is_utf8 (0xED ∷ 0xA0 ∷ 0x80 ∷ []) ≡ false
unfolding is_utf8 valid_front front_in char_length
surrogate = refl

pub past_the_last : is_utf8 (0xF4 ∷ 0x90 ∷ 0x80 ∷ 0x80 ∷ []) ≡ false
unfolding is_utf8 valid_front front_in char_length
past_the_last = refl

pub empty : is_utf8 [] ≡ true
unfolding is_utf8 valid_front front_in char_length
empty = refl
