-- What the functions behind `is_utf8` promise each other. Nothing outside this crate cites these.
use Rattle.std.specs.Prelude.{◌≡◌, cond, List, [], ◌∷◌, ℕ, suc, ◌+◌, ◌*◌, ◌≤◌, eqb, ltb, length, take, drop}
use Rattle.std.specs.Int.Bits.{bit_or}
use Rattle.utf8.specs.Utf8.{valid_front}

-- From `at` to `to` stand whole characters, so that the valid front from `at` on ends where that from `to` on does.
pub record Passes (s : List ℕ) (at to : ℕ) : Type 0 where
  pub ahead : at ≤ to
  pub inside : to ≤ length s
  pub same : at + valid_front (drop at s) ≡ to + valid_front (drop to s)

-- the bounds of the second octet, by the first: one first octet has its own
abbrev pub bound_of : ℕ → ℕ → ℕ → ℕ → ℕ
bound_of special own other a = cond (eqb a special) own other

abbrev pub low3_of : ℕ → ℕ
low3_of = bound_of 0xE0 0xA0 0x80

abbrev pub high3_of : ℕ → ℕ
high3_of = bound_of 0xED 0x9F 0xBF

abbrev pub low4_of : ℕ → ℕ
low4_of = bound_of 0xF0 0x90 0x80

abbrev pub high4_of : ℕ → ℕ
high4_of = bound_of 0xF4 0x8F 0xBF

-- all octets or-ed: below 128 only if each is
unfoldable pub or_all : List ℕ → ℕ
or_all [] = 0
or_all (b ∷ s) = bit_or b (or_all s)

-- of the eight octets from i on
abbrev pub or_eight : List ℕ → ℕ → ℕ
or_eight s i = or_all (take 8 (drop i s))

-- octets as one number, the first lowest
unfoldable pub word_of : List ℕ → ℕ
word_of [] = 0
word_of (b ∷ s) = b + 256 * word_of s

-- how many octets at the front are ASCII
unfoldable pub ascii_front : List ℕ → ℕ
ascii_front [] = 0
ascii_front (b ∷ s) = cond (ltb b 128) (suc (ascii_front s)) 0
