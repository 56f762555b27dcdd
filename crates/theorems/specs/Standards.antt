-- The tests behind 12, 13 and 15 are the standards' own: IEEE 754's, of the values that bit patterns stand for (std's `Float.Ieee`), and
-- RFC 3629's, by its grammar (utf8/Utf8). The contracts cite the tests by bits and bytes. And the CRC has its published check value.
use Rattle.std.specs.Prelude.{ℕ, ◌≤◌, ◌≡◌, Bool, true, ◌&&◌, cond, List, [], ◌∷◌, map, length, take, Float, Err}
use Rattle.std.specs.Float.{binary32}
use Rattle.std.specs.Float.Ieee.{of_bits, eq}
use Rattle.std.specs.Float.Ieee.Scale.{finite}
use Rattle.refusal.specs.Refusal.{Answer, passes}
use Rattle.refusal.specs.declared.Refusal.TheVariants.{NotFinite, VectorAllZero}
use Rattle.crc32.specs.Crc.{crc_of}
use Rattle.utf8.specs.Utf8.{Octets, valid_front, is_utf8}
use Rattle.coordinates.specs.Coordinates.{is_finite_bits, is_zero_bits, vector_of}

-- ---- IEEE 754
-- the value of an f32 with these bits
abbrev pub value_of : ℕ → Float
value_of b = of_bits binary32 b

-- it equals 0, as +0 and -0 do
abbrev pub is_zero : Float → Bool
is_zero x = eq x (value_of 0)

abbrev pub every_value : (Float → Bool) → List Float → Bool
every_value test [] = true
every_value test (x ∷ xs) = test x && every_value test xs

-- 12 where a value is not finite, then 13 where the metric is cosine and each value is zero
abbrev pub values_test : Bool → List Float → Answer (Unit {0})
values_test cosine xs = cond (every_value finite xs) (cond (cosine && every_value is_zero xs) (Err VectorAllZero) passes) (Err NotFinite)

-- ---- RFC 3629
-- a test is true exactly if the fact holds
pub record Decides (test : Bool) (Fact : Type 0) : Type 0 where
  pub holds : test ≡ true → Fact
  pub if_so : Fact → test ≡ true

-- the longest front of s that is whole characters has n bytes
pub record LongestFront (s : List ℕ) (n : ℕ) : Type 0 where
  pub inside : n ≤ length s
  pub octets : Octets (take n s)
  pub longest : (k : ℕ) → k ≤ length s → Octets (take k s) → k ≤ n

pub record Standards : Type 0 where
  -- one pattern of bits
  pub finite_bits : (b : ℕ) → finite (value_of b) ≡ is_finite_bits b
  pub zero_bits : (b : ℕ) → is_zero (value_of b) ≡ is_zero_bits b
  -- a vector of them
  pub vector_by_values : (cosine : Bool) (bs : List ℕ) → vector_of cosine bs ≡ values_test cosine (map value_of bs)
  -- bytes
  pub front_longest : (s : List ℕ) → LongestFront s (valid_front s)
  pub utf8_octets : (s : List ℕ) → Decides (is_utf8 s) (Octets s)
  -- of the digits 1 to 9
  pub crc_check : crc_of (49 ∷ 50 ∷ 51 ∷ 52 ∷ 53 ∷ 54 ∷ 55 ∷ 56 ∷ 57 ∷ []) ≡ 0xCBF43926
