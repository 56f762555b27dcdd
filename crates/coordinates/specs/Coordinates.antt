-- The test of a vector by the bits of its coordinates: refusal 12 where one is not finite, then 13 where the metric is cosine and each is +0 or -0.
use Rattle.std.specs.Prelude.{ℕ, zero, suc, ◌/◌, ◌%◌, Bool, true, not, ◌&&◌, cond, List, [], ◌∷◌, ◌++◌, eqb, drop, Err}
use Rattle.fields.specs.Fields.{num, bytes}
use Rattle.refusal.specs.Refusal.{Answer, passes}
use Rattle.refusal.specs.declared.Refusal.TheVariants.{NotFinite, VectorAllZero}

-- the exponent's field is not all ones: neither an infinity nor a NaN
abbrev pub is_finite_bits : ℕ → Bool
is_finite_bits b = not (eqb (b / 8388608 % 256) 255)

-- every bit but the sign's is 0
abbrev pub is_zero_bits : ℕ → Bool
is_zero_bits b = eqb (b % 2147483648) 0

-- over a list of bit patterns
unfoldable pub every_finite : List ℕ → Bool
every_finite [] = true
every_finite (b ∷ bs) = is_finite_bits b && every_finite bs

unfoldable pub every_zero : List ℕ → Bool
every_zero [] = true
every_zero (b ∷ bs) = is_zero_bits b && every_zero bs

unfoldable pub vector_of : Bool → List ℕ → Answer (Unit {0})
vector_of cosine bs = cond (every_finite bs) (cond (cosine && every_zero bs) (Err VectorAllZero) passes) (Err NotFinite)

-- over bytes: d patterns of 4 bytes each, from the front
unfoldable pub patterns : ℕ → List ℕ → List ℕ
patterns zero s = []
patterns (suc d) s = num s 0 4 ∷ patterns d (drop 4 s)

-- the bytes that patterns are written as
unfoldable pub coordinate_bytes : List ℕ → List ℕ
coordinate_bytes [] = []
coordinate_bytes (b ∷ bs) = bytes 4 b ++ coordinate_bytes bs

abbrev pub coordinates_of : Bool → ℕ → List ℕ → Answer (Unit {0})
coordinates_of cosine d s = vector_of cosine (patterns d s)
