-- What `specs/Standards.antt` says, from the laws of `coordinates`, `utf8` and `crc32`.
use Rattle.std.specs.Prelude.{Err}
use Prim.Native.Nat.{ℕ}
use mathlib.Core.Path.{◌≡◌, refl, sym, ap₂}
use mathlib.Core.Bool.{Bool, ◌&&◌, cond}
use mathlib.Core.List.{List, [], ◌∷◌, map}
use lib.Ieee.Scale.{finite}
use Rattle.refusal.specs.Refusal.{passes}
use Rattle.refusal.specs.declared.Refusal.TheVariants.{NotFinite, VectorAllZero}
use Rattle.crc32.proofs.Known.{crc_check}
use Rattle.utf8.proofs.Laws as Utf8Laws
use Rattle.coordinates.specs.Coordinates.{every_finite, every_zero, vector_of}
use Rattle.coordinates.proofs.IeeeBits.{finite_bits, zero_bits}
use Rattle.theorems.specs.Standards.{value_of, is_zero, every_value, values_test, Standards}

finite_values : (bs : List ℕ) → every_finite bs ≡ every_value finite (map value_of bs)
unfolding every_finite
finite_values [] = refl
finite_values (b ∷ bs) = ap₂ ◌&&◌ (sym (finite_bits b)) (finite_values bs)

zero_values : (bs : List ℕ) → every_zero bs ≡ every_value is_zero (map value_of bs)
unfolding every_zero
zero_values [] = refl
zero_values (b ∷ bs) = ap₂ ◌&&◌ (sym (zero_bits b)) (zero_values bs)

vector_by_values : (cosine : Bool) (bs : List ℕ) → vector_of cosine bs ≡ values_test cosine (map value_of bs)
unfolding vector_of
vector_by_values cosine bs =
    ap₂ (λ (f z : Bool). cond f (cond (cosine && z) (Err VectorAllZero) passes) (Err NotFinite)) (finite_values bs) (zero_values bs)

pub standards : Standards
standards =
    record {
      finite_bits = finite_bits;
      zero_bits = zero_bits;
      vector_by_values = vector_by_values;
      front_longest = λ s. record { inside = Utf8Laws.front_le s; octets = Utf8Laws.front_octets s; longest = Utf8Laws.front_longest s };
      utf8_octets = λ s. record { holds = Utf8Laws.utf8_octets s; if_so = Utf8Laws.octets_utf8 };
      crc_check = crc_check;
    }
