-- Worked examples, by computing: a vector of d coordinates given as bytes.
-- Assumes nothing.
use mathlib.Core.Path.{◌≡◌, refl}
use mathlib.Core.Bool.{true, false}
use mathlib.Core.List.{[], ◌∷◌}
use Rattle.fields.specs.Fields.{le}
use Rattle.coordinates.specs.Coordinates.{every_finite, every_zero, vector_of, patterns, coordinates_of}
use Rattle.refusal.specs.Refusal.{number_told}

-- P11: cosine, d 1, coordinate -0
pub negative_zero_is_13 : number_told (coordinates_of true 1 (0 ∷ 0 ∷ 0 ∷ 128 ∷ [])) ≡ 13
unfolding le every_finite every_zero vector_of patterns
negative_zero_is_13 = refl

-- the same under another metric
pub negative_zero_passes : number_told (coordinates_of false 1 (0 ∷ 0 ∷ 0 ∷ 128 ∷ [])) ≡ 0
unfolding le every_finite every_zero vector_of patterns
negative_zero_passes = refl

-- the smallest number above 0 is not zero
pub subnormal_passes : number_told (coordinates_of true 1 (1 ∷ 0 ∷ 0 ∷ 0 ∷ [])) ≡ 0
unfolding le every_finite every_zero vector_of patterns
subnormal_passes = refl

-- the largest finite number, and the infinity and the NaN above it; 12 comes before 13, and the last coordinate counts
pub largest_finite_passes : number_told (coordinates_of true 1 (255 ∷ 255 ∷ 127 ∷ 127 ∷ [])) ≡ 0
unfolding le every_finite every_zero vector_of patterns
largest_finite_passes = refl

pub infinity_is_12 : number_told (coordinates_of true 2 (0 ∷ 0 ∷ 0 ∷ 0 ∷ 0 ∷ 0 ∷ 128 ∷ 255 ∷ [])) ≡ 12
unfolding le every_finite every_zero vector_of patterns
infinity_is_12 = refl

pub nan_is_12 : number_told (coordinates_of false 1 (1 ∷ 0 ∷ 128 ∷ 127 ∷ [])) ≡ 12
unfolding le every_finite every_zero vector_of patterns
nan_is_12 = refl
