-- The bytes of coordinates, one coordinate after the other; the patterns that were written are read again.
use Prim.Native.Nat.{ℕ, ◌+◌, ◌*◌, ◌≤◌, ◌<◌}
use mathlib.Core.Path.{◌≡◌, refl, sym, ap, ap₂, ◌∙◌}
use mathlib.Core.List.{List, [], ◌∷◌, ◌++◌, append_assoc, append-nil}
use native.Mathlib.Numerals.{add-one}
use lib.ListN.{length, take, get_or}
use lib.Seq.{take-suc, length-take-le}
use Rattle.fields.specs.Fields.{bytes}
use Rattle.config.specs.Settings.{is_cosine}
use Rattle.config.specs.declared.Config.{Config}
use Rattle.coordinates.specs.Coordinates.{vector_of, patterns, coordinate_bytes}
use Rattle.coordinates.proofs.Patterns.{length_coordinate_bytes, patterns_coordinate_bytes}
use Rattle.meaning.specs.Item.{coordinates}

coordinates_append : (a b : List ℕ) → coordinate_bytes (a ++ b) ≡ coordinate_bytes a ++ coordinate_bytes b
unfolding coordinate_bytes
coordinates_append [] b = refl
coordinates_append (x ∷ a) b = ap (λ (l : List ℕ). bytes 4 x ++ l) (coordinates_append a b) ∙ sym (append_assoc (bytes 4 x) (coordinate_bytes a) (coordinate_bytes b))

coordinates_one : (x : ℕ) → coordinate_bytes (x ∷ []) ≡ bytes 4 x
unfolding coordinate_bytes
coordinates_one x = append-nil (bytes 4 x)

pub coordinates_none : coordinate_bytes [] ≡ []
unfolding coordinate_bytes
coordinates_none = refl

pub coordinates_more : (cs : List ℕ) (i : ℕ) → i < length cs → coordinate_bytes (take i cs) ++ bytes 4 (get_or cs i 0) ≡ coordinate_bytes (take (i + 1) cs)
coordinates_more cs i h =
    sym (ap (λ (k : ℕ). coordinate_bytes (take k cs)) (add-one i)
    ∙ ap coordinate_bytes (take-suc cs i 0 h)
    ∙ coordinates_append (take i cs) (get_or cs i 0 ∷ [])
    ∙ ap (λ (l : List ℕ). coordinate_bytes (take i cs) ++ l) (coordinates_one (get_or cs i 0)))

pub coordinates_size : (cs : List ℕ) (i : ℕ) → i ≤ length cs → 4 * i ≡ length (coordinate_bytes (take i cs))
coordinates_size cs i h = sym (length_coordinate_bytes (take i cs) ∙ ap (λ (k : ℕ). 4 * k) (length-take-le i cs h))

pub vector_again : (c : Config) (coords : List ℕ) → length coords ≡ c.dimensions → ((k : ℕ) → get_or coords k 0 < 4294967296)
    → coordinates c (coordinate_bytes coords) ≡ vector_of (is_cosine c.metric) coords
unfolding coordinates
vector_again c coords n h =
    let again : patterns c.dimensions (coordinate_bytes coords) ≡ coords =
    ap₂ patterns (sym n) (sym (append-nil (coordinate_bytes coords))) ∙ patterns_coordinate_bytes coords [] h in
    ap (vector_of (is_cosine c.metric)) again
