-- Fields packed into a word, most significant first: once, over the list of their widths in bits.
use Rattle.std.specs.Prelude.{ℕ, ◌+◌, ◌*◌, ◌/◌, ◌%◌, ◌^◌, ◌<◌, List, [], ◌∷◌}

-- the bits that the widths take together
unfoldable pub total : List ℕ → ℕ
total [] = 0
total (w ∷ ws) = w + total ws

-- each value stands above the bits of the fields after it
unfoldable pub packed : List ℕ → List ℕ → ℕ
packed [] vs = 0
packed (w ∷ ws) [] = 0
packed (w ∷ ws) (v ∷ vs) = v * 2 ^ total ws + packed ws vs

-- the values of a word's fields
unfoldable pub fields : List ℕ → ℕ → List ℕ
fields [] n = []
fields (w ∷ ws) n = n / 2 ^ total ws % 2 ^ w ∷ fields ws n

-- as many values as widths, each of its width
pub data Fitting : List ℕ → List ℕ → Type 0 where
  none : Fitting [] []
  more : {w v : ℕ} {ws vs : List ℕ} → v < 2 ^ w → Fitting ws vs → Fitting (w ∷ ws) (v ∷ vs)
