-- What the loops gather, so that they have no early way out: the largest pattern without its sign, which decides both tests.
use Rattle.std.specs.Prelude.{ℕ, ◌%◌, max, Bool, cond, List, [], ◌∷◌, eqb, ltb, Err}
use Rattle.refusal.specs.Refusal.{Answer, passes}
use Rattle.refusal.specs.declared.Refusal.TheVariants.{NotFinite, VectorAllZero}

abbrev pub magnitude : ℕ → ℕ
magnitude b = b % 2147483648

-- the largest of m and the magnitudes of bs
unfoldable pub largest : ℕ → List ℕ → ℕ
largest m [] = m
largest m (b ∷ bs) = largest (max m (magnitude b)) bs

-- 2139095040 is infinity: 255 * 2 ^ 23
abbrev pub judged : Bool → ℕ → Answer (Unit {0})
judged cosine m = cond (ltb m 2139095040) (cond (eqb m 0) (cond cosine (Err VectorAllZero) passes) passes) (Err NotFinite)
