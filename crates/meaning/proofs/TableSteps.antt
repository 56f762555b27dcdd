-- A table's rows from node i on, below a count: all of them from 0 on, the row of node i and then those from i + 1 on, or none; any row of it fits.
use Prim.Native.Nat.{ℕ, suc, ◌+◌, ◌-◌, ◌≤◌, ◌<◌}
use native.Mathlib.Numerals.{add-one}
use native.Mathlib.Omega.{arith}
use mathlib.Core.Path.{◌≡◌, sym, ap, ◌∙◌}
use mathlib.Core.List.{List, [], ◌∷◌}
use Rattle.rows.specs.Rows.{row_at, RowFits}
use Rattle.rows.proofs.RowLaws.{row_of_fits}
use Rattle.meaning.specs.Tables.{rows_from, rows_in}

-- a row of any table keeps to its widths
pub fits_at : (words : List ℕ) (n : ℕ) → RowFits (row_at words n)
unfolding row_at
fits_at words n = row_of_fits _ _

pub rows_all : (words : List ℕ) (count : ℕ) → rows_from (count - 0) 0 words ≡ rows_in count words
rows_all words count =
    let e : count - 0 ≡ count = omega arith in
    ap (λ (n : ℕ). rows_from n 0 words) e

module _ (words : List ℕ) (count i : ℕ) where
  pub rows_next : i < count → rows_from (count - i) i words ≡ row_at words i ∷ rows_from (count - (i + 1)) (i + 1) words
  unfolding rows_from
  rows_next h =
      let e : count - i ≡ suc (count - (i + 1)) = omega arith in
      ap (λ (n : ℕ). rows_from n i words) e
      ∙ ap (λ (k : ℕ). row_at words i ∷ rows_from (count - (i + 1)) k words) (sym (add-one i))

  pub rows_over : count ≤ i → rows_from (count - i) i words ≡ []
  unfolding rows_from
  rows_over h =
      let e : count - i ≡ 0 = omega arith in
      ap (λ (n : ℕ). rows_from n i words) e
