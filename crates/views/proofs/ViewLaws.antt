-- What a view's steps say: a row that is named is small, the part that is given lies in its source.
use Rattle.std.specs.Prelude.{Ok, Err}
use Prim.Native.Nat.{ℕ, ◌≤◌}
use native.Mathlib.Omega.{arith}
use mathlib.Core.Path.{◌≡◌, refl, subst}
use mathlib.Core.Bool.{Bool, true, false}
use mathlib.Core.List.{List}
use lib.Dec.{ltb, leb}
use borrow.Author.Tests.{ltb-false}
use Rattle.config.specs.Limits.{min_dimensions, max_dimensions}
use Rattle.rows.specs.Lent.{rows_lent_plain}
use Rattle.rows.specs.Rows.{row_at, RowFits}
use Rattle.rows.specs.declared.Row.{Row}
use Rattle.refusal.specs.Refusal.{Answer, ◌>>=◌, refuse}
use Rattle.refusal.specs.declared.Refusal.TheVariants.{WrongDimensions, NoSuchNode, RowDoesNotFit}
use Rattle.refusal.proofs.Results.{went, answer_injective}
use Rattle.sources.specs.Sources.{outside, Inside, shown_part}
use Rattle.sources.specs.declared.Shown.{Shown}
use Rattle.meaning.specs.Views.{row_for, part_for, view, given}
use Rattle.meaning.proofs.TableSteps.{fits_at}

pub record Small (d : ℕ) (row : Row) : Type 0 where
  pub d_small : d ≤ max_dimensions
  pub row_fits : RowFits row

pub row_small : (d : ℕ) (words : List ℕ) (count n : ℕ) (row : Row) → row_for d words count n ≡ Ok row → Small d row
unfolding row_for
row_small d words count n row e =
    let w1 = went WrongDimensions (ltb d min_dimensions) _ row e in
    let w2 = went WrongDimensions (ltb max_dimensions d) _ row w1.then in
    let w3 = went NoSuchNode (leb count n) _ row w2.then in
    let w4 = went NoSuchNode (ltb (rows_lent_plain words) count) _ row w3.then in
    record { d_small = ltb-false max_dimensions d w2.test_false; row_fits = subst RowFits (answer_injective (row_at words n) row w4.then) (fits_at words n) }

module _ (shown : Shown) (d : ℕ) (snapshot log : List ℕ) where
  part_inside : (r : Row) → Inside snapshot log (given (part_for shown d snapshot log r))
  unfolding part_for
  part_inside r = by (outside snapshot log (shown_part shown d r)) refl
    where
      by : (t : Bool) → outside snapshot log (shown_part shown d r) ≡ t → Inside snapshot log (given (refuse RowDoesNotFit t >>= λ _. Ok (shown_part shown d r)))
      by true e = omega arith
      by false e = ltb-false _ _ e

  pub given_inside : (words : List ℕ) (count n : ℕ) → Inside snapshot log (given (view shown d words count n snapshot log))
  unfolding view
  given_inside words count n = by (row_for d words count n)
    where
      by : (x : Answer Row) → Inside snapshot log (given (x >>= part_for shown d snapshot log))
      by (Ok r) = part_inside r
      by (Err why) = omega arith
