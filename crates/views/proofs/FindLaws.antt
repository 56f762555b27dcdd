-- A scan for an ID: a live row of it ends the scan, past any other it goes on, and behind the last row there is none.
use Prim.Native.Nat.{ℕ, ◌+◌, ◌-◌, ◌≤◌, ◌<◌}
use native.Mathlib.Numerals.{add-one}
use mathlib.Core.Path.{◌≡◌, ap}
use mathlib.Core.Bool.{true, false}
use mathlib.Core.List.{List}
use Rattle.rows.specs.Rows.{row_at}
use Rattle.meaning.specs.Replay.{live_as}
use Rattle.meaning.specs.Records.{row_kind}
use Rattle.meaning.specs.Tables.{rows_from}
use Rattle.meaning.specs.Views.{node, none, find_from}
use Rattle.meaning.proofs.TableSteps.{rows_next, rows_over}

module _ (words : List ℕ) (count id i : ℕ) where
  pub find_here : i < count → live_as (row_kind 0) id (row_at words i) ≡ true → find_from id i (rows_from (count - i) i words) ≡ node i
  unfolding find_from
  find_here h e = simp (rows_next words count i h, e)

  pub find_next : i < count → live_as (row_kind 0) id (row_at words i) ≡ false
      → find_from id i (rows_from (count - i) i words) ≡ find_from id (i + 1) (rows_from (count - (i + 1)) (i + 1) words)
  unfolding find_from
  find_next h e = simp (rows_next words count i h, e, add-one)

  pub find_none : count ≤ i → find_from id i (rows_from (count - i) i words) ≡ none
  unfolding find_from
  find_none h = ap (find_from id i) (rows_over words count i h)
