-- What a neighbour leads to: a law for each way that the code takes through its tests.
use Rattle.std.specs.Prelude.{Ok, Err}
use Prim.Native.Nat.{ℕ, ◌+◌, ◌≤◌, ◌<◌}
use mathlib.Core.Path.{◌≡◌}
use mathlib.Core.Bool.{true, false}
use mathlib.Core.List.{List}
use borrow.Author.Tests.{lt-ltb, le-ltb, le-leb, lt-leb, eq-eqb, ne_eqb}
use Rattle.fields.specs.Fields.{num}
use Rattle.refusal.specs.declared.Refusal.TheVariants.{PastTheEnd, WrongNeighbour}
use Rattle.graph.specs.Graph.{among, neighbour_test}
use Rattle.graph.specs.Cache.{numbers_at, read_neighbour}
use Rattle.graph.specs.Told.{next_told}

module _ (count : ℕ) (s : List ℕ) (end node first k at : ℕ) where
  pub neighbour_past : end < at + 4 → next_told (read_neighbour count s end node first k at) ≡ Err PastTheEnd
  unfolding read_neighbour
  neighbour_past h = simp (lt-ltb _ _ h)

  pub neighbour_high : at + 4 ≤ end → count ≤ num s at 4 → next_told (read_neighbour count s end node first k at) ≡ Err WrongNeighbour
  unfolding read_neighbour neighbour_test
  neighbour_high h a = simp (le-ltb _ _ h, le-leb _ _ a)

  pub neighbour_self : at + 4 ≤ end → num s at 4 < count → num s at 4 ≡ node → next_told (read_neighbour count s end node first k at) ≡ Err WrongNeighbour
  unfolding read_neighbour neighbour_test
  neighbour_self h a b = simp (le-ltb _ _ h, lt-leb _ _ a, eq-eqb _ _ b)

  pub neighbour_again : at + 4 ≤ end → num s at 4 < count → (num s at 4 ≡ node → ⊥) → among (num s at 4) (numbers_at k s first) ≡ true
      → next_told (read_neighbour count s end node first k at) ≡ Err WrongNeighbour
  unfolding read_neighbour neighbour_test
  neighbour_again h a b m = simp (le-ltb _ _ h, lt-leb _ _ a, ne_eqb _ _ b, m)

  pub neighbour_good : at + 4 ≤ end → num s at 4 < count → (num s at 4 ≡ node → ⊥) → among (num s at 4) (numbers_at k s first) ≡ false
      → next_told (read_neighbour count s end node first k at) ≡ Ok (at + 4)
  unfolding read_neighbour neighbour_test
  neighbour_good h a b m = simp (le-ltb _ _ h, lt-leb _ _ a, ne_eqb _ _ b, m)
