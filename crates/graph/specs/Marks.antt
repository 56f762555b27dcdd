-- Marks on nodes, by which a neighbour that stood before in its list is known: the mark of a list is where it begins, so no two lists share one, and no mark is ever taken off.
use Rattle.std.specs.Prelude.{ℕ, ◌+◌, ◌≤◌, ◌<◌, ◌≡◌, List, eqb, length, get_or}
use Rattle.config.specs.Limits.{max_m}
use Rattle.graph.specs.Graph.{among}

-- every mark is below this
pub record Under (marks : List ℕ) (mark : ℕ) : Type 0 where
  pub under : (x : ℕ) → get_or marks x 0 < mark

-- of the nodes below the count just those in the list bear its mark
pub record Marked (count : ℕ) (mark : ℕ) (before : List ℕ) (marks : List ℕ) : Type 0 where
  pub marked : (x : ℕ) → x < count → eqb (get_or marks x 0) mark ≡ among x before

-- what the tests of nodes and levels stand on: the body ends in the file, the next byte is in it, M is in its range, and every node has a mark, which no list from here on begins at
pub record Walks (s : List ℕ) (end m count : ℕ) (marks : List ℕ) (at : ℕ) : Type 0 where
  pub in_file : end ≤ length s
  pub in_body : at ≤ end
  pub small_m : m ≤ max_m
  pub all_marked : count ≤ length marks
  pub all_under : Under marks (at + 1)
