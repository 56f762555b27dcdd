-- What holds of every graph that is accepted, in document 01's words.
use Rattle.std.specs.Prelude.{ℕ, ◌≤◌, ◌<◌, ◌≡◌, length, get_or, Option, Some}
use Rattle.rows.specs.declared.Node.{Node}
use Rattle.graph.specs.Graph.{Graph, neighbours_of, levels_of, degree_limit, min_levels, max_levels}

-- the i-th neighbour of a node at a level
abbrev pub neighbour : Graph → ℕ → ℕ → ℕ → ℕ
neighbour g node level i = get_or (neighbours_of g node level) i 0

-- there is such a node, level and place
pub record Edge (count : ℕ) (g : Graph) (node level i : ℕ) : Type 0 where
  pub node_in : node < count
  pub level_in : level < levels_of g node
  pub place_in : i < length (neighbours_of g node level)

pub record Sound (m count : ℕ) (entry : Option Node) (g : Graph) : Type 0 where
  pub counted : length g ≡ count
  pub tall : (node : ℕ) → node < count → min_levels ≤ levels_of g node
  pub low : (node : ℕ) → node < count → levels_of g node ≤ max_levels
  pub few : (node level : ℕ) → node < count → level < levels_of g node → length (neighbours_of g node level) ≤ degree_limit m level
  pub in_range : (node level i : ℕ) → Edge count g node level i → neighbour g node level i < count
  pub another : (node level i : ℕ) → Edge count g node level i → neighbour g node level i ≡ node → ⊥
  pub once : (node level i j : ℕ) → Edge count g node level i → Edge count g node level j → neighbour g node level i ≡ neighbour g node level j → i ≡ j
  pub has_level : (node level i : ℕ) → Edge count g node level i → level < levels_of g (neighbour g node level i)
  pub highest : (e : Node) → entry ≡ Some e → (node : ℕ) → node < count → levels_of g node ≤ levels_of g e.0
