-- A graph as its bytes stand for it, unasked; and what holds of a table of starts once the graph has passed 46 to 48.
use Rattle.std.specs.Prelude.{ℕ, zero, suc, ◌+◌, ◌<◌, ◌≤◌, ◌≡◌, List, [], ◌∷◌, length, get_or, Option, Some, None}
use Rattle.fields.specs.Fields.{num}
use Rattle.graph.specs.Graph.{Graph, links_of, neighbours_of}
use Rattle.graph.specs.Layout.{first_node, node_length}
use Rattle.graph.specs.Cache.{links_at}
use Rattle.rows.specs.declared.Node.{Node}

-- n nodes from `at`
abbrev pub graph_at : ℕ → List ℕ → ℕ → Graph
graph_at zero s at = []
graph_at (suc n) s at = links_at s at ∷ graph_at n s (at + node_length (links_at s at))

-- a node's levels byte, found by its start
abbrev pub height_at : List ℕ → List ℕ → ℕ → ℕ
height_at s starts x = num s (get_or starts x 0) 1

-- the starts are those of the graph that the bytes stand for; every node lies in the cache, has a level and neighbours below the count
pub record Laid (s starts : List ℕ) (count : ℕ) : Type 0 where
  pub lent : count ≤ length starts
  pub inside : (x : ℕ) → get_or starts x 0 < length s
  pub begins : (k : ℕ) → k < count → links_at s (get_or starts k 0) ≡ links_of (graph_at count s first_node) k
  pub fits : (k : ℕ) → k < count → get_or starts k 0 + node_length (links_at s (get_or starts k 0)) ≤ length s
  pub tall : (k : ℕ) → k < count → 1 ≤ height_at s starts k
  pub near : (k level i : ℕ) → k < count → get_or (neighbours_of (graph_at count s first_node) k level) i 0 < count

-- an entry that passed 42
abbrev pub EntryIn : ℕ → Option Node → Type 0
EntryIn count (Some n) = n.0 < count
EntryIn count None = Unit {0}
