-- A graph by value, and what is accepted of it: 46, 47, 48 node by node, then 49, then 50. No byte is spoken of, so a graph can be asked before it is written.
use Rattle.std.specs.Prelude.{ℕ, suc, ◌*◌, Bool, true, false, not, cond, List, [], ◌∷◌, ltb, leb, eqb, length, get_or, take, Option, Some, None, Ok}
use Rattle.refusal.specs.Refusal.{Answer, ◌>>=◌, refuse, passes}
use Rattle.refusal.specs.declared.Refusal.TheVariants.{WrongEntry, MissingEntry, WrongLevels, WrongDegree, WrongNeighbour, EdgeToMissingLevel, EntryBelowHighest}
use Rattle.config.specs.Settings.{in_range}
use Rattle.rows.specs.declared.Node.{Node}

-- a node's neighbours at each of its levels, from level 0 up
abbrev pub Links : Type 0
Links = List (List ℕ)

-- the links of each node
abbrev pub Graph : Type 0
Graph = List (List (List ℕ))

abbrev pub links_of : Graph → ℕ → Links
links_of g node = get_or g node []

abbrev pub neighbours_of : Graph → ℕ → ℕ → List ℕ
neighbours_of g node level = get_or (links_of g node) level []

-- how many levels a node has
abbrev pub levels_of : Graph → ℕ → ℕ
levels_of g node = length (links_of g node)

-- ---- the bounds
-- levels: 1..=33
abbrev pub min_levels : ℕ
min_levels = 1

abbrev pub max_levels : ℕ
max_levels = 33

-- 2M at level 0, M above
unfoldable pub degree_limit : ℕ → ℕ → ℕ
degree_limit m level = cond (eqb level 0) (2 * m) m

-- ---- lists
abbrev pub any_of : {A : Type 0} → (A → Bool) → List A → Bool
any_of test [] = false
any_of test (x ∷ xs) = cond (test x) true (any_of test xs)

-- x is among them
abbrev pub among : ℕ → List ℕ → Bool
among x = any_of (eqb x)

-- a test of each, which is told its place; the first place is k
abbrev pub each : {A : Type 0} → (ℕ → A → Answer (Unit {0})) → ℕ → List A → Answer (Unit {0})
each test k [] = passes
each test k (x ∷ xs) = do
  _ ← test k x
  each test (suc k) xs

-- ---- node by node
-- 48: out of range, the node itself, or one of those before it
unfoldable pub neighbour_test : ℕ → ℕ → List ℕ → ℕ → Answer (Unit {0})
neighbour_test count node before x = do
  _ ← refuse WrongNeighbour (leb count x)
  _ ← refuse WrongNeighbour (eqb x node)
  refuse WrongNeighbour (among x before)

unfoldable pub degree_test : ℕ → ℕ → ℕ → Answer (Unit {0})
degree_test m level degree = refuse WrongDegree (ltb (degree_limit m level) degree)

unfoldable pub levels_test : ℕ → Answer (Unit {0})
levels_test levels = refuse WrongLevels (not (in_range levels min_levels max_levels))

abbrev pub level_test : ℕ → ℕ → ℕ → ℕ → List ℕ → Answer (Unit {0})
level_test m count node level neighbours = do
  _ ← degree_test m level (length neighbours)
  each (λ k x. neighbour_test count node (take k neighbours) x) 0 neighbours

abbrev pub node_test : ℕ → ℕ → ℕ → Links → Answer (Unit {0})
node_test m count node links = do
  _ ← levels_test (length links)
  each (level_test m count node) 0 links

abbrev pub nodes_test : ℕ → ℕ → Graph → Answer (Unit {0})
nodes_test m count g = each (node_test m count) 0 g

-- ---- the whole, where `height` is how many levels a node has
-- a neighbour at a level that it lacks
abbrev pub lost_at : (ℕ → ℕ) → ℕ → List ℕ → Bool
lost_at height level = any_of (λ x. leb (height x) level)

abbrev pub lost_from : (ℕ → ℕ) → ℕ → Links → Bool
lost_from height level [] = false
lost_from height level (neighbours ∷ above) = cond (lost_at height level neighbours) true (lost_from height (suc level) above)

abbrev pub edge_lost : (ℕ → ℕ) → Graph → Bool
edge_lost height = any_of (lost_from height 0)

-- some node has more levels than the entry
abbrev pub entry_below : (ℕ → ℕ) → Option Node → Graph → Bool
entry_below height (Some n) g = any_of (λ links. ltb (height n.0) (length links)) g
entry_below height None g = false

-- 49, 50
unfoldable pub linked_test : Option Node → Graph → Answer (Unit {0})
linked_test entry g = do
  _ ← refuse EdgeToMissingLevel (edge_lost (levels_of g) g)
  refuse EntryBelowHighest (entry_below (levels_of g) entry g)

-- all that is asked of a graph
unfoldable pub graph_test : ℕ → ℕ → Option Node → Graph → Answer (Unit {0})
graph_test m count entry g = do
  _ ← nodes_test m count g
  linked_test entry g

-- ---- the entry, as its number is written
-- all ones: none
abbrev pub no_entry : ℕ
no_entry = 0xffffffffffffffff

-- 42, 43
unfoldable pub entry_of : ℕ → ℕ → Answer (Option Node)
entry_of count n =
    cond (eqb n no_entry) (refuse MissingEntry (ltb 0 count) >>= λ _. Ok None)
    (refuse WrongEntry (leb count n) >>= λ _. Ok (Some (record { 0 = n })))
