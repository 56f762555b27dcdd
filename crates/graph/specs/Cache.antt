-- A cache as it is read: every refusal in document 01's order. What is asked of levels, degrees, neighbours and the whole graph is what `Graph` asks.
use Rattle.std.specs.Prelude.{ℕ, zero, suc, ◌+◌, ◌*◌, ◌-◌, ◌/◌, not, List, [], ◌∷◌, ltb, eqb, length, Option, Ok}
use Rattle.crc32.specs.Crc.{crc_of}
use Rattle.fields.specs.Fields.{part, num, le}
use Rattle.rng.specs.Rng.{rng_state}
use Rattle.layout.specs.Layout.{crc_length}
use Rattle.config.specs.Limits.{min_cache_bytes, max_cache_bytes, max_records}
use Rattle.config.specs.Settings.{validate}
use Rattle.config.specs.declared.Config.{Config}
use Rattle.refusal.specs.Refusal.{Answer, ◌>>=◌, refuse}
use Rattle.refusal.specs.declared.Refusal.TheVariants.{LengthOutOfBounds, PastTheEnd, BytesLeftOver, WrongFileCrc, StaleCache, WrongNodeCount, WrongRngState, CountOverBytes, TooFewStarts}
use Rattle.graph.specs.Graph.{Links, Graph, neighbour_test, degree_test, levels_test, linked_test, entry_of}
use Rattle.graph.specs.Layout.{cache_magic, version, version_place, snapshot_crc_place, sequence_place, nodes_place, entry_place, rng_place, first_node}
use Rattle.rows.specs.declared.Node.{Node}
use Rattle.graph.specs.declared.CacheHeader.{CacheHeader}

-- ---- what bytes stand for, unasked
-- n numbers of 4 bytes from `at`
abbrev pub numbers_at : ℕ → List ℕ → ℕ → List ℕ
numbers_at zero s at = []
numbers_at (suc n) s at = num s at 4 ∷ numbers_at n s (at + 4)

-- n levels from `at`
abbrev pub levels_at : ℕ → List ℕ → ℕ → Links
levels_at zero s at = []
levels_at (suc n) s at = numbers_at (num s at 4) s (at + 4) ∷ levels_at n s (at + 4 + 4 * num s at 4)

-- the node whose first byte, its levels, is at `at`
unfoldable pub links_at : List ℕ → ℕ → Links
links_at s at = levels_at (num s at 1) s (at + 1)

-- ---- reading
-- something read, and where what follows begins
pub record Read (A : Type 0) : Type 0 where
  pub value : A
  pub next : ℕ

-- n things, each from where the one before it ended; `one` is told its place, and the first place is k
abbrev pub several : {A : Type 0} → (ℕ → ℕ → Answer (Read A)) → ℕ → ℕ → ℕ → Answer (Read (List A))
several one zero k at = Ok (record { value = []; next = at })
several one (suc n) k at = do
  this ← one k at
  rest ← several one n (suc k) this.next
  Ok (record { value = this.value ∷ rest.value; next = rest.next })

-- the k-th neighbour of a list that begins at `first`: 4, then 48
unfoldable pub read_neighbour : ℕ → List ℕ → ℕ → ℕ → ℕ → ℕ → ℕ → Answer (Read ℕ)
read_neighbour count s end node first k at = do
  _ ← refuse PastTheEnd (ltb end (at + 4))
  _ ← neighbour_test count node (numbers_at k s first) (num s at 4)
  Ok (record { value = num s at 4; next = at + 4 })

-- a level: 4, 47, its neighbours
unfoldable pub read_level : ℕ → ℕ → List ℕ → ℕ → ℕ → ℕ → ℕ → Answer (Read (List ℕ))
read_level m count s end node level at = do
  _ ← refuse PastTheEnd (ltb end (at + 4))
  _ ← degree_test m level (num s at 4)
  several (read_neighbour count s end node (at + 4)) (num s at 4) 0 (at + 4)

-- a node: 4, 46, its levels
unfoldable pub read_node : ℕ → ℕ → List ℕ → ℕ → ℕ → ℕ → Answer (Read Links)
read_node m count s end node at = do
  _ ← refuse PastTheEnd (ltb end (at + 1))
  _ ← levels_test (num s at 1)
  several (read_level m count s end node) (num s at 1) 0 (at + 1)

unfoldable pub read_nodes : ℕ → ℕ → List ℕ → Answer (Read Graph)
read_nodes m count s = several (read_node m count s (length s - crc_length)) count 0 first_node

-- ---- the whole
-- 1, 40, 41
unfoldable pub head_test : ℕ → ℕ → ℕ → List ℕ → Answer (Unit {0})
head_test snapshot_crc sequence count s = do
  _ ← refuse LengthOutOfBounds (ltb (length s) min_cache_bytes)
  _ ← refuse LengthOutOfBounds (ltb max_cache_bytes (length s))
  _ ← refuse StaleCache (not (eqb (num s 0 8) (le cache_magic)))
  _ ← refuse StaleCache (not (eqb (num s version_place 4) version))
  _ ← refuse StaleCache (not (eqb (num s snapshot_crc_place 4) snapshot_crc))
  _ ← refuse StaleCache (not (eqb (num s sequence_place 8) sequence))
  _ ← refuse WrongNodeCount (not (eqb (num s nodes_place 8) count))
  refuse WrongNodeCount (ltb max_records count)

-- 44, 45, 51
unfoldable pub room_test : ℕ → ℕ → ℕ → List ℕ → Answer (Unit {0})
room_test seed count starts_lent s = do
  _ ← refuse WrongRngState (not (eqb (num s rng_place 8) (rng_state seed count)))
  _ ← refuse CountOverBytes (ltb ((length s - crc_length - first_node) / 5) count)
  refuse TooFewStarts (ltb starts_lent count)

-- 6, 7, 8, 1, 40 to 45, 51
unfoldable pub read_header : Config → ℕ → ℕ → ℕ → ℕ → List ℕ → Answer CacheHeader
read_header c snapshot_crc sequence count starts_lent s = do
  _ ← validate c
  _ ← head_test snapshot_crc sequence count s
  entry ← entry_of count (num s entry_place 8)
  _ ← room_test c.seed count starts_lent s
  Ok (record { entry = entry; rng_state = num s rng_place 8 })

-- nodes in order, 16, 17
unfoldable pub read_body : ℕ → ℕ → List ℕ → Answer Graph
read_body m count s = do
  found ← read_nodes m count s
  _ ← refuse BytesLeftOver (not (eqb found.next (length s - crc_length)))
  _ ← refuse WrongFileCrc (not (eqb (crc_of (part s 0 (length s - crc_length))) (num s (length s - crc_length) 4)))
  Ok found.value

-- then 49, 50
unfoldable pub read_graph : ℕ → ℕ → Option Node → List ℕ → Answer Graph
read_graph m count entry s = do
  g ← read_body m count s
  _ ← linked_test entry g
  Ok g

pub record Cache : Type 0 where
  pub header : CacheHeader
  pub graph : Graph

-- the settings, the snapshot's CRC and sequence, and how many records it has; then how many start entries are lent
unfoldable pub read_cache : Config → ℕ → ℕ → ℕ → ℕ → List ℕ → Answer Cache
read_cache c snapshot_crc sequence count starts_lent s = do
  header ← read_header c snapshot_crc sequence count starts_lent s
  graph ← read_graph c.m count header.entry s
  Ok (record { header = header; graph = graph })
