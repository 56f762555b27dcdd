-- The cache's layout: the bytes of a graph and of the whole file, how long they are, and where each node begins.
use Rattle.std.specs.Prelude.{ℕ, ◌+◌, ◌*◌, List, [], ◌∷◌, ◌++◌, length, Option, Some, None}
use Rattle.fields.specs.Fields.{bytes}
use Rattle.crc32.specs.Crc.{crc_of}
use Rattle.graph.specs.Graph.{Links, Graph, no_entry}
use Rattle.rows.specs.declared.Node.{Node}

-- "VECGRAPH"
abbrev pub cache_magic : List ℕ
cache_magic = 86 ∷ 69 ∷ 67 ∷ 71 ∷ 82 ∷ 65 ∷ 80 ∷ 72 ∷ []

-- these 8 bytes as one number, as the code has it
abbrev pub cache_magic_number : ℕ
cache_magic_number = 5210736590506378582

abbrev pub version : ℕ
version = 1

-- where the header's fields stand, and where the first node begins
abbrev pub version_place : ℕ
version_place = 8

abbrev pub snapshot_crc_place : ℕ
snapshot_crc_place = 12

abbrev pub sequence_place : ℕ
sequence_place = 16

abbrev pub nodes_place : ℕ
nodes_place = 24

abbrev pub entry_place : ℕ
entry_place = 32

abbrev pub rng_place : ℕ
rng_place = 40

abbrev pub first_node : ℕ
first_node = 48

-- ---- bytes
abbrev pub joined : {A : Type 0} → (A → List ℕ) → List A → List ℕ
joined f [] = []
joined f (x ∷ xs) = f x ++ joined f xs

-- u32 degree and u32 neighbours
abbrev pub level_bytes : List ℕ → List ℕ
level_bytes neighbours = bytes 4 (length neighbours) ++ joined (bytes 4) neighbours

-- u8 levels, then each level
abbrev pub node_bytes : Links → List ℕ
node_bytes links = bytes 1 (length links) ++ joined level_bytes links

abbrev pub graph_bytes : Graph → List ℕ
graph_bytes = joined node_bytes

abbrev pub entry_number : Option Node → ℕ
entry_number (Some n) = n.0
entry_number None = no_entry

abbrev pub header_bytes : ℕ → ℕ → ℕ → Option Node → ℕ → List ℕ
header_bytes snapshot_crc sequence nodes entry rng =
    cache_magic ++ bytes 4 version ++ bytes 4 snapshot_crc ++ bytes 8 sequence ++ bytes 8 nodes ++ bytes 8 (entry_number entry) ++ bytes 8 rng

abbrev pub body_bytes : ℕ → ℕ → ℕ → Option Node → Graph → List ℕ
body_bytes snapshot_crc sequence rng entry g = header_bytes snapshot_crc sequence (length g) entry rng ++ graph_bytes g

-- CRC last
abbrev pub cache_bytes : ℕ → ℕ → ℕ → Option Node → Graph → List ℕ
cache_bytes snapshot_crc sequence rng entry g =
    body_bytes snapshot_crc sequence rng entry g ++ bytes 4 (crc_of (body_bytes snapshot_crc sequence rng entry g))

-- ---- lengths
abbrev pub level_length : List ℕ → ℕ
level_length neighbours = 4 + 4 * length neighbours

abbrev pub sum : {A : Type 0} → (A → ℕ) → List A → ℕ
sum f [] = 0
sum f (x ∷ xs) = f x + sum f xs

abbrev pub links_length : Links → ℕ
links_length = sum level_length

abbrev pub node_length : Links → ℕ
node_length links = 1 + links_length links

abbrev pub graph_length : Graph → ℕ
graph_length = sum node_length

-- each node's first byte, where the first node's is `at`
abbrev pub starts_from : ℕ → Graph → List ℕ
starts_from at [] = []
starts_from at (links ∷ g) = at ∷ starts_from (at + node_length links) g
