-- The rows of a table with the tree that finds them.
use Rattle.std.specs.Prelude.{ℕ, suc, ◌+◌, ◌*◌, ◌-◌, ◌/◌, ◌<◌, ◌≤◌, Bool, true, false, cond, List, ◌≡◌, length, get_or, eqb, ltb, leb}
use Rattle.config.specs.Limits.{max_records}
use Rattle.tree.specs.declared.Tree.{Tree}
use Rattle.links.specs.Links.{deleted_unit, link_in, plain_rows, plain_word, put_at, marked, caption_freed}
use Rattle.digital_tree.specs.Look.{mixed_id, look, Shape}

-- the ID of a link's row, and that the row is live, in a table of plain rows
abbrev pub id_of : List ℕ → ℕ → ℕ
id_of rows u = get_or rows (2 * u - 2) 0

abbrev pub Live : List ℕ → ℕ → Type 0
Live rows u = get_or rows (2 * u - 1) 0 < deleted_unit

-- of the first n rows none is live under this ID
abbrev pub Absent : List ℕ → ℕ → ℕ → Type 0
Absent rows n id = (u : ℕ) → 0 < u → u ≤ n → Live rows u → id_of rows u ≡ id → ⊥

-- what a search must answer: the link of the live row of this ID, or 0 where there is none
pub data Finds (rows : List ℕ) (n id : ℕ) : ℕ → Type 0 where
  found : {u : ℕ} → 0 < u → u ≤ n → Live rows u → id_of rows u ≡ id → Finds rows n id u
  none : Absent rows n id → Finds rows n id 0

-- no ID is live twice
abbrev pub Once : List ℕ → ℕ → Type 0
Once rows n = (u v : ℕ) → 0 < u → u < v → v ≤ n → Live rows u → Live rows v → id_of rows u ≡ id_of rows v → ⊥

-- the IDs of the first n rows rise
abbrev pub Rising : List ℕ → ℕ → Type 0
Rising rows n = (u v : ℕ) → 0 < u → u < v → v ≤ n → id_of rows u < id_of rows v

-- k of the first n rows, whose IDs rise, have a smaller ID
pub record Bound (rows : List ℕ) (n id k : ℕ) : Type 0 where
  pub up_to : k ≤ n
  pub below : (u : ℕ) → 0 < u → u ≤ k → id_of rows u < id
  pub from : (u : ℕ) → k < u → u ≤ n → id ≤ id_of rows u

-- the cells of the tree: cell 0, and those of the links above `sorted`
unfoldable pub in_tree : Tree → ℕ → Bool
in_tree t z = cond (eqb z 0) true (cond (ltb t.sorted (z / 2)) (leb (z / 2) t.count) false)

-- the links of the tree
unfoldable pub link_of : Tree → List ℕ → List ℕ → ℕ → ℕ
link_of t words entries z = cond (in_tree t z) (link_in t.root words entries z) 0

-- the cell where the way of an ID ends
unfoldable pub cell_of : Tree → List ℕ → List ℕ → ℕ → ℕ
cell_of t words entries id = look mixed_id (id_of (plain_rows words)) (link_of t words entries) 64 0 id

-- a table whose first rows rise, and whose other live rows are where the way of their ID ends
pub record Grown (t : Tree) (words entries : List ℕ) : Type 0 where
  pub words_lent : 2 * t.count ≤ length words
  pub entries_lent : t.count ≤ length entries
  pub few : t.count ≤ max_records
  pub front : t.sorted ≤ t.count
  pub rising : Rising (plain_rows words) t.sorted
  pub once : Once (plain_rows words) t.count
  pub level : ℕ → ℕ
  pub shape : Shape mixed_id (id_of (plain_rows words)) (link_of t words entries) t.sorted t.count level
  pub complete : (u : ℕ) → t.sorted < u → u ≤ t.count → Live (plain_rows words) u → link_of t words entries (cell_of t words entries (id_of (plain_rows words) u)) ≡ u

-- there is room for a row more
pub record Room (t : Tree) (words entries : List ℕ) : Type 0 where
  pub words_room : 2 * t.count + 2 ≤ length words
  pub entries_room : t.count < length entries
  pub fewer : t.count < max_records

-- whether a row of this ID would extend the front: it has every row, and the last one's ID is smaller
pub record Extends (rows : List ℕ) (t : Tree) (id : ℕ) : Type 0 where
  pub whole : t.count ≤ t.sorted
  pub over : 0 < t.count → id_of rows t.count < id

abbrev pub Rises : List ℕ → Tree → ℕ → Bool → Type 0
Rises rows t id true = Extends rows t id
Rises rows t id false = 0 < t.count

-- a link's left (0) or right (1) link; link 0 has none
abbrev pub child_of : Tree → List ℕ → List ℕ → ℕ → ℕ → ℕ
child_of t words entries u side = cond (eqb u 0) 0 (link_in t.root words entries (2 * u + side))

-- the row after the last one in a cell, with the links of the node that was there
pub record Spliced (t : Tree) (words entries : List ℕ) (root' : ℕ) (words' entries' : List ℕ) (cell id word : ℕ) : Type 0 where
  pub there : link_in root' words' entries' cell ≡ suc t.count
  pub children : (b : ℕ) → b < 2 → link_in root' words' entries' (2 * suc t.count + b) ≡ child_of t words entries (link_in t.root words entries cell) b
  pub others : (z : ℕ) → (z ≡ cell → ⊥) → (z ≡ 1 → ⊥) → z / 2 ≤ t.count → link_in root' words' entries' z ≡ link_in t.root words entries z
  pub rows : plain_rows words' ≡ put_at (plain_rows words) t.count id (plain_word word)

-- a row appended to a table and its tree
pub record Added (t : Tree) (words entries : List ℕ) (t' : Tree) (words' entries' : List ℕ) (id word : ℕ) : Type 0 where
  pub grown : Grown t' words' entries'
  pub rows : plain_rows words' ≡ put_at (plain_rows words) t.count id (plain_word word)
  pub counted : t'.count ≡ t.count + 1

-- the node of a link marked deleted: what was a tree is one still, the ways of all IDs end where they did, and of the ID that was found none is live
pub record Marked (words words' : List ℕ) (link length : ℕ) : Type 0 where
  pub rows : plain_rows words' ≡ marked (plain_rows words) link
  pub freed : length ≡ caption_freed (plain_rows words) link
  pub grown : (t : Tree) (entries : List ℕ) → Grown t words entries → Grown t words' entries
  pub cells : (t : Tree) (entries : List ℕ) (id : ℕ) → cell_of t words' entries id ≡ cell_of t words entries id
  pub absent : (n id : ℕ) → Once (plain_rows words) n → Finds (plain_rows words) n id link → Absent (plain_rows words') n id

-- a row that was in the table, now in its tree
pub record TakenUp (t : Tree) (words : List ℕ) (t' : Tree) (words' entries' : List ℕ) : Type 0 where
  pub grown : Grown t' words' entries'
  pub rows : plain_rows words' ≡ plain_rows words
  pub counted : t'.count ≡ t.count + 1
