-- Links in lent memory. Link u, which is one more than a node, has its ID in word 2u - 2, its packed word in word 2u - 1, and its active entry at u - 1.
use Rattle.std.specs.Prelude.{ℕ, ◌+◌, ◌*◌, ◌-◌, ◌/◌, ◌%◌, cond, List, [], ◌∷◌, ◌≡◌, get_or, set, eqb, leb}

-- how many values a link has: 17 bits
abbrev pub links : ℕ
links = 131072

-- the low part of a left link, which stands in the entry: 15 bits
abbrev pub low_links : ℕ
low_links = 32768

-- a row word's spare bits begin at bit 30, and end before bit 32
abbrev pub spare : ℕ
spare = 1073741824

abbrev pub above_spare : ℕ
above_spare = 4294967296

-- the fields of a row word: the caption's length from bit 47 on, the source in bit 62, deleted in bit 63
abbrev pub caption_unit : ℕ
caption_unit = 140737488355328

abbrev pub source_unit : ℕ
source_unit = 4611686018427387904

abbrev pub deleted_unit : ℕ
deleted_unit = 9223372036854775808

-- a row word with its spare bits 0
unfoldable pub plain_word : ℕ → ℕ
plain_word w = w / above_spare * above_spare + w % spare

-- the links that a row word and an entry hold
unfoldable pub left_of : ℕ → ℕ → ℕ
left_of w e = w / spare % 4 * low_links + e / links

unfoldable pub right_of : ℕ → ℕ
right_of e = e % links

-- a word and an entry with another link
unfoldable pub word_with_left : ℕ → ℕ → ℕ
word_with_left w u = w / above_spare * above_spare + u / low_links * spare + w % spare

unfoldable pub entry_with_left : ℕ → ℕ → ℕ
entry_with_left e u = u % low_links * links + e % links

unfoldable pub entry_with_right : ℕ → ℕ → ℕ
entry_with_right e u = e / links * links + u

-- what cell z holds: the root's link in cell 0, the links of link u in cells 2u and 2u + 1
unfoldable pub link_in : ℕ → List ℕ → List ℕ → ℕ → ℕ
link_in root words entries z =
    cond (eqb z 0) root
    (cond (eqb (z % 2) 0) (left_of (get_or words (2 * (z / 2) - 1) 0) (get_or entries (z / 2 - 1) 0)) (right_of (get_or entries (z / 2 - 1) 0)))

-- the rows of a table with no links in them
unfoldable pub plain_rows : List ℕ → List ℕ
plain_rows [] = []
plain_rows (id ∷ []) = id ∷ []
plain_rows (id ∷ word ∷ rest) = id ∷ plain_word word ∷ plain_rows rest

-- a deleted row's word: its source and its offset stay, its caption is empty
unfoldable pub deleted_word : ℕ → ℕ
deleted_word w = deleted_unit + w / source_unit % 2 * source_unit + w % caption_unit

unfoldable pub caption_length : ℕ → ℕ
caption_length w = w / caption_unit % 32768

-- a link, or 0 where its row is deleted
unfoldable pub live_link : List ℕ → ℕ → ℕ
live_link words u = cond (eqb u 0) 0 (cond (leb deleted_unit (get_or words (2 * u - 1) 0)) 0 u)

-- a table after the node of a link is marked deleted; link 0 is none
unfoldable pub marked : List ℕ → ℕ → List ℕ
marked words u = cond (eqb u 0) words (set words (2 * u - 1) (deleted_word (get_or words (2 * u - 1) 0)))

-- the caption's length that a mark takes away
unfoldable pub caption_freed : List ℕ → ℕ → ℕ
caption_freed words u = cond (eqb u 0) 0 (caption_length (get_or words (2 * u - 1) 0))

-- a table after a row is put at node n
unfoldable pub put_at : List ℕ → ℕ → ℕ → ℕ → List ℕ
put_at words n id word = set (set words (2 * n) id) (2 * n + 1) word

-- a link stored in a cell: every other cell holds what it held, and the rows are the same (no link has cell 1)
pub record Linked (root : ℕ) (words entries : List ℕ) (root' : ℕ) (words' entries' : List ℕ) (cell link : ℕ) : Type 0 where
  pub there : link_in root' words' entries' cell ≡ link
  pub others : (z : ℕ) → (z ≡ cell → ⊥) → (z ≡ 1 → ⊥) → link_in root' words' entries' z ≡ link_in root words entries z
  pub rows : plain_rows words' ≡ plain_rows words

-- a link stored in a cell with two links of its own
pub record Attached (root : ℕ) (words entries : List ℕ) (root' : ℕ) (words' entries' : List ℕ) (cell link left right : ℕ) : Type 0 where
  pub there : link_in root' words' entries' cell ≡ link
  pub to_left : link_in root' words' entries' (2 * link) ≡ left
  pub to_right : link_in root' words' entries' (2 * link + 1) ≡ right
  pub others : (z : ℕ) → (z ≡ cell → ⊥) → (z / 2 ≡ link → ⊥) → (z ≡ 1 → ⊥) → link_in root' words' entries' z ≡ link_in root words entries z
  pub rows : plain_rows words' ≡ plain_rows words
