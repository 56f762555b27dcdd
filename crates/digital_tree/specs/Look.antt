-- A digital tree, over any keys, IDs of links and links in cells.
use Rattle.std.specs.Prelude.{ℕ, zero, suc, ◌+◌, ◌*◌, ◌/◌, ◌%◌, ◌^◌, ◌<◌, ◌≤◌, cond, ◌≡◌, eqb}

-- an odd multiple modulo 2 ^ 64, which is one to one
abbrev pub mixer : ℕ
mixer = 0x9e3779b97f4a7c15

unfoldable pub mixed_id : ℕ → ℕ
mixed_id id = id * mixer % 2 ^ 64

abbrev pub bit_at : ℕ → ℕ → ℕ
bit_at k f = k / 2 ^ f % 2

-- a cell between two bounds of links
pub record Inside (low high z : ℕ) : Type 0 where
  pub below : z / 2 ≤ high
  pub above : 0 < z → low < z / 2

module _ (key : ℕ → ℕ) (id_of link : ℕ → ℕ) where
  -- the cell where the way of an ID from cell z ends, after at most f links
  unfoldable pub look : ℕ → ℕ → ℕ → ℕ
  look zero z id = z
  look (suc f) z id =
      cond (eqb (link z) 0) z (cond (eqb (id_of (link z)) id) z (look f (2 * link z + bit_at (key id) f) id))

  -- every link lies between low and high, and down a link the level falls by one: the bits of the key so far are those of the
  -- link above and the branch. Cell z is a cell of link z / 2, and cell 0 a cell of no node.
  pub record Shape (low high : ℕ) (level : ℕ → ℕ) : Type 0 where
    pub top : level 0 ≡ 65
    pub owners : (z : ℕ) → 0 < link z → z / 2 ≤ high
    pub over : (z : ℕ) → 0 < link z → low < link z
    pub within : (z : ℕ) → link z ≤ high
    pub falls : (z : ℕ) → 0 < link z → suc (level (link z)) ≡ level (z / 2)
    pub bits : (z : ℕ) → 0 < link z → key (id_of (link z)) / 2 ^ level (link z) ≡ 2 * (key (id_of (z / 2)) / 2 ^ level (z / 2)) + z % 2
