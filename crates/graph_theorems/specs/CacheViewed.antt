-- Of an accepted cache with the starts that reading left, the view gives at each level of each node the neighbours that were checked, and refuses what is not there.
use Rattle.std.specs.Prelude.{ℕ, ◌*◌, ◌≤◌, ◌<◌, ◌≡◌, List, length, Ok, Err}
use Rattle.config.specs.declared.Config.{Config}
use Rattle.refusal.specs.Refusal.{Answer}
use Rattle.refusal.specs.declared.Refusal.TheVariants.{NoSuchNode}
use Rattle.graph.specs.Graph.{levels_of, neighbours_of}
use Rattle.graph.specs.Cache.{Cache, numbers_at, read_cache}
use Rattle.graph.specs.Neighbours.{neighbours}
use Rattle.graph.specs.declared.CachePart.{CachePart}
use Rattle.graph.specs.Sound.{Sound}
use Rattle.graph.specs.Told.{starts_after}

-- a part is given, and its bytes stand for these neighbours
pub record Shows (s : List ℕ) (r : Answer CachePart) (wanted : List ℕ) : Type 0 where
  pub shown : CachePart
  pub is : r ≡ Ok shown
  pub size_is : shown.size ≡ 4 * length wanted
  pub numbers : numbers_at (length wanted) s shown.at ≡ wanted

pub record CacheViewed : Type 0 where
  -- each level of each node: the neighbours that were checked
  pub shows_what_was_checked : (c : Config) (crc sequence count lent : ℕ) (s : List ℕ) (x : Cache) → read_cache c crc sequence count lent s ≡ Ok x
      → (node level : ℕ) → node < count → level < levels_of x.graph node
      → Shows s (neighbours s (starts_after lent (Ok x)) count node level) (neighbours_of x.graph node level)
  -- a level that a node lacks: 30
  pub refuses_what_is_not_there : (c : Config) (crc sequence count lent : ℕ) (s : List ℕ) (x : Cache) → read_cache c crc sequence count lent s ≡ Ok x
      → (node level : ℕ) → node < count → levels_of x.graph node ≤ level
      → neighbours s (starts_after lent (Ok x)) count node level ≡ Err NoSuchNode
  -- and what was checked is sound: in range, another node, once, at a level that it has; the entry is at the highest level
  pub accepted_is_sound : (c : Config) (crc sequence count lent : ℕ) (s : List ℕ) (x : Cache) → read_cache c crc sequence count lent s ≡ Ok x
      → Sound c.m count x.header.entry x.graph
