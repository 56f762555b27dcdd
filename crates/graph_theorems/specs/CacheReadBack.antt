-- A cache that is written is read: the layout of a graph that is accepted by value is an accepted cache, with the same entry, RNG state, levels and neighbours.
use Rattle.std.specs.Prelude.{ℕ, ◌+◌, ◌^◌, ◌≤◌, ◌<◌, ◌≡◌, length, Option, Ok}
use Rattle.rng.specs.Rng.{rng_state}
use Rattle.layout.specs.Layout.{crc_length}
use Rattle.config.specs.Limits.{max_cache_bytes, max_records}
use Rattle.config.specs.Settings.{validate}
use Rattle.config.specs.declared.Config.{Config}
use Rattle.refusal.specs.Refusal.{passes}
use Rattle.graph.specs.Graph.{Graph, graph_test, entry_of}
use Rattle.graph.specs.Layout.{first_node, graph_length, entry_number, cache_bytes}
use Rattle.graph.specs.Cache.{read_cache}
use Rattle.rows.specs.declared.Node.{Node}

-- what a graph and what is said of its snapshot must be, for a cache to be written
pub record Writable (c : Config) (crc sequence count lent : ℕ) (entry : Option Node) (g : Graph) : Type 0 where
  pub settings : validate c ≡ passes
  pub sized : length g ≡ count
  pub few : count ≤ max_records
  pub enough : count ≤ lent
  pub crc_fits : crc < 256 ^ 4
  pub sequence_fits : sequence < 256 ^ 8
  pub entered : entry_of count (entry_number entry) ≡ Ok entry
  pub tested : graph_test c.m count entry g ≡ passes
  pub short : first_node + graph_length g + crc_length ≤ max_cache_bytes

pub record CacheReadBack : Type 0 where
  pub written_is_read : (c : Config) (crc sequence count lent : ℕ) (entry : Option Node) (g : Graph) → Writable c crc sequence count lent entry g
      → read_cache c crc sequence count lent (cache_bytes crc sequence (rng_state c.seed count) entry g)
      ≡ Ok (record { header = record { entry = entry; rng_state = rng_state c.seed count }; graph = g })
