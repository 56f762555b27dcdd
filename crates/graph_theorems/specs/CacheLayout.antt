-- An accepted cache is the layout of the graph, entry and RNG state that are read from it, byte for byte.
use Rattle.std.specs.Prelude.{ℕ, ◌≡◌, List, Ok}
use Rattle.fields.specs.Fields.{Bytes}
use Rattle.config.specs.declared.Config.{Config}
use Rattle.graph.specs.Layout.{cache_bytes}
use Rattle.graph.specs.Cache.{Cache, read_cache}

pub record CacheLayout : Type 0 where
  pub cache_is_its_layout : (c : Config) (crc sequence count lent : ℕ) (s : List ℕ) → Bytes s → (x : Cache) → read_cache c crc sequence count lent s ≡ Ok x
      → s ≡ cache_bytes crc sequence x.header.rng_state x.header.entry x.graph
