-- P10 of document 01, and an accepted cache beside it: each computed on bytes. Snapshot CRC 7, sequence 5, one record, the settings of `Config::new 1`.
use Rattle.std.specs.Prelude.{ℕ, ◌≡◌, List, [], ◌∷◌, Some, Ok, Err}
use Rattle.rng.specs.Rng.{rng_state}
use Rattle.config.specs.Settings.{defaults}
use Rattle.refusal.specs.declared.Refusal.TheVariants.{WrongLevels}
use Rattle.graph.specs.Layout.{cache_bytes}
use Rattle.graph.specs.Cache.{Cache, read_cache}
use Rattle.graph.specs.Told.{starts_after}

-- one node of one level without neighbours, and the same file with 0 and with 34 for its levels
abbrev pub one_level : List ℕ
one_level = 86 ∷ 69 ∷ 67 ∷ 71 ∷ 82 ∷ 65 ∷ 80 ∷ 72 ∷ 1 ∷ 0 ∷ 0 ∷ 0 ∷ 7 ∷ 0 ∷ 0 ∷ 0 ∷ 5 ∷ 0 ∷ 0 ∷ 0 ∷ 0 ∷ 0 ∷ 0 ∷ 0 ∷ 1 ∷ 0 ∷ 0 ∷ 0 ∷ 0 ∷ 0 ∷ 0 ∷ 0 ∷ 0 ∷ 0 ∷ 0 ∷ 0 ∷ 0 ∷ 0 ∷ 0 ∷ 0 ∷ 63 ∷ 124 ∷ 74 ∷ 127 ∷ 185 ∷ 121 ∷ 55 ∷ 158 ∷ 1 ∷ 0 ∷ 0 ∷ 0 ∷ 0 ∷ 244 ∷ 6 ∷ 79 ∷ 219 ∷ []

abbrev pub no_levels : List ℕ
no_levels = 86 ∷ 69 ∷ 67 ∷ 71 ∷ 82 ∷ 65 ∷ 80 ∷ 72 ∷ 1 ∷ 0 ∷ 0 ∷ 0 ∷ 7 ∷ 0 ∷ 0 ∷ 0 ∷ 5 ∷ 0 ∷ 0 ∷ 0 ∷ 0 ∷ 0 ∷ 0 ∷ 0 ∷ 1 ∷ 0 ∷ 0 ∷ 0 ∷ 0 ∷ 0 ∷ 0 ∷ 0 ∷ 0 ∷ 0 ∷ 0 ∷ 0 ∷ 0 ∷ 0 ∷ 0 ∷ 0 ∷ 63 ∷ 124 ∷ 74 ∷ 127 ∷ 185 ∷ 121 ∷ 55 ∷ 158 ∷ 0 ∷ 0 ∷ 0 ∷ 0 ∷ 0 ∷ 68 ∷ 47 ∷ 47 ∷ 230 ∷ []

abbrev pub many_levels : List ℕ
many_levels = 86 ∷ 69 ∷ 67 ∷ 71 ∷ 82 ∷ 65 ∷ 80 ∷ 72 ∷ 1 ∷ 0 ∷ 0 ∷ 0 ∷ 7 ∷ 0 ∷ 0 ∷ 0 ∷ 5 ∷ 0 ∷ 0 ∷ 0 ∷ 0 ∷ 0 ∷ 0 ∷ 0 ∷ 1 ∷ 0 ∷ 0 ∷ 0 ∷ 0 ∷ 0 ∷ 0 ∷ 0 ∷ 0 ∷ 0 ∷ 0 ∷ 0 ∷ 0 ∷ 0 ∷ 0 ∷ 0 ∷ 63 ∷ 124 ∷ 74 ∷ 127 ∷ 185 ∷ 121 ∷ 55 ∷ 158 ∷ 34 ∷ 0 ∷ 0 ∷ 0 ∷ 0 ∷ 32 ∷ 83 ∷ 46 ∷ 93 ∷ []

-- what `one_level` is read as
abbrev pub one_node : Cache
one_node = record { header = record { entry = Some (record { 0 = 0 }); rng_state = rng_state 42 1 }; graph = ([] ∷ []) ∷ [] }

pub record CacheEdges : Type 0 where
  pub P10-no-levels : read_cache (defaults 1) 7 5 1 1 no_levels ≡ Err WrongLevels
  pub P10-34-levels : read_cache (defaults 1) 7 5 1 1 many_levels ≡ Err WrongLevels
  pub one_level_accepted : read_cache (defaults 1) 7 5 1 1 one_level ≡ Ok one_node
  pub one_level_starts : starts_after 3 (Ok one_node) ≡ 48 ∷ 0 ∷ 0 ∷ []
  pub one_level_written : cache_bytes 7 5 (rng_state 42 1) (Some (record { 0 = 0 })) (([] ∷ []) ∷ []) ≡ one_level
