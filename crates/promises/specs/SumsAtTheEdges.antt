-- Document 01's sums at the edges in a single table: P1 to P9, P11 and P12 of the store with its worked example, and P10 of the cache.
use Rattle.std.specs.Prelude.{◌≡◌}
use Rattle.refusal.specs.Refusal.{number_told}
use Rattle.config.specs.Settings.{defaults}
use Rattle.theorems.specs.Sums.{Sums}
use Rattle.graph.specs.Cache.{read_cache}
use Rattle.graph_theorems.specs.Edges.{no_levels, many_levels}

pub record SumsAtTheEdges : Type 0 where
  pub store : Sums
  -- levels 0 and 34
  pub P10-no-levels : number_told (read_cache (defaults 1) 7 5 1 1 no_levels) ≡ 46
  pub P10-34-levels : number_told (read_cache (defaults 1) 7 5 1 1 many_levels) ≡ 46
