-- All that is proved of the cache, a file for each: `proofs/Proved.antt` has the proof of it.
use Rattle.graph_theorems.specs.CacheLayout.{CacheLayout}
use Rattle.graph_theorems.specs.CacheReadBack.{CacheReadBack}
use Rattle.graph_theorems.specs.CacheViewed.{CacheViewed}
use Rattle.graph_theorems.specs.CacheCalls.{CacheCalls}
use Rattle.graph_theorems.specs.Edges.{CacheEdges}

pub record CacheTheorems : Type 0 where
  pub layout : CacheLayout
  pub read_back : CacheReadBack
  pub viewed : CacheViewed
  pub calls : CacheCalls
  pub edges : CacheEdges
