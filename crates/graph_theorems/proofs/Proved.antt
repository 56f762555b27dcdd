-- Every statement of `specs/`, proved.
use Rattle.graph_theorems.specs.CacheTheorems.{CacheTheorems}
use Rattle.graph_theorems.proofs.Written.{cache_is_its_layout}
use Rattle.graph_theorems.proofs.WrittenRead.{written_is_read}
use Rattle.graph_theorems.proofs.ViewShows as ViewShows
use Rattle.graph_theorems.proofs.CallsKept.{cache_calls}
use Rattle.graph_theorems.proofs.EdgesComputed.{cache_edges}

pub cache_theorems : CacheTheorems
cache_theorems =
    record {
      layout = record { cache_is_its_layout = cache_is_its_layout };
      read_back = record { written_is_read = written_is_read };
      viewed =
          record {
            shows_what_was_checked = ViewShows.shows_what_was_checked;
            refuses_what_is_not_there = ViewShows.refuses_what_is_not_there;
            accepted_is_sound = ViewShows.accepted_is_sound;
          };
      calls = cache_calls;
      edges = cache_edges;
    }
