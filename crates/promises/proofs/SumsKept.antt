-- The single table of the sums at the edges.
use mathlib.Core.Path.{ap}
use Rattle.refusal.specs.Refusal.{number_told}
use Rattle.theorems.proofs.SumsComputed.{sums}
use Rattle.graph_theorems.proofs.EdgesComputed as Cache
use Rattle.promises.specs.SumsAtTheEdges.{SumsAtTheEdges}

pub sums_at_the_edges : SumsAtTheEdges
sums_at_the_edges =
    record { store = sums; P10-no-levels = ap number_told Cache.P10-no-levels; P10-34-levels = ap number_told Cache.P10-34-levels }
