-- `taller` answers whether a node has more levels. The invariant: none passed has, so the rest tells.
use lib.Dec.{ltb}
use lib.ListN.{length}
use Rattle.graph.specs.Decoded.{graph_at}
use Rattle.graph.specs.Layout.{first_node}
use Rattle.graph.proofs.Walk.{Walking}
use Rattle.graph.proofs.taller.Given as goal

abbrev pub invariant-loop-i : goal.invariant-loop-i
invariant-loop-i l = Walking (λ links. ltb l.height (length links)) (graph_at l.count l.s first_node) l.i
