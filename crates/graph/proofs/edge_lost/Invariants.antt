-- `edge_lost` looks at every node. The invariant: no node passed has a lost edge, so the rest tells.
use Rattle.graph.specs.Decoded.{graph_at, height_at}
use Rattle.graph.specs.Layout.{first_node}
use Rattle.graph.specs.Graph.{lost_from}
use Rattle.graph.proofs.Walk.{Walking}
use Rattle.graph.proofs.edge_lost.Given as goal

abbrev pub invariant-loop-i : goal.invariant-loop-i
invariant-loop-i l = Walking (lost_from (height_at l.s l.starts) 0) (graph_at l.count l.s first_node) l.i
