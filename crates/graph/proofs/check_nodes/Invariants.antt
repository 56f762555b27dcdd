-- `check_nodes` answers `read_nodes`. The invariant is that of `check_levels`.
use Prim.Native.Nat.{◌-◌}
use lib.ListN.{length}
use Rattle.graph.specs.Cache.{read_node}
use Rattle.graph.specs.Layout.{first_node}
use Rattle.graph.proofs.Listing.{Running}
use Rattle.graph.proofs.check_nodes.Given as goal

abbrev pub invariant-loop-node : goal.invariant-loop-node
invariant-loop-node l = Running (read_node l.m l.count l.s (length l.s - 4)) (length l.s - 4) l.count first_node (length l.initial.marks) l.marks l.at l.node
