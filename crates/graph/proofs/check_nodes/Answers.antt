-- `check_nodes` answers `read_nodes`. The invariant is that of `check_levels`.
use Prim.Native.Nat.{◌-◌}
use mathlib.Core.Path.{◌∙◌}
use lib.ListN.{length}
use Rattle.refusal.proofs.Inverses.{came_to, handed_on}
use Rattle.graph.specs.Cache.{read_nodes}
use Rattle.graph.proofs.Decode.{node_next}
use Rattle.graph.proofs.Listing.{running_more, running_stop}
use Rattle.graph.proofs.check_nodes.Goals as goal

pub returns-in_err-at : goal.returns-in_err-at
unfolding read_nodes
returns-in_err-at c =
    handed_on _ _ c.from_residual.ensures ∙ running_stop c.loop-node.invariant c.loop-node-test.true (came_to _ c.check_node.ensures.value c.in_err-at.was)

pub loop-node-preserved : goal.loop-node-preserved
loop-node-preserved c =
    let a = c.args in
    let l = c.loop-node in
    let k = c.check_node in
    let told = came_to _ k.ensures.value c.in_ok-at.was in
    let w = node_next a.m a.count a.s.now (length a.s.now - 4) l.node l.at c.in_ok-at.at l.invariant.within told in
    running_more l.invariant c.loop-node-test.true told w k.auto.marks (k.ensures.by_index c.in_ok-at.at c.in_ok-at.was)
