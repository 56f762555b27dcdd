-- `check_levels` answers the levels in order. The invariant: the run from here is the whole run, and every mark is below what comes next.
use Prim.Native.Nat.{◌+◌}
use native.Mathlib.Omega.{arith}
use mathlib.Core.Path.{◌∙◌}
use Rattle.refusal.proofs.Inverses.{came_to, handed_on}
use Rattle.graph.proofs.Decode.{level_next}
use Rattle.graph.proofs.Listing.{running_more, running_stop}
use Rattle.graph.proofs.Marking.{under_more}
use Rattle.graph.proofs.check_levels.Goals as goal

pub returns-in_err-at-clause-value : goal.returns-in_err-at-clause-value
returns-in_err-at-clause-value c =
    handed_on _ _ c.from_residual.ensures ∙ running_stop c.loop-level.invariant c.loop-level-test.true (came_to _ c.check_level.ensures.value c.in_err-at.was)

pub loop-level-preserved : goal.loop-level-preserved
loop-level-preserved c =
    let a = c.args in
    let l = c.loop-level in
    let k = c.check_level in
    let told = came_to _ k.ensures.value c.in_ok-at.was in
    let w = level_next a.m a.count a.s.now a.end a.node l.level l.at c.in_ok-at.at l.invariant.within told in
    running_more l.invariant c.loop-level-test.true told w.1 k.auto.marks (under_more _ (l.at + 5) (c.in_ok-at.at + 1) (omega arith) k.ensures.under)
