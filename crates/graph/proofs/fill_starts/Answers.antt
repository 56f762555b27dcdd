-- `fill_starts` writes each node's first byte. The invariant: the starts so far, and behind them what was lent.
use Rattle.graph.proofs.Starts.{filling_more}
use Rattle.graph.proofs.fill_starts.Goals as goal

pub loop-i-preserved : goal.loop-i-preserved
loop-i-preserved c =
    let a = c.args in
    let s = a.s.now in
    let pre = c.requires in
    let l = c.loop-i in
    filling_more s a.count a.starts.now l.starts l.at l.i l.invariant c.loop-i-test.true pre.count_in_bounds c.node_end-at.result c.node_end-at.ensures
