-- `fill_starts` writes each node's first byte. The invariant: the starts so far, and behind them what was lent.
use Rattle.graph.proofs.Starts.{Filling}
use Rattle.graph.proofs.fill_starts.Given as goal

abbrev pub invariant-loop-i : goal.invariant-loop-i
invariant-loop-i l = Filling l.s l.count l.initial.starts l.starts l.at l.i
