-- `lost_above` looks at the levels above the lowest. The invariant: no level passed has a lost edge, so the rest tells.
use Rattle.graph.proofs.Lost.{Looking}
use Rattle.graph.proofs.lost_above.Given as goal

abbrev pub invariant-loop-level : goal.invariant-loop-level
invariant-loop-level l = Looking l.s l.starts l.start l.levels l.at l.level
