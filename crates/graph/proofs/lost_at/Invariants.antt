-- `lost_at` answers whether a neighbour lacks the level. The invariant: no neighbour passed lacks it, so the rest tells.
use lib.Dec.{leb}
use Rattle.graph.specs.Cache.{numbers_at}
use Rattle.graph.specs.Decoded.{height_at}
use Rattle.graph.proofs.Walk.{Walking}
use Rattle.graph.proofs.lost_at.Given as goal

abbrev pub invariant-loop-i : goal.invariant-loop-i
invariant-loop-i l = Walking (λ x. leb (height_at l.s l.starts x) l.level) (numbers_at l.degree l.s l.first) l.i
