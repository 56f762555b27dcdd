-- `check_neighbours` answers the list. The invariant: those passed bear the list's mark, and no other node does.
use lib.ListN.{length}
use Rattle.graph.proofs.Listing.{Listing}
use Rattle.graph.proofs.check_neighbours.Given as goal

abbrev pub invariant-loop : goal.invariant-loop
invariant-loop l = Listing l.s l.end l.count l.node l.degree l.first (length l.initial.marks) l.marks l.at l.counter
