-- `live_nodes` lists the live nodes. The invariant: the nodes found so far, with those of the rows still to be seen, are all of them.
use Rattle.active.proofs.Listing.{Listing}
use Rattle.active.proofs.live_nodes.Given as goal

abbrev pub invariant-loop-i : goal.invariant-loop-i
invariant-loop-i l = Listing l.rows l.count l.initial.entries l.entries l.n l.i
