-- A node below the count is one of the rows lent, and the line keeps its length. The measure is how many nodes are left.
use Rattle.std.proofs.Common.{length, ◌-◌, ◌≡◌, ◌≤◌}
use Rattle.listing.proofs.list_nodes.Given as goal

abbrev pub invariant-loop-i : goal.invariant-loop-i
invariant-loop-i g l = (l.i ≤ l.info.records) × (length l.line ≡ length l.initial.line)

abbrev pub decreases-loop-i : goal.decreases-loop-i
decreases-loop-i g l = l.info.records - l.i
