-- A turn leaves one node less: the count is a bound on i, and the test says that i is below it.
use native.Mathlib.Omega.{arith}
use Rattle.listing.proofs.list_nodes.Goals as goal

pub loop-i-smaller : goal.loop-i-smaller
loop-i-smaller g c = omega arith
