-- `digit_count` takes a digit off at each turn. The invariant: with the digits that are left it has counted one too many.
use Prim.Native.Nat.{◌+◌, ◌≤◌}
use mathlib.Core.Path.{◌≡◌}
use lib.ListN.{length}
use Rattle.listing_text.specs.Decimal.{decimal}
use Rattle.listing_text.proofs.digit_count.Given as goal

abbrev pub invariant-loop-rest : goal.invariant-loop-rest
invariant-loop-rest l = (l.count + length (decimal l.rest) ≡ 1 + length (decimal l.n)) × (l.count + l.rest ≤ 1 + l.n)

abbrev pub decreases-loop-rest : goal.decreases-loop-rest
decreases-loop-rest l = l.rest
