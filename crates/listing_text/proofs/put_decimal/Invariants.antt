-- `put_decimal` writes the digits from the last. The invariant: those behind the digits of `rest` stand.
use Rattle.listing_text.proofs.Spelled.{Spelled}
use Rattle.listing_text.proofs.put_decimal.Given as goal

abbrev pub invariant-loop-rest : goal.invariant-loop-rest
invariant-loop-rest l = Spelled l.at l.n l.initial.out l.out l.i l.rest

abbrev pub decreases-loop-rest : goal.decreases-loop-rest
decreases-loop-rest l = l.rest
