-- What is written stands, and what is left follows: `Left`.
use Rattle.encoder.proofs.RunLaws.{Left}
use Rattle.encoder.proofs.write_operations.Given as goal

abbrev pub invariant-loop-k : goal.invariant-loop-k
invariant-loop-k l = Left l.config l.operations l.coordinates l.captions l.initial.out l.out l.at l.from l.k
