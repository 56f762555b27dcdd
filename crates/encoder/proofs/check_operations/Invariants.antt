-- The run from operation k on, behind the bytes so far, is the whole run: `Measuring`.
use Rattle.encoder.proofs.RunLaws.{Measuring}
use Rattle.encoder.proofs.check_operations.Given as goal

abbrev pub invariant-loop-k : goal.invariant-loop-k
invariant-loop-k l = Measuring l.config l.operations l.coordinates l.captions l.sum l.at l.k
