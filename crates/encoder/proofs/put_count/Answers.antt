-- The puts so far and those from k on are all of them.
use mathlib.Core.Path.{ap, ◌∙◌}
use native.Mathlib.Omega.{arith}
use mathlib.Core.Bool.{Bool}
use Rattle.encoder.specs.Requests.{taken}
use Rattle.encoder.proofs.RunLaws.{puts_end, put_at_lem, puts_more}
use Rattle.encoder.proofs.put_count.Goals as goal

pub loop-k-preserved : goal.loop-k-preserved
loop-k-preserved c =
    let words = c.args.operations.now in
    let l = c.loop-k in
    let one = c.taken-count.ensures.0 ∙ ap (λ (t : Bool). taken t 1) (put_at_lem words l.k c.operation_at-o.result c.operation_at-o.ensures) in
    (omega (arith, c.taken-count.ensures.1, l.invariant.0), omega (arith, l.invariant.1, puts_more words l.k c.loop-k-test.true))

pub returns-clause-value : goal.returns-clause-value
returns-clause-value c =
    let l = c.loop-k in
    omega (arith, l.invariant.1, puts_end c.args.operations.now l.k c.loop-k-test.false)
