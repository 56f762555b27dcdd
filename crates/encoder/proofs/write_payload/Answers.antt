-- By the shape: what is asked of the shape holds of the shape that it is.
use Rattle.std.specs.Prelude.{Ok}
use mathlib.Core.Path.{◌≡◌, subst}
use native.Mathlib.Omega.{arith}
use lib.ListN.{length}
use Rattle.layout.specs.declared.Shape.{Shape}
use Rattle.layout.specs.declared.Shape.TheVariants.{Single, Batch}
use Rattle.meaning.specs.Encoder.{words_checked}
use Rattle.encoder.proofs.RequestLaws.{counting}
use Rattle.encoder.proofs.write_payload.Goals as goal

pub write_single-requires-clause-operations_len : goal.write_single-requires-clause-operations_len
write_single-requires-clause-operations_len c =
    let a = c.args in
    let e = c.in-Single.is in
    let k = counting Single _ (subst (λ (x : Shape). words_checked x (length a.operations.now) ≡ Ok tt) e c.requires.operations_value) in
    omega (arith, k.count, k.even)

pub write_batch-requires-clause-operations_len_bound : goal.write_batch-requires-clause-operations_len_bound
write_batch-requires-clause-operations_len_bound c =
    let a = c.args in
    let e = c.in-Batch.is in
    (counting Batch _ (subst (λ (x : Shape). words_checked x (length a.operations.now) ≡ Ok tt) e c.requires.operations_value)).few
