-- The run from operation k on, behind the bytes so far, is the whole run: `Measuring`.
use mathlib.Core.Path.{◌≡◌, sym, ap₂, subst, ◌∙◌}
use Prim.Native.Nat.{ℕ, ◌+◌, ◌-◌, ◌*◌, ◌≤◌}
use native.Mathlib.Omega.{arith}
use mathlib.Core.List.{List}
use lib.ListN.{length, take, drop, get_or}
use Rattle.config.specs.declared.Config.{Config}
use Rattle.rows.specs.Rows.{operation_at}
use Rattle.rows.specs.declared.Operation.{Operation}
use Rattle.refusal.specs.Refusal.{size_told, Answer}
use Rattle.refusal.proofs.Results.{sized_not}
use Rattle.refusal.proofs.Inverses.{handed_on}
use Rattle.meaning.specs.Encoder.{Asked, encode_operation}
use Rattle.encoder.specs.Requests.{asked_at, tagged_length}
use Rattle.encoder.proofs.RunLaws.{put_at_lem, read_at, asked_at_lem, vector_there, rest_is, measured_end, measured_refused, Measuring, measuring_next}
use Rattle.encoder.proofs.check_operations.Goals as goal

-- what is answered of operation k, as the code reads it and lends it the rest of the coordinates
told_of : (g : Config) (words coords captions : List ℕ) (at k : ℕ) (o : Operation) (m : Answer ℕ) → o ≡ operation_at words k
    → m ≡ size_told tagged_length (encode_operation g (take (length coords - at) (drop at coords)) captions (record { id = o.id.0; word = get_or words (2 * k + 1) 0 }))
    → m ≡ size_told tagged_length (encode_operation g (drop at coords) captions (asked_at words k))
told_of g words coords captions at k o m u e =
    e ∙ ap₂ (λ (cs : List ℕ) (x : Asked). size_told tagged_length (encode_operation g cs captions x)) (rest_is at coords) (asked_at_lem words k o u)

pub check_operation-requires-clause-o_value : goal.check_operation-requires-clause-o_value
check_operation-requires-clause-o_value c = read_at c.args.operations.now c.loop-k.k c.operation_at-o.result c.operation_at-o.ensures

pub check_operation-requires-clause-dimensions_in_bounds : goal.check_operation-requires-clause-dimensions_in_bounds
check_operation-requires-clause-dimensions_in_bounds c =
    let l = c.loop-k in
    let words = c.args.operations.now in
    let coords = c.args.coordinates.now in
    λ t.
    subst (λ (cs : List ℕ). c.args.config.dimensions ≤ length cs) (sym (rest_is l.at coords))
    (vector_there words l.k c.loop-k-test.true c.args.config.dimensions l.at coords l.invariant.enough
    (sym (put_at_lem words l.k c.operation_at-o.result c.operation_at-o.ensures) ∙ t))

pub returns-in_err-sum : goal.returns-in_err-sum
returns-in_err-sum c =
    let a = c.args in
    let l = c.loop-k in
    let told = told_of a.config a.operations.now a.coordinates.now a.captions.now l.at l.k c.operation_at-o.result _ c.operation_at-o.ensures c.check_operation.ensures in
    let no = sized_not tagged_length _ _ (sym told ∙ c.in_err-sum.was) in
    handed_on _ _ c.from_residual.ensures
    ∙ sym (measured_refused a.config a.operations.now a.coordinates.now a.captions.now l.sum l.at l.k c.loop-k-test.true _ no) ∙ l.invariant.run

pub overflow_add-sum : goal.overflow_add-sum
overflow_add-sum c =
    let a = c.args in
    let l = c.loop-k in
    let told = told_of a.config a.operations.now a.coordinates.now a.captions.now l.at l.k c.operation_at-o.result _ c.operation_at-o.ensures c.check_operation.ensures in
    let turn = measuring_next a.config a.operations.now a.coordinates.now a.captions.now l.sum l.at l.k c.in_ok-sum.field-0 c.operation_at-o.result
    c.requires.dimensions_le_max_dimensions l.invariant c.loop-k-test.true c.operation_at-o.ensures (sym told ∙ c.in_ok-sum.was) in
    omega (arith, turn.0, l.invariant.few, l.invariant.within, c.requires.operations_len_bound)

pub loop-k-preserved : goal.loop-k-preserved
loop-k-preserved c =
    let a = c.args in
    let l = c.loop-k in
    let told = told_of a.config a.operations.now a.coordinates.now a.captions.now l.at l.k c.operation_at-o.result _ c.operation_at-o.ensures c.check_operation.ensures in
    let turn = measuring_next a.config a.operations.now a.coordinates.now a.captions.now l.sum l.at l.k c.in_ok-sum.field-0 c.operation_at-o.result
    c.requires.dimensions_le_max_dimensions l.invariant c.loop-k-test.true c.operation_at-o.ensures (sym told ∙ c.in_ok-sum.was) in
    subst (λ (n : ℕ). Measuring a.config a.operations.now a.coordinates.now a.captions.now (l.sum + c.in_ok-sum.field-0) (l.at + n) (l.k + 1)) (sym c.taken.ensures.0) turn.1

pub returns : goal.returns
returns c =
    let a = c.args in
    let l = c.loop-k in
    sym (measured_end a.config a.operations.now a.coordinates.now a.captions.now l.sum l.at l.k c.loop-k-test.false) ∙ l.invariant.run
