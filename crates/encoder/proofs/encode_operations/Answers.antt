-- Each test leads where `encode_operations` does; behind them the payload is written and sealed.
use mathlib.Core.Path.{◌≡◌, sym, ap, ◌∙◌}
use Prim.Native.Nat.{ℕ, ◌+◌, ◌*◌, ◌-◌, ◌≤◌}
use native.Mathlib.Omega.{arith}
use native.Mathlib.Nat.{le_refl, mul-le-mul}
use borrow.Rule.Slice.PartMut.{put_mid, mid_len}
use mathlib.Core.List.{List}
use lib.ListN.{length}
use Rattle.fields.proofs.PlacedLaws.{placed_lent}
use Rattle.config.specs.Limits.{max_dimensions, max_batch_operations}
use Rattle.frames.proofs.Frames.{sealed_payload}
use Rattle.refusal.specs.declared.Refusal.TheVariants.{WrongLength, OutputTooShort, RequestMalformed}
use Rattle.refusal.proofs.Results.{sized_not}
use Rattle.refusal.proofs.Inverses.{handed_on}
use Rattle.meaning.specs.Encoder.{asked, put_count, tagged_bytes, payload_bytes}
use Rattle.encoder.specs.Requests.{head_length, tagged_of}
use Rattle.encoder.proofs.RequestLaws.{counting, wrong_coordinates, wrong_operation, sealed_long, sealed_short, sealed_good, ready, tells_refused, tells_sealed}
use Rattle.encoder.proofs.encode_operations.Goals as goal

pub overflow_mul-d : goal.overflow_mul-d
overflow_mul-d c =
    let k = counting c.args.shape (length c.args.operations.now) c.requires.operations_value in
    let few : c.put_count-puts.result ≤ max_batch_operations = omega (arith, c.put_count-puts.ensures.upper_bound, k.few) in
    let most : c.args.config.dimensions * c.put_count-puts.result ≤ max_dimensions * max_batch_operations = mul-le-mul c.requires.dimensions_le_max_dimensions few in
    omega arith

pub returns-then-coordinates-d : goal.returns-then-coordinates-d
returns-then-coordinates-d c =
    let a = c.args in
    let o = a.out.now in
    let t = tells_refused _ o RequestMalformed (wrong_coordinates a.shape a.config a.sequence a.operations.now a.coordinates.now a.captions.now (length o)
    (λ e. c.if-coordinates-d.true (e ∙ sym (ap (λ (p : ℕ). a.config.dimensions * p) c.put_count-puts.ensures.value)))) in
    record { value = t.0; out_after = t.1 }

pub check_operations-requires-clause-operations_len_bound : goal.check_operations-requires-clause-operations_len_bound
check_operations-requires-clause-operations_len_bound c = (counting c.args.shape (length c.args.operations.now) c.requires.operations_value).few

-- as many coordinates as the puts take
enough : (d n puts : ℕ) (words : List ℕ) → puts ≡ put_count (asked words) → n ≡ d * puts → n ≡ d * put_count (asked words)
enough d n puts words p e = e ∙ ap (λ (m : ℕ). d * m) p

pub returns-in_err-n : goal.returns-in_err-n
returns-in_err-n c =
    let a = c.args in
    let o = a.out.now in
    let e = enough a.config.dimensions _ _ a.operations.now c.put_count-puts.ensures.value c.if-coordinates-d.false in
    let t = tells_refused _ o _ (wrong_operation a.shape a.config a.sequence a.operations.now a.coordinates.now a.captions.now (length o) e _
    (sized_not (λ es. length (tagged_bytes es)) _ _ (sym c.check_operations.ensures ∙ c.in_err-n.was))) in
    record { value = handed_on _ _ c.from_residual.ensures ∙ t.0; out_after = t.1 }

pub returns-then-before-n : goal.returns-then-before-n
returns-then-before-n c =
    let a = c.args in
    let o = a.out.now in
    let B = payload_bytes a.shape a.sequence (tagged_of a.config a.operations.now a.coordinates.now a.captions.now) in
    let e = enough a.config.dimensions _ _ a.operations.now c.put_count-puts.ensures.value c.if-coordinates-d.false in
    let x = ready a.shape a.config a.sequence a.operations.now a.coordinates.now a.captions.now (length o) c.in_ok-n.n
    c.requires.dimensions_le_max_dimensions c.requires.operations_value e (sym c.check_operations.ensures ∙ c.in_ok-n.was) in
    let long = sealed_long (length o) B (head_length a.shape + c.in_ok-n.n) x.size (omega (arith, c.head-before.ensures, c.if-before-n.true)) in
    let t = tells_refused _ o WrongLength (x.sealed_is ∙ long) in
    record { value = t.0; out_after = t.1 }

pub returns-then-out-payload : goal.returns-then-out-payload
returns-then-out-payload c =
    let a = c.args in
    let o = a.out.now in
    let B = payload_bytes a.shape a.sequence (tagged_of a.config a.operations.now a.coordinates.now a.captions.now) in
    let h = c.head-before.ensures in
    let e = enough a.config.dimensions _ _ a.operations.now c.put_count-puts.ensures.value c.if-coordinates-d.false in
    let x = ready a.shape a.config a.sequence a.operations.now a.coordinates.now a.captions.now (length o) c.in_ok-n.n
    c.requires.dimensions_le_max_dimensions c.requires.operations_value e (sym c.check_operations.ensures ∙ c.in_ok-n.was) in
    let short = sealed_short (length o) B (head_length a.shape + c.in_ok-n.n) x.size (omega (arith, h, c.if-before-n.false)) (omega (arith, h, c.if-out-payload.true)) in
    let t = tells_refused _ o OutputTooShort (x.sealed_is ∙ short) in
    record { value = t.0; out_after = t.1 }

pub write_payload-requires-clause-captions_in_bounds : goal.write_payload-requires-clause-captions_in_bounds
write_payload-requires-clause-captions_in_bounds c =
    let a = c.args in
    let o = a.out.now in
    let e = enough a.config.dimensions _ _ a.operations.now c.put_count-puts.ensures.value c.if-coordinates-d.false in
    let x = ready a.shape a.config a.sequence a.operations.now a.coordinates.now a.captions.now (length o) c.in_ok-n.n
    c.requires.dimensions_le_max_dimensions c.requires.operations_value e (sym c.check_operations.ensures ∙ c.in_ok-n.was) in
    omega (arith, x.size, mid_len 8 (length o) o (le_refl (length o)), c.if-out-payload.false, c.head-before.ensures)

pub returns : goal.returns
returns c =
    let a = c.args in
    let o = a.out.now in
    let B = payload_bytes a.shape a.sequence (tagged_of a.config a.operations.now a.coordinates.now a.captions.now) in
    let N = c.head-before.result + c.in_ok-n.n in
    let h = c.head-before.ensures in
    let e = enough a.config.dimensions _ _ a.operations.now c.put_count-puts.ensures.value c.if-coordinates-d.false in
    let x = ready a.shape a.config a.sequence a.operations.now a.coordinates.now a.captions.now (length o) c.in_ok-n.n
    c.requires.dimensions_le_max_dimensions c.requires.operations_value e (sym c.check_operations.ensures ∙ c.in_ok-n.was) in
    let is : length B ≡ N = omega (arith, x.size, h) in
    let there : N + 12 ≤ length o = c.if-out-payload.false in
    let ys = c.write_payload.new.out in
    let one = placed_lent 8 B o ys (omega arith) c.write_payload.ensures in
    let two = sealed_payload o B (put_mid 8 (length o - 8) o ys) c.seal.new.out N is there one c.seal.ensures in
    let t = tells_sealed _ o c.seal.new.out B N (x.sealed_is ∙ sealed_good (length o) B N is (omega (arith, h, c.if-before-n.false)) there) is two in
    record { value = t.0; out_after = t.1 }
