-- `decode` answers `decoded_at`: each return by the law of its way out.
use Rattle.std.specs.Prelude.{Option, Err}
use Prim.Native.Nat.{ℕ, ◌+◌}
use mathlib.Core.Path.{◌≡◌, refl, sym, ap, ◌∙◌}
use mathlib.Core.Bool.{Bool}
use mathlib.Core.List.{List}
use lib.ListN.{get_or}
use Rattle.refusal.specs.Refusal.{Answer}
use Rattle.refusal.specs.declared.Refusal.{Refusal}
use Rattle.refusal.proofs.Inverses.{handed_on}
use Rattle.config.specs.declared.Config.{Config}
use Rattle.layout.specs.Layout.{frame_length}
use Rattle.layout.specs.declared.Shape.{Shape}
use Rattle.rows.specs.declared.Row.{Row}
use Rattle.fields.specs.Fields.{num}
use Rattle.fields.proofs.Numbers.{num_one}
use Rattle.meaning.specs.Replay.{Frame}
use Rattle.meaning.specs.Log.{out_of_order, shape_of, operations_of, decoded_at, frame_read}
use Rattle.store_log.specs.declared.Frame as store_log
use Rattle.store_log.specs.Told.{nexts_told, operation_count, frame_told}
use Rattle.store_log.proofs.FrameLaws.{payload_body, decode_refused, decode_left_over, decode_whole}
use Rattle.store_log.proofs.decode.Goals as goal

-- what each step read, as the bytes say it
module _ (config : Config) (log : List ℕ) (previous at n : ℕ) where
  in_order : {sequence : ℕ} {passed test : Bool} → sequence ≡ num log (at + 9) 8 → passed ≡ out_of_order previous sequence → passed ≡ test
      → out_of_order previous (num log (at + 9) 8) ≡ test
  in_order read is was = ap (out_of_order previous) (sym read) ∙ sym is ∙ was

  shape_is : {shape : Shape} → shape ≡ shape_of (get_or log (at + 8) 0) → shape ≡ shape_of (num log (at + 8) 1)
  shape_is is = is ∙ ap shape_of (sym (num_one log (at + 8)))

  body : {shape : Shape} {ended is : Answer ℕ} → shape ≡ shape_of (get_or log (at + 8) 0)
      → ended ≡ nexts_told (operations_of shape config log (at + 8 + n) (get_or log (at + 8) 0) (at + 17)) → ended ≡ is
      → nexts_told (payload_body config log previous at n) ≡ is
  body {shape} read ends was =
      ap (λ (x : Shape). nexts_told (operations_of x config log (at + 8 + n) (num log (at + 8) 1) (at + 17))) (sym (shape_is read))
      ∙ ap (λ (k : ℕ). nexts_told (operations_of shape config log (at + 8 + n) k (at + 17))) (num_one log (at + 8))
      ∙ sym ends ∙ was

  refuses : {answer : Answer (Option store_log.Frame)} {why : Refusal} → answer ≡ Err why → decoded_at config log previous at n ≡ Err why
      → answer ≡ frame_told (frame_read (at + frame_length n) (decoded_at config log previous at n))
  refuses is e = is ∙ sym (ap (λ (x : Answer (Frame Row)). frame_told (frame_read (at + frame_length n) x)) e)

pub returns-in_err-next : goal.returns-in_err-next
returns-in_err-next c =
    let a = c.args in
    let order = in_order a.config a.log.now a.previous a.at a.n c.get_u64-sequence.ensures c.out_of_order.ensures c.if-out_of_order.false in
    refuses a.config a.log.now a.previous a.at a.n (handed_on _ _ c.from_residual.ensures)
    (decode_refused a.config a.log.now a.previous a.at a.n order _ (body a.config a.log.now a.previous a.at a.n c.shape_of-shape.ensures c.check_body.ensures c.in_err-next.was))

pub returns-then-next-end : goal.returns-then-next-end
returns-then-next-end c =
    let a = c.args in
    let order = in_order a.config a.log.now a.previous a.at a.n c.get_u64-sequence.ensures c.out_of_order.ensures c.if-out_of_order.false in
    refuses a.config a.log.now a.previous a.at a.n refl
    (decode_left_over a.config a.log.now a.previous a.at a.n order _ (body a.config a.log.now a.previous a.at a.n c.shape_of-shape.ensures c.check_body.ensures c.in_ok-next.was) c.if-next-end.true)

pub returns : goal.returns
returns c =
    let a = c.args in
    let order = in_order a.config a.log.now a.previous a.at a.n c.get_u64-sequence.ensures c.out_of_order.ensures c.if-out_of_order.false in
    let shape = shape_is a.config a.log.now a.previous a.at a.n c.shape_of-shape.ensures in
    let count = c.operation_count.ensures ∙ ap (λ (x : Shape). operation_count x a.log.now (a.at + 17)) shape in
    simp (c.get_u64-sequence.ensures, shape, count)
    (sym (decode_whole a.config a.log.now a.previous a.at a.n order _ (body a.config a.log.now a.previous a.at a.n c.shape_of-shape.ensures c.check_body.ensures c.in_ok-next.was) c.if-next-end.false))
