-- `check_operations` answers where `operations_at` ends: those that are left end where all end.
use Prim.Native.Nat.{ℕ, ◌+◌, ◌-◌}
use mathlib.Core.Path.{◌≡◌, sym, ap, ◌∙◌}
use lib.ListN.{get_or}
use Rattle.refusal.proofs.Inverses.{handed_on}
use Rattle.fields.proofs.Numbers.{num_one}
use Rattle.meaning.specs.Log.{operations_at}
use Rattle.store_log.specs.Told.{nexts_told}
use Rattle.store_log.proofs.OperationLaws.{no_more, after_one, turn_past, turn_on, next_within}
use native.Mathlib.Omega.{arith}
use Rattle.store_log.proofs.check_operations.Goals as goal

pub returns-then-end-first : goal.returns-then-end-first
returns-then-end-first c =
    let l = c.loop in
    let a = c.args in
    sym (turn_past a.config a.log.now a.end (a.n - l.counter) l.next (omega arith) c.if-end-first.true) ∙ l.invariant.1

pub returns-in_err-next : goal.returns-in_err-next
returns-in_err-next c =
    let l = c.loop in
    let a = c.args in
    let s = a.log.now in
    let left = a.n - l.counter in
    handed_on _ _ c.from_residual.ensures
    ∙ ap (after_one a.config s a.end (left - 1)) (sym c.in_err-next.was ∙ c.operation_end.ensures)
    ∙ sym (turn_on a.config s a.end left l.next (get_or s l.next 0) (omega arith) c.if-end-first.false (sym (num_one s l.next)))
    ∙ l.invariant.1

pub loop-preserved : goal.loop-preserved
loop-preserved c =
    let l = c.loop in
    let a = c.args in
    let s = a.log.now in
    let left = a.n - l.counter in
    let less : a.n - (l.counter + 1) ≡ left - 1 = omega arith in (
      next_within a.config s a.end (get_or s l.next 0) (l.next + 1) _ (sym c.operation_end.ensures ∙ c.in_ok-next.was),
      ap (λ (k : ℕ). nexts_told (operations_at k a.config s a.end c.in_ok-next.next)) less
          ∙ ap (after_one a.config s a.end (left - 1)) (sym c.in_ok-next.was ∙ c.operation_end.ensures)
          ∙ sym (turn_on a.config s a.end left l.next (get_or s l.next 0) (omega arith) c.if-end-first.false (sym (num_one s l.next)))
          ∙ l.invariant.1,
    )

pub returns : goal.returns
returns c =
    let l = c.loop in
    let a = c.args in
    sym (ap nexts_told (no_more a.config a.log.now a.end (a.n - l.counter) l.next (omega arith))) ∙ l.invariant.1
