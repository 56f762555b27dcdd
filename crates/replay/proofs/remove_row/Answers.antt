-- `remove_row` follows `apply_remove`: the live row of the ID is marked, or there is none.
use mathlib.Core.Path.{ap, ◌∙◌}
use Rattle.layout.specs.declared.Shape.{Shape}
use Rattle.meaning.specs.Replay.{mark, absent}
use Rattle.meaning.specs.Records.{row_kind}
use Rattle.replay.proofs.TableLaws.{applied_refused, applied_went, removed, not_there, unmarked}
use native.Mathlib.Omega.{arith}
use Rattle.replay.proofs.remove_row.Goals as goal

pub returns-then-out-gt0 : goal.returns-then-out-gt0
returns-then-out-gt0 c =
    let a = c.args in
    let o = c.take_out-out in
    λ rows s.
    let e = o.ensures rows s in
    applied_went a.d _ (mark (row_kind a.d) a.id.0 rows) _ _ _ (removed a.d a.id.0 _ _ a.table o.result rows e c.if-out-gt0.true a.shape) e.stands

pub returns-in-Single : goal.returns-in-Single
returns-in-Single c =
    let a = c.args in
    let o = c.take_out-out in
    λ rows s.
    let e = o.ensures rows s in
    applied_refused a.d _ _ _ _ (not_there a.d a.id.0 _ _ a.table o.result rows e (omega arith) a.shape ∙ ap (λ (x : Shape). absent x rows) c.in-Single.is)

pub returns-in-Batch : goal.returns-in-Batch
returns-in-Batch c =
    let a = c.args in
    let o = c.take_out-out in
    λ rows s.
    let e = o.ensures rows s in
    applied_went a.d _ rows _ _ _ (not_there a.d a.id.0 _ _ a.table o.result rows e (omega arith) a.shape ∙ ap (λ (x : Shape). absent x rows) c.in-Batch.is) (unmarked a.d a.id.0 _ _ a.table o.result rows e (omega arith))
