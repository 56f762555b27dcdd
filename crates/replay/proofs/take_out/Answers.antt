-- `take_out` finds the live row of an ID and marks it.
use Rattle.replay.proofs.TableLaws.{mark_sizes, taken_out}
use native.Mathlib.Omega.{arith}
use Rattle.replay.proofs.take_out.Goals as goal

pub overflow_sub-result : goal.overflow_sub-result
overflow_sub-result c =
    let a = c.args in
    let k = c.requires in
    let m = c.mark-freed in
    let f = c.find-place in
    let sizes = mark_sizes a.d a.words.now m.new.words a.entries.now a.table k.rows a.id f.result.link m.result k.stands m.ensures f.ensures.finds in
    omega arith

pub returns : goal.returns
returns c =
    let a = c.args in
    let m = c.mark-freed in
    let f = c.find-place in
    λ rows s. taken_out a.d a.words.now m.new.words a.entries.now a.table rows a.id f.result.link m.result s m.ensures f.ensures.finds f.result.cell f.ensures.cell_value
