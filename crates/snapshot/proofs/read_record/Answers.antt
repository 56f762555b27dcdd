-- `read_record` answers `record_at`: an item that is accepted ends inside, so that no sum wraps.
use Prim.Native.Nat.{◌+◌, ◌≤◌, ◌<◌}
use native.Mathlib.Omega.{arith}
use borrow.Author.Tests.{lt-ltb, le-ltb}
use Rattle.fields.proofs.Numbers.{num_one}
use Rattle.fields.specs.Fields.{num}
use Rattle.refusal.specs.declared.Refusal.TheVariants.{VectorPastTheEnd}
use Rattle.refusal.proofs.Inverses.{came_to, handed_on}
use Rattle.meaning.proofs.ItemRead.{item_read}
use Rattle.meaning.specs.Snapshot.{record_at}
use Rattle.snapshot.proofs.read_record.Goals as goal

pub returns-then-flag-gt1 : goal.returns-then-flag-gt1
unfolding record_at
returns-then-flag-gt1 c =
    let a = c.args in
    let h : 1 < num a.s.now (a.at + 8) 1 = omega (arith, num_one a.s.now (a.at + 8)) in
    simp (le-ltb _ _ c.if-end-start.false, lt-ltb _ _ h)

pub returns-in_err-n : goal.returns-in_err-n
unfolding record_at
returns-in_err-n c =
    let a = c.args in
    let flag_good : num a.s.now (a.at + 8) 1 ≤ 1 = omega (arith, num_one a.s.now (a.at + 8)) in
    let item = came_to _ c.check_item.ensures c.in_err-n.was in
    simp (le-ltb _ _ c.if-end-start.false, le-ltb _ _ flag_good, item) (handed_on _ _ c.from_residual.ensures)

pub record_length-requires-clause-n_bound : goal.record_length-requires-clause-n_bound
record_length-requires-clause-n_bound c =
    let item = came_to _ c.check_item.ensures c.in_ok-n.was in
    omega (arith, (item_read VectorPastTheEnd _ _ _ _ _ item).short)

pub overflow_add-result : goal.overflow_add-result
overflow_add-result c =
    let item = came_to _ c.check_item.ensures c.in_ok-n.was in
    let e = c.record_length.ensures in omega (arith, (item_read VectorPastTheEnd _ _ _ _ _ item).inside)
