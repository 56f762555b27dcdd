-- `valid_operation` answers `operation_within`, wherever `end` and `at` are.
use Prim.Native.Nat.{◌+◌, ◌≤◌}
use mathlib.Core.Path.{◌≡◌, sym}
use borrow.Author.Tests.{le-ltb}
use Rattle.fields.proofs.Numbers.{num_one}
use Rattle.meaning.specs.Calls.{id_offset}
use native.Mathlib.Omega.{arith}
use Rattle.store_log.proofs.valid_operation.Goals as goal

pub returns : goal.returns
returns c =
    let offset : c.id_offset-offset.result ≡ id_offset c.args.shape =
    c.id_offset-offset.ensures.0 in
    let a = c.args in
    let e = offset in
    let room : a.at + c.id_offset-offset.result ≤ a.end = omega (arith, c.if-end-at-2.false, c.if-end-at.false) in
    simp (le-ltb _ _ c.if-log-end.false, le-ltb _ _ room, sym e, num_one a.log.now a.at) c.read_operation.ensures
