-- `read_operation` answers `operation_at`: by its tag, a put by what its item answers.
use Prim.Native.Nat.{◌+◌}
use Rattle.refusal.specs.declared.Refusal.TheVariants.{PastTheEnd}
use Rattle.refusal.proofs.Inverses.{came_to}
use Rattle.meaning.proofs.ItemRead.{item_read}
use native.Mathlib.Omega.{arith}
use borrow.Author.Rules.{rules}
use Rattle.store_log.proofs.read_operation.Goals as goal

pub put_at-requires : goal.put_at-requires
put_at-requires c =
    let a = c.args in
    let w = item_read PastTheEnd a.config a.log.now a.end (a.at + 8) c.in_ok-n.n (came_to _ c.check_item.ensures c.in_ok-n.was) in
    let inside = w.inside in
    let few = w.short in
    record {
      dimensions_le_max_dimensions = search rules;
      n_in_bounds = omega arith;
      n_bound = omega arith;
    }
