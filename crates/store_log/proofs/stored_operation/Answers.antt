-- `stored_operation` answers `operation_at`: what was accepted is read where its tests found it.
use Rattle.store_log.proofs.OperationLaws.{stored_id, stored_put, stored_remove}
use native.Mathlib.Omega.{arith}
use borrow.Author.Rules.{rules}
use Rattle.store_log.proofs.stored_operation.Goals as goal

pub overflow_add-first : goal.overflow_add-first
overflow_add-first c =
    let h = stored_id _ _ _ _ _ _ c.requires.stored.is in search rules

pub overflow_add-first-then-tag-eq1 : goal.overflow_add-first-then-tag-eq1
overflow_add-first-then-tag-eq1 c =
    let h = (stored_put _ _ _ _ _ _ c.requires.stored.is c.if-tag-eq1.true).inside in search rules

pub get_u32-n-requires : goal.get_u32-n-requires
get_u32-n-requires c =
    let h = (stored_put _ _ _ _ _ _ c.requires.stored.is c.if-tag-eq1.true).inside in search rules

pub put_at-requires : goal.put_at-requires
put_at-requires c =
    let put = stored_put _ _ _ _ _ _ c.requires.stored.is c.if-tag-eq1.true in
    let inside = put.inside in
    let few = put.few in
    let e = c.get_u32-n.ensures in
    record {
      dimensions_le_max_dimensions = search rules;
      n_in_bounds = omega arith;
      n_bound = omega arith;
    }

pub returns-then-tag-eq1 : goal.returns-then-tag-eq1
returns-then-tag-eq1 c =
    let put = stored_put _ _ _ _ _ _ c.requires.stored.is c.if-tag-eq1.true in
    simp (c.put_at.ensures, c.get_u32-n.ensures, c.requires.stored.is, put.is)

pub get_u64-requires : goal.get_u64-requires
get_u64-requires c =
    let h = stored_id _ _ _ _ _ _ c.requires.stored.is in search rules

pub returns : goal.returns
returns c =
    simp (c.get_u64.ensures, c.requires.stored.is, stored_remove _ _ _ _ _ _ c.requires.stored.is c.if-tag-eq1.false)
