-- `step` leaves what replay's step gives, by the sequence and by what `apply_frame` leaves.
-- the counts are far from any bound
use Prim.Native.Nat.{◌+◌, ◌≤◌}
use native.Mathlib.Omega.{arith}
use Rattle.config.specs.Limits.{max_log_bytes}
use Rattle.meaning.specs.Recovery.{bounds_for}
use Rattle.recovery.proofs.RunLaws.{is_facts, leaves_skipped, leaves_gap, leaves_played, leaves_refused}
use Rattle.recovery.proofs.step.Goals as goal

pub overflow_add-result : goal.overflow_add-result
overflow_add-result c =
    let few : c.args.reached.replayed + c.args.reached.skipped ≤ max_log_bytes =
    let a = c.args in
    let there = c.requires.frame_there in
    let facts = is_facts a.config a.log.now a.frame there.meant there.is in
    let far = facts.far in
    let inside = facts.inside in
    omega arith in
    let h = few in omega arith

pub returns-then-frame-snapshot : goal.returns-then-frame-snapshot
returns-then-frame-snapshot c =
    let a = c.args in
    λ f rows i s. leaves_skipped a.config a.log.now (bounds_for a.lent) a.snapshot a.frame a.reached f rows i _ _ c.if-frame-snapshot.true s

pub returns-then-frame-reached : goal.returns-then-frame-reached
returns-then-frame-reached c =
    let a = c.args in
    λ f rows i s. leaves_gap a.config a.log.now (bounds_for a.lent) a.snapshot a.frame a.reached f rows i _ _ c.if-frame-snapshot.false c.if-frame-reached.true

pub apply_frame-requires : goal.apply_frame-requires
apply_frame-requires c =
    let p = c.requires in
    record {
      dimensions_le_max_dimensions = p.dimensions_le_max_dimensions;
      log_len_bound = p.log_len_bound;
      lent_in_bounds = p.lent_in_bounds;
      lent_in_bounds_2 = p.lent_in_bounds_2;
      frame_there = p.frame_there;
      kept = p.kept;
    }

pub overflow_add-result-in-Ok : goal.overflow_add-result-in-Ok
overflow_add-result-in-Ok c =
    let few : c.args.reached.replayed + c.args.reached.skipped ≤ max_log_bytes =
    let a = c.args in
    let there = c.requires.frame_there in
    let facts = is_facts a.config a.log.now a.frame there.meant there.is in
    let far = facts.far in
    let inside = facts.inside in
    omega arith in
    let h = few in
    omega arith

pub returns-in-Ok : goal.returns-in-Ok
returns-in-Ok c =
    let a = c.args in
    λ f rows i s.
    leaves_played a.config a.log.now (bounds_for a.lent) a.snapshot a.frame a.reached f rows i c.if-frame-snapshot.false c.if-frame-reached.false
    c.apply_frame.result c.in-Ok.table _ _ c.in-Ok.is (c.apply_frame.ensures f rows i s)

pub returns-in-Err : goal.returns-in-Err
returns-in-Err c =
    let a = c.args in
    λ f rows i s.
    leaves_refused a.config a.log.now (bounds_for a.lent) a.snapshot a.frame a.reached f rows i c.if-frame-snapshot.false c.if-frame-reached.false
    c.apply_frame.result c.in-Err.why _ _ c.in-Err.is (c.apply_frame.ensures f rows i s)
