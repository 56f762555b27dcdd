-- `recover_log` skips the frames that the snapshot has, and replays the others if there are any.
use Rattle.std.specs.Prelude.{Ok}
use mathlib.Core.Path.{refl, sym, ap, subst, ◌∙◌}
use mathlib.Core.List.{List, []}
use Rattle.rows.specs.Lent.{rows_lent}
use Rattle.rows.specs.declared.Row.{Row}
use Rattle.meaning.specs.Recovery as Meant
use Rattle.meaning.specs.Recovery.{bounds_for, ended, replay_log}
use Rattle.recovery.specs.declared.Skipped.{Skipped}
use Rattle.recovery.specs.Run.{SkipsTo, run_from, skipped_only, snapshot_read}
use Rattle.recovery.proofs.Outcomes.{recovers_for, refused_recovers, tail_recovers}
use Rattle.recovery.proofs.recover_log.Goals as goal

pub replay_rest-requires : goal.replay_rest-requires
replay_rest-requires c =
    let a = c.args in
    let m =
    subst (SkipsTo a.info.config a.log.now a.info.sequence (bounds_for (rows_lent a.rows.now a.active.now)) []) (c.in-Ok-More.is ∙ ap (λ (x : Skipped). Ok x) c.in-Ok-More.field-0-is)
    (c.skip_frames.ensures (bounds_for (rows_lent a.rows.now a.active.now)) []) in
    record {
      rows = c.tables-tables.ensures;
      log_len_bound = c.requires.log_len_bound;
      at_in_bounds = m.0;
      skipped_le_at = m.1.0;
      some_left = c.requires.some_left;
    }

pub overflow_sub-result : goal.overflow_sub-result
overflow_sub-result c =
    let a = c.args in
    let m =
    subst (SkipsTo a.info.config a.log.now a.info.sequence (bounds_for (rows_lent a.rows.now a.active.now)) []) (c.in-Ok-Ended.is ∙ ap (λ (x : Skipped). Ok x) c.in-Ok-Ended.field-0-is)
    (c.skip_frames.ensures (bounds_for (rows_lent a.rows.now a.active.now)) []) in
    m.0

pub returns-in-Ok-More : goal.returns-in-Ok-More
returns-in-Ok-More c =
    let meaning : List Row → Meant.Recovery =
    λ records. replay_log (rows_lent c.args.rows.now c.args.active.now) c.args.log.now (snapshot_read c.args.info records) in
    let a = c.args in
    let place = c.in-Ok-More.place in
    λ records l.
    let m =
    subst (SkipsTo a.info.config a.log.now a.info.sequence (bounds_for (rows_lent a.rows.now a.active.now)) records) (c.in-Ok-More.is ∙ ap (λ (x : Skipped). Ok x) c.in-Ok-More.field-0-is)
    (c.skip_frames.ensures (bounds_for (rows_lent a.rows.now a.active.now)) records) in
    recovers_for c.args.log.now c.args.rows.now c.args.active.now c.args.rows.now c.args.active.now refl refl
    (ended (snapshot_read a.info records)
    (run_from a.info.config c.args.log.now (bounds_for (rows_lent c.args.rows.now c.args.active.now)) a.info.sequence place.previous place.at (skipped_only a.info.sequence records place.skipped)))
    (meaning records)
    (ap (ended (snapshot_read a.info records)) (sym m.1.1))
    c.replay_rest.result c.replay_rest.new.rows c.replay_rest.new.active
    (c.replay_rest.ensures records l)

pub returns-in-Ok-Ended : goal.returns-in-Ok-Ended
returns-in-Ok-Ended c =
    let meaning : List Row → Meant.Recovery =
    λ records. replay_log (rows_lent c.args.rows.now c.args.active.now) c.args.log.now (snapshot_read c.args.info records) in
    let a = c.args in
    let k = c.in-Ok-Ended in
    λ records l.
    let m =
    subst (SkipsTo a.info.config a.log.now a.info.sequence (bounds_for (rows_lent a.rows.now a.active.now)) records) (k.is ∙ ap (λ (x : Skipped). Ok x) k.field-0-is)
    (c.skip_frames.ensures (bounds_for (rows_lent a.rows.now a.active.now)) records) in
    tail_recovers c.args.info c.args.log.now c.args.rows.now c.args.active.now records (meaning records) k.keep k.skipped l
    (ap (ended (snapshot_read c.args.info records)) m.1)

pub returns-in-Err : goal.returns-in-Err
returns-in-Err c =
    let meaning : List Row → Meant.Recovery =
    λ records. replay_log (rows_lent c.args.rows.now c.args.active.now) c.args.log.now (snapshot_read c.args.info records) in
    let k = c.clear in
    let w = c.in-Err in
    let a = c.args in
    λ records l.
    let m =
    subst (SkipsTo a.info.config a.log.now a.info.sequence (bounds_for (rows_lent a.rows.now a.active.now)) records) w.is
    (c.skip_frames.ensures (bounds_for (rows_lent a.rows.now a.active.now)) records) in
    refused_recovers c.args.log.now c.args.rows.now c.args.active.now (meaning records) w.field-0.0 w.field-0.1
    (ap (ended (snapshot_read c.args.info records)) m)
    k.new.rows k.new.entries k.ensures.rows_after k.ensures.entries_after
