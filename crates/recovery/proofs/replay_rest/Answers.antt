-- `replay_rest` makes the tree over the snapshot's rows, replays the frames that follow, and takes it out again.
use Prim.Native.Nat.{ℕ, ◌≤◌}
use native.Mathlib.Omega.{arith}
use mathlib.Core.Path.{sym, ap, ap₂, subst, ◌∙◌}
use mathlib.Core.List.{List}
use lib.ListN.{length, replicate}
use Rattle.rows.specs.Lent.{rows_lent}
use Rattle.rows.specs.declared.Row.{Row}
use Rattle.meaning.specs.Recovery.{bounds_for, ended}
use Rattle.meaning.specs.Replay.{State, Outcome}
use Rattle.snapshot.specs.declared.SnapshotInfo.{SnapshotInfo}
use Rattle.recovery.specs.Run.{run_from, skipped_only, state_of, Reaches, snapshot_read, ends_in}
use Rattle.recovery.specs.declared.Place.{Place}
use Rattle.recovery.proofs.Beginning.{room_words, room_entries, few_records, left_once, first_stands}
use Rattle.recovery.proofs.Outcomes.{keep_inside, was_reached, was_stopped, recovers_for, refused_recovers}
use Rattle.recovery.proofs.replay_rest.Goals as goal

-- what the frames come to over these rows, with this many rows lent
abbrev outcome : SnapshotInfo → List ℕ → Place → ℕ → List Row → Outcome Row
outcome info log place lent records =
    run_from info.config log (bounds_for lent) info.sequence place.previous place.at (skipped_only info.sequence records place.skipped)

pub begin-tree-requires : goal.begin-tree-requires
begin-tree-requires c =
    let a = c.args in
    let k = c.requires.some_left in
    record {
      count_in_bounds = room_words a.info a.rows.now a.active.now k.rows k.left;
      count_in_bounds_2 = room_entries a.info a.rows.now a.active.now k.rows k.left;
      count_le_max_records = few_records a.info a.rows.now a.active.now k.rows k.left;
      once = left_once a.info a.rows.now a.active.now k.rows k.left;
    }

pub replay_frames-requires : goal.replay_frames-requires
replay_frames-requires c =
    let a = c.args in
    let b = c.begin-tree in
    let k = c.requires.some_left in
    let lent = c.rows_lent-lent.ensures in
    let words_kept = b.auto.words in
    let entries_kept = b.auto.entries in
    record {
      rows = c.requires.rows;
      dimensions_le_max_dimensions = k.left.few_dimensions;
      log_len_bound = c.requires.log_len_bound;
      at_in_bounds = c.requires.at_in_bounds;
      skipped_le_at = c.requires.skipped_le_at;
      lent_in_bounds = omega arith;
      lent_in_bounds_2 = omega arith;
      kept =
          record {
            rows = k.rows;
            stands = first_stands a.info a.rows.now a.active.now k.rows k.left b.result b.new.words b.new.entries b.ensures.grown b.ensures.count_value b.ensures.words_unchanged;
          };
    }

pub finish-requires : goal.finish-requires
finish-requires c =
    let a = c.args in
    let b = c.begin-tree in
    let p = c.replay_frames in
    let k = c.requires.some_left in
    let d = a.info.config.dimensions in
    let lent = rows_lent a.rows.now a.active.now in
    let begun = first_stands a.info a.rows.now a.active.now k.rows k.left b.result b.new.words b.new.entries b.ensures.grown b.ensures.count_value b.ensures.words_unchanged in
    let frames =
    subst (λ (n : ℕ). Reaches d (outcome a.info a.log.now a.place n k.rows) p.result p.new.words p.new.entries) c.rows_lent-lent.ensures (p.ensures k.rows begun) in
    let w = was_reached d (outcome a.info a.log.now a.place lent k.rows) p.result c.in-Ok.reached p.new.words p.new.entries frames c.in-Ok.is in
    let keep = w.there.keep_is in
    let inside : w.keep ≤ length a.log.now =
    keep_inside a.info.config a.log.now (bounds_for lent) a.info.sequence a.place.previous a.place.at
    (skipped_only a.info.sequence k.rows a.place.skipped) w.state w.keep c.requires.at_in_bounds w.is in
    record {
      keep_in_bounds = omega arith;
      kept = record { rows = w.state.records; stands = w.there.stands };
    }

pub returns-in-Ok : goal.returns-in-Ok
returns-in-Ok c =
    let a = c.args in
    let b = c.begin-tree in
    let p = c.replay_frames in
    let d = a.info.config.dimensions in
    let lent = rows_lent a.rows.now a.active.now in
    λ records l.
    let begun = first_stands a.info a.rows.now a.active.now records l b.result b.new.words b.new.entries b.ensures.grown b.ensures.count_value b.ensures.words_unchanged in
    let frames =
    subst (λ (n : ℕ). Reaches d (outcome a.info a.log.now a.place n records) p.result p.new.words p.new.entries) c.rows_lent-lent.ensures (p.ensures records begun) in
    let w = was_reached d (outcome a.info a.log.now a.place lent records) p.result c.in-Ok.reached p.new.words p.new.entries frames c.in-Ok.is in
    let t = w.there in
    recovers_for a.log.now a.rows.now a.active.now p.new.words p.new.entries (p.auto.words ∙ b.auto.words) (p.auto.entries ∙ b.auto.entries)
    (ends_in a.info (state_of c.in-Ok.reached w.state.records) c.in-Ok.reached.keep) (ended (snapshot_read a.info records) (outcome a.info a.log.now a.place lent records))
    (ap₂ (λ (x : State Row) (n : ℕ). ends_in a.info x n) t.state_is t.keep_is ∙ sym (ap (ended (snapshot_read a.info records)) w.is))
    c.finish.result c.finish.new.rows c.finish.new.active
    (c.finish.ensures w.state.records t.stands)

pub returns-in-Err : goal.returns-in-Err
returns-in-Err c =
    let a = c.args in
    let b = c.begin-tree in
    let p = c.replay_frames in
    let d = a.info.config.dimensions in
    let lent = rows_lent a.rows.now a.active.now in
    let k = c.clear in
    λ records l.
    let begun = first_stands a.info a.rows.now a.active.now records l b.result b.new.words b.new.entries b.ensures.grown b.ensures.count_value b.ensures.words_unchanged in
    let frames =
    subst (λ (n : ℕ). Reaches d (outcome a.info a.log.now a.place n records) p.result p.new.words p.new.entries) c.rows_lent-lent.ensures (p.ensures records begun) in
    refused_recovers a.log.now a.rows.now a.active.now (ended (snapshot_read a.info records) (outcome a.info a.log.now a.place lent records)) c.in-Err.field-0.0 c.in-Err.field-0.1
    (ap (ended (snapshot_read a.info records))
    (was_stopped d (outcome a.info a.log.now a.place lent records) p.result c.in-Err.field-0.0 c.in-Err.field-0.1 p.new.words p.new.entries frames c.in-Err.is))
    k.new.rows k.new.entries
    (k.ensures.rows_after ∙ ap (λ (n : ℕ). replicate n 0) (p.auto.words ∙ b.auto.words))
    (k.ensures.entries_after ∙ ap (λ (n : ℕ). replicate n 0) (p.auto.entries ∙ b.auto.entries))
