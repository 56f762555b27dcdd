-- `recover` answers `recover` of `meaning` and leaves the tables that it names: 20, then the snapshot, then the log.
-- ---- what is handed in
use Rattle.std.specs.Prelude.{Err}
use Prim.Native.Nat.{ℕ}
use native.Mathlib.Omega.{arith}
use mathlib.Core.Path.{◌≡◌, sym, ap, ap₂, ◌∙◌}
use Rattle.rows.specs.Lent.{rows_lent}
use Rattle.refusal.specs.Refusal.{Answer}
use Rattle.refusal.specs.declared.Refusal.{Refusal}
use Rattle.refusal.specs.declared.Refusal.TheVariants.{LogTooLong}
use Rattle.meaning.specs.Calls.{read_call, read_tables, recover_call, recover_tables}
use Rattle.meaning.specs.Recovery as Meant
use Rattle.meaning.specs.Recovery.{replay_log, with_snapshot, refused_snapshot}
use Rattle.meaning.specs.Snapshot.{Snapshot}
use Rattle.recovery.specs.Told.{recovery_answer}
use Rattle.recovery.specs.Run.{Left, snapshot_read}
use Rattle.recovery.proofs.Outcomes.{recovers_for, refused_recovers}
use Rattle.meaning.proofs.RecoverBegins.{too_long_lem, short_enough}
use Rattle.recovery.proofs.FromSnapshot.{SnapshotFound, snapshot_found, snapshot_refused, lent_same, meant_is, left_by_reading}
use Rattle.recovery.proofs.recover.Goals as goal

pub returns-then-log-gt-MAX_LOG_BYTES : goal.returns-then-log-gt-MAX_LOG_BYTES
returns-then-log-gt-MAX_LOG_BYTES c =
    let r = refused_recovers c.args.log.now c.args.rows.now c.args.active.now (recover_call c.args.rows.now c.args.active.now c.args.snapshot.now c.args.log.now) LogTooLong 0 (too_long_lem _ c.args.snapshot.now c.args.log.now c.if-log-gt-MAX_LOG_BYTES.true)
    c.clear.new.rows c.clear.new.entries c.clear.ensures.rows_after c.clear.ensures.entries_after in
    record {
      value = r.told;
      rows_after = r.rows_left;
      active_after = r.active_left;
    }

pub recover_log-requires : goal.recover_log-requires
recover_log-requires c =
    let found : SnapshotFound (read_call c.args.rows.now c.args.active.now c.args.snapshot.now) c.in-Ok.info =
    snapshot_found _ c.in-Ok.info (sym c.read_snapshot.ensures.value ∙ c.in-Ok.is) in
    let left : Left c.in-Ok.info c.read_snapshot.new.rows c.read_snapshot.new.active (found.value.rows) =
    let r = c.read_snapshot in
    left_by_reading c.args.rows.now c.args.active.now c.args.snapshot.now c.in-Ok.info found r.new.rows r.new.active r.auto.rows r.auto.active r.ensures.rows_after r.ensures.active_after in
    record {
      log_len_bound = omega arith;
      some_left = record { rows = (found.value.rows); left = left };
    }

pub returns-in-Ok : goal.returns-in-Ok
returns-in-Ok c =
    let found : SnapshotFound (read_call c.args.rows.now c.args.active.now c.args.snapshot.now) c.in-Ok.info =
    snapshot_found _ c.in-Ok.info (sym c.read_snapshot.ensures.value ∙ c.in-Ok.is) in
    let left : Left c.in-Ok.info c.read_snapshot.new.rows c.read_snapshot.new.active (found.value.rows) =
    let r = c.read_snapshot in
    left_by_reading c.args.rows.now c.args.active.now c.args.snapshot.now c.in-Ok.info found r.new.rows r.new.active r.auto.rows r.auto.active r.ensures.rows_after r.ensures.active_after in
    let with_log : (recover_call c.args.rows.now c.args.active.now c.args.snapshot.now c.args.log.now) ≡ with_snapshot (rows_lent c.args.rows.now c.args.active.now) c.args.log.now (read_call c.args.rows.now c.args.active.now c.args.snapshot.now) =
    short_enough _ c.args.snapshot.now c.args.log.now (omega arith) in
    let r = c.read_snapshot in
    let words₁ = r.new.rows in
    let entries₁ = r.new.active in
    let same : replay_log (rows_lent words₁ entries₁) c.args.log.now (snapshot_read c.in-Ok.info (found.value.rows)) ≡ (recover_call c.args.rows.now c.args.active.now c.args.snapshot.now c.args.log.now) =
    ap₂ (λ (n : ℕ) (x : Snapshot). replay_log n c.args.log.now x) (lent_same c.args.rows.now c.args.active.now words₁ entries₁ r.auto.rows r.auto.active) (meant_is c.args.rows.now c.args.active.now c.args.snapshot.now c.in-Ok.info found)
    ∙ sym (with_log ∙ ap (with_snapshot (rows_lent c.args.rows.now c.args.active.now) c.args.log.now) found.is) in
    let k = recovers_for c.args.log.now c.args.rows.now c.args.active.now words₁ entries₁ r.auto.rows r.auto.active _ (recover_call c.args.rows.now c.args.active.now c.args.snapshot.now c.args.log.now) same
    c.recover_log.result c.recover_log.new.rows c.recover_log.new.active (c.recover_log.ensures (found.value.rows) left) in
    record {
      value = k.told;
      rows_after = k.rows_left;
      active_after = k.active_left;
    }

pub returns-in-Err : goal.returns-in-Err
returns-in-Err c =
    let with_log : (recover_call c.args.rows.now c.args.active.now c.args.snapshot.now c.args.log.now) ≡ with_snapshot (rows_lent c.args.rows.now c.args.active.now) c.args.log.now (read_call c.args.rows.now c.args.active.now c.args.snapshot.now) =
    short_enough _ c.args.snapshot.now c.args.log.now (omega arith) in
    let r = c.read_snapshot in
    let why : Refusal = c.in-Err.why in
    let e : (read_call c.args.rows.now c.args.active.now c.args.snapshot.now) ≡ Err why = snapshot_refused _ why (sym r.ensures.value ∙ c.in-Err.is) in
    let q : (recover_call c.args.rows.now c.args.active.now c.args.snapshot.now c.args.log.now) ≡ refused_snapshot why = with_log ∙ ap (with_snapshot (rows_lent c.args.rows.now c.args.active.now) c.args.log.now) e in
    record {
      value = sym (ap (recovery_answer c.args.log.now) q);
      rows_after = r.ensures.rows_after
          ∙ ap (λ (x : Answer Snapshot). (read_tables c.args.rows.now c.args.active.now x).rows) e
          ∙ sym (ap (λ (x : Meant.Recovery). (recover_tables c.args.rows.now c.args.active.now x).rows) q);
      active_after = r.ensures.active_after
          ∙ ap (λ (x : Answer Snapshot). (read_tables c.args.rows.now c.args.active.now x).active) e
          ∙ sym (ap (λ (x : Meant.Recovery). (recover_tables c.args.rows.now c.args.active.now x).active) q);
    }
