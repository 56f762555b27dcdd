-- `apply_frame` follows `apply_all` over the frame's operations, by its shape.
-- what was read there: for the frame that the contract promises, and for any that it is
use Rattle.std.specs.Prelude.{Ok}
use Prim.Native.Nat.{ℕ, ◌+◌, ◌-◌, ◌≤◌}
use mathlib.Core.Path.{◌≡◌, sym, ap, subst, ◌∙◌}
use mathlib.Core.List.{List}
use lib.ListN.{get_or}
use Rattle.config.specs.declared.Config.{Config}
use Rattle.config.specs.Limits.{max_log_bytes}
use Rattle.layout.specs.declared.Shape.{Shape}
use Rattle.layout.specs.declared.Shape.TheVariants.{Single, Batch}
use Rattle.rows.specs.declared.Row.{Row}
use Rattle.fields.specs.Fields.{num}
use Rattle.fields.proofs.Numbers.{num_one}
use Rattle.meaning.specs.Log.{ReadOperations, operations_at, operations_of}
use Rattle.meaning.specs.Records.{row_kind}
use Rattle.meaning.specs.Recovery.{bounds_for}
use Rattle.meaning.specs.Replay.{Frame, Operation, apply_all}
use Rattle.store_log.specs.Stored.{IsFrame}
use Rattle.store_log.specs.declared.Frame as store_log
use Rattle.store_log.specs.declared.ReadOperation.{ReadOperation}
use Rattle.replay.specs.Stands.{Applicable, AppliedAs}
use Rattle.replay.proofs.OperationFacts.{stored_read}
use Rattle.replay.proofs.BatchLaws.{operation_accepted}
use Rattle.replay.proofs.FrameFacts.{lies, Alone, single_stored, batch_stored, apply_alone}
use native.Mathlib.Omega.{arith}
use Rattle.replay.proofs.apply_frame.Goals as goal

module _ (config : Config) (log : List ℕ) (frame : store_log.Frame) (f : Frame Row) (i : IsFrame config log frame f) where
  abbrev read : ReadOperations
  read = record { operations = f.operations; next = frame.next - 4 }

  alone : frame.shape ≡ Single → Alone config log (frame.next - 4) (get_or log (frame.start + 8) 0) (frame.start + 17) read
  alone e =
      single_stored config log (frame.next - 4) (get_or log (frame.start + 8) 0) (frame.start + 17) read
      (ap (λ (t : ℕ). operations_of Single config log (frame.next - 4) t (frame.start + 17)) (sym (num_one log (frame.start + 8)))
      ∙ ap (λ (x : Shape). operations_of x config log (frame.next - 4) (num log (frame.start + 8) 1) (frame.start + 17)) (sym e)
      ∙ (lies _ _ _ _ i).read)

  batch : frame.shape ≡ Batch → operations_at frame.operations config log (frame.next - 4) (frame.start + 17 + 4) ≡ Ok read
  batch e =
      let l = lies config log frame f i in
      ap (λ (n : ℕ). operations_at n config log (frame.next - 4) (frame.start + 17 + 4)) l.many
      ∙ batch_stored config log (frame.next - 4) (num log (frame.start + 8) 1) (frame.start + 17) read
      (ap (λ (x : Shape). operations_of x config log (frame.next - 4) (num log (frame.start + 8) 1) (frame.start + 17)) (sym e) ∙ l.read)

pub overflow_add-first : goal.overflow_add-first
overflow_add-first c =
    let there = lies c.args.config c.args.log.now c.args.frame _ c.requires.frame_there.is in
    omega arith

pub overflow_sub-end : goal.overflow_sub-end
overflow_sub-end c =
    let there = lies c.args.config c.args.log.now c.args.frame _ c.requires.frame_there.is in
    omega arith

pub overflow_add-start : goal.overflow_add-start
overflow_add-start c =
    let there = lies c.args.config c.args.log.now c.args.frame _ c.requires.frame_there.is in
    omega arith

pub bounds-log-start : goal.bounds-log-start
bounds-log-start c =
    let there = lies c.args.config c.args.log.now c.args.frame _ c.requires.frame_there.is in
    omega arith

pub stored_operation-read-requires : goal.stored_operation-read-requires
stored_operation-read-requires c =
    let there = lies c.args.config c.args.log.now c.args.frame _ c.requires.frame_there.is in
    let o = alone _ _ _ _ c.requires.frame_there.is c.in-Single.is in
    record {
      dimensions_le_max_dimensions = c.requires.dimensions_le_max_dimensions;
      end_in_bounds = omega arith;
      stored = record { value = o.this; is = o.is };
    }

pub apply_operation-requires : goal.apply_operation-requires
apply_operation-requires c =
    let there = lies c.args.config c.args.log.now c.args.frame _ c.requires.frame_there.is in
    let p = c.requires in
    let a = c.args in
    let few : a.frame.next - 4 ≤ max_log_bytes = omega arith in
    let f = p.frame_there in
    let x = alone _ _ _ f.meant f.is c.in-Single.is in
    record {
      d_le_max_dimensions = p.dimensions_le_max_dimensions;
      lent_in_bounds = p.lent_in_bounds;
      lent_in_bounds_2 = p.lent_in_bounds_2;
      applicable = subst Applicable (sym (ap (λ (o : ReadOperation). o.operation) (stored_read _ _ x.this c.stored_operation-read.ensures x.is)))
          (operation_accepted a.config a.log.now (a.frame.next - 4) _ _ x.this few x.is);
      kept = p.kept;
    }

pub overflow_add-first-in-Batch : goal.overflow_add-first-in-Batch
overflow_add-first-in-Batch c =
    let there = lies c.args.config c.args.log.now c.args.frame _ c.requires.frame_there.is in
    omega arith

pub apply_batch-requires : goal.apply_batch-requires
apply_batch-requires c =
    let there = lies c.args.config c.args.log.now c.args.frame _ c.requires.frame_there.is in
    let p = c.requires in
    let f = p.frame_there in
    record {
      dimensions_le_max_dimensions = p.dimensions_le_max_dimensions;
      log_len_bound = p.log_len_bound;
      end_in_bounds = omega arith;
      stored_all = record { value = read _ _ c.args.frame f.meant f.is; is = batch _ _ _ f.meant f.is c.in-Batch.is };
      lent_in_bounds = p.lent_in_bounds;
      lent_in_bounds_2 = p.lent_in_bounds_2;
      kept = p.kept;
    }

pub returns-in-Single : goal.returns-in-Single
returns-in-Single c =
    let p = c.apply_operation in
    let a = c.args in
    let d = a.config.dimensions in
    λ f rows i s.
    let x = alone _ _ _ f i c.in-Single.is in
    let shape : f.shape ≡ Single = sym (lies _ _ _ _ i).shape_is ∙ c.in-Single.is in
    subst (λ (y : Shape). AppliedAs d (apply_all (row_kind d) (bounds_for a.lent) y f.operations rows) p.result p.new.words p.new.entries) (sym shape)
    (subst (λ (os : List (Operation Row)). AppliedAs d (apply_all (row_kind d) (bounds_for a.lent) Single os rows) p.result p.new.words p.new.entries) (sym x.alone)
    (subst (λ y. AppliedAs d y p.result p.new.words p.new.entries) (sym (apply_alone d a.lent Single x.this.operation rows))
    (p.ensures x.this.operation rows (ap (λ (o : ReadOperation). o.operation) (stored_read _ _ x.this c.stored_operation-read.ensures x.is)) s)))

pub returns-in-Batch : goal.returns-in-Batch
returns-in-Batch c =
    let p = c.apply_batch in
    let a = c.args in
    let d = a.config.dimensions in
    λ f rows i s.
    let shape : f.shape ≡ Batch = sym (lies _ _ _ _ i).shape_is ∙ c.in-Batch.is in
    subst (λ (y : Shape). AppliedAs d (apply_all (row_kind d) (bounds_for a.lent) y f.operations rows) p.result p.new.words p.new.entries) (sym shape)
    (p.ensures (read _ _ _ f i) rows (batch _ _ _ f i c.in-Batch.is) s)
