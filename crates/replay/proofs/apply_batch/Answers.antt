-- `apply_batch` follows `apply_all`: the first of what is left is applied at each turn.
use Rattle.refusal.specs.Refusal.{Answer}
use Rattle.std.specs.Prelude.{Ok}
use Prim.Native.Nat.{ℕ, ◌+◌, ◌-◌, ◌≤◌, ◌<◌}
use mathlib.Core.Path.{◌≡◌, sym, ap, ap₂, subst, ◌∙◌}
use mathlib.Core.List.{List, ◌∷◌}
use lib.ListN.{get_or}
use Rattle.refusal.proofs.Inverses.{handed_on}
use Rattle.config.specs.declared.Config.{Config}
use Rattle.config.specs.Limits.{max_log_bytes}
use Rattle.layout.specs.declared.Shape.TheVariants.{Batch}
use Rattle.rows.specs.declared.Row.{Row}
use Rattle.fields.proofs.Numbers.{num_one}
use Rattle.meaning.specs.Log.{ReadOperations, operation_at, operations_at}
use Rattle.meaning.specs.Records.{row_kind}
use Rattle.meaning.specs.Recovery.{bounds_for}
use Rattle.meaning.specs.Replay.{Operation, apply_one, apply_all}
use Rattle.store_log.specs.Stored.{Stored}
use Rattle.store_log.specs.Told.{operation_as, operation_read, operation_told}
use Rattle.store_log.specs.declared.ReadOperation as Told
use Rattle.replay.specs.Stands.{TableStands, Applicable, AppliedAs}
use Rattle.replay.specs.declared.Table.{Table}
use Rattle.replay.proofs.TableLaws.{applied_refused, applied_went}
use Rattle.replay.proofs.OperationFacts.{stored_read}
use Rattle.replay.proofs.BatchLaws.{operation_accepted, First, first_of, On, Turning, on_went, on_stops, none_left, apply_none, kept_went}
use native.Mathlib.Omega.{arith}
use Rattle.replay.proofs.apply_batch.Goals as goal

some_left : (n k : ℕ) → k < n → 0 < n - k
some_left n k h = omega arith

-- where some are left: the first of them, and what it is read as
module _ {config : Config} {log : List ℕ} {end n at lent : ℕ} {words₀ entries₀ : List ℕ} {t₀ : Table} {words entries : List ℕ} {t : Table} {next left : ℕ}
    (i : Turning config log end n at lent words₀ entries₀ t₀ words entries t next left) (more : 0 < left) where
  first : First config log end left next i.rest
  first = first_of config log end left next i.rest more i.rest_is

  stored : operation_at config log end (get_or log next 0) (next + 1) ≡ Ok first.this
  stored = ap (λ (tag : ℕ). operation_at config log end tag (next + 1)) (sym (num_one log next)) ∙ first.is

  inside : next + 1 ≤ end
  inside = first.inside

  is_stored : Stored (operation_at config log end (get_or log next 0) (next + 1))
  is_stored = record { value = first.this; is = stored }

  module _ {o : Told.ReadOperation} (told : operation_told (operation_at config log end (get_or log next 0) (next + 1)) ≡ Ok o) where
    is_read : o ≡ operation_read first.this
    is_read = stored_read _ o first.this told stored

    operation_is : o.operation ≡ operation_as first.this.operation
    operation_is = ap (λ (y : Told.ReadOperation). y.operation) is_read

    applicable : end ≤ max_log_bytes → Applicable o.operation
    applicable few = subst Applicable (sym operation_is) (operation_accepted config log end _ _ first.this few first.is)

    next_is : o.next ≡ first.this.next
    next_is = ap (λ (y : Told.ReadOperation). y.next) is_read

  -- what is left before it is applied, as rows that stand
  before : (x : ReadOperations) (rows : List Row) → operations_at n config log end at ≡ Ok x → TableStands config.dimensions words₀ entries₀ t₀ rows
      → On config.dimensions lent Batch words entries t (first.this.operation ∷ first.rest.operations) x.operations rows
  before x rows e s =
      subst (λ (os : List (Operation Row)). On config.dimensions lent Batch words entries t os x.operations rows) first.operations_are (i.on x rows e s)

pub bounds-log-next : goal.bounds-log-next
bounds-log-next c =
    let f = inside c.loop.invariant (some_left _ _ c.loop-test.true) in
    let p = c.requires.end_in_bounds in
    omega arith

pub overflow_add-next : goal.overflow_add-next
overflow_add-next c =
    let f = inside c.loop.invariant (some_left _ _ c.loop-test.true) in
    let p = c.requires.end_in_bounds in
    let q = c.requires.log_len_bound in
    omega arith

pub stored_operation-read-requires : goal.stored_operation-read-requires
stored_operation-read-requires c = record {
  dimensions_le_max_dimensions = c.requires.dimensions_le_max_dimensions;
  end_in_bounds = c.requires.end_in_bounds;
  stored = is_stored c.loop.invariant (some_left _ _ c.loop-test.true);
}

pub apply_operation-requires : goal.apply_operation-requires
apply_operation-requires c =
    let p = c.requires in
    let l = c.loop in
    let few : c.args.end ≤ max_log_bytes = let h = p.end_in_bounds in let g = p.log_len_bound in omega arith in
    let w = l.invariant.words_kept in
    let e = l.invariant.entries_kept in
    let lw = p.lent_in_bounds in
    let le = p.lent_in_bounds_2 in
    record {
      d_le_max_dimensions = p.dimensions_le_max_dimensions;
      lent_in_bounds = omega arith;
      lent_in_bounds_2 = omega arith;
      applicable = applicable l.invariant (some_left _ _ c.loop-test.true) c.stored_operation-read.ensures few;
      kept = l.invariant.kept;
    }

pub returns-in_err-kept : goal.returns-in_err-kept
returns-in_err-kept c =
    let a = c.args in
    let d = a.config.dimensions in
    let l = c.loop in
    let p = c.apply_operation in
    let f = first l.invariant (some_left _ _ c.loop-test.true) in
    let told = operation_is l.invariant (some_left _ _ c.loop-test.true) c.stored_operation-read.ensures in
    λ x rows e s.
    let b = before l.invariant (some_left _ _ c.loop-test.true) x rows e s in
    subst (λ (y : Answer Table). AppliedAs d (apply_all (row_kind d) (bounds_for a.lent) Batch x.operations rows) y p.new.words p.new.entries)
    (sym (handed_on _ _ c.from_residual.ensures))
    (applied_refused d _ _ _ _
    (on_stops d a.lent _ _ _ f.this.operation f.rest.operations x.operations rows _ _ c.in_err-kept.field-0.0 b
    (subst (λ (y : Answer Table). AppliedAs d (apply_one (row_kind d) (bounds_for a.lent) Batch f.this.operation b.rows) y p.new.words p.new.entries)
    c.in_err-kept.was (p.ensures f.this.operation b.rows told b.stands))))

pub loop-preserved : goal.loop-preserved
loop-preserved c =
    let a = c.args in
    let d = a.config.dimensions in
    let l = c.loop in
    let p = c.apply_operation in
    let k = l.invariant.kept in
    let f = first l.invariant (some_left _ _ c.loop-test.true) in
    let told = operation_is l.invariant (some_left _ _ c.loop-test.true) c.stored_operation-read.ensures in
    let less : a.n - (l.counter + 1) ≡ a.n - l.counter - 1 = omega arith in
    let next = next_is l.invariant (some_left _ _ c.loop-test.true) c.stored_operation-read.ensures in
    record {
      words_kept = p.auto.words ∙ l.invariant.words_kept;
      entries_kept = p.auto.entries ∙ l.invariant.entries_kept;
      rest = f.rest;
      rest_is = ap₂ (λ (m k : ℕ). operations_at m a.config a.log.now a.end k) less next ∙ f.rest_is;
      kept = kept_went d (apply_one (row_kind d) (bounds_for a.lent) Batch f.this.operation k.rows) _ _ _
          (subst (λ (y : Answer Table). AppliedAs d (apply_one (row_kind d) (bounds_for a.lent) Batch f.this.operation k.rows) y p.new.words p.new.entries)
          c.in_ok-kept.was (p.ensures f.this.operation k.rows told k.stands));
      on = λ x rows e s.
          let b = before l.invariant (some_left _ _ c.loop-test.true) x rows e s in
          on_went d a.lent _ _ _ f.this.operation f.rest.operations x.operations rows _ _ _ b
          (subst (λ (y : Answer Table). AppliedAs d (apply_one (row_kind d) (bounds_for a.lent) Batch f.this.operation b.rows) y p.new.words p.new.entries)
          c.in_ok-kept.was (p.ensures f.this.operation b.rows told b.stands));
    }

pub returns : goal.returns
returns c =
    let l = c.loop in
    let a = c.args in
    λ x rows e s.
    let b = l.invariant.on x rows e s in
    let none = none_left a.config a.log.now a.end (a.n - l.counter) l.next l.invariant.rest (omega arith) l.invariant.rest_is in
    applied_went a.config.dimensions _ b.rows _ _ _
    (sym b.same ∙ ap (λ (os : List (Operation Row)). apply_all (row_kind a.config.dimensions) (bounds_for a.lent) Batch os b.rows) none ∙ apply_none a.config.dimensions a.lent Batch b.rows) b.stands
