-- `read_snapshot` answers `read_snapshot`, and leaves the tables that it names: the parts, then the active nodes or 18.
use Prim.Native.Nat.{ℕ}
use native.Mathlib.Omega.{arith}
use mathlib.Core.Path.{sym, ap, ◌∙◌}
use lib.ListN.{replicate}
use Rattle.meaning.specs.Snapshot.{read_parts}
use Rattle.snapshot.specs.Told.{parts_of}
use Rattle.snapshot.proofs.Inverses.{refused}
use Rattle.snapshot.proofs.Parted.{parted}
use Rattle.snapshot.proofs.Outcome.{parts_stop, cleared}
use Rattle.snapshot.proofs.Ending.{ends_told}
use Rattle.snapshot.proofs.read_snapshot.Goals as goal

pub returns-in-Err : goal.returns-in-Err
returns-in-Err c =
    let words = c.args.rows.now in
    let entries = c.args.active.now in
    let s = c.args.bytes.now in
    let lent = ap (λ (m : ℕ). read_parts m s) c.rows_lent-lent.ensures in
    let z = cleared words entries _ _ (parts_stop _ _ _ (sym lent ∙ refused parts_of _ c.read_parts.ensures.value c.in-Err.is)) in
    let clear = c.clear.ensures in
    record {
      value = z.told;
      rows_after = clear.rows_after ∙ ap (λ (m : ℕ). replicate m 0) c.read_parts.auto.rows ∙ z.rows_zero;
      active_after = clear.entries_after ∙ z.active_zero;
    }

pub activate-requires : goal.activate-requires
activate-requires c =
    let k = parted c.args.rows.now c.args.active.now _ _ _ _ c.rows_lent-lent.ensures c.read_parts.ensures.value c.read_parts.ensures.rows_after c.in-Ok.is in
    let counted = k.counted in
    let enough = k.within.enough in
    let few = k.within.few in
    let kept = c.read_parts.auto.rows in
    record {
      count_in_bounds = omega arith;
      count_in_bounds_2 = omega arith;
      count_le_max_records = omega arith;
    }

pub returns-clause-value : goal.returns-clause-value
returns-clause-value c =
    ends_told c.args.rows.now c.args.active.now c.args.bytes.now c.read_parts.new.rows _ _ c.rows_lent-lent.ensures c.read_parts.ensures.value c.read_parts.ensures.rows_after c.in-Ok.is c.read_parts.auto.rows
    c.activate.ensures.value c.accepted.ensures
