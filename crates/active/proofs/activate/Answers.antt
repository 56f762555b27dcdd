-- `activate` lists, sorts and clears: the live nodes of the rows, sorted, are the active ones, and rise exactly if no ID is live twice.
use Rattle.std.specs.Prelude.{Ok}
use Prim.Native.Nat.{ℕ, ◌*◌}
use native.Mathlib.Omega.{arith}
use mathlib.Core.Bool.{true, false, not}
use mathlib.Core.Path.{◌≡◌, sym, ap, ◌∙◌}
use borrow.Author.Tests.{not-true, not-false}
use lib.ListN.{length, replicate}
use Rattle.fields.proofs.ZeroTail.{zero_tail}
use Rattle.meaning.specs.Tables.{rows_in}
use Rattle.meaning.specs.Snapshot.{live_twice}
use Rattle.active.proofs.Finishing.{Listed, entries_count, entries_few, entries_in_rows, entries_rise, entries_active}
use Rattle.active.proofs.activate.Goals as goal
use Rattle.active.proofs.activate.Goals.{After-in_order}

-- ---- what is known at a place
listed : (c : After-in_order) → Listed c.args.rows.now c.args.count c.args.entries.now c.live_nodes-n.new.entries c.live_nodes-n.result
listed c = record { n_is = c.live_nodes-n.ensures.value; listed = c.live_nodes-n.ensures.entries_after }

rises : (c : After-in_order) → c.in_order.result ≡ not (live_twice (rows_in c.args.count c.args.rows.now))
rises c = c.in_order.ensures.value ∙ entries_rise _ _ _ _ _ (listed c)

kept : (c : After-in_order) → length c.in_order.new.entries ≡ length c.args.entries.now
kept c = c.in_order.auto.entries ∙ c.live_nodes-n.auto.entries

pub in_order-requires-clause-first_in_rows : goal.in_order-requires-clause-first_in_rows
in_order-requires-clause-first_in_rows c =
    let n = c.live_nodes-n in
    entries_in_rows c.args.rows.now c.args.count c.args.entries.now n.new.entries n.result
    (record { n_is = n.ensures.value; listed = n.ensures.entries_after }) c.requires.count_in_bounds

pub returns-then-not-in_order : goal.returns-then-not-in_order
returns-then-not-in_order c =
    let here = (goal.at.returns-then-not-in_order c).After-in_order in
    let a = c.args in
    let t : live_twice (rows_in a.count a.rows.now) ≡ true = not-false _ (sym (rises here) ∙ c.if-not-in_order.true) in
    record {
      value = rw t;
      rows_after = rw t c.clear.ensures.rows_after;
      entries_after = rw t (c.clear.ensures.entries_after ∙ ap (λ (m : ℕ). replicate m 0) (kept here));
    }

pub returns : goal.returns
returns c =
    let here = (goal.at.returns c).After-in_order in
    let a = c.args in
    let front = listed here in
    let yes = c.if-not-in_order.false in
    let t : live_twice (rows_in a.count a.rows.now) ≡ false = not-true _ (sym (rises here) ∙ yes) in
    let few = entries_few _ _ _ _ _ front in
    let same = kept here in
    record {
      value = rw t (ap (λ (m : ℕ). Ok m) (entries_count _ _ _ _ _ front));
      rows_after = rw t (zero_tail a.rows.now c.fill.new.self (2 * a.count) c.requires.count_in_bounds (c.fill.ensures.after (λ y e. e)));
      entries_after =
          rw t
          (zero_tail c.in_order.new.entries c.fill-2.new.self c.live_nodes-n.result (omega (arith, c.requires.count_in_bounds_2)) (c.fill-2.ensures.after (λ y e. e))
          ∙ entries_active _ _ _ _ _ front c.in_order.new.entries same (c.in_order.ensures.entries_after yes));
    }
