-- `in_order` leaves what insertion gives: entries that rise are in order already, and sorted ones are the same nodes in order.
use Prim.Native.Nat.{ℕ, ◌≤◌}
use native.Mathlib.Omega.{arith}
use mathlib.Core.Path.{◌≡◌, sym, ap, ap₂, ◌∙◌}
use mathlib.Core.List.{List, ◌++◌}
use lib.ListN.{length, take, drop, take-append-drop}
use Rattle.sorting.proofs.CallerLaws.{sorted_in_rows, sorted_is_insertion}
use Rattle.sorting.proofs.OrderLaws.{rising_same}
use Rattle.sorting.proofs.InsertionLaws.{sorted_same, sorted_ordered, rising_is_sorted}
use Rattle.sorting.specs.Sorting.{rising, sorted_nodes}
use Rattle.active.proofs.in_order.Goals as goal

pub returns-then-is_rising : goal.returns-then-is_rising
returns-then-is_rising c =
    let a = c.args in
    let rows = a.rows.now in
    let front = take a.n a.entries.now in
    let r : rising rows front ≡ _ = sym c.is_rising.ensures ∙ c.if-is_rising.true in
    let s : front ≡ sorted_nodes rows front = rising_is_sorted rows front r in
    record {
      value = sym (ap (rising rows) (sym s) ∙ r);
      entries_after = λ _. sym (ap (λ (l : List ℕ). l ++ drop a.n a.entries.now) (sym s) ∙ take-append-drop a.n a.entries.now);
    }

pub is_rising-requires-2 : goal.is_rising-requires-2
is_rising-requires-2 c =
    let a = c.args in
    let s = c.sort_by_id in
    let room : a.n ≤ length s.new.active = omega (arith, s.auto.active, c.requires.n_in_bounds) in
    record {
      n_in_bounds = room;
      first_in_rows = sorted_in_rows a.rows.now a.n a.entries.now s.new.active s.ensures room c.requires.first_in_rows;
    }

pub returns : goal.returns
returns c =
    let a = c.args in
    let rows = a.rows.now in
    let s = c.sort_by_id in
    let front = take a.n a.entries.now in
    let exit = s.new.active in
    let e : c.is_rising-2.result ≡ rising rows (take a.n exit) = c.is_rising-2.ensures in
    record {
      value = e ∙ rising_same rows (take a.n exit) (sorted_nodes rows front) (λ v. s.ensures.same v ∙ sym (sorted_same rows front v)) s.ensures.in_order (sorted_ordered rows front);
      entries_after = λ r. sym (take-append-drop a.n exit) ∙ ap₂ (λ (x y : List ℕ). x ++ y) (sorted_is_insertion rows a.n a.entries.now exit s.ensures (sym e ∙ r)) s.ensures.rest;
    }
