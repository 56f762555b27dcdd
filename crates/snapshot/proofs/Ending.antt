-- How a reading ends once the active nodes are counted, said of what the two calls answer: 18, or the tables of its rows.
use Rattle.std.specs.Prelude.{Ok, Err}
use Prim.Native.Nat.{ℕ, ◌*◌}
use mathlib.Core.List.{List, ◌++◌}
use mathlib.Core.Path.{◌≡◌, sym, ap, ap₂, ◌∙◌}
use lib.ListN.{length, drop, replicate}
use Rattle.rows.specs.declared.Row.{Row}
use Rattle.rows.specs.Lent.{rows_lent}
use Rattle.refusal.specs.Refusal.{Answer, told}
use Rattle.active.specs.Active.{activated, left_rows, left_entries}
use Rattle.active.proofs.Finishing.{activated_live, activated_twice, rows_left, entries_left, rows_cleared, entries_cleared}
use Rattle.meaning.specs.Calls.{read_call, read_tables}
use Rattle.meaning.specs.Snapshot.{Snapshot, read_parts}
use Rattle.meaning.specs.Tables.{row_words, rows_in, filled}
use Rattle.snapshot.specs.Told.{info_of, parts_told, read_told}
use Rattle.snapshot.specs.declared.Parts.{Parts}
use Rattle.snapshot.specs.declared.SnapshotInfo.{SnapshotInfo}
use Rattle.snapshot.proofs.Parted.{Parted, parted}
use Rattle.snapshot.proofs.Outcome.{active_twice, active_once, cleared}

module _ (words entries s table : List ℕ) (lent : ℕ) (p : Parts) {r : Answer Parts} {counted : Answer ℕ}
    (lent_is : lent ≡ rows_lent words entries) (read : r ≡ parts_told (read_parts lent s))
    (held : (v : Snapshot) → read_parts lent s ≡ Ok v → table ≡ row_words v.rows ++ drop (2 * length v.rows) words)
    (is : r ≡ Ok p) (kept : length table ≡ length words) (counts : counted ≡ activated (rows_in p.records table)) where
  k : Parted words entries s table p
  k = parted words entries s table lent p lent_is read held is

  record Ends (x : Answer ℕ) : Type 0 where
    ends_as : told (λ n. Ok (info_of p n)) (λ why. Err why) x ≡ read_told (read_call words entries s)
    rows_as : left_rows p.records table ≡ (read_tables words entries (read_call words entries s)).rows
    active_as : left_entries p.records table entries ≡ (read_tables words entries (read_call words entries s)).active

  ends : (x : Answer ℕ) → activated k.value.rows ≡ x → Ends x
  ends (Ok n) e =
      let rs = k.value.rows in
      let l = activated_live rs n e in
      let once = active_once _ _ k.value k.is l.once in
      record {
        ends_as = ap₂ (λ (p : Parts) (n : ℕ). Ok (info_of p n)) k.told_as l.count_is ∙ sym (ap read_told once);
        rows_as = rows_left rs p.records table entries k.rows_back l.once k.counted _ k.table_is
            ∙ ap (λ (m : ℕ). filled m (row_words rs)) kept
            ∙ sym (ap (λ (x : Answer Snapshot). (read_tables words entries x).rows) once);
        active_as = entries_left rs p.records table entries k.rows_back l.once
            ∙ sym (ap (λ (x : Answer Snapshot). (read_tables words entries x).active) once);
      }
  ends (Err why) e =
      let rs = k.value.rows in
      let t = activated_twice rs why e in
      let z = cleared words entries _ _ (active_twice _ _ k.value why k.is e) in
      record {
        ends_as = z.told;
        rows_as = rows_cleared rs p.records table entries k.rows_back t ∙ ap (λ (m : ℕ). replicate m 0) kept ∙ z.rows_zero;
        active_as = entries_cleared rs p.records table entries k.rows_back t ∙ z.active_zero;
      }

  ending : Ends counted
  ending = ends counted (sym (counts ∙ ap (λ (rs : List Row). activated rs) k.rows_back))

  pub ends_told : {answer : Answer SnapshotInfo} → answer ≡ told (λ n. Ok (info_of p n)) (λ why. Err why) counted → answer ≡ read_told (read_call words entries s)
  ends_told e = e ∙ ending.ends_as

  pub ends_rows : left_rows p.records table ≡ (read_tables words entries (read_call words entries s)).rows
  ends_rows = ending.rows_as

  pub ends_active : left_entries p.records table entries ≡ (read_tables words entries (read_call words entries s)).active
  ends_active = ending.active_as
