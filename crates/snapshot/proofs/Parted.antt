-- Accepted parts: what was read, what that says, and that the table holds its rows.
use Rattle.std.specs.Prelude.{Ok}
use Prim.Native.Nat.{ℕ, ◌*◌}
use mathlib.Core.List.{List, ◌++◌}
use mathlib.Core.Path.{◌≡◌, sym, ap, ap₂, ◌∙◌}
use lib.ListN.{length, drop}
use Rattle.rows.specs.Lent.{rows_lent}
use Rattle.refusal.specs.Refusal.{Answer}
use Rattle.meaning.specs.Snapshot.{Snapshot, read_parts}
use Rattle.meaning.specs.Tables.{row_words, rows_in}
use Rattle.meaning.proofs.RowWords.{rows_of_words}
use Rattle.meaning.proofs.SnapshotRead.{parts_facts}
use Rattle.snapshot.specs.Told.{parts_of, parts_told}
use Rattle.snapshot.specs.declared.Parts.{Parts}
use Rattle.snapshot.proofs.Inverses.{found}
use Rattle.snapshot.proofs.BodyLaws.{PartsWithin, parts_within}

pub record Parted (words entries s table : List ℕ) (p : Parts) : Type 0 where
  pub value : Snapshot
  pub is : read_parts (rows_lent words entries) s ≡ Ok value
  pub told_as : p ≡ parts_of value
  pub within : PartsWithin (rows_lent words entries) value
  pub counted : p.records ≡ length value.rows
  pub table_is : table ≡ row_words value.rows ++ drop (2 * length value.rows) words
  pub rows_back : rows_in p.records table ≡ value.rows

pub parted : (words entries s table : List ℕ) (lent : ℕ) (p : Parts) {x : Answer Parts} → lent ≡ rows_lent words entries → x ≡ parts_told (read_parts lent s)
    → ((v : Snapshot) → read_parts lent s ≡ Ok v → table ≡ row_words v.rows ++ drop (2 * length v.rows) words) → x ≡ Ok p → Parted words entries s table p
parted words entries s table lent p l told held e =
    let f = found parts_of (read_parts lent s) told e in
    let rs = f.value.rows in
    let is = sym (ap (λ (m : ℕ). read_parts m s) l) ∙ f.is in
    let within = parts_within _ _ _ (parts_facts _ _ _ is) in
    let counted = ap (λ (q : Parts). q.records) f.told_as in
    let table_is = held f.value f.is in
    record {
      value = f.value;
      is = is;
      told_as = f.told_as;
      within = within;
      counted = counted;
      table_is = table_is;
      rows_back = ap₂ rows_in counted table_is ∙ rows_of_words rs (drop (2 * length rs) words) within.packs;
    }
