-- What an accepted record says: where it ends, and that its row fits its words.
use Rattle.std.specs.Prelude.{Ok}
use Prim.Native.Nat.{ℕ, ◌+◌, ◌≤◌}
use native.Mathlib.Omega.{arith}
use mathlib.Core.Path.{◌≡◌, sym, subst}
use mathlib.Core.List.{List}
use lib.Dec.{eqb}
use Rattle.fields.specs.Fields.{num}
use Rattle.config.specs.Limits.{max_snapshot_bytes}
use Rattle.config.specs.Settings.{caption_limit}
use Rattle.config.specs.declared.Config.{Config}
use Rattle.rows.specs.Rows.{RowFits}
use Rattle.layout.specs.Layout.{record_length}
use Rattle.meaning.specs.Snapshot.{ReadRow, snapshot_row, record_at}
use Rattle.meaning.proofs.SnapshotRead.{RecordFacts, record_facts, caption_low}

pub record RecordWithin (c : Config) (end at : ℕ) (y : ReadRow) : Type 0 where
  pub next_inside : y.next ≤ end
  pub caption_few : y.row.caption_length ≤ caption_limit c
  pub offset_inside : y.row.at ≤ end
  pub size_within : at + record_length c.dimensions y.row.caption_length ≤ y.next

pub facts_within : (c : Config) (s : List ℕ) (end at n : ℕ) → RecordFacts c s end at n → RecordWithin c end at (snapshot_row c s at n)
facts_within c s end at n f =
    let low = caption_low (eqb (num s (at + 8) 1) 1) n in
    let inside = f.item.inside in
    let few = f.item.short in
    record { next_inside = omega arith; caption_few = omega arith; offset_inside = omega arith; size_within = omega arith }

pub record_within : (c : Config) (s : List ℕ) (end at : ℕ) (y : ReadRow) → record_at c s end at ≡ Ok y → RecordWithin c end at y
record_within c s end at y e =
    let r = record_facts c s end at y e in
    subst (RecordWithin c end at) (sym r.is) (facts_within c s end at r.caption r.facts)

pub within_packs : (c : Config) (end at : ℕ) (y : ReadRow) → end ≤ max_snapshot_bytes → RecordWithin c end at y → RowFits y.row
within_packs c end at y h w =
    let few = w.caption_few in
    let offset = w.offset_inside in
    record { caption_fits = omega arith; at_fits = omega arith }

pub record_packs : (c : Config) (s : List ℕ) (end at : ℕ) (y : ReadRow) → end ≤ max_snapshot_bytes → record_at c s end at ≡ Ok y → RowFits y.row
record_packs c s end at y h e = within_packs c end at y h (record_within c s end at y e)
