-- What accepted records say, and an accepted file up to and with its CRC.
use Rattle.std.specs.Prelude.{Ok}
use Prim.Native.Nat.{ℕ, ◌≤◌}
use native.Mathlib.Omega.{arith}
use mathlib.Core.Path.{◌≡◌, sym, subst}
use mathlib.Core.List.{List}
use lib.ListN.{length}
use Rattle.config.specs.Limits.{max_dimensions, max_snapshot_bytes, max_records}
use Rattle.config.specs.declared.Config.{Config}
use Rattle.config.proofs.Laws.{bounded_of_valid}
use Rattle.rows.specs.Rows.{RowFits}
use Rattle.rows.specs.declared.Row.{Row}
use Rattle.layout.specs.Layout.{header_length}
use Rattle.meaning.specs.Every.{Every}
use Rattle.meaning.specs.Replay.{size}
use Rattle.meaning.specs.Records.{row_kind}
use Rattle.meaning.specs.Snapshot.{header_config, header_count, body_length, snapshot_row, ReadRows, records_at, Snapshot}
use Rattle.meaning.proofs.EveryLaws.{every_map}
use Rattle.meaning.proofs.SnapshotRead.{RowRead, records_facts, PartsRead}
use Rattle.snapshot.proofs.RecordLaws.{facts_within, within_packs}

-- a row whose offset is one in a snapshot
abbrev pub InSnapshot : Row → Type 0
InSnapshot r = r.at ≤ max_snapshot_bytes

-- ---- what accepted records say
pub record RowsRead (n : ℕ) (rows : List Row) : Type 0 where
  pub counted : length rows ≡ n
  pub packs : Every RowFits rows
  pub offsets : Every InSnapshot rows

pub rows_read_facts : (c : Config) (s : List ℕ) (end : ℕ) → end ≤ max_snapshot_bytes → (n at : ℕ) (x : ReadRows) → records_at n c s end at ≡ Ok x → RowsRead n x.rows
rows_read_facts c s end h n at x e =
    let r = records_facts n c s end at x e in
    record {
      counted = r.counted;
      packs = every_map (RowRead c s end) RowFits packs x.rows r.each;
      offsets = every_map (RowRead c s end) InSnapshot inside x.rows r.each;
    }
  where
    packs : (r : Row) → RowRead c s end r → RowFits r
    packs r w = subst RowFits (sym w.is) (within_packs c end w.at (snapshot_row c s w.at w.caption) h (facts_within c s end w.at w.caption w.facts))

    inside : (r : Row) → RowRead c s end r → InSnapshot r
    inside r w = let i = w.facts.item.inside in subst InSnapshot (sym w.is) (omega arith)

-- what accepted parts say: the records end where the CRC stands
pub record PartsWithin (lent : ℕ) (x : Snapshot) : Type 0 where
  pub few_dimensions : x.config.dimensions ≤ max_dimensions
  pub enough : length x.rows ≤ lent
  pub few : length x.rows ≤ max_records
  pub packs : Every RowFits x.rows
  pub offsets : Every InSnapshot x.rows
  pub sized : size (row_kind x.config.dimensions) x.rows ≤ max_snapshot_bytes

pub parts_within : (lent : ℕ) (s : List ℕ) (x : Snapshot) → PartsRead lent s x → PartsWithin lent x
parts_within lent s x p =
    let v = p.version in
    let c = header_config v s p.metric in
    let h = p.header in
    let f = p.facts in
    let short = h.short_enough in
    let few = h.few in
    let enough = f.enough in
    let ends = f.ends in
    let k = records_facts (header_count v s) c s (body_length s) (header_length v) p.found f.records_are in
    let r = rows_read_facts c s (body_length s) (omega arith) (header_count v s) (header_length v) p.found f.records_are in
    let sized = k.sized in
    let counted = r.counted in
    subst (PartsWithin lent) p.is
    (record {
      few_dimensions = (bounded_of_valid c h.valid).d_high;
      enough = omega arith;
      few = omega arith;
      packs = r.packs;
      offsets = r.offsets;
      sized = omega arith;
    })
