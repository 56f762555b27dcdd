-- What was read is fit to be written.
use Rattle.std.specs.Prelude.{Ok}
use Prim.Native.Nat.{ℕ, ◌+◌, ◌≤◌, ◌<◌, ◌^◌}
use mathlib.Core.Path.{◌≡◌, refl, sym, ap, ap₂, subst, ◌∙◌}
use mathlib.Core.Bool.{false}
use mathlib.Core.List.{List, [], ◌∷◌, map}
use native.Mathlib.Omega.{arith}
use lib.ListN.{length}
use Rattle.crc32.specs.Crc.{crc_of}
use Rattle.fields.specs.Fields.{part, Bytes}
use Rattle.fields.proofs.Parts.{length_part}
use Rattle.fields.proofs.Numbers.{num_lt}
use Rattle.config.specs.Limits.{max_records, max_snapshot_bytes}
use Rattle.config.specs.Settings.{validate}
use Rattle.config.specs.declared.Config.{Config}
use Rattle.config.specs.declared.Metric.{Metric}
use Rattle.meaning.specs.Replay.{size}
use Rattle.meaning.specs.Records.{row_kind, record_kind, source, caption_start, seen}
use Rattle.rows.specs.declared.Row.{Row}
use Rattle.layout.specs.Layout.{record_length, metric_length, header_length}
use Rattle.meaning.specs.Snapshot.{body_length, header_config, header_count, snapshot_row, ReadRows, live_twice, Snapshot, read_snapshot}
use Rattle.layout.specs.declared.Version.{Version}
use Rattle.theorems.specs.Storable.{Fit, Sourced}
use Rattle.meaning.specs.Every.{Every}
use Rattle.theorems.proofs.RecordBack.{InFile}
use Rattle.meaning.proofs.EveryLaws.{every_map}
use Rattle.meaning.proofs.HeaderRead.{HeaderFacts, header_in}
use Rattle.meaning.proofs.SnapshotRead.{RowRead, records_facts, PartsFacts, snapshot_in, snapshot_facts}
use Rattle.theorems.proofs.RowSourced.{row_sourced}

-- the row of a record that was read
read_sourced : (c : Config) (s log : List ℕ) (end : ℕ) → Bytes s → end ≤ length s → (r : Row) → RowRead c s end r → Sourced c s log r
read_sourced c s log end b h r w =
    subst (Sourced c s log) (sym w.is)
    (row_sourced c s log (snapshot_row c s w.at w.caption).row end w.caption b h w.facts.item (num_lt s w.at 8 b) refl)

-- what an accepted snapshot is
pub record SnapshotFits (lent : ℕ) (s : List ℕ) (x : Snapshot) : Type 0 where
  pub valid : validate x.config ≡ Ok tt
  pub seed_fits : x.config.seed < 256 ^ 8
  pub sequence_fits : x.sequence < 256 ^ 8
  pub crc_is : x.crc ≡ crc_of (part s 0 (body_length s))
  pub crc_fits : x.crc < 4294967296
  pub enough : length x.rows ≤ lent
  pub few : length x.rows ≤ max_records
  pub in_file : Every InFile x.rows
  pub sourced : (log : List ℕ) → Every (Sourced x.config s log) x.rows
  pub once : live_twice x.rows ≡ false
  pub sized : size (row_kind x.config.dimensions) x.rows + 52 ≤ length s
  pub short : length s ≤ max_snapshot_bytes

fits_of_parts : (lent : ℕ) (s : List ℕ) (v : Version) (metric : Metric) (found : ReadRows) → Bytes s → HeaderFacts s v metric
    → PartsFacts lent s (header_in v s metric) found → live_twice found.rows ≡ false → SnapshotFits lent s (snapshot_in s (header_in v s metric) found)
fits_of_parts lent s v metric found b h f once =
    let c = header_config v s metric in
    let k = records_facts (header_count v s) c s (body_length s) (header_length v) found f.records_are in
    let sized = k.sized in
    let counted = k.counted in
    let ends = f.ends in
    let enough = f.enough in
    let few = h.few in
    let whole = h.whole in
    let long = h.long_enough in
    record {
      valid = h.valid;
      seed_fits = num_lt s (24 + metric_length v) 8 b;
      sequence_fits = num_lt s (32 + metric_length v) 8 b;
      crc_is = sym f.crc_is;
      crc_fits = num_lt s (body_length s) 4 b;
      enough = omega arith;
      few = omega arith;
      in_file = every_map (RowRead c s (body_length s)) InFile (λ r w. ap (λ (y : Row). y.from_log) w.is) found.rows k.each;
      sourced = λ log. every_map (RowRead c s (body_length s)) (Sourced c s log) (λ r w. read_sourced c s log (body_length s) b (omega arith) r w) found.rows k.each;
      once = once;
      sized = omega arith;
      short = h.short_enough;
    }

pub snapshot_fits : (lent : ℕ) (s : List ℕ) (x : Snapshot) → Bytes s → read_snapshot lent s ≡ Ok x → SnapshotFits lent s x
snapshot_fits lent s x b e =
    let r = snapshot_facts lent s x e in
    let k = r.parts in
    subst (SnapshotFits lent s) k.is
    (fits_of_parts lent s k.version k.metric k.found b k.header k.facts (ap (λ (y : Snapshot). live_twice y.rows) k.is ∙ r.once))

-- ---- the records that sourced rows show
pub seen_fit : (c : Config) (s log : List ℕ) (rows : List Row) → Every (Sourced c s log) rows → Every (Fit c) (map (seen c.dimensions s log) rows)
seen_fit c s log [] k = tt
seen_fit c s log (r ∷ rows) k = (k.0.fit, seen_fit c s log rows k.1)

pub size_seen : (c : Config) (s log : List ℕ) (rows : List Row) → Every (Sourced c s log) rows
    → size (record_kind c.dimensions) (map (seen c.dimensions s log) rows) ≡ size (row_kind c.dimensions) rows
unfolding size
size_seen c s log [] k = refl
size_seen c s log (r ∷ rows) k =
    let n : length (part (source s log r) (caption_start c.dimensions r) r.caption_length) ≡ r.caption_length =
    length_part (source s log r) (caption_start c.dimensions r) r.caption_length k.0.inside in
    ap₂ (λ (a b : ℕ). record_length c.dimensions a + b) n (size_seen c s log rows k.1)
