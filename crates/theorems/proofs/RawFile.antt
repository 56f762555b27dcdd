-- Every accepted snapshot is a file of its settings, its sequence and the records that stand in it, of version 1 or 2.
use Rattle.std.specs.Prelude.{Ok}
use Prim.Native.Nat.{ℕ, zero, suc, ◌+◌, ◌*◌, ◌-◌, ◌≤◌}
use mathlib.Core.Path.{◌≡◌, refl, sym, ap, ap₂, subst, ◌∙◌}
use mathlib.Core.List.{List, [], ◌∷◌, ◌++◌, map}
use native.Mathlib.Omega.{arith}
use lib.ListN.{length}
use lib.Dec.{eqb}
use Rattle.crc32.specs.Crc.{crc_of}
use Rattle.utf8.specs.Utf8.{is_utf8}
use Rattle.fields.specs.Fields.{part, num, le, bytes, Bytes}
use Rattle.fields.proofs.Parts.{length_part, part_all}
use Rattle.fields.proofs.Numbers.{num_lt, bytes_num}
use Rattle.config.specs.declared.Config.{Config}
use Rattle.config.specs.declared.Metric.{Metric}
use Rattle.config.specs.declared.Metric.TheVariants.{SquaredL2}
use Rattle.meaning.specs.Records.{Record, seen}
use Rattle.rows.specs.declared.Row.{Row}
use Rattle.layout.specs.Layout.{caption_offset, record_length, magic, metric_length, header_length}
use Rattle.meaning.specs.Snapshot.{version_of, header_metric, body_length, header_config, header_sequence, header_count, ReadRow, record_at, ReadRows, records_at, Snapshot, read_snapshot}
use Rattle.layout.specs.declared.Version.{Version}
use Rattle.layout.specs.declared.Version.TheVariants.{One, Two}
use Rattle.meaning.specs.File.{flag_of, record_bytes, records_bytes}
use Rattle.config.proofs.Laws.{number_of_read}
use Rattle.meaning.specs.Every.{Every}
use Rattle.theorems.proofs.Here.{parts_joined}
use Rattle.theorems.proofs.RecordBack.{all_shaped, records_seen}
use Rattle.theorems.proofs.ItemBack.{Readable}
use Rattle.theorems.specs.FileRows.{as_read}
use Rattle.theorems.specs.AcceptedFile.{LaidOut}
use Rattle.theorems.specs.AnyFile.{version_number, metric_bytes, header_of, Tells, HeaderFits, body_with, file_with}
use Rattle.meaning.proofs.HeaderRead.{HeaderFacts, header_in}
use Rattle.theorems.proofs.HeaderBack.{version_of_read}
use Rattle.theorems.proofs.FileBack.{records_here, snapshot_of, file_read}
use Rattle.meaning.proofs.SnapshotRead.{RecordFacts, RecordRead, record_facts, PartsFacts, snapshot_in, snapshot_facts}
use Rattle.refusal.proofs.Results.{answer_injective, passed}

-- ---- one record
-- the record that stands at `at`, a deleted one with the caption that it has there
abbrev pub raw_at : ℕ → List ℕ → ℕ → Record
raw_at d s at =
    record {
      id = num s at 8;
      deleted = eqb (num s (at + 8) 1) 1;
      vector = part s (at + 9) (4 * d);
      caption = part s (at + 9 + caption_offset d) (num s (at + 9 + 4 * d) 4);
    }

flag_back : (f : ℕ) → f ≤ 1 → flag_of (eqb f 1) ≡ f
flag_back zero h = refl
flag_back (suc zero) h = refl
flag_back (suc (suc f)) h = absurd (omega arith)

raw_bytes : (c : Config) (s : List ℕ) (end at n : ℕ) → Bytes s → end ≤ length s → RecordFacts c s end at n
    → record_bytes (raw_at c.dimensions s at) ≡ part s at (record_length c.dimensions n)
raw_bytes c s end at n b h f =
    let d = c.dimensions in
    let i = f.item in
    let inside = i.inside in
    let n_is : n ≡ num s (at + 9 + 4 * d) 4 = i.caption_is in
    let caption = part s (at + 9 + caption_offset d) (num s (at + 9 + 4 * d) 4) in
    let caption_length_lem : length caption ≡ num s (at + 9 + 4 * d) 4 = length_part s (at + 9 + caption_offset d) (num s (at + 9 + 4 * d) 4) (omega arith) in
    let e1 : bytes 8 (num s at 8) ≡ part s at 8 = bytes_num s at 8 b (omega arith) in
    let e2 : bytes 1 (flag_of (eqb (num s (at + 8) 1) 1)) ≡ part s (at + 8) 1 = ap (bytes 1) (flag_back (num s (at + 8) 1) f.flag_low) ∙ bytes_num s (at + 8) 1 b (omega arith) in
    let e4 : bytes 4 (length caption) ≡ part s (at + 9 + 4 * d) 4 = ap (bytes 4) caption_length_lem ∙ bytes_num s (at + 9 + 4 * d) 4 b (omega arith) in
    let j4 : bytes 4 (length caption) ++ caption ≡ part s (at + 9 + 4 * d) (4 + n) =
    ap (λ (l : List ℕ). l ++ caption) e4 ∙ parts_joined s (at + 9 + 4 * d) 4 (at + 9 + caption_offset d) (num s (at + 9 + 4 * d) 4) (4 + n) (omega arith) (omega arith) in
    let j3 : part s (at + 9) (4 * d) ++ (bytes 4 (length caption) ++ caption) ≡ part s (at + 9) (4 * d + (4 + n)) =
    ap (λ (l : List ℕ). part s (at + 9) (4 * d) ++ l) j4 ∙ parts_joined s (at + 9) (4 * d) (at + 9 + 4 * d) (4 + n) (4 * d + (4 + n)) refl refl in
    let j2 : bytes 1 (flag_of (eqb (num s (at + 8) 1) 1)) ++ (part s (at + 9) (4 * d) ++ (bytes 4 (length caption) ++ caption)) ≡ part s (at + 8) (1 + (4 * d + (4 + n))) =
    ap₂ ◌++◌ e2 j3 ∙ parts_joined s (at + 8) 1 (at + 9) (4 * d + (4 + n)) (1 + (4 * d + (4 + n))) (omega arith) refl in
    ap₂ ◌++◌ e1 j2 ∙ parts_joined s at 8 (at + 8) (1 + (4 * d + (4 + n))) (record_length d n) refl (omega arith)

raw_readable : (c : Config) (s : List ℕ) (end at n : ℕ) → Bytes s → end ≤ length s → RecordFacts c s end at n → Readable c (raw_at c.dimensions s at)
raw_readable c s end at n b h f =
    let d = c.dimensions in
    let i = f.item in
    let inside = i.inside in
    let few = i.short in
    let n_is : n ≡ num s (at + 9 + 4 * d) 4 = i.caption_is in
    let caption = part s (at + 9 + caption_offset d) (num s (at + 9 + 4 * d) 4) in
    let caption_length_lem : length caption ≡ num s (at + 9 + 4 * d) 4 = length_part s (at + 9 + caption_offset d) (num s (at + 9 + 4 * d) 4) (omega arith) in
    record {
      shaped =
          record {
            id_fits = num_lt s at 8 b;
            vector_length = length_part s (at + 9) (4 * d) (omega arith);
            caption_fits = omega arith;
          };
      vector_good = i.vector_good;
      caption_length_lem = omega arith;
      caption_good = ap (λ (k : ℕ). is_utf8 (part s (at + 9 + caption_offset d) k)) (sym n_is) ∙ i.caption_good;
    }

-- ---- all records
unfoldable pub raws_from : ℕ → ℕ → List ℕ → ℕ → List Record
raws_from zero d s at = []
raws_from (suc n) d s at = raw_at d s at ∷ raws_from n d s (at + record_length d (num s (at + 9 + 4 * d) 4))

pub record RawsFacts (c : Config) (s : List ℕ) (n at next : ℕ) : Type 0 where
  pub total : ℕ
  pub next_is : next ≡ at + total
  pub bytes_are : records_bytes (raws_from n c.dimensions s at) ≡ part s at total
  pub counted : length (raws_from n c.dimensions s at) ≡ n
  pub readable : Every (Readable c) (raws_from n c.dimensions s at)

raws_cons : (c : Config) (s : List ℕ) (end : ℕ) → Bytes s → end ≤ length s → (n at : ℕ) (y : ReadRow) (next : ℕ)
    → RecordRead c s end at y → RawsFacts c s n y.next next → RawsFacts c s (suc n) at next
unfolding raws_from records_bytes
raws_cons c s end b h n at y next r f =
    let d = c.dimensions in
    let i = r.facts.item in
    let k = num s (at + 9 + 4 * d) 4 in
    let caption_is : r.caption ≡ k = i.caption_is in
    let e : y.next ≡ at + record_length d k = ap (λ (w : ReadRow). w.next) r.is ∙ ap (λ (j : ℕ). at + record_length d j) caption_is in
    let g : RawsFacts c s n (at + record_length d k) next = subst (λ (a : ℕ). RawsFacts c s n a next) e f in
    let next_is = g.next_is in
    record {
      total = record_length d k + g.total;
      next_is = omega arith;
      bytes_are =
          ap₂ ◌++◌ (raw_bytes c s end at r.caption b h r.facts ∙ ap (λ (j : ℕ). part s at (record_length d j)) caption_is) g.bytes_are
          ∙ parts_joined s at (record_length d k) (at + record_length d k) g.total (record_length d k + g.total) refl refl;
      counted = ap suc g.counted;
      readable = (raw_readable c s end at r.caption b h r.facts, g.readable);
    }

pub raws_facts : (c : Config) (s : List ℕ) (end : ℕ) → Bytes s → end ≤ length s → (n at : ℕ) (x : ReadRows)
    → records_at n c s end at ≡ Ok x → RawsFacts c s n at x.next
unfolding records_at raws_from records_bytes
raws_facts c s end b h zero at x e =
    let next_is = ap (λ (y : ReadRows). y.next) (answer_injective _ x e) in
    record { total = 0; next_is = omega arith; bytes_are = refl; counted = refl; readable = tt }
raws_facts c s end b h (suc n) at x e =
    let s1 = passed (record_at c s end at) _ x e in
    let r = record_facts c s end at s1.value s1.first in
    let s2 = passed (records_at n c s end s1.value.next) _ x s1.then in
    let f = raws_facts c s end b h n s1.value.next s2.value s2.first in
    let next_is = ap (λ (y : ReadRows). y.next) (answer_injective _ x s2.then) in
    subst (RawsFacts c s (suc n) at) next_is (raws_cons c s end b h n at s1.value s2.value.next r f)

-- ---- the header
tells : (v : Version) (s : List ℕ) (metric : Metric) → header_metric v s ≡ Ok metric → Tells v metric
tells One s metric e = sym (answer_injective SquaredL2 metric e)
tells Two s metric e = tt

metric_raw : (v : Version) (s : List ℕ) (metric : Metric) → Bytes s → 52 ≤ length s → header_metric v s ≡ Ok metric → metric_bytes v metric ≡ part s 24 (metric_length v)
metric_raw One s metric b h e = refl
metric_raw Two s metric b h e =
    ap (bytes 4) (sym (number_of_read (num s 24 4) metric e)) ∙ bytes_num s 24 4 b (omega arith)

magic_raw : (s : List ℕ) → Bytes s → 52 ≤ length s → num s 0 8 ≡ le magic → magic ≡ part s 0 8
unfolding le bytes
magic_raw s b h e = ap (bytes 8) (sym e) ∙ bytes_num s 0 8 b (omega arith)

header_raw : (s : List ℕ) (v : Version) (metric : Metric) → Bytes s → HeaderFacts s v metric
    → header_of v (header_config v s metric) (header_sequence v s) (header_count v s) ≡ part s 0 (header_length v)
unfolding header_of
header_raw s v metric b f =
    let x = metric_length v in
    let long : 52 ≤ length s = f.long_enough in
    let whole : 48 + x ≤ length s - 4 = f.whole in
    let j8 : bytes 8 (num s (40 + x) 8) ≡ part s (40 + x) 8 = bytes_num s (40 + x) 8 b (omega arith) in
    let j7 : bytes 8 (num s (32 + x) 8) ++ bytes 8 (num s (40 + x) 8) ≡ part s (32 + x) 16 =
    ap₂ ◌++◌ (bytes_num s (32 + x) 8 b (omega arith)) j8 ∙ parts_joined s (32 + x) 8 (40 + x) 8 16 (omega arith) refl in
    let j6 : bytes 8 (num s (24 + x) 8) ++ (bytes 8 (num s (32 + x) 8) ++ bytes 8 (num s (40 + x) 8)) ≡ part s (24 + x) 24 =
    ap₂ ◌++◌ (bytes_num s (24 + x) 8 b (omega arith)) j7 ∙ parts_joined s (24 + x) 8 (32 + x) 16 24 (omega arith) refl in
    let j5 = ap₂ ◌++◌ (metric_raw v s metric b long f.metric_is) j6 ∙ parts_joined s 24 x (24 + x) 24 (x + 24) refl refl in
    let j4 = ap₂ ◌++◌ (bytes_num s 20 4 b (omega arith)) j5 ∙ parts_joined s 20 4 24 (x + 24) (4 + (x + 24)) refl refl in
    let j3 = ap₂ ◌++◌ (bytes_num s 16 4 b (omega arith)) j4 ∙ parts_joined s 16 4 20 (4 + (x + 24)) (8 + (x + 24)) refl (omega arith) in
    let j2 = ap₂ ◌++◌ (bytes_num s 12 4 b (omega arith)) j3 ∙ parts_joined s 12 4 16 (8 + (x + 24)) (12 + (x + 24)) refl (omega arith) in
    let e1 : bytes 4 (version_number v) ≡ part s 8 4 = ap (bytes 4) (sym (version_of_read (num s 8 4) v f.version_is)) ∙ bytes_num s 8 4 b (omega arith) in
    let j1 = ap₂ ◌++◌ e1 j2 ∙ parts_joined s 8 4 12 (12 + (x + 24)) (16 + (x + 24)) refl (omega arith) in
    ap₂ ◌++◌ (magic_raw s b long f.magic_is) j1 ∙ parts_joined s 0 8 8 (16 + (x + 24)) (48 + x) refl (omega arith)

-- ---- the file
pub record RawFile (s : List ℕ) (x : Snapshot) : Type 0 where
  pub version : Version
  pub version_is : version_of (num s 8 4) ≡ Ok version
  pub records : List Record
  pub is : s ≡ file_with version x.config x.sequence records
  pub fits : HeaderFits version x.config x.sequence (length records)
  pub readable : Every (Readable x.config) records

raw_of_facts : (lent : ℕ) (s : List ℕ) (v : Version) (metric : Metric) (found : ReadRows) → Bytes s → HeaderFacts s v metric
    → PartsFacts lent s (header_in v s metric) found → RawFile s (snapshot_in s (header_in v s metric) found)
unfolding file_with
raw_of_facts lent s v metric found b h f =
    let c = header_config v s metric in
    let q = header_sequence v s in
    let n = header_count v s in
    let g : RawsFacts c s n (header_length v) found.next = raws_facts c s (body_length s) b (omega arith) n (header_length v) found f.records_are in
    let rs = raws_from n c.dimensions s (header_length v) in
    let long = h.long_enough in
    let ends = f.ends in
    let next_is = g.next_is in
    let header_is : header_of v c q (length rs) ≡ part s 0 (header_length v) = ap (header_of v c q) g.counted ∙ header_raw s v metric b h in
    let body_is : body_with v c q rs ≡ part s 0 (body_length s) =
    ap₂ ◌++◌ header_is g.bytes_are ∙ parts_joined s 0 (header_length v) (header_length v) g.total (body_length s) (omega arith) (omega arith) in
    let crc_is : bytes 4 (crc_of (body_with v c q rs)) ≡ part s (body_length s) 4 =
    ap (λ (l : List ℕ). bytes 4 (crc_of l)) body_is ∙ ap (bytes 4) f.crc_is ∙ bytes_num s (body_length s) 4 b (omega arith) in
    let whole : file_with v c q rs ≡ s =
    ap₂ ◌++◌ body_is crc_is ∙ parts_joined s 0 (body_length s) (body_length s) 4 (length s) (omega arith) (omega arith) ∙ part_all s in
    record {
      version = v;
      version_is = h.version_is;
      records = rs;
      is = sym whole;
      fits =
          subst (HeaderFits v c q) (sym g.counted)
          (record {
            dimensions_fits = num_lt s 12 4 b;
            m_fits = num_lt s 16 4 b;
            ef_fits = num_lt s 20 4 b;
            seed_fits = num_lt s (24 + metric_length v) 8 b;
            sequence_fits = num_lt s (32 + metric_length v) 8 b;
            count_fits = num_lt s (40 + metric_length v) 8 b;
            metric_told_lem = tells v s metric h.metric_is;
          });
      readable = g.readable;
    }

pub raw_file : (lent : ℕ) (s : List ℕ) (x : Snapshot) → Bytes s → read_snapshot lent s ≡ Ok x → RawFile s x
raw_file lent s x b e =
    let k = (snapshot_facts lent s x e).parts in
    subst (RawFile s) k.is (raw_of_facts lent s k.version k.metric k.found b k.header k.facts)

-- the rows show its records as a reader makes them: a deleted one without caption
pub raw_seen : (lent : ℕ) (s : List ℕ) (x : Snapshot) (log : List ℕ) → read_snapshot lent s ≡ Ok x → (k : RawFile s x)
    → map (seen x.config.dimensions s log) x.rows ≡ map as_read k.records
raw_seen lent s x log e k =
    let v = k.version in
    let c = x.config in
    let d = c.dimensions in
    let q = x.sequence in
    let rs = k.records in
    let shaped = all_shaped c rs k.readable in
    let is : x ≡ snapshot_of v c q rs = file_read lent v c q rs x k.fits shaped (ap (read_snapshot lent) (sym k.is) ∙ e) in
    ap₂ (λ (l : List ℕ) (rows : List Row). map (seen d l log) rows) k.is (ap (λ (y : Snapshot). y.rows) is)
    ∙ records_seen d (file_with v c q rs) log (header_length v) rs _ (records_here v c q rs) shaped

pub accepted_file : (lent : ℕ) (s : List ℕ) (x : Snapshot) → Bytes s → read_snapshot lent s ≡ Ok x → LaidOut s x
accepted_file lent s x b e =
    let k = raw_file lent s x b e in
    record {
      version = k.version;
      records = k.records;
      is = k.is;
      fits = k.fits;
      shaped = all_shaped x.config k.records k.readable;
      shows = λ log. raw_seen lent s x log e k;
    }
