-- A snapshot's header as it stands in a file, of either version: its fields are read back.
use Rattle.std.specs.Prelude.{Ok, Err}
use Prim.Native.Nat.{ℕ, ◌+◌, ◌*◌, ◌-◌, ◌≤◌, ◌<◌, ◌^◌}
use mathlib.Core.Path.{◌≡◌, refl, sym, ap, ap₂, subst, ◌∙◌}
use mathlib.Core.Bool.{Bool, true, false, cond}
use mathlib.Core.List.{List, ◌++◌, append_assoc}
use native.Mathlib.Nat.{le-div_iff_mul-le}
use native.Mathlib.Omega.{arith}
use lib.Dec.{eqb, lit<}
use lib.ListN.{length, drop, length-append}
use Rattle.fields.specs.Fields.{num, le, bytes}
use Rattle.fields.proofs.Numbers.{length_bytes}
use Rattle.config.specs.Limits.{max_snapshot_bytes, max_records}
use Rattle.config.specs.Settings.{validate, metric_number, ef_of, metric_of}
use Rattle.config.specs.declared.Config.{Config}
use Rattle.config.specs.declared.Metric.{Metric}
use Rattle.refusal.specs.declared.Refusal.TheVariants.{WrongVersion}
use Rattle.layout.specs.Layout.{record_length, magic, metric_length, header_length}
use Rattle.meaning.specs.Snapshot.{version_of, header_metric, body_length, over_sequence, header_config, header_sequence, header_count, Header, read_header}
use Rattle.layout.specs.declared.Version.{Version}
use Rattle.layout.specs.declared.Version.TheVariants.{One, Two}
use Rattle.config.proofs.Laws.{bounded_of_valid, read_of_number, number_below_three}
use Rattle.theorems.proofs.Here.{part_here, after_here, num_here, after_number}
use Rattle.theorems.specs.AnyFile.{version_number, metric_bytes, header_of, Tells, HeaderFits}
use Rattle.meaning.proofs.HeaderRead.{header_in, HeaderFacts, header_read, header_reads}
use borrow.Author.Tests.{eqb-true}
use Rattle.refusal.proofs.Results.{answer_injective, refused_no_answer}

-- ---- a version by its number
pub version_read : (v : Version) → version_of (version_number v) ≡ Ok v
version_read One = refl
version_read Two = refl

pub version_of_read : (n : ℕ) (v : Version) → version_of n ≡ Ok v → n ≡ version_number v
version_of_read n v e = first (eqb n 1) refl e
  where
    second : (t : Bool) → eqb n 2 ≡ t → cond t (Ok Two) (Err WrongVersion) ≡ Ok v → n ≡ version_number v
    second true q e = eqb-true n 2 q ∙ ap version_number (answer_injective Two v e)
    second false q e = absurd (refused_no_answer WrongVersion v e)

    first : (t : Bool) → eqb n 1 ≡ t → cond t (Ok One) (cond (eqb n 2) (Ok Two) (Err WrongVersion)) ≡ Ok v → n ≡ version_number v
    first true q e = eqb-true n 1 q ∙ ap version_number (answer_injective One v e)
    first false q e = second (eqb n 2) refl e

-- ---- the header
pub length_any_header : (v : Version) (c : Config) (sequence count : ℕ) → length (header_of v c sequence count) ≡ header_length v
unfolding header_of
length_any_header One c sequence count = simp (length-append, length_bytes)
length_any_header Two c sequence count = simp (length-append, length_bytes)

pub header_fits : (c : Config) (sequence count : ℕ) → validate c ≡ Ok tt → c.seed < 256 ^ 8 → sequence < 256 ^ 8 → count ≤ max_records → HeaderFits Two c sequence count
header_fits c sequence count valid seed_fits sequence_fits few =
    let b = bounded_of_valid c valid in
    record {
      dimensions_fits = omega arith;
      m_fits = omega arith;
      ef_fits = omega arith;
      seed_fits = seed_fits;
      sequence_fits = sequence_fits;
      count_fits = omega arith;
      metric_told_lem = tt;
    }

pub record HeaderStands (v : Version) (s : List ℕ) (c : Config) (sequence count : ℕ) (rest : List ℕ) : Type 0 where
  pub magic_is : num s 0 8 ≡ le magic
  pub version_is : num s 8 4 ≡ version_number v
  pub dimensions_is : num s 12 4 ≡ c.dimensions
  pub m_is : num s 16 4 ≡ c.m
  pub ef_is : num s 20 4 ≡ ef_of c
  pub metric_is : header_metric v s ≡ Ok c.metric
  pub seed_is : num s (24 + metric_length v) 8 ≡ c.seed
  pub sequence_is : header_sequence v s ≡ sequence
  pub count_is : header_count v s ≡ count
  pub behind : drop (header_length v) s ≡ rest

version_fits : (v : Version) → version_number v < 256 ^ 4
version_fits One = lit< tt
version_fits Two = lit< tt

metric_fits : (k : Metric) → metric_number k < 256 ^ 4
metric_fits k = omega (arith, number_below_three k)

after_metric : (v : Version) (s : List ℕ) (k : Metric) (rest : List ℕ) → drop 24 s ≡ metric_bytes v k ++ rest → drop (24 + metric_length v) s ≡ rest
after_metric One s k rest h = h
after_metric Two s k rest h = after_number s 24 4 (metric_number k) rest h

metric_here : (v : Version) (s : List ℕ) (k : Metric) (rest : List ℕ) → drop 24 s ≡ metric_bytes v k ++ rest → Tells v k → header_metric v s ≡ Ok k
metric_here One s k rest h t = ap Ok (sym t)
metric_here Two s k rest h t =
    ap metric_of (num_here s 24 4 (metric_number k) rest h (metric_fits k)) ∙ read_of_number k

pub header_stands : (v : Version) (s : List ℕ) (c : Config) (q n : ℕ) (rest : List ℕ) → s ≡ header_of v c q n ++ rest → HeaderFits v c q n → HeaderStands v s c q n rest
unfolding header_of
header_stands v s c q n rest h f =
    let k = c.metric in
    let r8 = bytes 8 n ++ rest in
    let r7 = bytes 8 q ++ r8 in
    let r6 = bytes 8 c.seed ++ r7 in
    let r5 = metric_bytes v k ++ r6 in
    let r4 = bytes 4 (ef_of c) ++ r5 in
    let r3 = bytes 4 c.m ++ r4 in
    let r2 = bytes 4 c.dimensions ++ r3 in
    let r1 = bytes 4 (version_number v) ++ r2 in
    let h0 : drop 0 s ≡ magic ++ r1 = h ∙ simp append_assoc in
    let h1 : drop 8 s ≡ r1 = after_here s 0 8 magic r1 h0 refl in
    let h2 : drop 12 s ≡ r2 = after_number s 8 4 (version_number v) r2 h1 in
    let h3 : drop 16 s ≡ r3 = after_number s 12 4 c.dimensions r3 h2 in
    let h4 : drop 20 s ≡ r4 = after_number s 16 4 c.m r4 h3 in
    let h5 : drop 24 s ≡ r5 = after_number s 20 4 (ef_of c) r5 h4 in
    let h6 : drop (24 + metric_length v) s ≡ r6 = after_metric v s k r6 h5 in
    let e7 : 24 + metric_length v + 8 ≡ 32 + metric_length v = omega arith in
    let h7 : drop (32 + metric_length v) s ≡ r7 = subst (λ (x : ℕ). drop x s ≡ r7) e7 (after_number s (24 + metric_length v) 8 c.seed r7 h6) in
    let e8 : 32 + metric_length v + 8 ≡ 40 + metric_length v = omega arith in
    let h8 : drop (40 + metric_length v) s ≡ r8 = subst (λ (x : ℕ). drop x s ≡ r8) e8 (after_number s (32 + metric_length v) 8 q r8 h7) in
    let e9 : 40 + metric_length v + 8 ≡ 48 + metric_length v = omega arith in
    let h9 : drop (48 + metric_length v) s ≡ rest = subst (λ (x : ℕ). drop x s ≡ rest) e9 (after_number s (40 + metric_length v) 8 n rest h8) in
    record {
      magic_is = ap le (part_here s 0 8 magic r1 h0 refl);
      version_is = num_here s 8 4 (version_number v) r2 h1 (version_fits v);
      dimensions_is = num_here s 12 4 c.dimensions r3 h2 f.dimensions_fits;
      m_is = num_here s 16 4 c.m r4 h3 f.m_fits;
      ef_is = num_here s 20 4 (ef_of c) r5 h4 f.ef_fits;
      metric_is = metric_here v s k r6 h5 f.metric_told_lem;
      seed_is = num_here s (24 + metric_length v) 8 c.seed r7 h6 f.seed_fits;
      sequence_is = num_here s (32 + metric_length v) 8 q r8 h7 f.sequence_fits;
      count_is = num_here s (40 + metric_length v) 8 n rest h8 f.count_fits;
      behind = h9;
    }

abbrev pub header_with : Version → Config → ℕ → ℕ → Header
header_with v c sequence count = record { config = c; sequence = sequence; count = count; first = header_length v }

config_of_stands : (v : Version) (s : List ℕ) (c : Config) (q n : ℕ) (rest : List ℕ) → HeaderStands v s c q n rest → header_config v s c.metric ≡ c
config_of_stands v s c q n rest h = rw (h.dimensions_is, h.m_is, h.ef_is, h.seed_is)

header_of_stands : (v : Version) (s : List ℕ) (c : Config) (q n : ℕ) (rest : List ℕ) → HeaderStands v s c q n rest → header_in v s c.metric ≡ header_with v c q n
header_of_stands v s c q n rest h = rw (h.dimensions_is, h.m_is, h.ef_is, h.seed_is, h.sequence_is, h.count_is)

-- a header that is accepted where it stands is read so
pub header_seen : (v : Version) (s : List ℕ) (c : Config) (q n : ℕ) (rest : List ℕ) (x : Header) → HeaderStands v s c q n rest → read_header s ≡ Ok x → x ≡ header_with v c q n
header_seen v s c q n rest x h e =
    let r = header_read s x e in
    let w = r.version in
    let same : w ≡ v = answer_injective w v (sym r.facts.version_is ∙ ap version_of h.version_is ∙ version_read v) in
    let m : r.metric ≡ c.metric = answer_injective _ _ (sym r.facts.metric_is ∙ ap (λ (u : Version). header_metric u s) same ∙ h.metric_is) in
    r.is ∙ ap₂ (λ (u : Version) (k : Metric). header_in u s k) same m ∙ header_of_stands v s c q n rest h

-- a header of valid settings, with room for its records, is accepted where it stands
pub header_back : (v : Version) (s : List ℕ) (c : Config) (q n : ℕ) (rest : List ℕ) → HeaderStands v s c q n rest
    → validate c ≡ Ok tt → n ≤ max_records → over_sequence v q n ≡ false
    → header_length v + n * record_length c.dimensions 0 + 4 ≤ length s → length s ≤ max_snapshot_bytes
    → read_header s ≡ Ok (header_with v c q n)
header_back v s c q n rest h valid few ordered room short =
    let d-is = h.dimensions_is in
    let count_is = h.count_is in
    let positive : 0 < record_length c.dimensions 0 = omega arith in
    let low : n * record_length c.dimensions 0 ≤ body_length s - header_length v = omega arith in
    let f : HeaderFacts s v c.metric =
    record {
      long_enough = omega arith;
      short_enough = short;
      magic_is = h.magic_is;
      version_is = ap version_of h.version_is ∙ version_read v;
      metric_is = h.metric_is;
      valid = ap validate (config_of_stands v s c q n rest h) ∙ valid;
      whole = omega arith;
      few = omega arith;
      room = rw (count_is, d-is) ((le-div_iff_mul-le positive).1 low);
      in_sequence = rw (h.sequence_is, h.count_is) ordered;
    } in
    header_reads s v c.metric f ∙ ap Ok (header_of_stands v s c q n rest h)
