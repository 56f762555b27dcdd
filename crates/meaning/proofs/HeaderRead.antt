-- A snapshot's header, read: an answer says these facts, and they give the answer.
use Rattle.std.specs.Prelude.{Ok}
use Prim.Native.Nat.{ℕ, ◌-◌, ◌/◌, ◌≤◌}
use mathlib.Core.Path.{◌≡◌, sym, ap, ◌∙◌}
use mathlib.Core.Bool.{false, not}
use mathlib.Core.List.{List}
use lib.ListN.{length}
use lib.Dec.{ltb, eqb}
use Rattle.fields.specs.Fields.{num, le}
use Rattle.config.specs.Limits.{min_snapshot_bytes, max_snapshot_bytes, max_records}
use Rattle.config.specs.Settings.{validate}
use Rattle.config.specs.declared.Metric.{Metric}
use Rattle.refusal.specs.declared.Refusal.TheVariants.{LengthOutOfBounds, WrongMagic, WrongCount, PastTheEnd}
use Rattle.layout.specs.Layout.{record_length, magic, header_length}
use Rattle.layout.specs.declared.Version.{Version}
use Rattle.meaning.specs.Snapshot.{version_of, header_metric, body_length, over_sequence, header_config, header_sequence, header_count, Header, counted_header, header_for, read_header}
use borrow.Author.Tests.{ltb-false, le-ltb, eqb-true, eq-eqb, not-false}
use Rattle.refusal.proofs.Results.{answer_injective, passed, went, pass, go_on}

abbrev pub header_in : Version → List ℕ → Metric → Header
header_in v s metric = record { config = header_config v s metric; sequence = header_sequence v s; count = header_count v s; first = header_length v }

pub record HeaderFacts (s : List ℕ) (v : Version) (metric : Metric) : Type 0 where
  pub long_enough : min_snapshot_bytes ≤ length s
  pub short_enough : length s ≤ max_snapshot_bytes
  pub magic_is : num s 0 8 ≡ le magic
  pub version_is : version_of (num s 8 4) ≡ Ok v
  pub metric_is : header_metric v s ≡ Ok metric
  pub valid : validate (header_config v s metric) ≡ Ok tt
  pub whole : header_length v ≤ body_length s
  pub few : header_count v s ≤ max_records
  pub room : header_count v s ≤ (body_length s - header_length v) / record_length (num s 12 4) 0
  pub in_sequence : over_sequence v (header_sequence v s) (header_count v s) ≡ false

pub record HeaderRead (s : List ℕ) (h : Header) : Type 0 where
  pub version : Version
  pub metric : Metric
  pub facts : HeaderFacts s version metric
  pub is : h ≡ header_in version s metric

-- the fields behind the version
fields_read : (s : List ℕ) (v : Version) (h : Header) → min_snapshot_bytes ≤ length s → length s ≤ max_snapshot_bytes → num s 0 8 ≡ le magic
    → version_of (num s 8 4) ≡ Ok v → header_for s v ≡ Ok h → HeaderRead s h
unfolding header_for counted_header
fields_read s v h long short first_is version_is e =
    let s1 = passed (header_metric v s) _ h e in
    let m = s1.value in
    let s2 = passed (validate (header_config v s m)) _ h s1.then in
    let s3 = went PastTheEnd (ltb (body_length s) (header_length v)) _ h s2.then in
    let s4 = went WrongCount (ltb max_records (header_count v s)) _ h s3.then in
    let s5 = went WrongCount (ltb ((body_length s - header_length v) / record_length (num s 12 4) 0) (header_count v s)) _ h s4.then in
    let s6 = went WrongCount (over_sequence v (header_sequence v s) (header_count v s)) _ h s5.then in
    record {
      version = v;
      metric = m;
      facts =
          record {
            long_enough = long;
            short_enough = short;
            magic_is = first_is;
            version_is = version_is;
            metric_is = s1.first;
            valid = s2.first;
            whole = ltb-false _ _ s3.test_false;
            few = ltb-false _ _ s4.test_false;
            room = ltb-false _ _ s5.test_false;
            in_sequence = s6.test_false;
          };
      is = sym (answer_injective (header_in v s m) h s6.then);
    }

pub header_read : (s : List ℕ) (h : Header) → read_header s ≡ Ok h → HeaderRead s h
unfolding read_header
header_read s h e =
    let s1 = went LengthOutOfBounds (ltb (length s) min_snapshot_bytes) _ h e in
    let s2 = went LengthOutOfBounds (ltb max_snapshot_bytes (length s)) _ h s1.then in
    let s3 = went WrongMagic (not (eqb (num s 0 8) (le magic))) _ h s2.then in
    let s4 = passed (version_of (num s 8 4)) (header_for s) h s3.then in
    fields_read s s4.value h (ltb-false _ _ s1.test_false) (ltb-false _ _ s2.test_false) (eqb-true _ _ (not-false _ s3.test_false)) s4.first s4.then

pub header_reads : (s : List ℕ) (v : Version) (m : Metric) → HeaderFacts s v m → read_header s ≡ Ok (header_in v s m)
unfolding read_header header_for counted_header
header_reads s v m f =
    pass LengthOutOfBounds (ltb (length s) min_snapshot_bytes) _ (le-ltb _ _ f.long_enough)
    ∙ pass LengthOutOfBounds (ltb max_snapshot_bytes (length s)) _ (le-ltb _ _ f.short_enough)
    ∙ pass WrongMagic (not (eqb (num s 0 8) (le magic))) _ (ap not (eq-eqb _ _ f.magic_is))
    ∙ go_on (version_of (num s 8 4)) (header_for s) v f.version_is
    ∙ go_on (header_metric v s) _ m f.metric_is
    ∙ go_on (validate (header_config v s m)) _ tt f.valid
    ∙ pass PastTheEnd (ltb (body_length s) (header_length v)) _ (le-ltb _ _ f.whole)
    ∙ pass WrongCount (ltb max_records (header_count v s)) _ (le-ltb _ _ f.few)
    ∙ pass WrongCount (ltb ((body_length s - header_length v) / record_length (num s 12 4) 0) (header_count v s)) _ (le-ltb _ _ f.room)
    ∙ pass WrongCount (over_sequence v (header_sequence v s) (header_count v s)) _ f.in_sequence
