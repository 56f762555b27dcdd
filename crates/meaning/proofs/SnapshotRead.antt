-- A snapshot's records and the snapshot, read: an answer says these facts, and they give the answer.
use Rattle.std.specs.Prelude.{Ok}
use Prim.Native.Nat.{ℕ, zero, suc, ◌+◌, ◌≤◌}
use native.Mathlib.Omega.{arith}
use mathlib.Core.Path.{◌≡◌, refl, sym, ap, ◌∙◌, subst}
use mathlib.Core.Bool.{Bool, true, false, not, cond}
use mathlib.Core.List.{List}
use lib.Dec.{ltb, eqb}
use lib.ListN.{length}
use Rattle.crc32.specs.Crc.{crc_of}
use Rattle.fields.specs.Fields.{part, num}
use Rattle.config.specs.declared.Config.{Config}
use Rattle.config.specs.declared.Metric.{Metric}
use Rattle.refusal.specs.declared.Refusal.TheVariants.{PastTheEnd, WrongFlag, VectorPastTheEnd, TooFewRows, BytesLeftOver, WrongFileCrc, ActiveTwice}
use Rattle.layout.specs.Layout.{record_head, record_length}
use Rattle.layout.specs.declared.Version.{Version}
use Rattle.rows.specs.declared.Row.{Row}
use Rattle.meaning.specs.Every.{Every}
use Rattle.meaning.specs.Replay.{size}
use Rattle.meaning.specs.Records.{row_kind}
use Rattle.meaning.specs.Item.{item_at}
use Rattle.meaning.specs.Snapshot.{body_length, Header, read_header, ReadRow, snapshot_row, record_at, ReadRows, records_at, live_twice, Snapshot, read_body, read_parts, read_snapshot}
use Rattle.meaning.proofs.ItemRead.{ItemHere, item_read}
use Rattle.meaning.proofs.HeaderRead.{HeaderFacts, header_read, header_in}
use borrow.Author.Tests.{ltb-false, le-ltb, eqb-true, eq-eqb, not-false}
use Rattle.refusal.proofs.Results.{answer_injective, passed, went, pass, go_on}

-- ---- one record: its flag, and its coordinates and caption of n bytes
pub record RecordFacts (c : Config) (s : List ℕ) (end at n : ℕ) : Type 0 where
  pub flag_low : num s (at + 8) 1 ≤ 1
  pub item : ItemHere c s end (at + record_head) n

pub record RecordRead (c : Config) (s : List ℕ) (end at : ℕ) (x : ReadRow) : Type 0 where
  pub caption : ℕ
  pub facts : RecordFacts c s end at caption
  pub is : x ≡ snapshot_row c s at caption

pub record_facts : (c : Config) (s : List ℕ) (end at : ℕ) (x : ReadRow) → record_at c s end at ≡ Ok x → RecordRead c s end at x
unfolding record_at
record_facts c s end at x e =
    let s1 = went PastTheEnd (ltb end (at + record_head)) _ x e in
    let s2 = went WrongFlag (ltb 1 (num s (at + 8) 1)) _ x s1.then in
    let s3 = passed (item_at VectorPastTheEnd c s end (at + record_head)) _ x s2.then in
    record {
      caption = s3.value;
      facts =
          record {
            flag_low = ltb-false 1 (num s (at + 8) 1) s2.test_false;
            item = item_read VectorPastTheEnd c s end (at + record_head) s3.value s3.first;
          };
      is = sym (answer_injective _ x s3.then);
    }

-- a deleted row has no caption
pub caption_low : (t : Bool) (n : ℕ) → cond t 0 n ≤ n
caption_low true n = omega arith
caption_low false n = omega arith

-- ---- n records from `at` on: each row with the record that it was read from, and that they have room
pub record RowRead (c : Config) (s : List ℕ) (end : ℕ) (r : Row) : Type 0 where
  pub at : ℕ
  pub caption : ℕ
  pub facts : RecordFacts c s end at caption
  pub is : r ≡ (snapshot_row c s at caption).row

pub record RecordsRead (n : ℕ) (c : Config) (s : List ℕ) (end at : ℕ) (x : ReadRows) : Type 0 where
  pub counted : length x.rows ≡ n
  pub each : Every (RowRead c s end) x.rows
  pub sized : at + size (row_kind c.dimensions) x.rows ≤ x.next

pub records_facts : (n : ℕ) (c : Config) (s : List ℕ) (end at : ℕ) (x : ReadRows) → records_at n c s end at ≡ Ok x → RecordsRead n c s end at x
unfolding records_at size
records_facts zero c s end at x e = subst (RecordsRead 0 c s end at) (answer_injective _ x e) (record { counted = refl; each = tt; sized = omega arith })
records_facts (suc n) c s end at x e =
    let s1 = passed (record_at c s end at) _ x e in
    let y = s1.value in
    let s2 = passed (records_at n c s end y.next) _ x s1.then in
    let r = record_facts c s end at y s1.first in
    let t = eqb (num s (at + 8) 1) 1 in
    let caption_is : y.row.caption_length ≡ cond t 0 r.caption = ap (λ (z : ReadRow). z.row.caption_length) r.is in
    let next_is : y.next ≡ at + record_length c.dimensions r.caption = ap (λ (z : ReadRow). z.next) r.is in
    let low = caption_low t r.caption in
    let more = records_facts n c s end y.next s2.value s2.first in
    let rest = more.sized in
    subst (RecordsRead (suc n) c s end at) (answer_injective _ x s2.then)
    (record {
      counted = ap suc more.counted;
      each = (record { at = at; caption = r.caption; facts = r.facts; is = ap (λ (z : ReadRow). z.row) r.is }, more.each);
      sized = omega arith;
    })

-- ---- the file up to and with its CRC, in the words of its header's fields
pub record PartsFacts (lent : ℕ) (s : List ℕ) (h : Header) (found : ReadRows) : Type 0 where
  pub header_is : read_header s ≡ Ok h
  pub enough : h.count ≤ lent
  pub records_are : records_at h.count h.config s (body_length s) h.first ≡ Ok found
  pub ends : found.next ≡ body_length s
  pub crc_is : crc_of (part s 0 (body_length s)) ≡ num s (body_length s) 4

abbrev pub snapshot_in : List ℕ → Header → ReadRows → Snapshot
snapshot_in s h found = record { config = h.config; crc = num s (body_length s) 4; sequence = h.sequence; rows = found.rows }

pub record PartsRead (lent : ℕ) (s : List ℕ) (x : Snapshot) : Type 0 where
  pub version : Version
  pub metric : Metric
  pub found : ReadRows
  pub header : HeaderFacts s version metric
  pub facts : PartsFacts lent s (header_in version s metric) found
  pub is : snapshot_in s (header_in version s metric) found ≡ x

pub parts_facts : (lent : ℕ) (s : List ℕ) (x : Snapshot) → read_parts lent s ≡ Ok x → PartsRead lent s x
unfolding read_parts read_body
parts_facts lent s x e =
    let s1 = passed (read_header s) _ x e in
    let h = s1.value in
    let s2 = went TooFewRows (ltb lent h.count) _ x s1.then in
    let s3 = passed (records_at h.count h.config s (body_length s) h.first) _ x s2.then in
    let found = s3.value in
    let s4 = went BytesLeftOver (not (eqb found.next (body_length s))) _ x s3.then in
    let s5 = went WrongFileCrc (not (eqb (crc_of (part s 0 (body_length s))) (num s (body_length s) 4))) _ x s4.then in
    let f : PartsFacts lent s h found =
    record {
      header_is = s1.first;
      enough = ltb-false _ _ s2.test_false;
      records_are = s3.first;
      ends = eqb-true _ _ (not-false _ s4.test_false);
      crc_is = eqb-true _ _ (not-false _ s5.test_false);
    } in
    let r = header_read s h s1.first in
    record {
      version = r.version;
      metric = r.metric;
      found = found;
      header = r.facts;
      facts = subst (λ (y : Header). PartsFacts lent s y found) r.is f;
      is = ap (λ (y : Header). snapshot_in s y found) (sym r.is) ∙ answer_injective (snapshot_in s h found) x s5.then;
    }

-- ---- the whole file
pub record SnapshotRead (lent : ℕ) (s : List ℕ) (x : Snapshot) : Type 0 where
  pub parts : PartsRead lent s x
  pub once : live_twice x.rows ≡ false

pub snapshot_facts : (lent : ℕ) (s : List ℕ) (x : Snapshot) → read_snapshot lent s ≡ Ok x → SnapshotRead lent s x
unfolding read_snapshot
snapshot_facts lent s x e =
    let s1 = passed (read_parts lent s) _ x e in
    let y = s1.value in
    let s2 = went ActiveTwice (live_twice y.rows) _ x s1.then in
    subst (SnapshotRead lent s) (answer_injective y x s2.then) (record { parts = parts_facts lent s y s1.first; once = s2.test_false })

pub snapshot_reads : (lent : ℕ) (s : List ℕ) (h : Header) (found : ReadRows) → PartsFacts lent s h found → live_twice found.rows ≡ false
    → read_snapshot lent s ≡ Ok (snapshot_in s h found)
unfolding read_snapshot read_parts read_body
snapshot_reads lent s h found f once =
    go_on (read_parts lent s) _ (snapshot_in s h found)
    (go_on (read_header s) _ h f.header_is
    ∙ pass TooFewRows (ltb lent h.count) _ (le-ltb lent h.count f.enough)
    ∙ go_on (records_at h.count h.config s (body_length s) h.first) _ found f.records_are
    ∙ pass BytesLeftOver (not (eqb found.next (body_length s))) _ (ap not (eq-eqb _ _ f.ends))
    ∙ pass WrongFileCrc (not (eqb (crc_of (part s 0 (body_length s))) (num s (body_length s) 4))) _ (ap not (eq-eqb _ _ f.crc_is)))
    ∙ pass ActiveTwice (live_twice found.rows) _ once
