-- What the writer writes is read back, and a file that is accepted is read as what it was made of: the same settings, sequence and records.
use Rattle.std.specs.Prelude.{Ok}
use Prim.Native.Nat.{ℕ, ◌+◌, ◌*◌, ◌≤◌}
use mathlib.Core.Path.{◌≡◌, refl, sym, ap, subst, ◌∙◌, ap₂}
use mathlib.Core.Bool.{false}
use mathlib.Core.List.{List, [], ◌∷◌, ◌++◌, append_assoc, append-nil, map}
use native.Mathlib.Omega.{arith}
use lib.ListN.{length, drop, length-append}
use lib.Seq.{drop_at}
use Rattle.crc32.specs.Crc.{crc_of}
use Rattle.fields.specs.Fields.{part, num, bytes}
use Rattle.fields.proofs.Numbers.{length_bytes}
use Rattle.config.specs.Limits.{max_snapshot_bytes, max_records}
use Rattle.config.specs.Settings.{validate}
use Rattle.config.specs.declared.Config.{Config}
use Rattle.meaning.specs.Replay.{size}
use Rattle.meaning.specs.Records.{Record, record_kind, seen}
use Rattle.layout.specs.Layout.{record_length, header_length, snapshot_length}
use Rattle.meaning.specs.Snapshot.{body_length, over_sequence, read_header, Snapshot, read_snapshot, Header, records_at}
use Rattle.layout.specs.declared.Version.{Version}
use Rattle.layout.specs.declared.Version.TheVariants.{Two}
use Rattle.meaning.specs.File.{records_bytes, header_bytes, body_bytes, file_of}
use Rattle.theorems.specs.Storable.{Fit, Sourced, Storable}
use Rattle.crc32.proofs.Bytes.{crc_lt}
use Rattle.theorems.proofs.Here.{part_here, num_here}
use Rattle.meaning.specs.Every.{Every}
use Rattle.meaning.proofs.LiveOnceLaws.{single_map, single_of_seen, live_twice_of_single}
use Rattle.theorems.proofs.RecordBack.{Wide, all_shaped, all_wide, all_readable, all_at, length_records, records_back, records_seen, records_sourced, all_as_read, records_read}
use Rattle.theorems.specs.FileRows.{as_read, file_rows}
use Rattle.theorems.proofs.ItemBack.{Readable}
use Rattle.meaning.proofs.HeaderRead.{header_in}
use Rattle.meaning.proofs.SnapshotRead.{snapshot_reads, snapshot_in, snapshot_facts}
use Rattle.theorems.specs.AnyFile.{header_of, HeaderFits, body_with, file_with, Shaped}
use Rattle.theorems.proofs.HeaderBack.{length_any_header, header_fits, HeaderStands, header_stands, header_with, header_back, header_seen}
use Rattle.meaning.specs.LiveOnce.{LiveOnce}

pub file_with_two : (c : Config) (sequence : ℕ) (records : List Record) → file_with Two c sequence records ≡ file_of c sequence records
unfolding file_with file_of header_of header_bytes
file_with_two c sequence records = refl

pub record FileStands (v : Version) (s : List ℕ) (c : Config) (sequence : ℕ) (records : List Record) : Type 0 where
  pub header : HeaderStands v s c sequence (length records) (records_bytes records ++ bytes 4 (crc_of (body_with v c sequence records)))
  pub length_is : length s ≡ header_length v + length (records_bytes records) + 4
  pub body_is : part s 0 (body_length s) ≡ body_with v c sequence records
  pub crc_is : num s (body_length s) 4 ≡ crc_of (body_with v c sequence records)

pub file_stands : (v : Version) (c : Config) (q : ℕ) (rs : List Record) → HeaderFits v c q (length rs) → FileStands v (file_with v c q rs) c q rs
unfolding file_with
file_stands v c q rs f =
    let s = file_with v c q rs in
    let header = header_of v c q (length rs) in
    let body = body_with v c q rs in
    let crc = crc_of body in
    let l1 : length body ≡ header_length v + length (records_bytes rs) = length-append header (records_bytes rs) ∙ ap (λ (n : ℕ). n + length (records_bytes rs)) (length_any_header v c q (length rs)) in
    let l2 : length s ≡ length body + 4 = length-append body (bytes 4 crc) ∙ ap (λ (n : ℕ). length body + n) (length_bytes 4 crc) in
    let l3 : length body ≡ body_length s = omega arith in
    record {
      header = header_stands v s c q (length rs) _ (append_assoc header (records_bytes rs) (bytes 4 crc)) f;
      length_is = omega arith;
      body_is = part_here s 0 (body_length s) body (bytes 4 crc) refl l3;
      crc_is = num_here s (body_length s) 4 crc [] (drop_at body (bytes 4 crc) (body_length s) l3 ∙ sym (append-nil (bytes 4 crc))) (omega (arith, crc_lt body));
    }

-- every record takes at least what a record without caption takes
pub size_low : (d : ℕ) (rs : List Record) → length rs * record_length d 0 ≤ size (record_kind d) rs
unfolding size
size_low d [] = omega arith
size_low d (r ∷ rs) = omega (arith, size_low d rs)

-- a file of records that a reader accepts
pub record Acceptable (v : Version) (c : Config) (sequence : ℕ) (records : List Record) : Type 0 where
  pub fields : HeaderFits v c sequence (length records)
  pub valid : validate c ≡ Ok tt
  pub few : length records ≤ max_records
  pub ordered : over_sequence v sequence (length records) ≡ false
  pub short : length (file_with v c sequence records) ≤ max_snapshot_bytes
  pub readable : Every (Readable c) records
  pub single : LiveOnce (record_kind c.dimensions) records

abbrev pub snapshot_of : Version → Config → ℕ → List Record → Snapshot
snapshot_of v c sequence records =
    record { config = c; crc = crc_of (body_with v c sequence records); sequence = sequence; rows = file_rows (header_length v) records }

pub file_with_header_back : (v : Version) (c : Config) (q : ℕ) (rs : List Record) → Acceptable v c q rs
    → read_header (file_with v c q rs) ≡ Ok (header_with v c q (length rs))
file_with_header_back v c q rs a =
    let d = c.dimensions in
    let f = file_stands v c q rs a.fields in
    let length_is = f.length_is in
    let bytes_are = length_records d rs (all_wide d rs (all_shaped c rs a.readable)) in
    let low = size_low d rs in
    header_back v (file_with v c q rs) c q (length rs) _ f.header a.valid a.few a.ordered (omega arith) a.short

pub file_with_back : (lent : ℕ) (v : Version) (c : Config) (q : ℕ) (rs : List Record) → Acceptable v c q rs → length rs ≤ lent
    → read_snapshot lent (file_with v c q rs) ≡ Ok (snapshot_of v c q rs)
file_with_back lent v c q rs a enough =
    let d = c.dimensions in
    let n = length rs in
    let s = file_with v c q rs in
    let f = file_stands v c q rs a.fields in
    let shaped = all_shaped c rs a.readable in
    let here = f.header.behind in
    let length_is = f.length_is in
    let ends : header_length v + length (records_bytes rs) ≡ body_length s = omega arith in
    let eH = file_with_header_back v c q rs a in
    let eR = records_back c s (body_length s) (header_length v) rs _ here (omega arith) a.readable in
    let rows = file_rows (header_length v) rs in
    let seen_are = records_seen d s [] (header_length v) rs _ here shaped in
    let single = single_of_seen d d s [] rows (subst (LiveOnce (record_kind d)) (sym seen_are) (single_map (record_kind d) (record_kind d) as_read (λ r. refl) (λ r. refl) rs a.single)) in
    let crc_is = f.crc_is in
    snapshot_reads lent s (header_with v c q n) (all_at (header_length v) rs)
    (record {
      header_is = eH;
      enough = enough;
      records_are = eR;
      ends = ends;
      crc_is = ap crc_of f.body_is ∙ sym crc_is;
    })
    (live_twice_of_single d rows single)
    ∙ ap (λ (k : ℕ). Ok (record { config = c; crc = k; sequence = q; rows = rows })) crc_is

-- ---- the file that is written: version 2, deleted records without captions
length_body : (v : Version) (c : Config) (q : ℕ) (rs : List Record) → length (body_with v c q rs) ≡ header_length v + length (records_bytes rs)
length_body v c q rs =
    length-append (header_of v c q (length rs)) (records_bytes rs) ∙ ap (λ (n : ℕ). n + length (records_bytes rs)) (length_any_header v c q (length rs))

pub length_file_with : (v : Version) (c : Config) (q : ℕ) (rs : List Record) → Every (Wide c.dimensions) rs
    → length (file_with v c q rs) ≡ header_length v + size (record_kind c.dimensions) rs + 4
unfolding file_with
length_file_with v c q rs wide =
    let body = body_with v c q rs in
    omega (arith, length-append body (bytes 4 (crc_of body)), length_bytes 4 (crc_of body), length_body v c q rs, length_records c.dimensions rs wide)

pub length_file_of : (c : Config) (q : ℕ) (rs : List Record) → Every (Wide c.dimensions) rs
    → length (file_of c q rs) ≡ snapshot_length (size (record_kind c.dimensions) rs)
length_file_of c q rs wide = omega (arith, ap length (file_with_two c q rs), length_file_with Two c q rs wide)

-- the records stand behind the header
pub records_here : (v : Version) (c : Config) (q : ℕ) (rs : List Record)
    → drop (header_length v) (file_with v c q rs) ≡ records_bytes rs ++ bytes 4 (crc_of (body_with v c q rs))
unfolding file_with
records_here v c q rs =
    let header = header_of v c q (length rs) in
    let crc = bytes 4 (crc_of (body_with v c q rs)) in
    ap (drop (header_length v)) (append_assoc header (records_bytes rs) crc) ∙ drop_at header (records_bytes rs ++ crc) (header_length v) (length_any_header v c q (length rs))

acceptable : (c : Config) (q : ℕ) (rs : List Record) → Storable c q rs → Acceptable Two c q rs
unfolding file_with file_of header_of header_bytes
acceptable c q rs k =
    record {
      fields = header_fits c q (length rs) k.valid k.seed_fits k.sequence_fits k.few;
      valid = k.valid;
      few = k.few;
      ordered = refl;
      short = k.short;
      readable = all_readable c rs k.fit;
      single = k.single;
    }

-- its header is read back
pub file_header_back : (c : Config) (q : ℕ) (rs : List Record) → Storable c q rs
    → read_header (file_of c q rs) ≡ Ok (record { config = c; sequence = q; count = length rs; first = 52 })
unfolding file_with file_of header_of header_bytes
file_header_back c q rs k = file_with_header_back Two c q rs (acceptable c q rs k)

-- it is accepted where as many rows are lent
pub file_back : (lent : ℕ) (c : Config) (q : ℕ) (rs : List Record) → Storable c q rs → length rs ≤ lent
    → read_snapshot lent (file_of c q rs) ≡ Ok (record { config = c; crc = crc_of (body_bytes c q rs); sequence = q; rows = file_rows 52 rs })
unfolding file_with file_of header_of header_bytes
file_back lent c q rs k enough = file_with_back lent Two c q rs (acceptable c q rs k) enough

-- its rows show the records that were written
pub file_seen : (c : Config) (q : ℕ) (rs : List Record) (log : List ℕ) → Every (Fit c) rs
    → map (seen c.dimensions (file_of c q rs) log) (file_rows 52 rs) ≡ rs
unfolding file_with file_of header_of header_bytes
file_seen c q rs log k =
    records_seen c.dimensions (file_of c q rs) log 52 rs _ (records_here Two c q rs) (all_shaped c rs (all_readable c rs k))
    ∙ all_as_read c rs k

pub file_sourced : (c : Config) (q : ℕ) (rs : List Record) (log : List ℕ) → Every (Fit c) rs
    → Every (Sourced c (file_of c q rs) log) (file_rows 52 rs)
unfolding file_with file_of header_of header_bytes
file_sourced c q rs log k = records_sourced c (file_of c q rs) log 52 rs _ (records_here Two c q rs) k

-- deleted records may have captions there
pub file_read : (lent : ℕ) (v : Version) (c : Config) (q : ℕ) (rs : List Record) (x : Snapshot)
    → HeaderFits v c q (length rs) → Every (Shaped c.dimensions) rs
    → read_snapshot lent (file_with v c q rs) ≡ Ok x → x ≡ snapshot_of v c q rs
file_read lent v c q rs x fits shaped e =
    let s = file_with v c q rs in
    let f = file_stands v c q rs fits in
    let r = (snapshot_facts lent s x e).parts in
    let h : header_in r.version s r.metric ≡ header_with v c q (length rs) = header_seen v s c q (length rs) _ _ f.header r.facts.header_is in
    let found-is : records_at (length rs) c s (body_length s) (header_length v) ≡ Ok r.found =
    ap (λ (y : Header). records_at y.count y.config s (body_length s) y.first) (sym h) ∙ r.facts.records_are in
    let g : r.found ≡ all_at (header_length v) rs = records_read c s (body_length s) (header_length v) rs _ r.found f.header.behind shaped found-is in
    sym r.is ∙ ap₂ (snapshot_in s) h g ∙ ap (λ (k : ℕ). record { config = c; crc = k; sequence = q; rows = file_rows (header_length v) rs }) f.crc_is
