-- A record as it stands in a file: its fields are read back, whatever a deleted one has for a caption.
use Rattle.std.specs.Prelude.{Ok}
use Prim.Native.Nat.{ℕ, suc, ◌+◌, ◌*◌, ◌≤◌, ◌<◌, ◌^◌}
use mathlib.Core.Path.{◌≡◌, refl, sym, ap, ap₂, subst, ◌∙◌}
use mathlib.Core.Bool.{Bool, true, false, cond}
use mathlib.Core.List.{List, [], ◌∷◌, ◌++◌, append_assoc, map}
use native.Mathlib.Omega.{arith}
use lib.ListN.{length, drop, length-append}
use lib.Dec.{ltb, eqb, lit<}
use Rattle.fields.specs.Fields.{part, num, bytes}
use Rattle.config.specs.declared.Config.{Config}
use Rattle.refusal.specs.Refusal.{Answer}
use Rattle.refusal.specs.declared.Refusal.TheVariants.{PastTheEnd, WrongFlag, VectorPastTheEnd}
use Rattle.meaning.specs.Replay.{size}
use Rattle.meaning.specs.Records.{Record, seen, record_kind}
use Rattle.rows.specs.declared.Row.{Row}
use Rattle.layout.specs.Layout.{caption_offset, record_length}
use Rattle.meaning.specs.File.{flag_of, record_bytes, records_bytes}
use Rattle.meaning.specs.Item.{item_at}
use Rattle.meaning.specs.Snapshot.{ReadRow, snapshot_row, record_at, ReadRows, records_at}
use Rattle.theorems.specs.Storable.{Fit, Sourced}
use Rattle.meaning.proofs.EveryLaws.{every_map}
use Rattle.meaning.proofs.ItemRead.{item_reads}
use Rattle.meaning.proofs.SnapshotRead.{record_facts}
use Rattle.theorems.proofs.Here.{after_here, num_here, after_number, room_here}
use Rattle.theorems.proofs.ItemBack.{Readable, ItemStands, item_stands, item_back}
use Rattle.meaning.specs.Every.{Every}
use borrow.Author.Tests.{le-ltb}
use Rattle.refusal.proofs.Results.{answer_injective, passed, pass, go_on}
use Rattle.theorems.specs.FileRows.{caption_read, as_read, record_row, file_rows}
use Rattle.theorems.specs.AnyFile.{Shaped}
use Rattle.meaning.proofs.Lengths.{length_record}

-- the vector has d coordinates
abbrev pub Wide : ℕ → Record → Type 0
Wide d r = length r.vector ≡ 4 * d

pub readable_of_fit : (c : Config) (r : Record) → Fit c r → Readable c r
readable_of_fit c r f =
    let few = f.caption_length_lem in
    record {
      shaped = record { id_fits = f.id_fits; vector_length = f.vector_length; caption_fits = omega arith };
      vector_good = f.vector_good;
      caption_length_lem = few;
      caption_good = f.caption_good;
    }

pub all_shaped : (c : Config) (rs : List Record) → Every (Readable c) rs → Every (Shaped c.dimensions) rs
all_shaped c = every_map (Readable c) (Shaped c.dimensions) (λ r k. k.shaped)

pub all_wide : (d : ℕ) (rs : List Record) → Every (Shaped d) rs → Every (Wide d) rs
all_wide d = every_map (Shaped d) (Wide d) (λ r k. k.vector_length)

pub all_readable : (c : Config) (rs : List Record) → Every (Fit c) rs → Every (Readable c) rs
all_readable c = every_map (Fit c) (Readable c) (readable_of_fit c)

pub as_read_lem : (c : Config) (r : Record) → Fit c r → as_read r ≡ r
as_read_lem c r f = ap (λ (l : List ℕ). record { id = r.id; deleted = r.deleted; vector = r.vector; caption = l }) (go r.deleted refl)
  where
    go : (t : Bool) → r.deleted ≡ t → cond t [] r.caption ≡ r.caption
    go true q = sym (f.deleted_empty q)
    go false q = refl

-- the row's source is the snapshot
abbrev pub InFile : Row → Type 0
InFile r = r.from_log ≡ false

-- the fields of a record that stands at `at`
pub record RecordStands (d : ℕ) (s : List ℕ) (at : ℕ) (r : Record) : Type 0 where
  pub id_is : num s at 8 ≡ r.id
  pub flag_is : num s (at + 8) 1 ≡ flag_of r.deleted
  pub item : ItemStands d s (at + 9) r

flag_fits : (t : Bool) → flag_of t < 256 ^ 1
flag_fits true = lit< tt
flag_fits false = lit< tt

pub record_stands : (d : ℕ) (s : List ℕ) (at : ℕ) (r : Record) (rest : List ℕ) → drop at s ≡ record_bytes r ++ rest → Shaped d r → RecordStands d s at r
record_stands d s at r rest h k =
    let n = length r.caption in
    let h0 : drop at s ≡ bytes 8 r.id ++ (bytes 1 (flag_of r.deleted) ++ (r.vector ++ (bytes 4 n ++ (r.caption ++ rest)))) = h ∙ simp append_assoc in
    let h1 = after_number s at 8 r.id _ h0 in
    let h2' = after_number s (at + 8) 1 (flag_of r.deleted) _ h1 in
    let e2 : at + 8 + 1 ≡ at + 9 = omega arith in
    let h2 : drop (at + 9) s ≡ r.vector ++ (bytes 4 n ++ (r.caption ++ rest)) = subst (λ (x : ℕ). drop x s ≡ r.vector ++ (bytes 4 n ++ (r.caption ++ rest))) e2 h2' in
    record {
      id_is = num_here s at 8 r.id _ h0 k.id_fits;
      flag_is = num_here s (at + 8) 1 (flag_of r.deleted) _ h1 (flag_fits r.deleted);
      item = item_stands d s (at + 9) r rest h2 k;
    }

-- ---- one record
flag_read : (t : Bool) → eqb (flag_of t) 1 ≡ t
flag_read true = refl
flag_read false = refl

caption_count : (t : Bool) (l : List ℕ) → cond t 0 (length l) ≡ length (cond t [] l)
caption_count true l = refl
caption_count false l = refl

abbrev pub read_at : ℕ → Record → ReadRow
read_at at r = record { row = record_row at r; next = at + length (record_bytes r) }

row_of_stands : (c : Config) (s : List ℕ) (at : ℕ) (r : Record) → RecordStands c.dimensions s at r → Shaped c.dimensions r
    → snapshot_row c s at (length r.caption) ≡ read_at at r
row_of_stands c s at r h k =
    let e : eqb (num s (at + 8) 1) 1 ≡ r.deleted = ap (λ (x : ℕ). eqb x 1) h.flag_is ∙ flag_read r.deleted in
    rw (h.id_is, e, length_record c.dimensions r k.vector_length, caption_count r.deleted r.caption) refl

-- a record that is accepted where it stands is read so
pub record_read : (c : Config) (s : List ℕ) (end at : ℕ) (r : Record) (rest : List ℕ) (x : ReadRow)
    → drop at s ≡ record_bytes r ++ rest → Shaped c.dimensions r → record_at c s end at ≡ Ok x → x ≡ read_at at r
record_read c s end at r rest x h k e =
    let p = record_stands c.dimensions s at r rest h k in
    let y = record_facts c s end at x e in
    y.is ∙ ap (λ (n : ℕ). snapshot_row c s at n) (y.facts.item.caption_is ∙ p.item.length_is) ∙ row_of_stands c s at r p k

-- a record that a reader accepts is accepted where it stands
pub record_back : (c : Config) (s : List ℕ) (end at : ℕ) (r : Record) (rest : List ℕ)
    → drop at s ≡ record_bytes r ++ rest → at + length (record_bytes r) ≤ end → Readable c r → record_at c s end at ≡ Ok (read_at at r)
unfolding record_at
record_back c s end at r rest h room k =
    let d = c.dimensions in
    let n = length r.caption in
    let p = record_stands d s at r rest h k.shaped in
    let size_is = length_record d r k.shaped.vector_length in
    let flag_low : flag_of r.deleted ≤ 1 = flag_bit r.deleted in
    let flag_is = p.flag_is in
    let i = item_back c s end (at + 9) r p.item k (omega arith) in
    pass PastTheEnd (ltb end (at + 9)) _ (le-ltb end (at + 9) (omega arith))
    ∙ pass WrongFlag (ltb 1 (num s (at + 8) 1)) _ (le-ltb 1 (num s (at + 8) 1) (omega arith))
    ∙ go_on (item_at VectorPastTheEnd c s end (at + 9)) _ n (item_reads VectorPastTheEnd c s end (at + 9) n i)
    ∙ ap Ok (row_of_stands c s at r p k.shaped)
  where
    flag_bit : (t : Bool) → flag_of t ≤ 1
    flag_bit true = omega arith
    flag_bit false = omega arith

pub seen_back : (d : ℕ) (s log : List ℕ) (at : ℕ) (r : Record) (rest : List ℕ)
    → drop at s ≡ record_bytes r ++ rest → Shaped d r → seen d s log (record_row at r) ≡ as_read r
seen_back d s log at r rest h k =
    let p = record_stands d s at r rest h k in
    let e = go r.deleted p.item.caption_is in
    rw (p.item.vector_is, e)
  where
    go : (t : Bool) → part s (at + 9 + caption_offset d) (length r.caption) ≡ r.caption
        → part s (at + 9 + caption_offset d) (length (cond t [] r.caption)) ≡ cond t [] r.caption
    go true e = refl
    go false e = e

caption_read_low : (t : Bool) (l : List ℕ) → length (cond t [] l) ≤ length l
caption_read_low true l = omega arith
caption_read_low false l = omega arith

pub sourced_back : (c : Config) (s log : List ℕ) (at : ℕ) (r : Record) (rest : List ℕ)
    → drop at s ≡ record_bytes r ++ rest → Fit c r → Sourced c s log (record_row at r)
sourced_back c s log at r rest h f =
    let d = c.dimensions in
    let k = (readable_of_fit c r f).shaped in
    let size_is : length (record_bytes r) ≡ record_length d (length r.caption) = length_record d r k.vector_length in
    let room : at + length (record_bytes r) ≤ length s = room_here s at (record_bytes r) rest h (omega arith) in
    let few : length (caption_read r) ≤ length r.caption = caption_read_low r.deleted r.caption in
    record { inside = omega arith; fit = subst (Fit c) (sym (seen_back d s log at r rest h k ∙ as_read_lem c r f)) f }

pub length_rows : (at : ℕ) (rs : List Record) → length (file_rows at rs) ≡ length rs
unfolding file_rows
length_rows at [] = refl
length_rows at (r ∷ rs) = ap suc (length_rows (at + length (record_bytes r)) rs)

-- what stands behind the first record
next_here : (s : List ℕ) (at : ℕ) (r : Record) (rs : List Record) (rest : List ℕ) → drop at s ≡ records_bytes (r ∷ rs) ++ rest
    → (drop at s ≡ record_bytes r ++ (records_bytes rs ++ rest)) × (drop (at + length (record_bytes r)) s ≡ records_bytes rs ++ rest)
unfolding records_bytes
next_here s at r rs rest h =
    let h0 : drop at s ≡ record_bytes r ++ (records_bytes rs ++ rest) = h ∙ append_assoc (record_bytes r) (records_bytes rs) rest in
    (h0, after_here s at (length (record_bytes r)) (record_bytes r) (records_bytes rs ++ rest) h0 refl)

abbrev pub all_at : ℕ → List Record → ReadRows
all_at at rs = record { rows = file_rows at rs; next = at + length (records_bytes rs) }

all_nil : (at : ℕ) → ◌≡◌ {A = Answer ReadRows} (Ok (record { rows = []; next = at })) (Ok (all_at at []))
unfolding file_rows records_bytes
all_nil at = let e : at ≡ at + 0 = omega arith in ap (λ (n : ℕ). Ok (record { rows = []; next = n })) e

all_cons : (at : ℕ) (r : Record) (rs : List Record) → record { rows = record_row at r ∷ file_rows (at + length (record_bytes r)) rs; next = at + length (record_bytes r) + length (records_bytes rs) } ≡ all_at at (r ∷ rs)
unfolding file_rows records_bytes
all_cons at r rs =
    let e : at + length (record_bytes r) + length (records_bytes rs) ≡ at + length (record_bytes r ++ records_bytes rs) = omega (arith, length-append (record_bytes r) (records_bytes rs)) in
    ap (λ (n : ℕ). record { rows = record_row at r ∷ file_rows (at + length (record_bytes r)) rs; next = n }) e

pub records_back : (c : Config) (s : List ℕ) (end at : ℕ) (rs : List Record) (rest : List ℕ)
    → drop at s ≡ records_bytes rs ++ rest → at + length (records_bytes rs) ≤ end → Every (Readable c) rs
    → records_at (length rs) c s end at ≡ Ok (all_at at rs)
unfolding records_at file_rows records_bytes
records_back c s end at [] rest h room k = all_nil at
records_back c s end at (r ∷ rs) rest h room k =
    let p = next_here s at r rs rest h in
    let n = length-append (record_bytes r) (records_bytes rs) in
    let e1 = record_back c s end at r _ p.0 (omega arith) k.0 in
    let e2 = records_back c s end (at + length (record_bytes r)) rs rest p.1 (omega arith) k.1 in
    go_on (record_at c s end at) _ (read_at at r) e1
    ∙ go_on (records_at (length rs) c s end (at + length (record_bytes r))) _ _ e2
    ∙ ap Ok (all_cons at r rs)

-- records that are accepted where they stand are read so
pub records_read : (c : Config) (s : List ℕ) (end at : ℕ) (rs : List Record) (rest : List ℕ) (x : ReadRows)
    → drop at s ≡ records_bytes rs ++ rest → Every (Shaped c.dimensions) rs → records_at (length rs) c s end at ≡ Ok x → x ≡ all_at at rs
unfolding records_at
records_read c s end at [] rest x h k e = sym (answer_injective _ x e) ∙ answer_injective _ _ (all_nil at)
records_read c s end at (r ∷ rs) rest x h k e =
    let p = next_here s at r rs rest h in
    let s1 = passed (record_at c s end at) _ x e in
    let e1 = record_read c s end at r _ s1.value p.0 k.0 s1.first in
    let s2 = passed (records_at (length rs) c s end s1.value.next) _ x s1.then in
    let f2 : records_at (length rs) c s end (at + length (record_bytes r)) ≡ Ok s2.value = ap (λ (y : ReadRow). records_at (length rs) c s end y.next) (sym e1) ∙ s2.first in
    let e2 = records_read c s end (at + length (record_bytes r)) rs rest s2.value p.1 k.1 f2 in
    sym (answer_injective _ x s2.then) ∙ ap₂ (λ (y : ReadRow) (z : ReadRows). record { rows = y.row ∷ z.rows; next = z.next }) e1 e2 ∙ all_cons at r rs

pub records_seen : (d : ℕ) (s log : List ℕ) (at : ℕ) (rs : List Record) (rest : List ℕ)
    → drop at s ≡ records_bytes rs ++ rest → Every (Shaped d) rs → map (seen d s log) (file_rows at rs) ≡ map as_read rs
unfolding file_rows
records_seen d s log at [] rest h k = refl
records_seen d s log at (r ∷ rs) rest h k =
    let p = next_here s at r rs rest h in
    ap₂ ◌∷◌ (seen_back d s log at r _ p.0 k.0) (records_seen d s log (at + length (record_bytes r)) rs rest p.1 k.1)

pub records_sourced : (c : Config) (s log : List ℕ) (at : ℕ) (rs : List Record) (rest : List ℕ)
    → drop at s ≡ records_bytes rs ++ rest → Every (Fit c) rs → Every (Sourced c s log) (file_rows at rs)
unfolding file_rows
records_sourced c s log at [] rest h k = tt
records_sourced c s log at (r ∷ rs) rest h k =
    let p = next_here s at r rs rest h in
    (sourced_back c s log at r _ p.0 k.0, records_sourced c s log (at + length (record_bytes r)) rs rest p.1 k.1)

pub all_as_read : (c : Config) (rs : List Record) → Every (Fit c) rs → map as_read rs ≡ rs
all_as_read c [] k = refl
all_as_read c (r ∷ rs) k = ap₂ ◌∷◌ (as_read_lem c r k.0) (all_as_read c rs k.1)

pub length_records : (d : ℕ) (rs : List Record) → Every (Wide d) rs → length (records_bytes rs) ≡ size (record_kind d) rs
unfolding records_bytes size
length_records d [] k = refl
length_records d (r ∷ rs) k = omega (arith, length-append (record_bytes r) (records_bytes rs), length_record d r k.0, length_records d rs k.1)
