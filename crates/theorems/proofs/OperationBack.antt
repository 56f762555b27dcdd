-- Operations by value as they stand in a payload: each is read back, and its row shows the record that was put.
use Rattle.std.specs.Prelude.{Ok}
use Prim.Native.Nat.{ℕ, ◌+◌, ◌*◌, ◌≤◌, ◌<◌, ◌^◌}
use mathlib.Core.Path.{◌≡◌, refl, sym, ap, ap₂, ◌∙◌}
use mathlib.Core.Bool.{true, false}
use mathlib.Core.List.{List, [], ◌∷◌, ◌++◌, append_assoc, map}
use native.Mathlib.Omega.{arith}
use lib.ListN.{length, take, drop, length-append}
use lib.Seq.{drop-drop}
use Rattle.fields.specs.Fields.{num, le, bytes}
use Rattle.fields.proofs.Numbers.{length_bytes}
use Rattle.config.specs.declared.Config.{Config}
use Rattle.meaning.specs.Replay.{Operation, put, remove}
use Rattle.meaning.specs.Records.{Record, seen}
use Rattle.meaning.specs.Log.{operation_at, operations_at}
use Rattle.meaning.specs.Encoder.{tagged_bytes}
use Rattle.meaning.specs.Every.{Every}
use Rattle.theorems.specs.FrameRows.{carry_operation, Puts, encoded_of, tag_of, fields_of, logged_at, logged_from, FromLog}
use Rattle.theorems.proofs.Here.{after_here, num_here, after_number}
use Rattle.meaning.proofs.OperationRead.{put_here, remove_here}
use Rattle.theorems.proofs.Operations.{operation_reads, operations_reads_none, operations_reads}
use Rattle.theorems.specs.AnyFile.{Shaped}
use Rattle.theorems.proofs.ItemBack.{Readable, ItemStands, item_stands, item_back}

-- ---- one byte
pub byte_here : (s : List ℕ) (at b : ℕ) (rest : List ℕ) → drop at s ≡ b ∷ rest → num s at 1 ≡ b
unfolding le
byte_here s at b rest h = let e : b + 256 * 0 ≡ b = omega arith in ap (λ (l : List ℕ). le (take 1 l)) h ∙ e

pub after_byte : (s : List ℕ) (at b : ℕ) (rest : List ℕ) → drop at s ≡ b ∷ rest → drop (at + 1) s ≡ rest
after_byte s at b rest h = sym (drop-drop 1 at s) ∙ ap (drop 1) h

-- a reader accepts it from a log
abbrev pub Loggable : Config → Operation Record → Type 0
Loggable c (put r) = Readable c r × (r.deleted ≡ false)
Loggable c (remove id) = id < 256 ^ 8

pub logged_from_log : (at : ℕ) (o : Operation Record) → Puts FromLog (logged_at at o)
logged_from_log at (put r) = refl
logged_from_log at (remove id) = tt

pub length_put_fields : (d : ℕ) (r : Record) → length r.vector ≡ 4 * d → length (fields_of (put r)) ≡ 12 + 4 * d + length r.caption
length_put_fields d r h = simp (length-append, length_bytes, h) (omega arith)

pub fields_low : (o : Operation Record) → 8 ≤ length (fields_of o)
fields_low (put r) =
    let rest = r.vector ++ (bytes 4 (length r.caption) ++ r.caption) in
    omega (arith, length-append (bytes 8 r.id) rest, length_bytes 8 r.id)
fields_low (remove id) = omega (arith, length_bytes 8 id)

-- the fields of a put whose ID stands at `at`
pub record PutStands (d : ℕ) (s : List ℕ) (at : ℕ) (r : Record) : Type 0 where
  pub id_is : num s at 8 ≡ r.id
  pub item : ItemStands d s (at + 8) r

pub put_stands : (d : ℕ) (s : List ℕ) (at : ℕ) (r : Record) (rest : List ℕ) → drop at s ≡ fields_of (put r) ++ rest → Shaped d r → PutStands d s at r
put_stands d s at r rest h k =
    let n = length r.caption in
    let h0 : drop at s ≡ bytes 8 r.id ++ (r.vector ++ (bytes 4 n ++ (r.caption ++ rest))) = h ∙ simp append_assoc in
    let h1 = after_number s at 8 r.id _ h0 in
    record { id_is = num_here s at 8 r.id _ h0 k.id_fits; item = item_stands d s (at + 8) r rest h1 k }

-- an operation that a reader accepts is read where it stands
pub operation_back : (c : Config) (log : List ℕ) (end at : ℕ) (o : Operation Record) (rest : List ℕ)
    → drop at log ≡ fields_of o ++ rest → at + length (fields_of o) ≤ end → Loggable c o
    → operation_at c log end (tag_of o) at ≡ Ok (record { operation = logged_at at o; next = at + length (fields_of o) })
operation_back c log end at (put r) rest h room k =
    let d = c.dimensions in
    let n = length r.caption in
    let good = k.0 in
    let p = put_stands d log at r rest h good.shaped in
    let size_is = length_put_fields d r good.shaped.vector_length in
    let next_is : at + 12 + 4 * d + n ≡ at + length (fields_of (put r)) = omega arith in
    let id_is = p.id_is in
    let i = item_back c log end (at + 8) r p.item good (omega arith) in
    let room8 : at + 8 ≤ end = omega arith in
    operation_reads c log end 1 at (record { operation = logged_at at (put r); next = at + length (fields_of (put r)) }) (put_here n refl room8 i
    (λ j. record { operation = put (record { id = record { 0 = sym id_is j }; deleted = false; from_log = true; caption_length = n; at = at + 8 }); next = sym next_is j }))
operation_back c log end at (remove id) rest h room k =
    let size_is = length_bytes 8 id in
    let next_is : at + 8 ≡ at + length (bytes 8 id) = omega arith in
    let id_is = num_here log at 8 id rest h k in
    let room8 : at + 8 ≤ end = omega arith in
    operation_reads c log end 2 at (record { operation = remove id; next = at + length (bytes 8 id) }) (remove_here refl room8
    (λ j. record { operation = remove (sym id_is j); next = sym next_is j }))

-- through its row the same operation is seen
pub operation_seen : (c : Config) (snapshot log : List ℕ) (at : ℕ) (o : Operation Record) (rest : List ℕ)
    → drop at log ≡ fields_of o ++ rest → Loggable c o → carry_operation (seen c.dimensions snapshot log) (logged_at at o) ≡ o
operation_seen c snapshot log at (put r) rest h k =
    let p = put_stands c.dimensions log at r rest h k.0.shaped in
    let live = k.1 in
    let vector_is = p.item.vector_is in
    let caption_is = p.item.caption_is in
    λ j. put (record { id = r.id; deleted = sym live j; vector = vector_is j; caption = caption_is j })
operation_seen c snapshot log at (remove id) rest h k = refl

-- ---- all operations of a batch
abbrev pub tagged : List (Operation Record) → List ℕ
tagged os = tagged_bytes (map encoded_of os)

pub all_from_log : (at : ℕ) (os : List (Operation Record)) → Every (Puts FromLog) (logged_from at os)
unfolding logged_from
all_from_log at [] = tt
all_from_log at (o ∷ os) = (logged_from_log (at + 1) o, all_from_log (at + 1 + length (fields_of o)) os)

pub length_tagged_cons : (o : Operation Record) (os : List (Operation Record)) → length (tagged (o ∷ os)) ≡ 1 + length (fields_of o) + length (tagged os)
unfolding tagged_bytes
length_tagged_cons o os = omega (arith, length-append (tag_of o ∷ fields_of o) (tagged os))

-- 9 bytes for each operation at least
pub tagged_low : (os : List (Operation Record)) → 9 * length os ≤ length (tagged os)
tagged_low [] = omega arith
tagged_low (o ∷ os) = omega (arith, length_tagged_cons o os, fields_low o, tagged_low os)

-- what stands behind the first tag, and behind the first operation
pub record NextStands (log : List ℕ) (at : ℕ) (o : Operation Record) (os : List (Operation Record)) (rest : List ℕ) : Type 0 where
  pub tag_is : num log at 1 ≡ tag_of o
  pub fields_here : drop (at + 1) log ≡ fields_of o ++ (tagged os ++ rest)
  pub behind : drop (at + 1 + length (fields_of o)) log ≡ tagged os ++ rest

pub next_stands : (log : List ℕ) (at : ℕ) (o : Operation Record) (os : List (Operation Record)) (rest : List ℕ)
    → drop at log ≡ tagged (o ∷ os) ++ rest → NextStands log at o os rest
unfolding tagged_bytes
next_stands log at o os rest h =
    let h0 : drop at log ≡ tag_of o ∷ (fields_of o ++ (tagged os ++ rest)) = h ∙ ap (λ (l : List ℕ). tag_of o ∷ l) (append_assoc (fields_of o) (tagged os) rest) in
    let h1 = after_byte log at (tag_of o) _ h0 in
    record {
      tag_is = byte_here log at (tag_of o) _ h0;
      fields_here = h1;
      behind = after_here log (at + 1) (length (fields_of o)) (fields_of o) (tagged os ++ rest) h1 refl;
    }

pub operations_back : (c : Config) (log : List ℕ) (end at : ℕ) (os : List (Operation Record)) (rest : List ℕ)
    → drop at log ≡ tagged os ++ rest → at + length (tagged os) ≤ end → Every (Loggable c) os
    → operations_at (length os) c log end at ≡ Ok (record { operations = logged_from at os; next = at + length (tagged os) })
unfolding logged_from tagged_bytes
operations_back c log end at [] rest h room k =
    let e : at ≡ at + 0 = omega arith in
    operations_reads_none c log end at ∙ ap (λ (x : ℕ). Ok (record { operations = []; next = x })) e
operations_back c log end at (o ∷ os) rest h room k =
    let p = next_stands log at o os rest h in
    let l = length_tagged_cons o os in
    let n = length (fields_of o) in
    let room1 : at + 1 ≤ end = omega arith in
    let room2 : at + 1 + n ≤ end = omega arith in
    let room3 : at + 1 + n + length (tagged os) ≤ end = omega arith in
    let next_is : at + length (tagged (o ∷ os)) ≡ at + 1 + n + length (tagged os) = omega arith in
    operations_reads (length os) c log end at (record { operations = logged_from at (o ∷ os); next = at + length (tagged (o ∷ os)) }) (record {
      tag_inside = room1;
      this = record { operation = logged_at (at + 1) o; next = at + 1 + n };
      this_read = ap (λ (x : ℕ). operation_at c log end x (at + 1)) p.tag_is ∙ operation_back c log end (at + 1) o _ p.fields_here room2 k.0;
      rest = record { operations = logged_from (at + 1 + n) os; next = at + 1 + n + length (tagged os) };
      rest_read = operations_back c log end (at + 1 + n) os rest p.behind room3 k.1;
      all_is = ap (λ (x : ℕ). record { operations = logged_from at (o ∷ os); next = x }) next_is;
    })

pub operations_seen : (c : Config) (snapshot log : List ℕ) (at : ℕ) (os : List (Operation Record)) (rest : List ℕ)
    → drop at log ≡ tagged os ++ rest → Every (Loggable c) os → map (carry_operation (seen c.dimensions snapshot log)) (logged_from at os) ≡ os
unfolding logged_from
operations_seen c snapshot log at [] rest h k = refl
operations_seen c snapshot log at (o ∷ os) rest h k =
    let p = next_stands log at o os rest h in
    ap₂ ◌∷◌ (operation_seen c snapshot log (at + 1) o _ p.fields_here k.0)
    (operations_seen c snapshot log (at + 1 + length (fields_of o)) os rest p.behind k.1)
