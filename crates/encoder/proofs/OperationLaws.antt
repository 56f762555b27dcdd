-- One operation: how long its fields are, as what it is checked, and what is known of it once it is encoded.
use Rattle.std.specs.Prelude.{Ok, Err}
use Prim.Native.Nat.{ℕ, suc, ◌+◌, ◌≤◌}
use mathlib.Core.Path.{◌≡◌, refl, sym, ap, ◌∙◌}
use mathlib.Core.Bool.{Bool, true, false, not, cond, true≢false}
use mathlib.Core.List.{List}
use native.Mathlib.Omega.{arith}
use borrow.Author.Tests.{le-ltb}
use lib.ListN.{length, take, length-append}
use lib.Seq.{length-take-le}
use Rattle.utf8.specs.Utf8.{is_utf8}
use Rattle.coordinates.specs.Coordinates.{coordinate_bytes}
use Rattle.coordinates.proofs.Patterns.{length_coordinate_bytes}
use Rattle.fields.specs.Fields.{part, bytes}
use Rattle.fields.proofs.Parts.{length_part}
use Rattle.fields.proofs.Numbers.{length_bytes}
use Rattle.config.specs.Limits.{max_dimensions, max_metadata}
use Rattle.config.specs.declared.Config.{Config}
use Rattle.layout.specs.Layout.{item_length, record_length, id_length}
use Rattle.rows.specs.Rows.{operation_of, operation_from}
use Rattle.rows.specs.declared.Operation.{Operation}
use Rattle.refusal.specs.Refusal.{Answer, ◌>>=◌, refuse, size_told}
use Rattle.refusal.specs.declared.Refusal.{Refusal}
use Rattle.refusal.specs.declared.Refusal.TheVariants.{NotUtf8}
use Rattle.meaning.specs.Item.{coordinates}
use Rattle.meaning.specs.Encoder.{Asked, is_put, asked_length, asked_start, Tagged, put_fields, put_for, encode_put, encode_delete, encode_operation}
use Rattle.meaning.proofs.OperationEncoded.{put_encoded, delete_encoded}
use Rattle.encoder.specs.Requests.{tag_of, fields_of, tagged_length, most_tagged, caption_told, PutFits, Fits}

-- ---- how long
pub length_fields : (id n : ℕ) (coords text : List ℕ) → length (put_fields id coords n text) ≡ id_length + item_length (length coords) (length text)
length_fields id n coords text = simp (length-append, length_bytes, length_coordinate_bytes) (omega arith)

module _ (d : ℕ) (coords captions : List ℕ) (o : Operation) where
  abbrev pub put_bytes : List ℕ
  put_bytes = put_fields o.id.0 (take d coords) o.caption_length (part captions o.at o.caption_length)

  pub put_fields_lem : o.put ≡ true → fields_of d coords captions o ≡ put_fields o.id.0 (take d coords) o.caption_length (part captions o.at o.caption_length)
  put_fields_lem t = ap (λ (b : Bool). cond b put_bytes (bytes id_length o.id.0)) t

  pub delete_fields : o.put ≡ false → fields_of d coords captions o ≡ bytes id_length o.id.0
  delete_fields t = ap (λ (b : Bool). cond b put_bytes (bytes id_length o.id.0)) t

  pub put_size : o.put ≡ true → PutFits d coords captions o → length (fields_of d coords captions o) ≡ id_length + item_length d o.caption_length
  put_size t f =
      ap length (put_fields_lem t) ∙ length_fields o.id.0 o.caption_length (take d coords) (part captions o.at o.caption_length)
      ∙ omega (arith, length-take-le d coords f.vector, length_part captions o.at o.caption_length f.inside)

  pub delete_size : o.put ≡ false → length (fields_of d coords captions o) ≡ id_length
  delete_size t = ap length (delete_fields t) ∙ length_bytes id_length o.id.0

  pub fields_few : d ≤ max_dimensions → Fits d coords captions o → suc (length (fields_of d coords captions o)) ≤ most_tagged
  fields_few h f = go o.put refl
    where
      go : (t : Bool) → o.put ≡ t → suc (length (fields_of d coords captions o)) ≤ most_tagged
      go true e = omega (arith, put_size e (f e), (f e).short)
      go false e = omega (arith, delete_size e)

-- ---- as the code reads it
module _ (c : Config) (coords captions : List ℕ) (o : Operation) (word : ℕ) (is : o ≡ operation_of o.id.0 word) where
  abbrev by_put : Operation → Answer Tagged
  by_put x =
      cond x.put (put_for c (take c.dimensions coords) captions o.id.0 x.caption_length x.at) (encode_delete (record { id = o.id.0; word = word }))

  as_read : encode_operation c coords captions (record { id = o.id.0; word = word }) ≡ by_put o
  unfolding encode_put
  as_read = sym (ap by_put is)

  pub put_read : o.put ≡ true
      → encode_operation c coords captions (record { id = o.id.0; word = word })
      ≡ put_for c (take c.dimensions coords) captions o.id.0 o.caption_length o.at
  put_read t = as_read ∙ ap (λ (b : Bool). cond b (put_for c (take c.dimensions coords) captions o.id.0 o.caption_length o.at) (encode_delete (record { id = o.id.0; word = word }))) t

  pub delete_read : o.put ≡ false → encode_operation c coords captions (record { id = o.id.0; word = word }) ≡ encode_delete (record { id = o.id.0; word = word })
  delete_read t = as_read ∙ ap (λ (b : Bool). cond b (put_for c (take c.dimensions coords) captions o.id.0 o.caption_length o.at) (encode_delete (record { id = o.id.0; word = word }))) t

-- a put of which only the caption's text is left to test
pub put_caption : (c : Config) (coords captions : List ℕ) (id n start : ℕ) → n ≤ max_metadata → start + n ≤ length captions → coordinates c (coordinate_bytes coords) ≡ Ok tt
    → size_told tagged_length (put_for c coords captions id n start) ≡ caption_told (length coords) (part captions start n)
put_caption c coords captions id n start short inside good =
    let text = part captions start n in
    let e : Tagged = record { tag = 1; fields = put_fields id coords n text } in
    let size : suc (length e.fields) ≡ record_length (length coords) (length text) = omega (arith, length_fields id n coords text) in
    simp (le-ltb _ _ short, le-ltb _ _ inside, good) (last (is_utf8 text) e ∙ ap (λ (m : ℕ). cond (is_utf8 text) (Ok m) (Err NotUtf8)) size)
  where
    last : (t : Bool) (e : Tagged)
        → size_told tagged_length (refuse NotUtf8 (not t) >>= (λ _. Ok e)) ≡ cond t (Ok (suc (length e.fields))) (Err NotUtf8)
    last true e = refl
    last false e = refl

pub put_vector : (c : Config) (coords captions : List ℕ) (id n start : ℕ) (why : Refusal) → n ≤ max_metadata → start + n ≤ length captions
    → coordinates c (coordinate_bytes coords) ≡ Err why → put_for c coords captions id n start ≡ Err why
put_vector c coords captions id n start why short inside bad = simp (le-ltb _ _ short, le-ltb _ _ inside, bad)

-- ---- once it is encoded
pub record Encodes (c : Config) (coords captions : List ℕ) (o : Operation) (e : Tagged) : Type 0 where
  pub tag_is : e.tag ≡ tag_of o.put
  pub fields_are : e.fields ≡ fields_of c.dimensions coords captions o
  pub short : o.put ≡ true → o.caption_length ≤ max_metadata
  pub inside : o.put ≡ true → o.at + o.caption_length ≤ length captions

pub id_of_lem : (id word : ℕ) → (operation_of id word).id.0 ≡ id
unfolding operation_of operation_from
id_of_lem id word = refl

module _ (c : Config) (coords captions : List ℕ) (a : Asked) (e : Tagged) where
  abbrev o : Operation
  o = operation_of a.id a.word

  put_encodes : is_put a ≡ true → encode_put c (take c.dimensions coords) captions a ≡ Ok e → Encodes c coords captions (operation_of a.id a.word) e
  put_encodes t h =
      let cs = take c.dimensions coords in
      let n = asked_length a in
      let text = part captions (asked_start a) n in
      let p = put_encoded c cs captions a e h in
      record {
        tag_is = ap (λ (x : Tagged). x.tag) p.is ∙ sym (ap tag_of t);
        fields_are = ap (λ (x : Tagged). x.fields) p.is ∙ ap (λ (i : ℕ). put_fields i cs n text) (sym (id_of_lem a.id a.word)) ∙ sym (put_fields_lem c.dimensions coords captions o t);
        short = λ _. p.short;
        inside = λ _. p.inside;
      }

  delete_encodes : is_put a ≡ false → encode_delete a ≡ Ok e → Encodes c coords captions (operation_of a.id a.word) e
  delete_encodes t h =
      let is = (delete_encoded a e h).is in
      record {
        tag_is = ap (λ (x : Tagged). x.tag) is ∙ sym (ap tag_of t);
        fields_are = ap (λ (x : Tagged). x.fields) is ∙ ap (bytes 8) (sym (id_of_lem a.id a.word)) ∙ sym (delete_fields c.dimensions coords captions o t);
        short = λ p. absurd (true≢false (sym p ∙ t));
        inside = λ p. absurd (true≢false (sym p ∙ t));
      }

  pub operation_encodes : encode_operation c coords captions a ≡ Ok e → Encodes c coords captions (operation_of a.id a.word) e
  operation_encodes h = go (is_put a) refl h
    where
      go : (t : Bool) → is_put a ≡ t → cond t (encode_put c (take c.dimensions coords) captions a) (encode_delete a) ≡ Ok e
          → Encodes c coords captions (operation_of a.id a.word) e
      go true t h = put_encodes t h
      go false t h = delete_encodes t h

-- its vector is there too
pub encodes_fits : (c : Config) (coords captions : List ℕ) (o : Operation) (e : Tagged) → Encodes c coords captions o e
    → (o.put ≡ true → c.dimensions ≤ length coords) → Fits c.dimensions coords captions o
encodes_fits c coords captions o e x vector = λ t. record { vector = vector t; short = x.short t; inside = x.inside t }
