-- What an answer says of an operation that was encoded: what was tested of it, and its bytes.
use Rattle.std.specs.Prelude.{Ok}
use Prim.Native.Nat.{ℕ, ◌+◌, ◌≤◌}
use mathlib.Core.Path.{◌≡◌, sym}
use mathlib.Core.Bool.{true, not}
use mathlib.Core.List.{List}
use lib.Dec.{ltb, eqb}
use lib.ListN.{length}
use Rattle.utf8.specs.Utf8.{is_utf8}
use Rattle.fields.specs.Fields.{part, bytes}
use Rattle.coordinates.specs.Coordinates.{coordinate_bytes}
use Rattle.config.specs.Settings.{caption_limit}
use Rattle.config.specs.declared.Config.{Config}
use Rattle.refusal.specs.declared.Refusal.TheVariants.{CaptionTooLong, RequestMalformed, NotUtf8}
use Rattle.meaning.specs.Item.{coordinates}
use Rattle.meaning.specs.Encoder.{Asked, asked_length, asked_start, Tagged, put_fields, encode_put, encode_delete}
use borrow.Author.Tests.{ltb-false, eqb-true, not-false}
use Rattle.refusal.proofs.Results.{answer_injective, passed, went}

pub record PutEncoded (c : Config) (coords captions : List ℕ) (o : Asked) (e : Tagged) : Type 0 where
  pub short : asked_length o ≤ caption_limit c
  pub inside : asked_start o + asked_length o ≤ length captions
  pub vector_good : coordinates c (coordinate_bytes coords) ≡ Ok tt
  pub caption_good : is_utf8 (part captions (asked_start o) (asked_length o)) ≡ true
  pub is : e ≡ record { tag = 1; fields = put_fields o.id coords (asked_length o) (part captions (asked_start o) (asked_length o)) }

pub put_encoded : (c : Config) (coords captions : List ℕ) (o : Asked) (e : Tagged) → encode_put c coords captions o ≡ Ok e → PutEncoded c coords captions o e
unfolding encode_put
put_encoded c coords captions o e h =
    let n = asked_length o in
    let at = asked_start o in
    let s1 = went CaptionTooLong (ltb (caption_limit c) n) _ e h in
    let s2 = went RequestMalformed (ltb (length captions) (at + n)) _ e s1.then in
    let s3 = passed (coordinates c (coordinate_bytes coords)) _ e s2.then in
    let s4 = went NotUtf8 (not (is_utf8 (part captions at n))) _ e s3.then in
    record {
      short = ltb-false _ _ s1.test_false;
      inside = ltb-false _ _ s2.test_false;
      vector_good = s3.first;
      caption_good = not-false _ s4.test_false;
      is = sym (answer_injective _ e s4.then);
    }

pub record DeleteEncoded (o : Asked) (e : Tagged) : Type 0 where
  pub word_is : o.word ≡ 0
  pub is : e ≡ record { tag = 2; fields = bytes 8 o.id }

pub delete_encoded : (o : Asked) (e : Tagged) → encode_delete o ≡ Ok e → DeleteEncoded o e
unfolding encode_delete
delete_encoded o e h =
    let s = went RequestMalformed (not (eqb o.word 0)) _ e h in
    record { word_is = eqb-true o.word 0 (not-false _ s.test_false); is = sym (answer_injective _ e s.then) }
