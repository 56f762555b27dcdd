-- What a request's words mean: the operations by value, in order; and that the encoder writes exactly these.
use Rattle.std.specs.Prelude.{Ok}
use Prim.Native.Nat.{ℕ, zero, suc, ◌*◌, ◌≤◌, ◌<◌, ◌^◌}
use mathlib.Core.Path.{◌≡◌, refl, sym, ap, ap₂, ◌∙◌}
use mathlib.Core.Bool.{Bool, true, false, cond, false≢true}
use mathlib.Core.List.{List, [], ◌∷◌, ◌++◌, map}
use native.Mathlib.Nat.{mul-suc}
use native.Mathlib.Omega.{arith}
use lib.ListN.{length, take, drop, get_or, length-drop}
use lib.Seq.{length-take-le}
use Rattle.fields.specs.Fields.{part, bytes, Bytes}
use Rattle.fields.proofs.Parts.{length_part}
use Rattle.fields.proofs.Numbers.{Bytes-part}
use Rattle.coordinates.specs.Coordinates.{coordinate_bytes}
use Rattle.coordinates.proofs.Patterns.{length_coordinate_bytes, Bytes-coordinate_bytes}
use Rattle.config.specs.Limits.{max_metadata}
use Rattle.config.specs.declared.Config.{Config}
use Rattle.refusal.specs.Refusal.{◌>>=◌}
use Rattle.meaning.specs.Replay.{Operation, put}
use Rattle.meaning.specs.Records.{Record}
use Rattle.meaning.specs.Encoder.{Asked, asked_from, is_put, asked_length, asked_start, put_count, Tagged, encode_put, encode_delete, encode_all}
use Rattle.meaning.specs.Every.{Every}
use Rattle.meaning.proofs.OperationEncoded.{PutEncoded, put_encoded, delete_encoded}
use Rattle.theorems.specs.FrameRows.{Puts, encoded_of}
use Rattle.theorems.specs.Storable.{Fit}
use Rattle.theorems.proofs.FrameBack.{InBytes}
use Rattle.theorems.proofs.OperationBack.{Loggable}
use Rattle.refusal.proofs.Results.{answer_injective, passed}
use Rattle.theorems.specs.Requested.{record_meant, operation_meant, meant}

pub length_meant : (c : Config) (coords captions : List ℕ) (os : List Asked) → length (meant c coords captions os) ≡ length os
unfolding meant
length_meant c coords captions [] = refl
length_meant c coords captions (o ∷ os) = ap suc (length_meant c (cond (is_put o) (drop c.dimensions coords) coords) captions os)

-- the words that hold an ID hold 8 bytes
abbrev pub IdFits : Asked → Type 0
IdFits o = o.id < 256 ^ 8

pub word_fits : (words : List ℕ) (k : ℕ) → Every (λ w. w < 2 ^ 64) words → get_or words k 0 < 256 ^ 8
word_fits [] k h = omega arith
word_fits (w ∷ words) zero h = let l : w < 2 ^ 64 = h.0 in omega arith
word_fits (w ∷ words) (suc k) h = word_fits words k h.1

pub asked_fit : (n k : ℕ) (words : List ℕ) → Every (λ w. w < 2 ^ 64) words → Every IdFits (asked_from n k words)
unfolding asked_from
asked_fit zero k words h = tt
asked_fit (suc n) k words h = (word_fits words (2 * k) h, asked_fit n (suc k) words h)

-- ---- one operation encoded
-- its bytes are those of the put that was meant
pub put_meant : (c : Config) (coords captions : List ℕ) (o : Asked) (e : Tagged) → PutEncoded c coords captions o e → e ≡ encoded_of (put (record_meant coords captions o))
put_meant c coords captions o e p =
    let text = part captions (asked_start o) (asked_length o) in
    let l : length text ≡ asked_length o = length_part captions (asked_start o) (asked_length o) p.inside in
    p.is ∙ ap (λ (x : ℕ). record { tag = 1; fields = bytes 8 o.id ++ (coordinate_bytes coords ++ (bytes 4 x ++ text)) }) (sym l)

-- what was encoded is accepted from a log
pub put_loggable : (c : Config) (coords captions : List ℕ) (o : Asked) (e : Tagged)
    → PutEncoded c coords captions o e → length coords ≡ c.dimensions → IdFits o → Loggable c (put (record_meant coords captions o))
put_loggable c coords captions o e p d-is fits =
    let few : asked_length o ≤ max_metadata = p.short in
    let l = length_part captions (asked_start o) (asked_length o) p.inside in
    let v = length_coordinate_bytes coords in (
      record {
        shaped = record { id_fits = fits; vector_length = omega arith; caption_fits = omega arith };
        vector_good = p.vector_good;
        caption_length_lem = omega arith;
        caption_good = p.caption_good;
      },
      refl,
    )

-- ---- all operations encoded
pub record AllEncoded (c : Config) (coords captions : List ℕ) (os : List Asked) (es : List Tagged) : Type 0 where
  pub encoded_are : es ≡ map encoded_of (meant c coords captions os)
  pub loggable : Every (Loggable c) (meant c coords captions os)

pub all_encoded : (c : Config) (coords captions : List ℕ) (os : List Asked) (es : List Tagged)
    → length coords ≡ c.dimensions * put_count os → Every IdFits os → encode_all c coords captions os ≡ Ok es → AllEncoded c coords captions os es
unfolding encode_all meant put_count
all_encoded c coords captions [] es n k h = record { encoded_are = sym (answer_injective [] es h); loggable = tt }
all_encoded c coords captions (o ∷ os) es n k h =
    let both = go (is_put o) n h (λ coords' rest n' h'. all_encoded c coords' captions os rest n' k.1 h') in
    record { encoded_are = both.0; loggable = both.1 }
  where
    d : ℕ
    d = c.dimensions

    these : Bool → List (Operation Record)
    these b = operation_meant b (take d coords) captions o ∷ meant c (cond b (drop d coords) coords) captions os

    go : (b : Bool) → length coords ≡ d * cond b (suc (put_count os)) (put_count os)
        → (cond b (encode_put c (take d coords) captions o) (encode_delete o) >>= λ this.
        encode_all c (cond b (drop d coords) coords) captions os >>= λ rest. Ok (this ∷ rest)) ≡ Ok es
        → ((coords' : List ℕ) (rest : List Tagged) → length coords' ≡ d * put_count os → encode_all c coords' captions os ≡ Ok rest → AllEncoded c coords' captions os rest)
        → (es ≡ map encoded_of (these b)) × Every (Loggable c) (these b)
    go true n h again =
        let s1 = passed (encode_put c (take d coords) captions o) _ es h in
        let s2 = passed (encode_all c (drop d coords) captions os) _ es s1.then in
        let m = mul-suc d (put_count os) in
        let left : length (drop d coords) ≡ d * put_count os = length-drop d coords ∙ omega arith in
        let enough : d ≤ length coords = omega arith in
        let p = put_encoded c (take d coords) captions o s1.value s1.first in
        let more = again (drop d coords) s2.value left s2.first in
        let all = sym (answer_injective (s1.value ∷ s2.value) es s2.then) in (
          all ∙ ap₂ ◌∷◌ (put_meant c (take d coords) captions o s1.value p) more.encoded_are,
          (put_loggable c (take d coords) captions o s1.value p (length-take-le d coords enough) k.0, more.loggable),
        )
    go false n h again =
        let s1 = passed (encode_delete o) _ es h in
        let s2 = passed (encode_all c coords captions os) _ es s1.then in
        let more = again coords s2.value n s2.first in
        let all = sym (answer_injective (s1.value ∷ s2.value) es s2.then) in
        (all ∙ ap₂ ◌∷◌ (delete_encoded o s1.value s1.first).is more.encoded_are, (k.0, more.loggable))

-- ---- its records are fit for a snapshot
pub meant_fit : (c : Config) (coords captions : List ℕ) (os : List Asked)
    → Bytes captions → Every (Loggable c) (meant c coords captions os) → Every (Puts (Fit c)) (meant c coords captions os)
unfolding meant
meant_fit c coords captions [] b k = tt
meant_fit c coords captions (o ∷ os) b k =
    (go (is_put o) k.0, meant_fit c (cond (is_put o) (drop c.dimensions coords) coords) captions os b k.1)
  where
    go : (t : Bool) → Loggable c (operation_meant t (take c.dimensions coords) captions o)
        → Puts (Fit c) (operation_meant t (take c.dimensions coords) captions o)
    go true k =
        let r = k.0 in
        record {
          id_fits = r.shaped.id_fits;
          vector_length = r.shaped.vector_length;
          vector_bytes = Bytes-coordinate_bytes (take c.dimensions coords);
          vector_good = r.vector_good;
          caption_length_lem = r.caption_length_lem;
          caption_bytes = Bytes-part captions (asked_start o) (asked_length o) b;
          caption_good = r.caption_good;
          deleted_empty = λ e. absurd (false≢true e);
        }
    go false k = tt

pub meant_in_bytes : (c : Config) (coords captions : List ℕ) (os : List Asked) → Bytes captions → Every (Puts InBytes) (meant c coords captions os)
unfolding meant
meant_in_bytes c coords captions [] b = tt
meant_in_bytes c coords captions (o ∷ os) b = (go (is_put o), meant_in_bytes c (cond (is_put o) (drop c.dimensions coords) coords) captions os b)
  where
    go : (t : Bool) → Puts InBytes (operation_meant t (take c.dimensions coords) captions o)
    go true = (Bytes-coordinate_bytes (take c.dimensions coords), Bytes-part captions (asked_start o) (asked_length o) b)
    go false = tt
