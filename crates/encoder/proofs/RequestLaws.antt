-- A request: how many words it has, how long its payload is, and where each of its tests leads.
use Rattle.std.specs.Prelude.{Ok, Err}
use Prim.Native.Nat.{ℕ, suc, ◌+◌, ◌*◌, ◌/◌, ◌%◌, ◌≤◌, ◌<◌}
use mathlib.Core.Path.{◌≡◌, sym, ap, subst, ◌∙◌}
use mathlib.Core.Bool.{not, cond}
use mathlib.Core.List.{List, [], ◌∷◌, ◌++◌, append_assoc}
use native.Mathlib.Omega.{arith}
use borrow.Author.Tests.{lt-ltb, le-ltb, ltb-false, eq-eqb, ne_eqb, eqb-true, not-false}
use lib.Dec.{ltb, eqb}
use lib.ListN.{length, drop, length-append}
use Rattle.fields.specs.Fields.{bytes}
use Rattle.fields.proofs.Numbers.{length_bytes}
use Rattle.fields.specs.Placed.{placed}
use Rattle.config.specs.Limits.{max_dimensions, max_frame, max_batch_operations}
use Rattle.config.specs.declared.Config.{Config}
use Rattle.layout.specs.Layout.{frame_length}
use Rattle.layout.specs.declared.Shape.{Shape}
use Rattle.layout.specs.declared.Shape.TheVariants.{Single, Batch}
use Rattle.refusal.specs.Refusal.{Answer, size_told, written_told}
use Rattle.refusal.specs.declared.Refusal.{Refusal}
use Rattle.refusal.specs.declared.Refusal.TheVariants.{WrongLength, WrongBatchCount, OutputTooShort, RequestMalformed}
use Rattle.refusal.proofs.Results.{passed, went, not_refused, answer_injective, sized_is}
use Rattle.meaning.specs.Encoder.{Asked, asked, is_put, put_count, Tagged, encode_operation, encode_all, batch_count, tagged_bytes, payload_bytes, frame_bytes, sealed, words_checked, encode_operations}
use Rattle.meaning.specs.Calls.{output_after}
use Rattle.meaning.proofs.Lengths.{length_asked, length_frame}
use Rattle.encoder.specs.Requests.{head_length, tagged_in, tagged_of, Accepted}

-- ---- how many words
-- a single frame's one operation, a batch's 1..=1024
abbrev pub Count : Shape → ℕ → Type 0
Count Single n = n ≡ 1
Count Batch n = Unit

pub record Counting (shape : Shape) (words : ℕ) : Type 0 where
  pub count : Count shape (words / 2)
  pub even : words % 2 ≡ 0
  pub few : words / 2 ≤ max_batch_operations

pub counting : (shape : Shape) (words : ℕ) → words_checked shape words ≡ Ok tt → Counting shape words
unfolding words_checked
counting Single words e =
    let s1 = went RequestMalformed (not (eqb (words % 2) 0)) _ tt e in
    let one = eqb-true (words / 2) 1 (not-false _ (not_refused RequestMalformed (not (eqb (words / 2) 1)) s1.then)) in
    record { count = one; even = eqb-true (words % 2) 0 (not-false _ s1.test_false); few = omega arith }
counting Batch words e =
    let s0 = passed (batch_count Batch (words / 2)) _ tt e in
    let s1 = went WrongBatchCount (ltb (words / 2) 1) _ _ s0.first in
    let few = ltb-false max_batch_operations (words / 2) (not_refused WrongBatchCount _ s1.then) in
    let s2 = went RequestMalformed (not (eqb (words % 2) 0)) _ tt s0.then in
    record { count = tt; even = eqb-true (words % 2) 0 (not-false _ s2.test_false); few = few }

-- as many are encoded as are asked for
length_encoded : (c : Config) (coords captions : List ℕ) (os : List Asked) (es : List Tagged) → encode_all c coords captions os ≡ Ok es → length es ≡ length os
unfolding encode_all
length_encoded c coords captions [] es h = ap length (sym (answer_injective [] es h))
length_encoded c coords captions (o ∷ os) es h =
    let s1 = passed (encode_operation c coords captions o) _ es h in
    let s2 = passed (encode_all c (cond (is_put o) (drop c.dimensions coords) coords) captions os) _ es s1.then in
    ap length (sym (answer_injective (s1.value ∷ s2.value) es s2.then)) ∙ ap suc (length_encoded c (cond (is_put o) (drop c.dimensions coords) coords) captions os s2.value s2.first)

pub length_tagged : (c : Config) (words coords captions : List ℕ) (es : List Tagged) → encode_all c coords captions (asked words) ≡ Ok es → length es ≡ length words / 2
length_tagged c words coords captions es e = length_encoded c coords captions (asked words) es e ∙ length_asked (length words / 2) 0 words

-- ---- the payload
pub length_payload : (shape : Shape) (sequence : ℕ) (es : List Tagged) → Count shape (length es)
    → length (payload_bytes shape sequence es) ≡ head_length shape + length (tagged_bytes es)
unfolding tagged_bytes
length_payload Single sequence [] h = absurd (omega arith)
length_payload Single sequence (e ∷ []) h =
    omega (arith, length-append (bytes 8 sequence) e.fields, length_bytes 8 sequence, length-append e.fields [])
length_payload Single sequence (e ∷ (f ∷ es)) h = absurd (omega arith)
length_payload Batch sequence es h =
    omega (arith, length-append (bytes 8 sequence) (bytes 4 (length es) ++ tagged_bytes es), length_bytes 8 sequence, length-append (bytes 4 (length es)) (tagged_bytes es), length_bytes 4 (length es))

pub batch_payload : (sequence n : ℕ) (es : List Tagged) → length es ≡ n
    → (3 ∷ bytes 8 sequence) ++ bytes 4 n ++ tagged_bytes es ≡ payload_bytes Batch sequence es
batch_payload sequence n es many =
    ap (λ (l : List ℕ). 3 ∷ l) (append_assoc (bytes 8 sequence) (bytes 4 n) (tagged_bytes es))
    ∙ ap (λ (m : ℕ). 3 ∷ (bytes 8 sequence ++ (bytes 4 m ++ tagged_bytes es))) (sym many)

-- ---- where the tests lead
module _ (shape : Shape) (c : Config) (sequence : ℕ) (words coords captions : List ℕ) (room : ℕ) where
  pub wrong_coordinates : (length coords ≡ c.dimensions * put_count (asked words) → ⊥)
      → encode_operations shape c sequence words coords captions room ≡ Err RequestMalformed
  unfolding encode_operations
  wrong_coordinates n = simp (ne_eqb _ _ n)

  module _ (e : length coords ≡ c.dimensions * put_count (asked words)) where
    pub wrong_operation : (why : Refusal) → encode_all c coords captions (asked words) ≡ Err why → encode_operations shape c sequence words coords captions room ≡ Err why
    unfolding encode_operations
    wrong_operation why bad = simp (eq-eqb _ _ e, bad)

    pub operations_sealed : (es : List Tagged) → encode_all c coords captions (asked words) ≡ Ok es
        → encode_operations shape c sequence words coords captions room ≡ sealed room (payload_bytes shape sequence es)
    unfolding encode_operations
    operations_sealed es is = simp (eq-eqb _ _ e, is)

module _ (room : ℕ) (payload : List ℕ) (n : ℕ) (is : length payload ≡ n) where
  pub sealed_long : max_frame < n → sealed room payload ≡ Err WrongLength
  unfolding sealed
  sealed_long h = let t = lt-ltb max_frame (length payload) (omega arith) in simp t

  pub sealed_short : n ≤ max_frame → room < frame_length n → sealed room payload ≡ Err OutputTooShort
  unfolding sealed
  sealed_short h k = let s = le-ltb max_frame (length payload) (omega arith) in let t = lt-ltb room (frame_length (length payload)) (omega arith) in simp (s, t)

  pub sealed_good : n ≤ max_frame → frame_length n ≤ room → sealed room payload ≡ Ok (frame_bytes payload)
  unfolding sealed
  sealed_good h k = let s = le-ltb max_frame (length payload) (omega arith) in let t = le-ltb room (frame_length (length payload)) (omega arith) in simp (s, t)

-- nothing is refused but by the room
pub record Ready (shape : Shape) (c : Config) (sequence : ℕ) (words coords captions : List ℕ) (room n : ℕ) : Type 0 where
  pub accepted : Accepted c words coords captions
  pub sealed_is : encode_operations shape c sequence words coords captions room ≡ sealed room (payload_bytes shape sequence (tagged_of c words coords captions))
  pub size : length (payload_bytes shape sequence (tagged_of c words coords captions)) ≡ head_length shape + n

pub ready : (shape : Shape) (c : Config) (sequence : ℕ) (words coords captions : List ℕ) (room n : ℕ) → c.dimensions ≤ max_dimensions → words_checked shape (length words) ≡ Ok tt
    → length coords ≡ c.dimensions * put_count (asked words) → size_told (λ es. length (tagged_bytes es)) (encode_all c coords captions (asked words)) ≡ Ok n
    → Ready shape c sequence words coords captions room n
ready shape c sequence words coords captions room n few words_good enough e =
    let s = sized_is (λ es. length (tagged_bytes es)) (encode_all c coords captions (asked words)) n e in
    let es = s.value in
    let same : es ≡ tagged_of c words coords captions = sym (ap tagged_in s.is) in
    let count : Count shape (length es) = subst (Count shape) (sym (length_tagged c words coords captions es s.is)) (counting shape (length words) words_good).count in
    record {
      accepted = record { few = few; enough = enough; tagged_is = s.is ∙ ap Ok same };
      sealed_is = operations_sealed shape c sequence words coords captions room enough es s.is ∙ ap (λ (l : List Tagged). sealed room (payload_bytes shape sequence l)) same;
      size = ap (λ (l : List Tagged). length (payload_bytes shape sequence l)) (sym same) ∙ length_payload shape sequence es count ∙ ap (λ (m : ℕ). head_length shape + m) s.size_is;
    }

-- ---- what is answered and left then
pub tells_refused : (r : Answer (List ℕ)) (o : List ℕ) (why : Refusal) → r ≡ Err why → (Err why ≡ written_told r) × (o ≡ output_after o r)
tells_refused r o why e = (sym (ap written_told e), sym (ap (output_after o) e))

pub tells_sealed : (r : Answer (List ℕ)) (o out payload : List ℕ) (n : ℕ) → r ≡ Ok (frame_bytes payload) → length payload ≡ n → out ≡ placed 0 (frame_bytes payload) o
    → (Ok (n + 12) ≡ written_told r) × (out ≡ output_after o r)
tells_sealed r o out payload n e size w =
    let all : n + 12 ≡ length (frame_bytes payload) = omega (arith, length_frame payload) in
    (ap Ok all ∙ sym (ap written_told e), w ∙ sym (ap (output_after o) e))
