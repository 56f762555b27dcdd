-- What the encoders write is decoded as the operations that were asked for, wherever the frame stands in a log.
use Rattle.std.specs.Prelude.{Ok}
use Prim.Native.Nat.{ℕ, ◌+◌, ◌*◌, ◌/◌, ◌%◌, ◌≤◌, ◌<◌, ◌^◌}
use mathlib.Core.Path.{◌≡◌, refl, sym, ap, subst, ◌∙◌}
use mathlib.Core.Bool.{not}
use mathlib.Core.List.{List, ◌++◌}
use native.Mathlib.Omega.{arith}
use lib.Dec.{ltb, eqb}
use lib.ListN.{length, drop}
use Rattle.fields.specs.Fields.{Bytes}
use Rattle.config.specs.Limits.{min_frame, max_frame, max_batch_operations}
use Rattle.config.specs.Settings.{validate}
use Rattle.config.specs.declared.Config.{Config}
use Rattle.refusal.specs.declared.Refusal.TheVariants.{WrongLength, WrongSequence, WrongBatchCount, OutputTooShort, RequestMalformed}
use Rattle.layout.specs.Layout.{frame_length}
use Rattle.meaning.specs.Log.{found}
use Rattle.meaning.specs.Encoder.{asked, put_count, Tagged, encode_all, batch_count, single_count, payload_bytes, frame_bytes, sealed, words_checked, encode_operations, encode_valid, encode}
use Rattle.layout.specs.declared.Shape.{Shape}
use Rattle.layout.specs.declared.Shape.TheVariants.{Single, Batch}
use Rattle.meaning.specs.Every.{Every}
use Rattle.theorems.specs.FrameRows.{payload_of, frame_of, frame_in, CountHolds, Follows, ReadBack}
use Rattle.theorems.proofs.FrameBack.{payload_low, Framed, operations_from_log, frame_found, frame_seen, frame_bytes_lem}
use Rattle.theorems.specs.Requested.{requested}
use Rattle.theorems.proofs.Meant.{length_meant, asked_fit, all_encoded, meant_in_bytes}
use borrow.Author.Tests.{ltb-false, eqb-true, eqb-false, not-false}
use Rattle.refusal.proofs.Results.{answer_injective, passed, went, not_refused}
use Rattle.meaning.proofs.Lengths.{length_frame, length_asked}

-- ---- what an accepted request says
sealed_read : (room : ℕ) (payload bs : List ℕ) → sealed room payload ≡ Ok bs
    → (length payload ≤ max_frame) × (frame_length (length payload) ≤ room) × (bs ≡ frame_bytes payload)
unfolding sealed
sealed_read room payload bs e =
    let s1 = went WrongLength (ltb max_frame (length payload)) _ bs e in
    let s2 = went OutputTooShort (ltb room (frame_length (length payload))) _ bs s1.then in
    (ltb-false max_frame (length payload) s1.test_false, ltb-false room (frame_length (length payload)) s2.test_false, sym (answer_injective (frame_bytes payload) bs s2.then))

count_read : (shape : Shape) (n : ℕ) → batch_count shape n ≡ Ok tt → single_count shape n ≡ Ok tt → CountHolds shape n
count_read Single n h k = eqb-true n 1 (not-false (eqb n 1) (not_refused RequestMalformed (not (eqb n 1)) k))
count_read Batch n h k =
    let s = went WrongBatchCount (ltb n 1) _ tt h in
    (ltb-false n 1 s.test_false, ltb-false max_batch_operations n (not_refused WrongBatchCount (ltb max_batch_operations n) s.then))

pub record EncodeSays (shape : Shape) (c : Config) (sequence : ℕ) (words coords captions : List ℕ) (room : ℕ) (bs : List ℕ) : Type 0 where
  pub valid : validate c ≡ Ok tt
  pub even : length words % 2 ≡ 0
  pub coordinates_are : length coords ≡ c.dimensions * put_count (asked words)
  pub framed : Framed c shape sequence (requested c words coords captions)
  pub bytes_are : bs ≡ frame_of shape sequence (requested c words coords captions)
  pub room_there : length bs ≤ room

module _ (shape : Shape) (c : Config) (sequence : ℕ) (words coords captions : List ℕ) (room : ℕ) (bs : List ℕ) (w : Every (λ x. x < 2 ^ 64) words) (q : sequence < 256 ^ 8) (e : encode shape c sequence words coords captions room ≡ Ok bs) where
  pub encode_read : EncodeSays shape c sequence words coords captions room bs
  unfolding encode encode_valid words_checked encode_operations
  encode_read =
      let n = length words / 2 in
      let os = asked words in
      let s1 = passed (validate c) _ bs e in
      let s2 = went WrongSequence (eqb sequence 0) _ bs s1.then in
      let checked = passed (words_checked shape (length words)) _ bs s2.then in
      let s3 = passed (batch_count shape n) _ tt checked.first in
      let s4 = went RequestMalformed (not (eqb (length words % 2) 0)) _ tt s3.then in
      let s6 = went RequestMalformed (not (eqb (length coords) (c.dimensions * put_count os))) _ bs checked.then in
      let s7 = passed (encode_all c coords captions os) _ bs s6.then in
      let s8 = sealed_read room (payload_bytes shape sequence s7.value) bs s7.then in
      let coords-are = eqb-true _ _ (not-false (eqb (length coords) (c.dimensions * put_count os)) s6.test_false) in
      let all = all_encoded c coords captions os s7.value coords-are (asked_fit n 0 words w) s7.first in
      let encoded_are = all.encoded_are in
      let z = eqb-false sequence 0 s2.test_false in
      let many : length (requested c words coords captions) ≡ n = length_meant c coords captions os ∙ length_asked n 0 words in
      let short : length (payload_of shape sequence (requested c words coords captions)) ≤ max_frame = rw encoded_are at s8.0 in
      let fits : frame_length (length (payload_of shape sequence (requested c words coords captions))) ≤ room = rw encoded_are at s8.1 in
      let is : bs ≡ frame_of shape sequence (requested c words coords captions) = s8.2 ∙ ap (λ (x : List Tagged). frame_bytes (payload_bytes shape sequence x)) encoded_are in
      let l = ap length is ∙ length_frame (payload_of shape sequence (requested c words coords captions)) in
      record {
        valid = s1.first;
        even = eqb-true _ _ (not-false (eqb (length words % 2) 0) s4.test_false);
        coordinates_are = coords-are;
        framed =
            record {
              positive = omega arith;
              sequence_fits = q;
              count = subst (CountHolds shape) (sym many) (count_read shape n s3.first s4.then);
              loggable = all.loggable;
              short = short;
            };
        bytes_are = is;
        room_there = omega arith;
      }

  -- ---- its size
  pub encode_length : length bs ≡ frame_length (length (payload_of shape sequence (requested c words coords captions)))
  encode_length = ap length encode_read.bytes_are ∙ length_frame (payload_of shape sequence (requested c words coords captions))

  -- a payload of 17..=8,388,608 bytes
  pub encode_payload : (min_frame ≤ length (payload_of shape sequence (requested c words coords captions)))
      × (length (payload_of shape sequence (requested c words coords captions)) ≤ max_frame)
  encode_payload =
      let x = encode_read in
      (payload_low shape sequence (requested c words coords captions) x.framed.count, x.framed.short)

  pub encode_bytes : Bytes captions → Bytes bs
  encode_bytes b =
      let x = encode_read in
      let os = requested c words coords captions in
      subst Bytes (sym x.bytes_are) (frame_bytes_lem shape sequence os (meant_in_bytes c coords captions (asked words) b))

  -- ---- it is read back
  -- the frame that stands at `at` of a log: its start, its sequence, its shape, and through its rows the operations that were asked for
  pub encode_back : (snapshot log : List ℕ) (previous at : ℕ) (rest : List ℕ) → drop at log ≡ bs ++ rest → Follows previous sequence
      → ReadBack shape c sequence (requested c words coords captions) snapshot log previous at (at + length bs)
  encode_back snapshot log previous at rest h follows =
      let x = encode_read in
      let os = requested c words coords captions in
      let here : drop at log ≡ frame_of shape sequence os ++ rest = h ∙ ap (λ (l : List ℕ). l ++ rest) x.bytes_are in
      record {
        frame = frame_in shape sequence at os;
        frame_here =
            frame_found shape c sequence os x.framed log at rest here previous follows
            ∙ ap (λ (l : List ℕ). found (frame_in shape sequence at os) (at + length l)) (sym x.bytes_are);
        start_is = refl;
        sequence_is = refl;
        shape_is = refl;
        operations_are = frame_seen shape c sequence os x.framed log at rest here snapshot;
        from_log = operations_from_log shape at os;
      }
