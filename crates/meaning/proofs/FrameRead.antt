-- What an answer says of one frame of a log: its length, its payload, its place and its number; and what makes a frame be found.
use Rattle.std.specs.Prelude.{Ok, Err}
use Prim.Native.Nat.{ℕ, ◌+◌, ◌-◌, ◌≤◌, ◌<◌}
use native.Mathlib.Omega.{arith}
use mathlib.Core.Path.{◌≡◌, refl, sym, ap, ◌∙◌, subst}
use mathlib.Core.Bool.{Bool, true, false, not, cond, true≢false}
use mathlib.Core.List.{List}
use lib.Dec.{ltb, eqb}
use Rattle.crc32.specs.Crc.{crc_of}
use Rattle.fields.specs.Fields.{part, num}
use Rattle.config.specs.Limits.{min_frame, max_frame}
use Rattle.config.specs.declared.Config.{Config}
use Rattle.refusal.specs.Refusal.{Answer}
use Rattle.refusal.specs.declared.Refusal.TheVariants.{BytesLeftOver, WrongPayloadCrc, WrongSequence, WrongLengthCrc, WrongLength}
use Rattle.meaning.specs.Replay.{Frame}
use Rattle.rows.specs.declared.Row.{Row}
use Rattle.meaning.specs.Log.{ReadOperations, out_of_order, shape_of, operations_of, payload_at, ReadFrame, too_little, wrong, found, length_at, frame_read, with_length, frame_at}
use borrow.Author.Tests.{ltb-false, eqb-true, eqb-false, not-false, ltb-true, lt-ltb, le-ltb}
use Rattle.refusal.proofs.Results.{answer_injective, passed, went}
use lib.ListN.{length}
use Rattle.refusal.specs.declared.Refusal.{Refusal}
use Rattle.layout.specs.Layout.{frame_length}

-- ---- the length field
pub record LengthHere (log : List ℕ) (at n : ℕ) : Type 0 where
  pub length_is : n ≡ num log at 4
  pub crc_good : crc_of (part log at 4) ≡ num log (at + 4) 4
  pub least : min_frame ≤ n
  pub most : n ≤ max_frame

pub length_read : (log : List ℕ) (at n : ℕ) → length_at log at ≡ Ok n → LengthHere log at n
unfolding length_at
length_read log at n e =
    let crc = crc_of (part log at 4) in
    let k = num log at 4 in
    let s1 = went WrongLengthCrc (not (eqb crc (num log (at + 4) 4))) _ n e in
    let s2 = went WrongLength (ltb k min_frame) _ n s1.then in
    let s3 = went WrongLength (ltb max_frame k) _ n s2.then in
    let is : k ≡ n = answer_injective k n s3.then in
    record {
      length_is = sym is;
      crc_good = eqb-true crc (num log (at + 4) 4) (not-false (eqb crc (num log (at + 4) 4)) s1.test_false);
      least = subst (λ (x : ℕ). min_frame ≤ x) is (ltb-false k min_frame s2.test_false);
      most = subst (λ (x : ℕ). x ≤ max_frame) is (ltb-false max_frame k s3.test_false);
    }

-- the sequence is not 0, and one more than the frame before if there was one
pub record InOrder (previous sequence : ℕ) : Type 0 where
  pub positive : 0 < sequence
  pub one_more : 0 < previous → sequence ≡ previous + 1

pub order_read : (previous sequence : ℕ) → out_of_order previous sequence ≡ false → InOrder previous sequence
order_read previous sequence e = go (eqb sequence 0) refl (eqb previous 0) refl e
  where
    go : (a : Bool) → eqb sequence 0 ≡ a → (b : Bool) → eqb previous 0 ≡ b
        → cond a true (cond b false (not (eqb sequence (previous + 1)))) ≡ false → InOrder previous sequence
    go true p b q e = absurd (true≢false e)
    go false p true q e =
        let z = eqb-false sequence 0 p in
        let n = eqb-true previous 0 q in
        record { positive = omega arith; one_more = λ h. absurd (omega arith) }
    go false p false q e =
        let z = eqb-false sequence 0 p in
        record { positive = omega arith; one_more = λ h. eqb-true sequence (previous + 1) (not-false (eqb sequence (previous + 1)) e) }

-- the operations of a frame at `at` whose payload ends at `end`
abbrev pub operations_read : Config → List ℕ → ℕ → ℕ → Answer ReadOperations
operations_read c log end at = operations_of (shape_of (num log (at + 8) 1)) c log end (num log (at + 8) 1) (at + 17)

pub record PayloadHere (c : Config) (log : List ℕ) (previous at n : ℕ) (f : Frame Row) : Type 0 where
  pub crc_good : crc_of (part log (at + 8) n) ≡ num log (at + 8 + n) 4
  pub in_order : out_of_order previous (num log (at + 9) 8) ≡ false
  pub start_is : f.start ≡ at
  pub sequence_is : f.sequence ≡ num log (at + 9) 8
  pub shape_is : f.shape ≡ shape_of (num log (at + 8) 1)
  pub operations_read_lem : operations_read c log (at + 8 + n) at ≡ Ok (record { operations = f.operations; next = at + 8 + n })

pub payload_read : (c : Config) (log : List ℕ) (previous at n : ℕ) (f : Frame Row)
    → payload_at c log previous at n ≡ Ok f → PayloadHere c log previous at n f
unfolding payload_at
payload_read c log previous at n f e =
    let crc = crc_of (part log (at + 8) n) in
    let end = at + 8 + n in
    let s1 = went WrongPayloadCrc (not (eqb crc (num log end 4))) _ f e in
    let s2 = went WrongSequence (out_of_order previous (num log (at + 9) 8)) _ f s1.then in
    let s3 = passed (operations_read c log end at) _ f s2.then in
    let o = s3.value in
    let s4 = went BytesLeftOver (not (eqb o.next end)) _ f s3.then in
    let stop : o.next ≡ end = eqb-true o.next end (not-false (eqb o.next end) s4.test_false) in
    let is : record { start = at; sequence = num log (at + 9) 8; shape = shape_of (num log (at + 8) 1); operations = o.operations } ≡ f =
    answer_injective (record { start = at; sequence = num log (at + 9) 8; shape = shape_of (num log (at + 8) 1); operations = o.operations }) f s4.then in
    record {
      crc_good = eqb-true crc (num log end 4) (not-false (eqb crc (num log end 4)) s1.test_false);
      in_order = s2.test_false;
      start_is = sym (ap (λ (g : Frame Row). g.start) is);
      sequence_is = sym (ap (λ (g : Frame Row). g.sequence) is);
      shape_is = sym (ap (λ (g : Frame Row). g.shape) is);
      operations_read_lem = s3.first ∙ (λ i. Ok (record { operations = (is i).operations; next = stop i }));
    }

-- ---- what stands at a byte, told apart
abbrev pub IsFound : ReadFrame → Type 0
IsFound too_little = ⊥
IsFound (wrong why) = ⊥
IsFound (found f next) = Unit

abbrev pub IsTooLittle : ReadFrame → Type 0
IsTooLittle too_little = Unit
IsTooLittle (wrong why) = ⊥
IsTooLittle (found f next) = ⊥

abbrev pub IsWrong : ReadFrame → Type 0
IsWrong too_little = ⊥
IsWrong (wrong why) = Unit
IsWrong (found f next) = ⊥

abbrev pub frame_or : Frame Row → ReadFrame → Frame Row
frame_or g too_little = g
frame_or g (wrong why) = g
frame_or g (found f next) = f

abbrev pub next_or : ℕ → ReadFrame → ℕ
next_or k too_little = k
next_or k (wrong why) = k
next_or k (found f next) = next

pub found_frame : (f g : Frame Row) (i j : ℕ) → found f i ≡ found g j → f ≡ g
found_frame f g i j e = ap (frame_or f) e

pub found_next : (f g : Frame Row) (i j : ℕ) → found f i ≡ found g j → i ≡ j
found_next f g i j e = ap (next_or i) e

-- ---- a frame found
pub record FrameHere (c : Config) (log : List ℕ) (previous at : ℕ) (f : Frame Row) (next : ℕ) : Type 0 where
  pub length_answers : length_at log at ≡ Ok (num log at 4)
  pub least : min_frame ≤ num log at 4
  pub most : num log at 4 ≤ max_frame
  pub inside : at + frame_length (num log at 4) ≤ length log
  pub next_is : next ≡ at + frame_length (num log at 4)
  pub payload_answers : payload_at c log previous at (num log at 4) ≡ Ok f

pub frame_read_lem : (c : Config) (log : List ℕ) (previous at : ℕ) (f : Frame Row) (next : ℕ)
    → frame_at c log previous at ≡ found f next → FrameHere c log previous at f next
unfolding frame_at
frame_read_lem c log previous at f next e = one (ltb (length log - at) 8) (length_at log at) refl e
  where
    three : (n : ℕ) → length_at log at ≡ Ok n → frame_length n ≤ length log - at → (r : Answer (Frame Row)) → payload_at c log previous at n ≡ r
        → frame_read (at + frame_length n) r ≡ found f next → FrameHere c log previous at f next
    three n l h (Err why) p e = absurd (subst IsFound (sym e) tt)
    three n l h (Ok g) p e =
        let k = num log at 4 in
        let here = length_read log at n l in
        let is : n ≡ k = here.length_is in
        let least : min_frame ≤ n = here.least in
        let most : n ≤ max_frame = here.most in
        let step : at + frame_length n ≡ next = found_next g f (at + frame_length n) next e in
        record {
          length_answers = l ∙ ap (λ (x : ℕ). Ok x) is;
          least = subst (λ (x : ℕ). min_frame ≤ x) is least;
          most = subst (λ (x : ℕ). x ≤ max_frame) is most;
          inside = omega arith;
          next_is = omega arith;
          payload_answers = ap (payload_at c log previous at) (sym is) ∙ p ∙ ap (λ (x : Frame Row). Ok x) (found_frame g f (at + frame_length n) next e);
        }

    two : (n : ℕ) → length_at log at ≡ Ok n → (b : Bool) → ltb (length log - at) (frame_length n) ≡ b
        → cond b too_little (frame_read (at + frame_length n) (payload_at c log previous at n)) ≡ found f next → FrameHere c log previous at f next
    two n l true t e = absurd (subst IsFound (sym e) tt)
    two n l false t e = three n l (ltb-false (length log - at) (frame_length n) t) (payload_at c log previous at n) refl e

    one : (b : Bool) (r : Answer ℕ) → length_at log at ≡ r → cond b too_little (with_length c log previous at r) ≡ found f next
        → FrameHere c log previous at f next
    one true r l e = absurd (subst IsFound (sym e) tt)
    one false (Err why) l e = absurd (subst IsFound (sym e) tt)
    one false (Ok n) l e = two n l (ltb (length log - at) (frame_length n)) refl e

pub frame_reads : (c : Config) (log : List ℕ) (previous at : ℕ) (f : Frame Row) (next : ℕ)
    → FrameHere c log previous at f next → frame_at c log previous at ≡ found f next
unfolding frame_at
frame_reads c log previous at f next here =
    let n = num log at 4 in
    let inside : at + frame_length n ≤ length log = here.inside in
    let h1 : 8 ≤ length log - at = omega arith in
    let h2 : frame_length n ≤ length log - at = omega arith in
    ap (λ (b : Bool). cond b too_little (with_length c log previous at (length_at log at))) (le-ltb (length log - at) 8 h1)
    ∙ ap (with_length c log previous at) here.length_answers
    ∙ ap (λ (b : Bool). cond b too_little (frame_read (at + frame_length n) (payload_at c log previous at n))) (le-ltb (length log - at) (frame_length n) h2)
    ∙ ap (frame_read (at + frame_length n)) here.payload_answers
    ∙ ap (found f) (sym here.next_is)

-- a payload has at least 17 bytes, and 12 stand around it
pub record FrameBounds (log : List ℕ) (previous at : ℕ) (f : Frame Row) (next : ℕ) : Type 0 where
  pub far : at + 29 ≤ next
  pub inside : next ≤ length log
  pub next_is : next ≡ at + frame_length (num log at 4)
  pub start_is : f.start ≡ at
  pub positive : 0 < f.sequence
  pub one_more : 0 < previous → f.sequence ≡ previous + 1

pub frame_bounds : (c : Config) (log : List ℕ) (previous at : ℕ) (f : Frame Row) (next : ℕ)
    → frame_at c log previous at ≡ found f next → FrameBounds log previous at f next
frame_bounds c log previous at f next e =
    let here = frame_read_lem c log previous at f next e in
    let payload = payload_read c log previous at (num log at 4) f here.payload_answers in
    let order = order_read previous (num log (at + 9) 8) payload.in_order in
    let least : 17 ≤ num log at 4 = here.least in
    let inside : at + frame_length (num log at 4) ≤ length log = here.inside in
    let next_is : next ≡ at + frame_length (num log at 4) = here.next_is in
    record {
      far = omega arith;
      inside = omega arith;
      next_is = next_is;
      start_is = payload.start_is;
      positive = subst (λ (x : ℕ). 0 < x) (sym payload.sequence_is) order.positive;
      one_more = λ h. payload.sequence_is ∙ order.one_more h;
    }

-- ---- no frame
pub frame_too_little : (c : Config) (log : List ℕ) (previous at : ℕ) → length log < at + 8 → frame_at c log previous at ≡ too_little
unfolding frame_at
frame_too_little c log previous at h =
    let t : length log - at < 8 = omega arith in
    ap (λ (b : Bool). cond b too_little (with_length c log previous at (length_at log at))) (lt-ltb (length log - at) 8 t)

-- a frame that is refused has its length's 8 bytes
pub frame_wrong_inside : (c : Config) (log : List ℕ) (previous at : ℕ) (why : Refusal)
    → frame_at c log previous at ≡ wrong why → at + 8 ≤ length log
frame_wrong_inside c log previous at why e = go (ltb (length log) (at + 8)) refl
  where
    go : (b : Bool) → ltb (length log) (at + 8) ≡ b → at + 8 ≤ length log
    go true t = absurd (subst IsTooLittle (sym (frame_too_little c log previous at (ltb-true (length log) (at + 8) t)) ∙ e) tt)
    go false t = ltb-false (length log) (at + 8) t
