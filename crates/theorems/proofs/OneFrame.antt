-- One frame of a log: its bounds; that it is read from its own bytes alone, wherever they stand; and the frame before it.
use Rattle.std.specs.Prelude.{Ok, Err}
use Prim.Native.Nat.{ℕ, ◌+◌, ◌-◌, ◌≤◌}
use native.Mathlib.Omega.{arith}
use mathlib.Core.Path.{◌≡◌, refl, sym, ap, ap₂, subst, ◌∙◌}
use mathlib.Core.Bool.{Bool, true, false, not, cond}
use mathlib.Core.List.{List, [], ◌∷◌, ◌++◌, map}
use lib.ListN.{length, length-append}
use lib.Dec.{ltb, eqb}
use Rattle.crc32.specs.Crc.{crc_of}
use Rattle.fields.specs.Fields.{part, num}
use Rattle.fields.proofs.Numbers.{num_append}
use Rattle.config.specs.Limits.{min_frame, max_frame}
use Rattle.config.specs.declared.Config.{Config}
use Rattle.refusal.specs.Refusal.{Answer}
use Rattle.refusal.specs.declared.Refusal.TheVariants.{WrongPayloadCrc, WrongSequence}
use Rattle.layout.specs.Layout.{frame_length}
use Rattle.meaning.specs.Replay.{Operation, put, remove, Frame}
use Rattle.rows.specs.declared.Row.{Row}
use Rattle.meaning.specs.Log.{out_of_order, payload_at, too_little, found, length_at, frame_read, with_length, frame_at}
use Rattle.theorems.proofs.Moved.{later_operation, later_frame, later_found, same_front, same_after, payload_moved, length_moved}
use borrow.Author.Tests.{ltb-false}
use Rattle.refusal.proofs.Results.{went, pass}
use Rattle.theorems.proofs.Alike.{same_less, on_answer}
use Rattle.meaning.proofs.FrameRead.{length_read, IsWrong, frame_read_lem, frame_reads}

-- ---- the bytes up to a frame's end decide it
later_none : (f : Frame Row) → later_frame 0 f ≡ f
later_none f =
    let s : 0 + f.start ≡ f.start = omega arith in
    λ i. record { start = s i; sequence = f.sequence; shape = f.shape; operations = all f.operations i }
  where
    one : (o : Operation Row) → later_operation 0 o ≡ o
    one (put r) =
        let s : 0 + r.at ≡ r.at = omega arith in
        λ i. put (record { id = r.id; deleted = r.deleted; from_log = r.from_log; caption_length = r.caption_length; at = s i })
    one (remove id) = refl

    all : (os : List (Operation Row)) → map (later_operation 0) os ≡ os
    all [] = refl
    all (o ∷ os) = ap₂ ◌∷◌ (one o) (all os)

on_answer_none : (r : Answer (Frame Row)) → on_answer (later_frame 0) r ≡ r
on_answer_none (Ok f) = ap (λ (x : Frame Row). Ok x) (later_none f)
on_answer_none (Err why) = refl

payload_front : (c : Config) (a b : List ℕ) (previous at n : ℕ) → 17 ≤ n → at + frame_length n ≤ length a
    → payload_at c (a ++ b) previous at n ≡ payload_at c a previous at n
payload_front c a b previous at n h g =
    let x : at ≡ 0 + at = omega arith in
    let l : 13 ≤ n = omega arith in
    payload_moved 0 (a ++ b) a (length a) (same_front a b) c previous n at at x l g ∙ on_answer_none (payload_at c a previous at n)

length_at_front : (a b : List ℕ) (at : ℕ) → at + 8 ≤ length a → length_at (a ++ b) at ≡ length_at a at
length_at_front a b at g = let x : at ≡ 0 + at = omega arith in length_moved 0 (a ++ b) a (length a) (same_front a b) at at x g

pub frame_front : (c : Config) (a b : List ℕ) (previous at : ℕ) (f : Frame Row) (next : ℕ)
    → frame_at c a previous at ≡ found f next → frame_at c (a ++ b) previous at ≡ found f next
frame_front c a b previous at f next e =
    let here = frame_read_lem c a previous at f next e in
    let n = num a at 4 in
    let inside : at + frame_length n ≤ length a = here.inside in
    let least : 17 ≤ n = here.least in
    let g8 : at + 8 ≤ length a = omega arith in
    let g4 : at + 4 ≤ length a = omega arith in
    let same : num (a ++ b) at 4 ≡ n = num_append a b at 4 g4 in
    let sum = length-append a b in
    frame_reads c (a ++ b) previous at f next (record {
      length_answers = length_at_front a b at g8 ∙ here.length_answers ∙ ap (λ (x : ℕ). Ok x) (sym same);
      least = subst (λ (x : ℕ). min_frame ≤ x) (sym same) here.least;
      most = subst (λ (x : ℕ). x ≤ max_frame) (sym same) here.most;
      inside = omega arith;
      next_is = here.next_is ∙ ap (λ (x : ℕ). at + frame_length x) (sym same);
      payload_answers = ap (payload_at c (a ++ b) previous at) same ∙ payload_front c a b previous at n least inside ∙ here.payload_answers;
    })

-- and the other way: a frame that ends inside the front is there without the rest
pub frame_back : (c : Config) (a b : List ℕ) (previous at : ℕ) (f : Frame Row) (next : ℕ)
    → frame_at c (a ++ b) previous at ≡ found f next → next ≤ length a → frame_at c a previous at ≡ found f next
frame_back c a b previous at f next e h =
    let here = frame_read_lem c (a ++ b) previous at f next e in
    let n = num (a ++ b) at 4 in
    let next_is : next ≡ at + frame_length n = here.next_is in
    let least : 17 ≤ n = here.least in
    let inside : at + frame_length n ≤ length a = omega arith in
    let g8 : at + 8 ≤ length a = omega arith in
    let g4 : at + 4 ≤ length a = omega arith in
    let same : n ≡ num a at 4 = num_append a b at 4 g4 in
    frame_reads c a previous at f next (record {
      length_answers = sym (length_at_front a b at g8) ∙ here.length_answers ∙ ap (λ (x : ℕ). Ok x) same;
      least = subst (λ (x : ℕ). min_frame ≤ x) same here.least;
      most = subst (λ (x : ℕ). x ≤ max_frame) same here.most;
      inside = omega arith;
      next_is = next_is ∙ ap (λ (x : ℕ). at + frame_length x) same;
      payload_answers = ap (payload_at c a previous at) (sym same) ∙ sym (payload_front c a b previous at n least inside) ∙ here.payload_answers;
    })

-- ---- a frame reads alike wherever it stands
pub frame_shifted : (c : Config) (front rest : List ℕ) (previous at : ℕ)
    → frame_at c (front ++ rest) previous (length front + at) ≡ later_found (length front) (frame_at c rest previous at)
unfolding frame_at
frame_shifted c front rest previous at =
    one (ltb (length (front ++ rest) - (length front + at)) 8) (ltb (length rest - at) 8) refl
    (same_less (length (front ++ rest) - (length front + at)) 8 (length rest - at) 8 (omega (arith, length-append front rest)) (omega (arith, length-append front rest)))
  where
    m : ℕ
    m = length front

    s : List ℕ
    s = front ++ rest

    three : (n : ℕ) → length_at rest at ≡ Ok n → frame_length n ≤ length rest - at → (x y : Answer (Frame Row)) → x ≡ on_answer (later_frame m) y
        → frame_read (m + at + frame_length n) x ≡ later_found m (frame_read (at + frame_length n) y)
    three n l h x (Ok f) e = ap (frame_read (m + at + frame_length n)) e ∙ ap (found (later_frame m f)) (omega arith)
    three n l h x (Err why) e = ap (frame_read (m + at + frame_length n)) e

    two : (n : ℕ) → length_at rest at ≡ Ok n → (x y : Bool) → ltb (length rest - at) (frame_length n) ≡ y → x ≡ y
        → cond x too_little (frame_read (m + at + frame_length n) (payload_at c s previous (m + at) n))
        ≡ later_found m (cond y too_little (frame_read (at + frame_length n) (payload_at c rest previous at n)))
    two n l x true t e = ap (λ (b : Bool). cond b too_little (frame_read (m + at + frame_length n) (payload_at c s previous (m + at) n))) e
    two n l x false t e =
        let here = length_read rest at n l in
        let least : 17 ≤ n = here.least in
        let few : 13 ≤ n = omega arith in
        let h = ltb-false (length rest - at) (frame_length n) t in
        let g : at + frame_length n ≤ length rest = omega arith in
        ap (λ (b : Bool). cond b too_little (frame_read (m + at + frame_length n) (payload_at c s previous (m + at) n))) e
        ∙ three n l h (payload_at c s previous (m + at) n) (payload_at c rest previous at n)
        (payload_moved m s rest (length rest) (same_after front rest (length rest)) c previous n (m + at) at refl few g)

    with_length_lem : (x y : Answer ℕ) → length_at rest at ≡ y → x ≡ y → with_length c s previous (m + at) x ≡ later_found m (with_length c rest previous at y)
    with_length_lem x (Err why) l e = ap (with_length c s previous (m + at)) e
    with_length_lem x (Ok n) l e =
        ap (with_length c s previous (m + at)) e
        ∙ two n l (ltb (length s - (m + at)) (frame_length n)) (ltb (length rest - at) (frame_length n)) refl
        (same_less (length s - (m + at)) (frame_length n) (length rest - at) (frame_length n) (omega (arith, length-append front rest)) (omega (arith, length-append front rest)))

    one : (x y : Bool) → ltb (length rest - at) 8 ≡ y → x ≡ y
        → cond x too_little (with_length c s previous (m + at) (length_at s (m + at))) ≡ later_found m (cond y too_little (with_length c rest previous at (length_at rest at)))
    one x true t e = ap (λ (b : Bool). cond b too_little (with_length c s previous (m + at) (length_at s (m + at)))) e
    one x false t e =
        let h = ltb-false (length rest - at) 8 t in
        let g : at + 8 ≤ length rest = omega arith in
        ap (λ (b : Bool). cond b too_little (with_length c s previous (m + at) (length_at s (m + at)))) e
        ∙ with_length_lem (length_at s (m + at)) (length_at rest at) refl (length_moved m s rest (length rest) (same_after front rest (length rest)) (m + at) at refl g)

-- ---- the frame before
payload_anew : (c : Config) (log : List ℕ) (previous at n : ℕ) (f : Frame Row)
    → payload_at c log previous at n ≡ Ok f → payload_at c log 0 at n ≡ Ok f
unfolding payload_at
payload_anew c log previous at n f e =
    let crc = not (eqb (crc_of (part log (at + 8) n)) (num log (at + 8 + n) 4)) in
    let s1 = went WrongPayloadCrc crc _ f e in
    let s2 = went WrongSequence (out_of_order previous (num log (at + 9) 8)) _ f s1.then in
    pass WrongPayloadCrc crc _ s1.test_false
    ∙ pass WrongSequence (out_of_order 0 (num log (at + 9) 8)) _ (in_order (eqb (num log (at + 9) 8) 0) _ s2.test_false)
    ∙ s2.then
  where
    in_order : (a b : Bool) → cond a true b ≡ false → cond a true false ≡ false
    in_order true b e = e
    in_order false b e = refl

-- what is no refusal is the same as the first frame of a log
pub frame_anew : (c : Config) (log : List ℕ) (previous at : ℕ)
    → (IsWrong (frame_at c log previous at) → ⊥) → frame_at c log 0 at ≡ frame_at c log previous at
unfolding frame_at
frame_anew c log previous at = one (ltb (length log - at) 8) (length_at log at)
  where
    three : (n : ℕ) (r : Answer (Frame Row)) → payload_at c log previous at n ≡ r → (IsWrong (frame_read (at + frame_length n) r) → ⊥)
        → frame_read (at + frame_length n) (payload_at c log 0 at n) ≡ frame_read (at + frame_length n) r
    three n (Ok f) p h = ap (frame_read (at + frame_length n)) (payload_anew c log previous at n f p)
    three n (Err why) p h = absurd (h tt)

    two : (n : ℕ) (b : Bool) → (IsWrong (cond b too_little (frame_read (at + frame_length n) (payload_at c log previous at n))) → ⊥)
        → cond b too_little (frame_read (at + frame_length n) (payload_at c log 0 at n)) ≡ cond b too_little (frame_read (at + frame_length n) (payload_at c log previous at n))
    two n true h = refl
    two n false h = three n (payload_at c log previous at n) refl h

    one : (b : Bool) (r : Answer ℕ) → (IsWrong (cond b too_little (with_length c log previous at r)) → ⊥)
        → cond b too_little (with_length c log 0 at r) ≡ cond b too_little (with_length c log previous at r)
    one true r h = refl
    one false (Err why) h = absurd (h tt)
    one false (Ok n) h = two n (ltb (length log - at) (frame_length n)) h
