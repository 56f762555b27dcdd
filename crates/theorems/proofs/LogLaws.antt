-- The frames of a log: one turn of the reader, the order and places of its frames, and a log that is joined, cut or moved.
use Prim.Native.Nat.{ℕ, ◌+◌, ◌≤◌, ◌<◌}
use native.Mathlib.Omega.{arith}
use mathlib.Core.Path.{◌≡◌, refl, sym, ap, subst, ◌∙◌}
use mathlib.Core.List.{List, [], ◌∷◌, ◌++◌, nil≢cons, head-eq_of_cons-eq, tail-eq_of_cons-eq}
use lib.ListN.{length}
use Rattle.fields.specs.Fields.{num}
use Rattle.config.specs.declared.Config.{Config}
use Rattle.layout.specs.Layout.{frame_length}
use Rattle.meaning.specs.Replay.{Frame, End, tail, Frames}
use Rattle.rows.specs.declared.Row.{Row}
use Rattle.meaning.specs.Log.{ReadFrame, too_little, wrong, found, frame_at, go_on_reading, frames_of, frames_at}
use Rattle.theorems.specs.FrameLists.{Consecutive, Numbered, after_frame, byte_after, BackToBack}
use Rattle.meaning.proofs.FrameRead.{frame_bounds}
use Rattle.meaning.proofs.FramesAt.{frames_of_lem, frames_at_lem, frames_induction, ended_at, IsTail}

-- ---- what the frames read say of what stands at the byte
pub record FirstFrame (c : Config) (log : List ℕ) (previous at : ℕ) (f : Frame Row) (fs : List (Frame Row)) (end : End) : Type 0 where
  pub next : ℕ
  pub here : frame_at c log previous at ≡ found f next
  pub rest : frames_at c log f.sequence next ≡ record { frames = fs; ended = end }

pub first_frame : (c : Config) (log : List ℕ) (previous at : ℕ) (f : Frame Row) (fs : List (Frame Row)) (end : End)
    → frames_at c log previous at ≡ record { frames = f ∷ fs; ended = end } → FirstFrame c log previous at f fs end
first_frame c log previous at f fs end e = go (frame_at c log previous at) refl (sym (frames_at_lem c log previous at) ∙ e)
  where
    go : (x : ReadFrame) → frame_at c log previous at ≡ x → go_on_reading (frames_at c log) at x ≡ record { frames = f ∷ fs; ended = end }
        → FirstFrame c log previous at f fs end
    go too_little w e = absurd (nil≢cons (ap (λ (r : Frames Row). r.frames) e))
    go (wrong why) w e = absurd (nil≢cons (ap (λ (r : Frames Row). r.frames) e))
    go (found g next) w e =
        let all = ap (λ (r : Frames Row). r.frames) e in
        let is : g ≡ f = head-eq_of_cons-eq all in
        let others : (frames_at c log g.sequence next).frames ≡ fs = tail-eq_of_cons-eq all in
        let last : (frames_at c log g.sequence next).ended ≡ end = ap (λ (r : Frames Row). r.ended) e in
        record {
          next = next;
          here = w ∙ ap (λ (h : Frame Row). found h next) is;
          rest = ap (λ (h : Frame Row). frames_at c log h.sequence next) (sym is) ∙ (λ i. record { frames = others i; ended = last i });
        }

pub tail_injective : (i j : ℕ) → tail i ≡ tail j → i ≡ j
tail_injective i j e = ap ended_at e

-- no frame, and a tail: too little stands here
pub record NoFrame (c : Config) (log : List ℕ) (previous at k : ℕ) : Type 0 where
  pub here : frame_at c log previous at ≡ too_little
  pub tail_is : k ≡ at

pub no_frame_lem : (c : Config) (log : List ℕ) (previous at k : ℕ)
    → frames_at c log previous at ≡ record { frames = []; ended = tail k } → NoFrame c log previous at k
no_frame_lem c log previous at k e = go (frame_at c log previous at) refl (sym (frames_at_lem c log previous at) ∙ e)
  where
    go : (x : ReadFrame) → frame_at c log previous at ≡ x → go_on_reading (frames_at c log) at x ≡ record { frames = []; ended = tail k }
        → NoFrame c log previous at k
    go too_little w e = record { here = w; tail_is = sym (tail_injective at k (ap (λ (r : Frames Row). r.ended) e)) }
    go (wrong why) w e = absurd (subst IsTail (sym (ap (λ (r : Frames Row). r.ended) e)) tt)
    go (found f next) w e = absurd (nil≢cons (sym (ap (λ (r : Frames Row). r.frames) e)))

pub consecutive : (c : Config) (log : List ℕ) (previous at : ℕ) → 0 < previous → Consecutive previous (frames_at c log previous at).frames
consecutive c log =
    frames_induction c log (λ p a r. 0 < p → Consecutive p r.frames) (λ p a e h. tt) (λ p a why e h. tt) λ p a f next e rest h.
    let b = frame_bounds c log p a f next e in (b.one_more h, rest b.positive)

pub numbered : (c : Config) (log : List ℕ) (previous at : ℕ) → Numbered (frames_at c log previous at).frames
numbered c log =
    frames_induction c log (λ p a r. Numbered r.frames) (λ p a e. tt) (λ p a why e. tt) λ p a f next e rest.
    let b = frame_bounds c log p a f next e in (b.positive, consecutive c log f.sequence next b.positive)

pub log_numbered : (c : Config) (log : List ℕ) → Numbered (frames_of c log).frames
log_numbered c log = subst (λ (r : Frames Row). Numbered r.frames) (sym (frames_of_lem c log)) (numbered c log 0 0)

pub after_frame_lem : (c : Config) (log : List ℕ) (previous at : ℕ) (f : Frame Row) (next : ℕ)
    → frame_at c log previous at ≡ found f next → next ≡ after_frame log f
after_frame_lem c log previous at f next e =
    let b = frame_bounds c log previous at f next e in b.next_is ∙ ap (λ (x : ℕ). x + frame_length (num log x 4)) (sym b.start_is)

pub back_to_back : (c : Config) (log : List ℕ) (previous at : ℕ) → BackToBack log at (frames_at c log previous at).frames
back_to_back c log =
    frames_induction c log (λ p a r. BackToBack log a r.frames) (λ p a e. tt) (λ p a why e. tt) λ p a f next e rest.
    let b = frame_bounds c log p a f next e in
    let is = after_frame_lem c log p a f next e in
    let far : a + 29 ≤ next = b.far in
    let inside : next ≤ length log = b.inside in (
      b.start_is,
      subst (λ (x : ℕ). a + 29 ≤ x) is far,
      subst (λ (x : ℕ). x ≤ length log) is inside,
      subst (λ (x : ℕ). BackToBack log x (frames_at c log f.sequence next).frames) is rest,
    )

-- the log ends, in a tail or in a refusal, after the last frame
pub ended_after : (c : Config) (log : List ℕ) (previous at : ℕ)
    → ended_at (frames_at c log previous at).ended ≡ byte_after log at (frames_at c log previous at).frames
ended_after c log =
    frames_induction c log (λ p a r. ended_at r.ended ≡ byte_after log a r.frames) (λ p a e. refl) (λ p a why e. refl) λ p a f next e rest.
    rest ∙ ap (λ (x : ℕ). byte_after log x (frames_at c log f.sequence next).frames) (after_frame_lem c log p a f next e)

pub after_least : (log : List ℕ) (at : ℕ) (fs : List (Frame Row)) → BackToBack log at fs → at ≤ byte_after log at fs
after_least log at [] b = omega arith
after_least log at (f ∷ fs) b =
    let far : at + 29 ≤ after_frame log f = b.1 in
    let more = after_least log (after_frame log f) fs b.3 in
    omega arith

pub after_most : (log : List ℕ) (at : ℕ) (fs : List (Frame Row)) → at ≤ length log → BackToBack log at fs → byte_after log at fs ≤ length log
after_most log at [] h b = h
after_most log at (f ∷ fs) h b = after_most log (after_frame log f) fs b.2 b.3

-- a front of the frames, and the frames behind it
pub back_to_back_front : (log : List ℕ) (at : ℕ) (fs gs : List (Frame Row)) → BackToBack log at (fs ++ gs) → BackToBack log at fs
back_to_back_front log at [] gs b = tt
back_to_back_front log at (f ∷ fs) gs b = (b.0, b.1, b.2, back_to_back_front log (after_frame log f) fs gs b.3)

pub back_to_back_rest : (log : List ℕ) (at : ℕ) (fs gs : List (Frame Row)) → BackToBack log at (fs ++ gs) → BackToBack log (byte_after log at fs) gs
back_to_back_rest log at [] gs b = b
back_to_back_rest log at (f ∷ fs) gs b = back_to_back_rest log (after_frame log f) fs gs b.3
