-- The frames of a log from any byte on: one turn of the reader, that turns enough give them all, and what holds of them by turns.
use Prim.Native.Nat.{ℕ, zero, suc, ◌+◌, ◌≤◌, ◌<◌}
use native.Mathlib.Omega.{arith}
use mathlib.Core.Path.{◌≡◌, refl, sym, ap, subst, ◌∙◌}
use mathlib.Core.List.{List, []}
use lib.ListN.{length}
use Rattle.config.specs.declared.Config.{Config}
use Rattle.refusal.specs.declared.Refusal.{Refusal}
use Rattle.meaning.specs.Replay.{Frame, tail, bad, Frames, End}
use Rattle.rows.specs.declared.Row.{Row}
use Rattle.meaning.specs.Log.{ReadFrame, too_little, wrong, found, frame_at, join, go_on_reading, frames_from, frames_at, frames_of}
use Rattle.meaning.proofs.FrameRead.{frame_bounds, frame_too_little, frame_wrong_inside}

-- ---- one turn of the reader
pub enough : (n k : ℕ) (c : Config) (log : List ℕ) (previous at : ℕ) → length log ≤ n + at → length log ≤ k + at
    → frames_from n c log previous at ≡ frames_from k c log previous at
unfolding frames_from
enough zero zero c log previous at h g = refl
enough zero (suc k) c log previous at h g =
    let s : length log < at + 8 = omega arith in sym (ap (go_on_reading (frames_from k c log) at) (frame_too_little c log previous at s))
enough (suc n) zero c log previous at h g =
    let s : length log < at + 8 = omega arith in ap (go_on_reading (frames_from n c log) at) (frame_too_little c log previous at s)
enough (suc n) (suc k) c log previous at h g = go (λ p a. enough n k c log p a) (frame_at c log previous at) refl
  where
    go : ((p a : ℕ) → length log ≤ n + a → length log ≤ k + a → frames_from n c log p a ≡ frames_from k c log p a)
        → (x : ReadFrame) → frame_at c log previous at ≡ x → go_on_reading (frames_from n c log) at x ≡ go_on_reading (frames_from k c log) at x
    go again too_little e = refl
    go again (wrong why) e = refl
    go again (found f next) e =
        let far : at + 29 ≤ next = (frame_bounds c log previous at f next e).far in
        ap (join f) (again f.sequence next (omega arith) (omega arith))

-- with turns enough, the reader gives all frames
pub frames_from_lem : (n : ℕ) (c : Config) (log : List ℕ) (previous at : ℕ) → length log ≤ n + at
    → frames_from n c log previous at ≡ frames_at c log previous at
unfolding frames_at
frames_from_lem n c log previous at h = enough n (length log) c log previous at h (omega arith)

pub frames_of_lem : (c : Config) (log : List ℕ) → frames_of c log ≡ frames_at c log 0 0
unfolding frames_of frames_at
frames_of_lem c log = refl

pub frames_at_lem : (c : Config) (log : List ℕ) (previous at : ℕ)
    → frames_at c log previous at ≡ go_on_reading (frames_at c log) at (frame_at c log previous at)
unfolding frames_at frames_from
frames_at_lem c log previous at = enough (length log) (suc (length log)) c log previous at (omega arith) (omega arith)

pub frames_at_tail : (c : Config) (log : List ℕ) (previous at : ℕ) → frame_at c log previous at ≡ too_little
    → frames_at c log previous at ≡ record { frames = []; ended = tail at }
frames_at_tail c log previous at e = frames_at_lem c log previous at ∙ ap (go_on_reading (frames_at c log) at) e

pub frames_at_bad : (c : Config) (log : List ℕ) (previous at : ℕ) (why : Refusal) → frame_at c log previous at ≡ wrong why
    → frames_at c log previous at ≡ record { frames = []; ended = bad why at }
frames_at_bad c log previous at why e = frames_at_lem c log previous at ∙ ap (go_on_reading (frames_at c log) at) e

pub frames_at_found : (c : Config) (log : List ℕ) (previous at : ℕ) (f : Frame Row) (next : ℕ) → frame_at c log previous at ≡ found f next
    → frames_at c log previous at ≡ join f (frames_at c log f.sequence next)
frames_at_found c log previous at f next e = frames_at_lem c log previous at ∙ ap (go_on_reading (frames_at c log) at) e

-- what holds at a tail and at a refusal, and before a frame if after it, holds of all frames from any byte
pub frames_induction : (c : Config) (log : List ℕ) (P : ℕ → ℕ → Frames Row → Type 0)
    → ((previous at : ℕ) → frame_at c log previous at ≡ too_little → P previous at (record { frames = []; ended = tail at }))
    → ((previous at : ℕ) (why : Refusal) → frame_at c log previous at ≡ wrong why → P previous at (record { frames = []; ended = bad why at }))
    → ((previous at : ℕ) (f : Frame Row) (next : ℕ) → frame_at c log previous at ≡ found f next
    → P f.sequence next (frames_at c log f.sequence next) → P previous at (join f (frames_at c log f.sequence next)))
    → (previous at : ℕ) → P previous at (frames_at c log previous at)
frames_induction c log P on_tail on_bad on_found previous at = turns (length log) previous at (omega arith)
  where
    turn : (previous at : ℕ) (x : ReadFrame) → frame_at c log previous at ≡ x
        → ((f : Frame Row) (next : ℕ) → frame_at c log previous at ≡ found f next → P f.sequence next (frames_at c log f.sequence next))
        → P previous at (go_on_reading (frames_at c log) at x)
    turn previous at too_little e again = on_tail previous at e
    turn previous at (wrong why) e again = on_bad previous at why e
    turn previous at (found f next) e again = on_found previous at f next e (again f next e)

    turns : (n previous at : ℕ) → length log ≤ n + at → P previous at (frames_at c log previous at)
    turns zero previous at h =
        let s : length log < at + 8 = omega arith in
        let e = frame_too_little c log previous at s in
        subst (P previous at) (sym (frames_at_tail c log previous at e)) (on_tail previous at e)
    turns (suc n) previous at h =
        subst (P previous at) (sym (frames_at_lem c log previous at)) (turn previous at (frame_at c log previous at) refl λ f next e.
        let far : at + 29 ≤ next = (frame_bounds c log previous at f next e).far in
        turns n f.sequence next (omega arith))

-- ---- where they end
abbrev pub ended_at : End → ℕ
ended_at (tail at) = at
ended_at (bad why at) = at

abbrev pub IsTail : End → Type 0
IsTail (tail at) = Unit {0}
IsTail (bad why at) = ⊥

-- a tail begins inside the log or at its end
pub tail_bounds : (c : Config) (log : List ℕ) (previous at k : ℕ) → at ≤ length log → (frames_at c log previous at).ended ≡ tail k
    → (at ≤ k) × (k ≤ length log)
tail_bounds c log =
    λ previous at k h e. frames_induction c log (λ p a r. a ≤ length log → (k : ℕ) → r.ended ≡ tail k → (a ≤ k) × (k ≤ length log))
    (λ p a w h k e. let is : a ≡ k = ap ended_at e in (omega arith, omega arith))
    (λ p a why w h k e. absurd (subst IsTail (sym e) tt))
    (λ p a f next w rest h k e.
    let b = frame_bounds c log p a f next w in
    let more = rest b.inside k e in
    let far = b.far in
    let low : next ≤ k = more.0 in
    (omega arith, more.1))
    previous at h k e

-- a refused frame has its length's 8 bytes
pub bad_bounds : (c : Config) (log : List ℕ) (previous at : ℕ) (why : Refusal) (k : ℕ) → (frames_at c log previous at).ended ≡ bad why k
    → (at ≤ k) × (k + 8 ≤ length log)
bad_bounds c log =
    λ previous at why k e. frames_induction c log (λ p a r. (why : Refusal) (k : ℕ) → r.ended ≡ bad why k → (a ≤ k) × (k + 8 ≤ length log))
    (λ p a w why k e. absurd (subst IsTail e tt))
    (λ p a why w why' k e. let is : a ≡ k = ap ended_at e in let inside = frame_wrong_inside c log p a why w in (omega arith, omega arith))
    (λ p a f next w rest why k e.
    let far : a + 29 ≤ next = (frame_bounds c log p a f next w).far in
    let more = rest why k e in
    let low : next ≤ k = more.0 in
    (omega arith, more.1))
    previous at why k e
