-- A log that is joined, cut, moved, or read anew from the middle.
use Prim.Native.Nat.{ℕ, ◌+◌, ◌≤◌, ◌<◌}
use native.Mathlib.Omega.{arith}
use mathlib.Core.Path.{◌≡◌, refl, sym, ap, subst, ◌∙◌}
use mathlib.Core.List.{List, [], ◌∷◌, ◌++◌}
use lib.ListN.{length, take, drop, take-append-drop}
use lib.Seq.{length-take-le}
use Rattle.fields.proofs.Numbers.{num_append}
use Rattle.config.specs.declared.Config.{Config}
use Rattle.layout.specs.Layout.{frame_length}
use Rattle.refusal.specs.declared.Refusal.{Refusal}
use Rattle.meaning.specs.Replay.{Frame, End, tail, bad, Frames}
use Rattle.rows.specs.declared.Row.{Row}
use Rattle.meaning.specs.Log.{ReadFrame, too_little, wrong, found, frame_at, join, go_on_reading, frames_of, frames_at}
use Rattle.theorems.proofs.Moved.{later_frame, later_frames, later_found}
use Rattle.theorems.proofs.OneFrame.{frame_front, frame_back, frame_shifted, frame_anew}
use Rattle.theorems.proofs.LogLaws.{first_frame, no_frame_lem, after_frame_lem, back_to_back, ended_after, after_least, after_most, back_to_back_front, back_to_back_rest}
use Rattle.theorems.specs.FrameLists.{after_frame, byte_after, BackToBack, last_sequence}
use Rattle.meaning.proofs.FrameRead.{IsWrong, frame_too_little}
use Rattle.meaning.proofs.FramesAt.{frames_of_lem, frames_at_lem, frames_at_tail, frames_at_bad, frames_at_found, frames_induction, IsTail, ended_at}

-- ---- log-joined
-- frames before others
abbrev pub prepend : List (Frame Row) → Frames Row → Frames Row
prepend fs more = record { frames = fs ++ more.frames; ended = more.ended }

pub joined_at : (c : Config) (front rest : List ℕ) (previous at : ℕ) (fs : List (Frame Row)) {k : ℕ}
    → frames_at c front previous at ≡ record { frames = fs; ended = tail k }
    → frames_at c (front ++ rest) previous at ≡ prepend fs (frames_at c (front ++ rest) (last_sequence previous fs) k)
joined_at c front rest previous at [] {k} e =
    let n = no_frame_lem c front previous at k e in ap (frames_at c (front ++ rest) previous) (sym n.tail_is)
joined_at c front rest previous at (f ∷ fs) {k} e =
    let s = first_frame c front previous at f fs (tail k) e in
    frames_at_found c (front ++ rest) previous at f s.next (frame_front c front rest previous at f s.next s.here)
    ∙ ap (join f) (joined_at c front rest f.sequence s.next fs s.rest)

-- a log that is read up to a tail, and more behind it: its frames, and then what stands where the tail began
pub log_joined : (c : Config) (front rest : List ℕ) (fs : List (Frame Row)) {k : ℕ}
    → frames_of c front ≡ record { frames = fs; ended = tail k }
    → frames_of c (front ++ rest) ≡ prepend fs (frames_at c (front ++ rest) (last_sequence 0 fs) k)
log_joined c front rest fs e =
    frames_of_lem c (front ++ rest) ∙ joined_at c front rest 0 0 fs (sym (frames_of_lem c front) ∙ e)

-- ---- moved
pub shifted : (c : Config) (front rest : List ℕ) (previous at : ℕ)
    → frames_at c (front ++ rest) previous (length front + at) ≡ later_frames (length front) (frames_at c rest previous at)
shifted c front rest =
    let m = length front in
    let log = front ++ rest in
    frames_induction c rest (λ p a r. frames_at c (front ++ rest) p (length front + a) ≡ later_frames (length front) r)
    (λ p a e. frames_at_tail c log p (m + a) (frame_shifted c front rest p a ∙ ap (later_found m) e))
    (λ p a why e. frames_at_bad c log p (m + a) why (frame_shifted c front rest p a ∙ ap (later_found m) e))
    (λ p a f next e more.
    frames_at_found c log p (m + a) (later_frame m f) (m + next) (frame_shifted c front rest p a ∙ ap (later_found m) e)
    ∙ ap (join (later_frame m f)) more)

-- ---- read anew
pub anew : (c : Config) (log : List ℕ) (previous at : ℕ)
    → (IsWrong (frame_at c log previous at) → ⊥) → frames_at c log 0 at ≡ frames_at c log previous at
anew c log previous at h =
    frames_at_lem c log 0 at ∙ ap (go_on_reading (frames_at c log) at) (frame_anew c log previous at h) ∙ sym (frames_at_lem c log previous at)

-- the reader did not stop at the first frame
abbrev pub WentOn : Frames Row → Type 0
WentOn r = (why : Refusal) (at : ℕ) → r ≡ record { frames = []; ended = bad why at } → ⊥

pub went_on_anew : (c : Config) (log : List ℕ) (previous at : ℕ)
    → WentOn (frames_at c log previous at) → frames_at c log 0 at ≡ frames_at c log previous at
went_on_anew c log previous at h = anew c log previous at (go (frame_at c log previous at) refl)
  where
    go : (x : ReadFrame) → frame_at c log previous at ≡ x → IsWrong x → ⊥
    go too_little e w = w
    go (wrong why) e w = h why at (frames_at_bad c log previous at why e)
    go (found f next) e w = w

pub tail_went_on : (r : Frames Row) (k : ℕ) → r.ended ≡ tail k → WentOn r
tail_went_on r k e why at b = subst IsTail (sym e ∙ ap (λ (x : Frames Row). x.ended) b) tt

-- behind a log whose bytes are all read, the rest reads as a log of its own
pub rest_alone : (c : Config) (front rest : List ℕ) (fs : List (Frame Row))
    → frames_of c front ≡ record { frames = fs; ended = tail (length front) }
    → WentOn (frames_at c (front ++ rest) (last_sequence 0 fs) (length front))
    → frames_at c (front ++ rest) (last_sequence 0 fs) (length front) ≡ later_frames (length front) (frames_of c rest)
rest_alone c front rest fs e h =
    let log = front ++ rest in
    let m = length front in
    let z : m ≡ m + 0 = omega arith in
    sym (went_on_anew c log (last_sequence 0 fs) m h)
    ∙ ap (frames_at c log 0) z
    ∙ shifted c front rest 0 0
    ∙ ap (later_frames m) (sym (frames_of_lem c rest))

-- a log that is accepted: its front's frames, and the frames of its rest read alone, moved
pub accepted_rest : (c : Config) (front rest : List ℕ) (fs : List (Frame Row)) (k : ℕ)
    → frames_of c front ≡ record { frames = fs; ended = tail (length front) }
    → (frames_of c (front ++ rest)).ended ≡ tail k
    → frames_of c (front ++ rest) ≡ prepend fs (later_frames (length front) (frames_of c rest))
accepted_rest c front rest fs k e t =
    let whole = log_joined c front rest fs e in
    let later = frames_at c (front ++ rest) (last_sequence 0 fs) (length front) in
    whole
    ∙ ap (prepend fs) (rest_alone c front rest fs e (tail_went_on later k (sym (ap (λ (r : Frames Row). r.ended) whole) ∙ t)))

-- ---- cut
cut_at : (c : Config) (log : List ℕ) (previous at : ℕ) (fs gs : List (Frame Row)) (end : End) (k : ℕ)
    → at ≤ length log → k ≤ length log → BackToBack log at fs → k ≡ byte_after log at fs
    → frames_at c log previous at ≡ record { frames = fs ++ gs; ended = end }
    → frames_at c (take k log) previous at ≡ record { frames = fs; ended = tail k }
cut_at c log previous at [] gs end k h g b is e =
    let l = length-take-le k log g in
    let short : length (take k log) < at + 8 = omega arith in
    frames_at_tail c (take k log) previous at (frame_too_little c (take k log) previous at short)
    ∙ ap (λ (x : ℕ). record { frames = []; ended = tail x }) (sym is)
cut_at c log previous at (f ∷ fs) gs end k h g b is e =
    let s = first_frame c log previous at f (fs ++ gs) end e in
    let next_is = after_frame_lem c log previous at f s.next s.here in
    let least = after_least log (after_frame log f) fs b.3 in
    let l = length-take-le k log g in
    let inside : s.next ≤ length (take k log) = omega arith in
    let last : after_frame log f ≤ length log = b.2 in
    let room : s.next ≤ length log = omega arith in
    let here : frame_at c (take k log ++ drop k log) previous at ≡ found f s.next =
    ap (λ (x : List ℕ). frame_at c x previous at) (take-append-drop k log) ∙ s.here in
    frames_at_found c (take k log) previous at f s.next (frame_back c (take k log) (drop k log) previous at f s.next here inside)
    ∙ ap (join f) (cut_at c log f.sequence s.next fs gs end k room g (subst (λ (x : ℕ). BackToBack log x fs) (sym next_is) b.3)
    (is ∙ ap (λ (x : ℕ). byte_after log x fs) (sym next_is)) s.rest)

read_back_to_back : (c : Config) (log : List ℕ) (fs : List (Frame Row)) (end : End)
    → frames_of c log ≡ record { frames = fs; ended = end } → BackToBack log 0 fs
read_back_to_back c log fs end e =
    subst (λ (r : Frames Row). BackToBack log 0 r.frames) (sym (frames_of_lem c log) ∙ e) (back_to_back c log 0 0)

-- the cut lies inside the log
pub cut_inside : (c : Config) (log : List ℕ) (fs gs : List (Frame Row)) (end : End)
    → frames_of c log ≡ record { frames = fs ++ gs; ended = end } → byte_after log 0 fs ≤ length log
cut_inside c log fs gs end e =
    after_most log 0 fs (omega arith) (back_to_back_front log 0 fs gs (read_back_to_back c log (fs ++ gs) end e))

pub cut_length : (c : Config) (log : List ℕ) (fs gs : List (Frame Row)) (end : End)
    → frames_of c log ≡ record { frames = fs ++ gs; ended = end } → length (take (byte_after log 0 fs) log) ≡ byte_after log 0 fs
cut_length c log fs gs end e = length-take-le (byte_after log 0 fs) log (cut_inside c log fs gs end e)

-- a log cut after some of its frames has these, and no tail
pub cut_after : (c : Config) (log : List ℕ) (fs gs : List (Frame Row)) (end : End)
    → frames_of c log ≡ record { frames = fs ++ gs; ended = end }
    → frames_of c (take (byte_after log 0 fs) log) ≡ record { frames = fs; ended = tail (byte_after log 0 fs) }
cut_after c log fs gs end e =
    let k = byte_after log 0 fs in
    frames_of_lem c (take k log)
    ∙ cut_at c log 0 0 fs gs end k (omega arith) (cut_inside c log fs gs end e)
    (back_to_back_front log 0 fs gs (read_back_to_back c log (fs ++ gs) end e)) refl (sym (frames_of_lem c log) ∙ e)

-- the byte of the cut in the paper's words: the byte after the last frame, which is where the next one begins
pub after_last : (log : List ℕ) (at : ℕ) (fs : List (Frame Row)) (f : Frame Row) → byte_after log at (fs ++ (f ∷ [])) ≡ after_frame log f
after_last log at [] f = refl
after_last log at (g ∷ fs) f = after_last log (after_frame log g) fs f

pub next_start : (c : Config) (log : List ℕ) (fs : List (Frame Row)) (g : Frame Row) (gs : List (Frame Row)) (end : End)
    → frames_of c log ≡ record { frames = fs ++ (g ∷ gs); ended = end } → g.start ≡ byte_after log 0 fs
next_start c log fs g gs end e = (back_to_back_rest log 0 fs (g ∷ gs) (read_back_to_back c log (fs ++ (g ∷ gs)) end e)).0

-- the byte at which a log ends, in a tail or in a refusal, is the byte after its last frame
pub end_after : (c : Config) (log : List ℕ) (fs : List (Frame Row)) (end : End)
    → frames_of c log ≡ record { frames = fs; ended = end } → ended_at end ≡ byte_after log 0 fs
end_after c log fs end e =
    subst (λ (r : Frames Row). ended_at r.ended ≡ byte_after log 0 r.frames) (sym (frames_of_lem c log) ∙ e) (ended_after c log 0 0)

-- the byte after frames of a front is the same in the whole log
after_front : (front rest : List ℕ) (at : ℕ) (fs : List (Frame Row)) → BackToBack front at fs → byte_after (front ++ rest) at fs ≡ byte_after front at fs
after_front front rest at [] b = refl
after_front front rest at (f ∷ fs) b =
    let is : f.start ≡ at = b.0 in
    let far : at + 29 ≤ after_frame front f = b.1 in
    let inside : after_frame front f ≤ length front = b.2 in
    let here : f.start + 4 ≤ length front = omega arith in
    ap (λ (n : ℕ). byte_after (front ++ rest) (f.start + frame_length n) fs) (num_append front rest f.start 4 here)
    ∙ after_front front rest (after_frame front f) fs b.3

-- a front that is read up to a tail: behind its frames the log is cut where the tail begins
pub front_cut : (c : Config) (front rest : List ℕ) (fs : List (Frame Row)) (k : ℕ) → frames_of c front ≡ record { frames = fs; ended = tail k }
    → (byte_after (front ++ rest) 0 fs ≡ k) × (k ≤ length front)
front_cut c front rest fs k e =
    let b = read_back_to_back c front fs (tail k) e in
    let is : k ≡ byte_after front 0 fs = end_after c front fs (tail k) e in
    (after_front front rest 0 fs b ∙ sym is, omega (arith, after_most front 0 fs (omega arith) b))
