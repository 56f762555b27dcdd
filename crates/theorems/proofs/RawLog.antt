-- A log is its frames laid out one behind the other: any front of them, up to a tail or a refusal, and of an accepted recovery.
use Rattle.std.specs.Prelude.{Ok}
use Prim.Native.Nat.{ℕ, ◌+◌, ◌-◌, ◌<◌}
use mathlib.Core.Path.{◌≡◌, refl, sym, ap, ap₂, subst, ◌∙◌}
use mathlib.Core.List.{List, [], ◌∷◌, ◌++◌, map, append_assoc, append-nil}
use native.Mathlib.Omega.{arith}
use lib.ListN.{length, take, drop, take-append-drop, length-append, length-drop}
use Rattle.fields.specs.Fields.{part, Bytes}
use Rattle.config.specs.declared.Config.{Config}
use Rattle.refusal.specs.declared.Refusal.{Refusal}
use Rattle.refusal.proofs.Results.{answer_injective}
use Rattle.rows.specs.declared.Row.{Row}
use Rattle.meaning.specs.Every.{Every}
use Rattle.meaning.specs.Replay.{Frame, Frames, End, tail, bad}
use Rattle.meaning.specs.Snapshot.{Snapshot, read_snapshot}
use Rattle.meaning.specs.Log.{found, frame_at, join, frames_at, frames_of}
use Rattle.meaning.specs.Recovery.{Recovered, recovered, refused_log, bounds_for, recover}
use Rattle.meaning.specs.Records.{Record, row_kind}
use Rattle.meaning.proofs.FrameRead.{frame_too_little}
use Rattle.meaning.proofs.FramesAt.{frames_of_lem, frames_at_tail, frames_at_found, ended_at}
use Rattle.theorems.specs.FrameRows.{Follows}
use Rattle.theorems.specs.FrameLists.{Consecutive, Numbered, byte_after}
use Rattle.theorems.specs.LogLaidOut.{layout_of, read_as, frame_shown, FrameFits, layouts_of, StandFrom, FramesFit, frames_shown, FrontLaidOut, LogLaidOut, BeforeRefusal}
use Rattle.theorems.specs.RefusedAt.{RefusedAt, too_long, in_frame}
use Rattle.theorems.proofs.Here.{after_here, parts_joined}
use Rattle.theorems.proofs.LogLaws.{first_frame, after_frame_lem, log_numbered}
use Rattle.theorems.proofs.LogCut.{cut_after, end_after}
use Rattle.theorems.proofs.Recovering.{accepted, frames_to_tail, replays_frames}
use Rattle.theorems.proofs.Counted.{replay_counts}
use Rattle.theorems.proofs.RefusedThere.{refused_at}
use Rattle.theorems.proofs.FrameBack.{frame_found}
use Rattle.theorems.proofs.RawFrame.{framed, frame_is_its_layout}

module _ (c : Config) (snapshot log : List ℕ) (b : Bytes log) where
  consecutive_shown : (n : ℕ) (fs : List (Frame Row)) → Consecutive n fs → Consecutive n (frames_shown c snapshot log fs)
  consecutive_shown n [] k = tt
  consecutive_shown n (f ∷ fs) k = (k.0, consecutive_shown f.sequence fs k.1)

  numbered_shown : (fs : List (Frame Row)) → Numbered fs → Numbered (frames_shown c snapshot log fs)
  numbered_shown [] k = tt
  numbered_shown (f ∷ fs) k = (k.0, consecutive_shown f.sequence fs k.1)

  -- frames from `at` on
  record RawFrames (at : ℕ) (fs : List (Frame Row)) : Type 0 where
    total : ℕ
    after_is : byte_after log at fs ≡ at + total
    bytes_are : layouts_of (frames_shown c snapshot log fs) ≡ part log at total
    length_is : length (layouts_of (frames_shown c snapshot log fs)) ≡ total
    stand : StandFrom at (frames_shown c snapshot log fs)
    fit : Every (FrameFits c) (frames_shown c snapshot log fs)
    rows_are : fs ≡ map read_as (frames_shown c snapshot log fs)

  raw_frames : (previous at : ℕ) (fs gs : List (Frame Row)) (end : End) → frames_at c log previous at ≡ record { frames = fs ++ gs; ended = end } → RawFrames at fs
  unfolding layouts_of
  raw_frames previous at [] gs end e =
      record { total = 0; after_is = omega arith; bytes_are = refl; length_is = refl; stand = tt; fit = tt; rows_are = refl }
  raw_frames previous at (f ∷ fs) gs end e =
      let s = first_frame c log previous at f (fs ++ gs) end e in
      let this = frame_is_its_layout c snapshot log b previous at f s.next s.here in
      let more = raw_frames f.sequence s.next fs gs end s.rest in
      let layout = layout_of (frame_shown c snapshot log f) in
      let next_is : s.next ≡ at + length layout = this.next_is in
      let after_is = more.after_is in
      let size_is = more.length_is in
      record {
        total = length layout + more.total;
        after_is = ap (λ (x : ℕ). byte_after log x fs) (sym (after_frame_lem c log previous at f s.next s.here)) ∙ omega arith;
        bytes_are =
            ap₂ ◌++◌ (sym this.is) more.bytes_are
            ∙ parts_joined log at (s.next - at) s.next more.total (length layout + more.total) (omega arith) (omega arith);
        length_is = simp length-append (omega arith);
        stand = (this.start_is, subst (λ (x : ℕ). StandFrom x (frames_shown c snapshot log fs)) next_is more.stand);
        fit = (this.fits, more.fit);
        rows_are = ap₂ ◌∷◌ this.rows_are more.rows_are;
      }

  pub front_is_its_frames : (fs gs : List (Frame Row)) (end : End) → frames_of c log ≡ record { frames = fs ++ gs; ended = end }
      → FrontLaidOut c snapshot log fs (byte_after log 0 fs)
  front_is_its_frames fs gs end e =
      let raw = raw_frames 0 0 fs gs end (sym (frames_of_lem c log) ∙ e) in
      let after_is : byte_after log 0 fs ≡ raw.total = let is = raw.after_is in omega arith in
      record {
        is = ap (λ (x : ℕ). take x log) after_is ∙ sym raw.bytes_are;
        length_is = after_is ∙ sym raw.length_is;
        fit =
            record {
              each = raw.fit;
              stand = raw.stand;
              numbered = numbered_shown fs (subst (λ (x : Frames Row). Numbered x.frames) (cut_after c log fs gs end e) (log_numbered c (take (byte_after log 0 fs) log)));
            };
        rows_are = raw.rows_are;
      }

  -- all frames, up to the byte at which the log ends
  up_to_the_end : (fs : List (Frame Row)) (end : End) → frames_of c log ≡ record { frames = fs; ended = end } → FrontLaidOut c snapshot log fs (ended_at end)
  up_to_the_end fs end e =
      subst (FrontLaidOut c snapshot log fs) (sym (end_after c log fs end e))
      (front_is_its_frames fs [] end (e ∙ ap (λ (l : List (Frame Row)). record { frames = l; ended = end }) (sym (append-nil fs))))

  pub up_to_a_tail : (fs : List (Frame Row)) (k : ℕ) → frames_of c log ≡ record { frames = fs; ended = tail k } → FrontLaidOut c snapshot log fs k
  up_to_a_tail fs k e = up_to_the_end fs (tail k) e

  pub up_to_a_refusal : (fs : List (Frame Row)) (why : Refusal) (k : ℕ) → frames_of c log ≡ record { frames = fs; ended = bad why k } → FrontLaidOut c snapshot log fs k
  up_to_a_refusal fs why k e = up_to_the_end fs (bad why k) e

pub log_is_its_frames : (lent : ℕ) (snapshot log : List ℕ) (r : Recovered) → Bytes log → recover lent snapshot log ≡ recovered r → LogLaidOut snapshot log r
log_is_its_frames lent snapshot log r b e =
    let a = accepted lent snapshot log r e in
    let S = a.read in
    let fs = (frames_of S.config log).frames in
    let front : FrontLaidOut r.config snapshot log (frames_of r.config log).frames r.keep =
    subst (λ (c : Config). FrontLaidOut c snapshot log (frames_of c log).frames r.keep) (sym a.same_config)
    (up_to_a_tail S.config snapshot log b fs r.keep (frames_to_tail lent snapshot log r a)) in
    let counts = replay_counts (row_kind S.config.dimensions) (bounds_for lent) S.sequence S.rows fs r.keep r.state r.keep (replays_frames lent snapshot log r a) in
    record {
      front = front;
      is = sym (take-append-drop r.keep log) ∙ ap (λ (l : List ℕ). l ++ drop r.keep log) front.is;
      tail_is = length-drop r.keep log;
      counted = counts.together ∙ ap (λ (c : Config). length (frames_of c log).frames) (sym a.same_config);
    }

-- before a refusal stand the frames of a cut, or nothing
pub refused_is_its_frames : (lent : ℕ) (snapshot log : List ℕ) (S : Snapshot) (why : Refusal) (at : ℕ) → Bytes log → read_snapshot lent snapshot ≡ Ok S
    → recover lent snapshot log ≡ refused_log why at → BeforeRefusal S.config snapshot log at
refused_is_its_frames lent snapshot log S why at b reads e = go (refused_at lent snapshot log why at e)
  where
    go : RefusedAt lent snapshot log why at → BeforeRefusal S.config snapshot log at
    go (too_long long is zero) =
        record {
          frames = [];
          behind = (frames_of S.config log).frames;
          are_read = refl;
          front = subst (FrontLaidOut S.config snapshot log []) (sym zero) (front_is_its_frames S.config snapshot log b [] (frames_of S.config log).frames (frames_of S.config log).ended refl);
        }
    go (in_frame short cut here there) =
        let same : cut.accepted.config ≡ S.config = ap (λ (x : Snapshot). x.config) (answer_injective cut.accepted S (sym cut.accepts ∙ reads)) in
        let frames_are : frames_of S.config log ≡ record { frames = cut.front ++ cut.behind; ended = cut.end } = ap (λ (c : Config). frames_of c log) (sym same) ∙ cut.frames in
        record {
          frames = cut.front;
          behind = cut.behind;
          are_read = ap (λ (x : Frames Row). x.frames) frames_are;
          front = subst (FrontLaidOut S.config snapshot log cut.front) here (front_is_its_frames S.config snapshot log b cut.front cut.behind cut.end frames_are);
        }

-- ---- the other way
pub layout_is_read : (c : Config) (log : List ℕ) (previous : ℕ) (f : Frame Record) (rest : List ℕ) → FrameFits c f → Follows previous f.sequence
    → drop f.start log ≡ layout_of f ++ rest → frame_at c log previous f.start ≡ found (read_as f) (f.start + length (layout_of f))
layout_is_read c log previous f rest k follows h =
    frame_found f.shape c f.sequence f.operations (framed c f k) log f.start rest h previous follows

-- frames of which the first follows `previous`, and each other the one before it
abbrev Led : ℕ → List (Frame Record) → Type 0
Led previous [] = Unit {0}
Led previous (f ∷ fs) = Follows previous f.sequence × Consecutive f.sequence fs

consecutive_led : (n : ℕ) (fs : List (Frame Record)) → Consecutive n fs → Led n fs
consecutive_led n [] k = tt
consecutive_led n (f ∷ fs) k = (λ h. k.0, k.1)

numbered_led : (fs : List (Frame Record)) → Numbered fs → Led 0 fs
numbered_led [] k = tt
numbered_led (f ∷ fs) k = (λ h. absurd (omega arith), k.1)

read_from : (c : Config) (log : List ℕ) (previous at : ℕ) (fs : List (Frame Record)) (rest : List ℕ) → Every (FrameFits c) fs → StandFrom at fs → Led previous fs
    → length rest < 8 → drop at log ≡ layouts_of fs ++ rest
    → frames_at c log previous at ≡ record { frames = map read_as fs; ended = tail (at + length (layouts_of fs)) }
unfolding layouts_of
read_from c log previous at [] rest k stand led few h =
    let l : length log - at ≡ length rest = sym (length-drop at log) ∙ ap length h in
    let short : length log < at + 8 = omega arith in
    let z : at ≡ at + 0 = omega arith in
    frames_at_tail c log previous at (frame_too_little c log previous at short) ∙ ap (λ (x : ℕ). record { frames = []; ended = tail x }) z
read_from c log previous at (f ∷ fs) rest k stand led few h =
    let n = length (layout_of f) in
    let here : drop at log ≡ layout_of f ++ (layouts_of fs ++ rest) = h ∙ append_assoc (layout_of f) (layouts_of fs) rest in
    let start_is : f.start ≡ at = stand.0 in
    let this : frame_at c log previous at ≡ found (read_as f) (at + n) =
    subst (λ (x : ℕ). drop x log ≡ layout_of f ++ (layouts_of fs ++ rest) → frame_at c log previous x ≡ found (read_as f) (x + n)) start_is
    (layout_is_read c log previous f (layouts_of fs ++ rest) k.0 led.0) here in
    let more = read_from c log f.sequence (at + n) fs rest k.1 stand.1 (consecutive_led f.sequence fs led.1) few
    (after_here log at n (layout_of f) (layouts_of fs ++ rest) here refl) in
    let end : at + n + length (layouts_of fs) ≡ at + length (layout_of f ++ layouts_of fs) = simp length-append (omega arith) in
    frames_at_found c log previous at (read_as f) (at + n) this
    ∙ ap (join (read_as f)) more
    ∙ ap (λ (x : ℕ). record { frames = map read_as (f ∷ fs); ended = tail x }) end

pub layouts_are_read : (c : Config) (fs : List (Frame Record)) (rest : List ℕ) → FramesFit c fs → length rest < 8
    → frames_of c (layouts_of fs ++ rest) ≡ record { frames = map read_as fs; ended = tail (length (layouts_of fs)) }
layouts_are_read c fs rest k few =
    let z : 0 + length (layouts_of fs) ≡ length (layouts_of fs) = omega arith in
    frames_of_lem c (layouts_of fs ++ rest)
    ∙ read_from c (layouts_of fs ++ rest) 0 0 fs rest k.each k.stand (numbered_led fs k.numbered) few refl
    ∙ ap (λ (x : ℕ). record { frames = map read_as fs; ended = tail x }) z
