-- What `specs/RefusedAt.antt` says: where a replay stops, and what stands there in the log.
use Rattle.std.specs.Prelude.{Ok, Err}
use Prim.Native.Nat.{ℕ, ◌≤◌}
use native.Mathlib.Omega.{arith}
use mathlib.Core.Path.{◌≡◌, refl, sym, ap, ◌∙◌, subst}
use mathlib.Core.Bool.{Bool, true, false, cond}
use mathlib.Core.List.{List, [], ◌∷◌, ◌++◌, nil≢cons}
use lib.ListN.{length}
use lib.Dec.{ltb}
use borrow.Author.Tests.{ltb-true, ltb-false}
use Rattle.config.specs.Limits.{max_log_bytes}
use Rattle.config.specs.declared.Config.{Config}
use Rattle.refusal.specs.Refusal.{Answer}
use Rattle.refusal.specs.declared.Refusal.{Refusal}
use Rattle.refusal.specs.declared.Refusal.TheVariants.{LogTooLong}
use Rattle.rows.specs.declared.Row.{Row}
use Rattle.meaning.specs.Replay.{Kind, Frame, End, tail, bad, Frames, State, Outcome, reached, stopped, Bounds, begins, onward, step, run, replay}
use Rattle.meaning.specs.Records.{row_kind}
use Rattle.meaning.specs.Snapshot.{Snapshot, read_snapshot}
use Rattle.meaning.specs.Log.{ReadFrame, too_little, wrong, found, frame_at, go_on_reading, frames_of, frames_at}
use Rattle.meaning.specs.Recovery.{refused_log, bounds_for, ended, with_snapshot, recover}
use Rattle.meaning.proofs.FrameRead.{frame_bounds}
use Rattle.meaning.proofs.FramesAt.{frames_of_lem, frames_at_lem, frames_at_bad, frames_at_found, IsTail}
use Rattle.theorems.specs.FrameLists.{last_sequence, byte_after}
use Rattle.theorems.specs.Cut.{Ran, Cut, place}
use Rattle.theorems.specs.RefusedAt.{FrameRefused, unread, unplayed, RefusedAt, too_long, in_frame}
use Rattle.theorems.proofs.Ran.{stopped≢reached, ran_on}
use Rattle.theorems.proofs.LogLaws.{first_frame, after_frame_lem}
use Rattle.theorems.proofs.LogCut.{cut_inside, next_start}
use Rattle.meaning.proofs.RecoverBegins.{too_long_lem}
use Rattle.theorems.proofs.Recovering.{recover_read}

stopped_by : {A : Type 0} {w why : Refusal} {k at : ℕ} → ◌≡◌ {A = Outcome A} (stopped w k) (stopped why at) → w ≡ why
stopped_by e = cc

stopped_at : {A : Type 0} {w why : Refusal} {k at : ℕ} → ◌≡◌ {A = Outcome A} (stopped w k) (stopped why at) → k ≡ at
stopped_at e = cc

bad_by : {w why : Refusal} {k at : ℕ} → bad w k ≡ bad why at → w ≡ why
bad_by e = cc

refused_by_lem : {w why : Refusal} {k at : ℕ} → refused_log w k ≡ refused_log why at → w ≡ why
refused_by_lem e = cc

refused_place : {w why : Refusal} {k at : ℕ} → refused_log w k ≡ refused_log why at → k ≡ at
refused_place e = cc

-- ---- where a run stops
module _ {A : Type 0} (K : Kind A) (L : Bounds) (q : ℕ) where
  -- at its end, which is bad, or at a frame that is refused
  abbrev StopsHere : List (Frame A) → End → State A → Refusal → ℕ → Type 0
  StopsHere [] end s why at = end ≡ bad why at
  StopsHere (f ∷ fs) end s why at = (step K L q f s ≡ Err why) × (f.start ≡ at)

  pub record Stops (fs : List (Frame A)) (end : End) (s : State A) (why : Refusal) (at : ℕ) : Type 0 where
    pub front : List (Frame A)
    pub behind : List (Frame A)
    pub parts : fs ≡ front ++ behind
    pub state : State A
    pub reads : Ran K L q front s state
    pub here : StopsHere behind end state why at

  pub stops : (fs : List (Frame A)) (end : End) (s : State A) (why : Refusal) (at : ℕ) → run K L q fs end s ≡ stopped why at → Stops fs end s why at
  unfolding run
  stops [] (tail k) s why at e = absurd (stopped≢reached (sym e))
  stops [] (bad w k) s why at e =
      let by = stopped_by e in
      let place = stopped_at e in
      record { front = []; behind = []; parts = refl; state = s; reads = refl; here = λ i. bad (by i) (place i) }
  stops (f ∷ fs) end s why at e = go (step K L q f s) refl e (λ m. stops fs end m why at)
    where
      go : (x : Answer (State A)) → step K L q f s ≡ x → onward f.start x (run K L q fs end) ≡ stopped why at
          → ((m : State A) → run K L q fs end m ≡ stopped why at → Stops fs end m why at) → Stops (f ∷ fs) end s why at
      go (Ok m) h d rest =
          let r = rest m d in
          record {
            front = f ∷ r.front;
            behind = r.behind;
            parts = ap (λ (l : List (Frame A)). f ∷ l) r.parts;
            state = r.state;
            reads = (m, h, r.reads);
            here = r.here;
          }
      go (Err w) h d rest =
          record {
            front = [];
            behind = f ∷ fs;
            parts = refl;
            state = s;
            reads = refl;
            here = (h ∙ ap (λ (x : Refusal). Err x) (stopped_by d), stopped_at d);
          }

-- ---- what is read behind some first frames
rest_at : (c : Config) (log : List ℕ) (previous at : ℕ) (fs gs : List (Frame Row)) (end : End)
    → frames_at c log previous at ≡ record { frames = fs ++ gs; ended = end }
    → frames_at c log (last_sequence previous fs) (byte_after log at fs) ≡ record { frames = gs; ended = end }
rest_at c log previous at [] gs end e = e
rest_at c log previous at (f ∷ fs) gs end e =
    let s = first_frame c log previous at f (fs ++ gs) end e in
    rest_at c log f.sequence _ fs gs end
    (subst (λ (k : ℕ). frames_at c log f.sequence k ≡ record { frames = fs ++ gs; ended = end }) (after_frame_lem c log previous at f s.next s.here) s.rest)

behind_cut : {lent : ℕ} {snapshot log : List ℕ} (cut : Cut lent snapshot log)
    → frames_at cut.accepted.config log (last_sequence 0 cut.front) (place cut) ≡ record { frames = cut.behind; ended = cut.end }
behind_cut {lent} {snapshot} {log} cut =
    let c = cut.accepted.config in rest_at c log 0 0 cut.front cut.behind cut.end (sym (frames_of_lem c log) ∙ cut.frames)

-- no frame, and a bad end: it is refused here
refused_here_lem : (c : Config) (log : List ℕ) (previous at k : ℕ) (why : Refusal)
    → frames_at c log previous at ≡ record { frames = []; ended = bad why k } → (frame_at c log previous at ≡ wrong why) × (at ≡ k)
refused_here_lem c log previous at k why e = go (frame_at c log previous at) refl (sym (frames_at_lem c log previous at) ∙ e)
  where
    go : (x : ReadFrame) → frame_at c log previous at ≡ x → go_on_reading (frames_at c log) at x ≡ record { frames = []; ended = bad why k }
        → (frame_at c log previous at ≡ wrong why) × (at ≡ k)
    go too_little w e = absurd (subst IsTail (ap (λ (r : Frames Row). r.ended) e) tt)
    go (wrong y) w e =
        let b : bad y at ≡ bad why k = ap (λ (r : Frames Row). r.ended) e in
        (w ∙ ap (λ (x : Refusal). wrong x) (bad_by b), ap place_of b)
      where
        place_of : End → ℕ
        place_of (tail n) = n
        place_of (bad y n) = n
    go (found f next) w e = absurd (nil≢cons (sym (ap (λ (r : Frames Row). r.frames) e)))

-- ---- the refusal of a log
module _ (lent : ℕ) (snapshot log : List ℕ) (why : Refusal) (at : ℕ) (short : length log ≤ max_log_bytes) where
  module _ (S : Snapshot) (reads : read_snapshot lent snapshot ≡ Ok S) where
    abbrev c : Config
    c = S.config

    abbrev K : Kind Row
    K = row_kind c.dimensions

    abbrev start : State Row
    start = begins S.sequence S.rows

    in_cut : (front behind : List (Frame Row)) (end : End) (state : State Row) → frames_of c log ≡ record { frames = front ++ behind; ended = end }
        → Ran K (bounds_for lent) S.sequence front start state → StopsHere K (bounds_for lent) S.sequence behind end state why at
        → RefusedAt lent snapshot log why at
    in_cut front [] end state frames ran here =
        let inside = cut_inside c log front [] end frames in
        let cut : Cut lent snapshot log =
        record {
          accepted = S;
          accepts = reads;
          front = front;
          behind = [];
          end = end;
          frames = frames;
          state = state;
          reads = ran;
          short = omega arith;
        } in
        let r = refused_here_lem c log (last_sequence 0 front) (place cut) at why (behind_cut cut ∙ ap (λ (x : End). record { frames = []; ended = x }) here) in
        in_frame short cut r.1 (unread r.0)
    in_cut front (f ∷ fs) end state frames ran here =
        let inside = cut_inside c log front (f ∷ fs) end frames in
        let cut : Cut lent snapshot log =
        record {
          accepted = S;
          accepts = reads;
          front = front;
          behind = f ∷ fs;
          end = end;
          frames = frames;
          state = state;
          reads = ran;
          short = omega arith;
        } in
        let s = first_frame c log (last_sequence 0 front) (place cut) f fs end (behind_cut cut) in
        in_frame short cut (sym (next_start c log front f fs end frames) ∙ here.1) (unplayed f s.next s.here here.0)

    stopped_there : (o : Outcome Row) → replay K (bounds_for lent) S.sequence S.rows (frames_of c log) ≡ o → ended S o ≡ refused_log why at
        → RefusedAt lent snapshot log why at
    unfolding replay
    stopped_there (reached t k) r e = absurd (let z : ◌≡◌ {A = ℕ} 0 1 = cc in omega arith)
    stopped_there (stopped w k) r e =
        let by = refused_by_lem e in
        let place = refused_place e in
        let s = stops K (bounds_for lent) S.sequence (frames_of c log).frames (frames_of c log).ended start why at (r ∙ (λ i. stopped (by i) (place i))) in
        in_cut s.front s.behind (frames_of c log).ended s.state (ap (λ (l : List (Frame Row)). record { frames = l; ended = (frames_of c log).ended }) s.parts) s.reads s.here

  with_snapshot_lem : (x : Answer Snapshot) → read_snapshot lent snapshot ≡ x → with_snapshot lent log x ≡ refused_log why at → RefusedAt lent snapshot log why at
  with_snapshot_lem (Ok S) r e = stopped_there S r _ refl e
  with_snapshot_lem (Err w) r e = absurd (let z : ◌≡◌ {A = ℕ} 0 1 = cc in omega arith)

pub refused_at : (lent : ℕ) (snapshot log : List ℕ) (why : Refusal) (at : ℕ) → recover lent snapshot log ≡ refused_log why at → RefusedAt lent snapshot log why at
unfolding recover
refused_at lent snapshot log why at e = first (ltb max_log_bytes (length log)) refl e
  where
    first : (b : Bool) → ltb max_log_bytes (length log) ≡ b → cond b (refused_log LogTooLong 0) (with_snapshot lent log (read_snapshot lent snapshot)) ≡ refused_log why at
        → RefusedAt lent snapshot log why at
    first true h e = too_long (ltb-true max_log_bytes (length log) h) (sym (refused_by_lem e)) (sym (refused_place e))
    first false h e = with_snapshot_lem lent snapshot log why at (ltb-false max_log_bytes (length log) h) (read_snapshot lent snapshot) refl e

-- the other way
module _ {lent : ℕ} {snapshot log : List ℕ} (cut : Cut lent snapshot log) where
  abbrev settings : Config
  settings = cut.accepted.config

  -- the run over what is read behind the cut
  abbrev onwards : Frames Row → Outcome Row
  onwards r = run (row_kind settings.dimensions) (bounds_for lent) cut.accepted.sequence r.frames r.ended cut.state

  abbrev behind : Frames Row
  behind = frames_at settings log (last_sequence 0 cut.front) (place cut)

  replays : replay (row_kind settings.dimensions) (bounds_for lent) cut.accepted.sequence cut.accepted.rows (frames_of settings log) ≡ onwards behind
  unfolding replay
  replays =
      ap (replay (row_kind settings.dimensions) (bounds_for lent) cut.accepted.sequence cut.accepted.rows) cut.frames
      ∙ ran_on (row_kind settings.dimensions) (bounds_for lent) cut.accepted.sequence cut.front cut.behind cut.end
      (begins cut.accepted.sequence cut.accepted.rows) cut.state cut.reads
      ∙ ap onwards (sym (behind_cut cut))

  stops_there : (why : Refusal) → FrameRefused lent snapshot log cut why → onwards behind ≡ stopped why (place cut)
  unfolding run
  stops_there why (unread w) = ap onwards (frames_at_bad settings log (last_sequence 0 cut.front) (place cut) why w)
  stops_there why (unplayed f next w r) =
      ap onwards (frames_at_found settings log (last_sequence 0 cut.front) (place cut) f next w)
      ∙ ap (λ (x : Answer (State Row)). onward f.start x
      (run (row_kind settings.dimensions) (bounds_for lent) cut.accepted.sequence (frames_at settings log f.sequence next).frames (frames_at settings log f.sequence next).ended)) r
      ∙ ap (λ (k : ℕ). stopped why k) (frame_bounds settings log (last_sequence 0 cut.front) (place cut) f next w).start_is

pub refused_if : (lent : ℕ) (snapshot log : List ℕ) (why : Refusal) (at : ℕ) → RefusedAt lent snapshot log why at → recover lent snapshot log ≡ refused_log why at
refused_if lent snapshot log why at (too_long long by place) =
    let is-why = sym by in
    let is_at = sym place in
    too_long_lem lent snapshot log long ∙ (λ i. refused_log (is-why i) (is_at i))
refused_if lent snapshot log why at (in_frame short cut place_is here) =
    recover_read lent snapshot log cut.accepted cut.accepts short
    ∙ ap (ended cut.accepted) (replays cut ∙ stops_there cut why here)
    ∙ ap (refused_log why) place_is
