-- The run of a log's frames by turns: a frame that was told, what one frame does to a state, and the run from there on.
use Rattle.std.specs.Prelude.{Ok, Err, Some, None, Result}
use Prim.Native.Nat.{ℕ, suc, ◌+◌, ◌-◌, ◌≤◌, ◌<◌}
use native.Mathlib.Omega.{arith}
use mathlib.Core.Path.{◌≡◌, refl, sym, ap, subst, ◌∙◌}
use mathlib.Core.Bool.{Bool, true, false, not, cond}
use mathlib.Core.List.{List}
use borrow.Author.Tests.{le-leb, lt-leb, eq-eqb, ne_eqb}
use lib.Dec.{leb, eqb}
use lib.ListN.{length}
use Rattle.refusal.specs.Refusal.{Answer, ◌>>=◌}
use Rattle.refusal.specs.declared.Refusal.{Refusal}
use Rattle.refusal.specs.declared.Refusal.TheVariants.{GapAfterSnapshot}
use Rattle.refusal.proofs.Results.{stop, pass, went, passed, answer_injective}
use Rattle.config.specs.declared.Config.{Config}
use Rattle.rows.specs.declared.Row.{Row}
use Rattle.meaning.specs.Log.{ReadFrame, too_little, wrong, found, frame_at, frames_of}
use Rattle.meaning.specs.Records.{row_kind}
use Rattle.meaning.specs.Replay.{Frame, Frames, State, Outcome, reached, stopped, Bounds, skip, play, onward, apply_all, replay_frame, step, run, replay}
use Rattle.meaning.proofs.FrameRead.{frame_bounds}
use Rattle.meaning.proofs.FramesAt.{frames_of_lem, frames_at_tail, frames_at_bad, frames_at_found}
use Rattle.store_log.specs.Told.{frame_found, frame_told}
use Rattle.store_log.specs.declared.Frame.{Frame as LogFrame}
use Rattle.replay.specs.Stands.{TableStands, Kept, AppliedAs}
use Rattle.replay.specs.declared.Table.{Table}
use Rattle.store_log.specs.Stored.{IsFrame}
use Rattle.recovery.specs.Run.{run_from, skipped_only, state_of, ReachedAs, Steps}
use Rattle.recovery.specs.declared.Reached.{Reached}
use Rattle.recovery.specs.declared.RefusedFrame.{RefusedFrame}

-- ---- what was told
-- a frame that was read behind one of the sequence `previous`, or behind none
pub record WasRead (c : Config) (log : List ℕ) (previous at : ℕ) (frame : LogFrame) : Type 0 where
  pub meant : Frame Row
  pub there : frame_at c log previous at ≡ found meant frame.next
  pub told : frame ≡ frame_found meant frame.next

module _ (c : Config) (log : List ℕ) (previous at : ℕ) where
  pub told_whole : (frame : LogFrame) → Ok (Some frame) ≡ frame_told (frame_at c log previous at) → WasRead c log previous at frame
  told_whole frame e = go (frame_at c log previous at) refl e
    where
      go : (x : ReadFrame) → frame_at c log previous at ≡ x → Ok (Some frame) ≡ frame_told x → WasRead c log previous at frame
      go too_little h g = absurd (let z : ◌≡◌ {A = ℕ} 0 1 = cc in omega arith)
      go (wrong why) h g = absurd (let z : ◌≡◌ {A = ℕ} 0 1 = cc in omega arith)
      go (found f next) h g =
          let same : frame ≡ frame_found f next = cc in
          let next_is : next ≡ frame.next = sym (ap (λ (x : LogFrame). x.next) same) in
          record { meant = f; there = h ∙ ap (found f) next_is; told = same ∙ ap (frame_found f) next_is }

  pub told_little : Ok None ≡ frame_told (frame_at c log previous at) → frame_at c log previous at ≡ too_little
  told_little e = go (frame_at c log previous at) e
    where
      go : (x : ReadFrame) → Ok None ≡ frame_told x → x ≡ too_little
      go too_little g = refl
      go (wrong why) g = absurd (let z : ◌≡◌ {A = ℕ} 0 1 = cc in omega arith)
      go (found f next) g = absurd (let z : ◌≡◌ {A = ℕ} 0 1 = cc in omega arith)

  pub told_wrong : (why : Refusal) → Err why ≡ frame_told (frame_at c log previous at) → frame_at c log previous at ≡ wrong why
  told_wrong why e = go (frame_at c log previous at) e
    where
      go : (x : ReadFrame) → Err why ≡ frame_told x → x ≡ wrong why
      go too_little g = absurd (let z : ◌≡◌ {A = ℕ} 0 1 = cc in omega arith)
      go (wrong w) g = let same : w ≡ why = cc in ap wrong same
      go (found f next) g = absurd (let z : ◌≡◌ {A = ℕ} 0 1 = cc in omega arith)

-- what holds of such a frame
pub record Found (log : List ℕ) (at : ℕ) (frame : LogFrame) (f : Frame Row) : Type 0 where
  pub far : at + 29 ≤ frame.next
  pub inside : frame.next ≤ length log
  pub positive : 0 < frame.sequence
  pub sequence_is : f.sequence ≡ frame.sequence
  pub starts : f.start ≡ frame.start
  pub start_is : frame.start ≡ at

pub found_facts : (c : Config) (log : List ℕ) (previous at : ℕ) (frame : LogFrame) (f : Frame Row)
    → frame_at c log previous at ≡ found f frame.next → frame ≡ frame_found f frame.next → Found log at frame f
found_facts c log previous at frame f there told =
    let b = frame_bounds c log previous at f frame.next there in
    let sequence_is : f.sequence ≡ frame.sequence = sym (ap (λ (x : LogFrame). x.sequence) told) in
    let starts : f.start ≡ frame.start = sym (ap (λ (x : LogFrame). x.start) told) in
    record {
      far = b.far;
      inside = b.inside;
      positive = subst (λ (n : ℕ). 0 < n) sequence_is b.positive;
      sequence_is = sequence_is;
      starts = starts;
      start_is = sym starts ∙ b.start_is;
    }

pub read_facts : (c : Config) (log : List ℕ) (previous at : ℕ) (frame : LogFrame) (r : WasRead c log previous at frame) → Found log at frame r.meant
read_facts c log previous at frame r = found_facts c log previous at frame r.meant r.there r.told

pub is_facts : (c : Config) (log : List ℕ) (frame : LogFrame) (f : Frame Row) → IsFrame c log frame f → Found log frame.start frame f
is_facts c log frame f i = found_facts c log i.previous frame.start frame f i.there i.told

pub read_is : (c : Config) (log : List ℕ) (previous at : ℕ) (frame : LogFrame) (r : WasRead c log previous at frame) → IsFrame c log frame r.meant
read_is c log previous at frame r =
    record {
      previous = previous;
      there = ap (frame_at c log previous) (read_facts c log previous at frame r).start_is ∙ r.there;
      told = r.told;
    }

-- ---- one frame
module _ (d : ℕ) (bounds : Bounds) (snapshot : ℕ) (f : Frame Row) (s : State Row) where
  abbrev stepped : Answer (State Row)
  stepped = step (row_kind d) bounds snapshot f s

  pub step_skips : f.sequence ≤ snapshot → stepped ≡ Ok (skip s)
  unfolding step
  step_skips h = ap (λ (b : Bool). cond b (Ok (skip s)) (replay_frame (row_kind d) bounds f s)) (le-leb _ _ h)

  step_replays : snapshot < f.sequence → stepped ≡ replay_frame (row_kind d) bounds f s
  unfolding step
  step_replays h = ap (λ (b : Bool). cond b (Ok (skip s)) (replay_frame (row_kind d) bounds f s)) (lt-leb _ _ h)

  pub step_gap : snapshot < f.sequence → 0 < f.sequence → (f.sequence - 1 ≡ s.sequence → ⊥) → stepped ≡ Err GapAfterSnapshot
  unfolding replay_frame
  step_gap h p apart =
      let test : eqb f.sequence (s.sequence + 1) ≡ false = ne_eqb _ _ (λ (e : f.sequence ≡ s.sequence + 1). apart (omega arith)) in
      step_replays h ∙ stop GapAfterSnapshot (not (eqb f.sequence (s.sequence + 1))) _ (ap not test)

  pub step_plays : snapshot < f.sequence → f.sequence - 1 ≡ s.sequence
      → stepped ≡ (apply_all (row_kind d) bounds f.shape f.operations s.records >>= λ records. Ok (play f s records))
  unfolding replay_frame
  step_plays h e =
      let next : f.sequence ≡ s.sequence + 1 = omega arith in
      let test : eqb f.sequence (s.sequence + 1) ≡ true = eq-eqb _ _ next in
      step_replays h ∙ pass GapAfterSnapshot (not (eqb f.sequence (s.sequence + 1))) _ (ap not test)

  -- each frame counts once
  pub step_counts : (t : State Row) → stepped ≡ Ok t → t.replayed + t.skipped ≡ s.replayed + s.skipped + 1
  unfolding step replay_frame
  step_counts t e = go (leb f.sequence snapshot) e
    where
      go : (b : Bool) → cond b (Ok (skip s)) (replay_frame (row_kind d) bounds f s) ≡ Ok t → t.replayed + t.skipped ≡ s.replayed + s.skipped + 1
      go true g =
          let same : skip s ≡ t = answer_injective (skip s) t g in
          let r : s.replayed ≡ t.replayed = ap (λ (x : State Row). x.replayed) same in
          let k : suc s.skipped ≡ t.skipped = ap (λ (x : State Row). x.skipped) same in
          omega arith
      go false g =
          let w = went GapAfterSnapshot (not (eqb f.sequence (s.sequence + 1))) _ t g in
          let p = passed (apply_all (row_kind d) bounds f.shape f.operations s.records) _ t w.then in
          let same : play f s p.value ≡ t = answer_injective (play f s p.value) t p.then in
          let r : suc s.replayed ≡ t.replayed = ap (λ (x : State Row). x.replayed) same in
          let k : s.skipped ≡ t.skipped = ap (λ (x : State Row). x.skipped) same in
          omega arith

-- ---- the run from a byte on
module _ (c : Config) (log : List ℕ) (bounds : Bounds) (snapshot previous at : ℕ) (s : State Row) where
  abbrev runs : Frames Row → Outcome Row
  runs x = run (row_kind c.dimensions) bounds snapshot x.frames x.ended s

  pub run_tail : frame_at c log previous at ≡ too_little → run_from c log bounds snapshot previous at s ≡ reached s at
  unfolding run
  run_tail e = ap runs (frames_at_tail c log previous at e)

  pub run_bad : (why : Refusal) → frame_at c log previous at ≡ wrong why → run_from c log bounds snapshot previous at s ≡ stopped why at
  unfolding run
  run_bad why e = ap runs (frames_at_bad c log previous at why e)

  pub run_found : (f : Frame Row) (next : ℕ) → frame_at c log previous at ≡ found f next
      → run_from c log bounds snapshot previous at s
      ≡ onward f.start (step (row_kind c.dimensions) bounds snapshot f s) (λ t. run_from c log bounds snapshot f.sequence next t)
  unfolding run
  run_found f next e = ap runs (frames_at_found c log previous at f next e)

-- a frame that the snapshot has
pub run_skips : (c : Config) (log : List ℕ) (bounds : Bounds) (snapshot previous at : ℕ) (rows : List Row) (k : ℕ) (frame : LogFrame)
    → WasRead c log previous at frame → frame.sequence ≤ snapshot
    → run_from c log bounds snapshot previous at (skipped_only snapshot rows k)
    ≡ run_from c log bounds snapshot frame.sequence frame.next (skipped_only snapshot rows (k + 1))
run_skips c log bounds snapshot previous at rows k frame r h =
    let f = r.meant in
    let facts = read_facts c log previous at frame r in
    let s = skipped_only snapshot rows k in
    let same : f.sequence ≡ frame.sequence = facts.sequence_is in
    let one : suc k ≡ k + 1 = omega arith in
    run_found c log bounds snapshot previous at s f frame.next r.there
    ∙ ap (λ x. onward f.start x (λ t. run_from c log bounds snapshot f.sequence frame.next t)) (step_skips c.dimensions bounds snapshot f s (omega arith))
    ∙ ap (λ (n : ℕ). run_from c log bounds snapshot f.sequence frame.next (skipped_only snapshot rows n)) one
    ∙ ap (λ (q : ℕ). run_from c log bounds snapshot q frame.next (skipped_only snapshot rows (k + 1))) same

-- the whole log is the run from its first byte
pub run_whole : (c : Config) (log : List ℕ) (bounds : Bounds) (snapshot : ℕ) (rows : List Row)
    → replay (row_kind c.dimensions) bounds snapshot rows (frames_of c log) ≡ run_from c log bounds snapshot 0 0 (skipped_only snapshot rows 0)
unfolding replay
run_whole c log bounds snapshot rows = ap (runs c log bounds snapshot 0 0 (skipped_only snapshot rows 0)) (frames_of_lem c log)

-- ---- what the loops keep
-- the whole log over any rows is the run from here over them, after the frames that were skipped
pub record Skipping (c : Config) (log : List ℕ) (snapshot previous at skipped : ℕ) : Type 0 where
  pub inside : at ≤ length log
  pub few : skipped ≤ at
  pub same : (bounds : Bounds) (rows : List Row)
      → replay (row_kind c.dimensions) bounds snapshot rows (frames_of c log) ≡ run_from c log bounds snapshot previous at (skipped_only snapshot rows skipped)

-- ---- what one frame leaves
module _ (c : Config) (log : List ℕ) (bounds : Bounds) (snapshot : ℕ) (frame : LogFrame) (r : Reached) (f : Frame Row) (rows : List Row) (i : IsFrame c log frame f) where
  abbrev LeavesBy : Answer (State Row) → Result Reached RefusedFrame → List ℕ → List ℕ → Type 0
  LeavesBy = Steps c.dimensions frame.next frame.start

  abbrev Leaves : Result Reached RefusedFrame → List ℕ → List ℕ → Type 0
  Leaves = LeavesBy (step (row_kind c.dimensions) bounds snapshot f (state_of r rows))

  abbrev skipped_here : Result Reached RefusedFrame
  skipped_here = Ok (record { table = r.table; sequence = r.sequence; replayed = r.replayed; skipped = r.skipped + 1; keep = frame.next })

  abbrev played_here : Table → Result Reached RefusedFrame
  played_here t = Ok (record { table = t; sequence = frame.sequence; replayed = r.replayed + 1; skipped = r.skipped; keep = frame.next })

  abbrev refused_here : Refusal → Result Reached RefusedFrame
  refused_here why = Err (record { 0 = why; 1 = frame.start })

  abbrev applied : Answer (List Row)
  applied = apply_all (row_kind c.dimensions) bounds f.shape f.operations rows

  same_sequence : f.sequence ≡ frame.sequence
  same_sequence = (is_facts c log frame f i).sequence_is

  pub leaves_skipped : (words entries : List ℕ) → frame.sequence ≤ snapshot → TableStands c.dimensions words entries r.table rows
      → Leaves skipped_here words entries
  leaves_skipped words entries h s =
      let same = same_sequence in
      let one : r.skipped + 1 ≡ suc r.skipped = omega arith in
      subst (λ x. LeavesBy x skipped_here words entries) (sym (step_skips c.dimensions bounds snapshot f (state_of r rows) (omega arith)))
      (record { stands = s; state_is = ap (λ (n : ℕ). record { records = rows; sequence = r.sequence; replayed = r.replayed; skipped = n }) one; keep_is = refl })

  pub leaves_gap : (words entries : List ℕ) → snapshot < frame.sequence → (frame.sequence - 1 ≡ r.sequence → ⊥)
      → Leaves (refused_here GapAfterSnapshot) words entries
  leaves_gap words entries h apart =
      let same = same_sequence in
      let positive = (is_facts c log frame f i).positive in
      subst (λ x. LeavesBy x (refused_here GapAfterSnapshot) words entries)
      (sym (step_gap c.dimensions bounds snapshot f (state_of r rows) (omega arith) (omega arith) (λ (e : f.sequence - 1 ≡ r.sequence). apart (omega arith))))
      (refl, refl)

  module _ (h : snapshot < frame.sequence) (next : frame.sequence - 1 ≡ r.sequence) where
    plays : step (row_kind c.dimensions) bounds snapshot f (state_of r rows) ≡ (applied >>= λ records. Ok (play f (state_of r rows) records))
    plays = let same = same_sequence in step_plays c.dimensions bounds snapshot f (state_of r rows) (omega arith) (omega arith)

    pub leaves_played : (x : Answer Table) (t : Table) (words entries : List ℕ) → x ≡ Ok t → AppliedAs c.dimensions applied x words entries
        → Leaves (played_here t) words entries
    leaves_played x t words entries e s =
        subst (λ y. LeavesBy y (played_here t) words entries) (sym plays) (go applied (subst (λ y. AppliedAs c.dimensions applied y words entries) e s))
      where
        go : (y : Answer (List Row)) → AppliedAs c.dimensions y (Ok t) words entries
            → LeavesBy (y >>= λ records. Ok (play f (state_of r rows) records)) (played_here t) words entries
        go (Ok records) s =
            let same = same_sequence in
            let one : r.replayed + 1 ≡ suc r.replayed = omega arith in
            record {
              stands = s;
              state_is =
                  ap (λ (q : ℕ). record { records = records; sequence = q; replayed = r.replayed + 1; skipped = r.skipped }) (sym same)
                  ∙ ap (λ (n : ℕ). record { records = records; sequence = f.sequence; replayed = n; skipped = r.skipped }) one;
              keep_is = refl;
            }
        go (Err why) s = s

    pub leaves_refused : (x : Answer Table) (why : Refusal) (words entries : List ℕ) → x ≡ Err why → AppliedAs c.dimensions applied x words entries
        → Leaves (refused_here why) words entries
    leaves_refused x why words entries e s =
        subst (λ y. LeavesBy y (refused_here why) words entries) (sym plays) (go applied (subst (λ y. AppliedAs c.dimensions applied y words entries) e s))
      where
        go : (y : Answer (List Row)) → AppliedAs c.dimensions y (Err why) words entries
            → LeavesBy (y >>= λ records. Ok (play f (state_of r rows) records)) (refused_here why) words entries
        go (Ok records) s = s
        go (Err w) s = (s, refl)

-- ---- the frames that are replayed
-- rows that stood at the beginning have come to rows that stand now, and the run from there is the run from here
pub record On (c : Config) (log : List ℕ) (bounds : Bounds) (snapshot : ℕ) (r₀ : Reached) (previous₀ : ℕ) (rows₀ : List Row)
    (words entries : List ℕ) (r : Reached) (previous : ℕ) : Type 0 where
  pub rows : List Row
  pub stands : TableStands c.dimensions words entries r.table rows
  pub same : run_from c log bounds snapshot previous₀ r₀.keep (state_of r₀ rows₀) ≡ run_from c log bounds snapshot previous r.keep (state_of r rows)

-- where the loop stands, and that for all rows
pub record Going (c : Config) (log : List ℕ) (bounds : Bounds) (snapshot : ℕ) (words₀ entries₀ : List ℕ) (r₀ : Reached) (previous₀ : ℕ)
    (words entries : List ℕ) (r : Reached) (previous : ℕ) : Type 0 where
  pub inside : r.keep ≤ length log
  pub few : r.replayed + r.skipped ≤ r.keep
  pub words_kept : length words ≡ length words₀
  pub entries_kept : length entries ≡ length entries₀
  pub kept : Kept c.dimensions words entries r.table
  pub on : (rows₀ : List Row) → TableStands c.dimensions words₀ entries₀ r₀.table rows₀ → On c log bounds snapshot r₀ previous₀ rows₀ words entries r previous

-- the rows that one frame leaves, by the rows before
pub record Stepped (d : ℕ) (words entries : List ℕ) (x : Answer (State Row)) (next : ℕ) (r : Reached) : Type 0 where
  pub state : State Row
  pub is : x ≡ Ok state
  pub comes : ReachedAs d words entries state next r

pub stepped_as : (d next start : ℕ) (x : Answer (State Row)) (y : Result Reached RefusedFrame) (r : Reached) (words entries : List ℕ)
    → y ≡ Ok r → Steps d next start x y words entries → Stepped d words entries x next r
stepped_as d next start x y r words entries e h = go x (subst (λ z. Steps d next start x z words entries) e h)
  where
    go : (x : Answer (State Row)) → Steps d next start x (Ok r) words entries → Stepped d words entries x next r
    go (Ok s) h = record { state = s; is = refl; comes = h }
    go (Err why) h = absurd h

-- or its refusal
pub record Stopped (x : Answer (State Row)) (start : ℕ) (why : Refusal) (at : ℕ) : Type 0 where
  pub is : x ≡ Err why
  pub start_is : at ≡ start

pub stopped_as : (d next start : ℕ) (x : Answer (State Row)) (y : Result Reached RefusedFrame) (why : Refusal) (at : ℕ) (words entries : List ℕ)
    → y ≡ Err (record { 0 = why; 1 = at }) → Steps d next start x y words entries → Stopped x start why at
stopped_as d next start x y why at words entries e h = go x (subst (λ z. Steps d next start x z words entries) e h)
  where
    go : (x : Answer (State Row)) → Steps d next start x (Err (record { 0 = why; 1 = at })) words entries → Stopped x start why at
    go (Ok s) h = absurd h
    go (Err w) h = record { is = ap Err (sym h.0); start_is = h.1 }

module _ (c : Config) (log : List ℕ) (bounds : Bounds) (snapshot previous : ℕ) (r : Reached) (frame : LogFrame) (rows : List Row)
    (read : WasRead c log previous r.keep frame) where
  abbrev steps : Answer (State Row)
  steps = step (row_kind c.dimensions) bounds snapshot read.meant (state_of r rows)

  facts : Found log r.keep frame read.meant
  facts = read_facts c log previous r.keep frame read

  -- the run from here is the run from behind the frame
  pub run_goes : (words entries : List ℕ) (next : Reached) (s : Stepped c.dimensions words entries steps frame.next next)
      → run_from c log bounds snapshot previous r.keep (state_of r rows)
      ≡ run_from c log bounds snapshot frame.sequence next.keep (state_of next s.state.records)
  run_goes words entries next s =
      let f = read.meant in
      run_found c log bounds snapshot previous r.keep (state_of r rows) f frame.next read.there
      ∙ ap (λ x. onward f.start x (λ t. run_from c log bounds snapshot f.sequence frame.next t)) s.is
      ∙ ap (λ (q : ℕ). run_from c log bounds snapshot q frame.next s.state) facts.sequence_is
      ∙ ap (λ (k : ℕ). run_from c log bounds snapshot frame.sequence k s.state) (sym s.comes.keep_is)
      ∙ ap (λ t. run_from c log bounds snapshot frame.sequence next.keep t) (sym s.comes.state_is)

  -- or it stops at the frame
  pub run_stops : (why : Refusal) (at : ℕ) → Stopped steps frame.start why at
      → run_from c log bounds snapshot previous r.keep (state_of r rows) ≡ stopped why at
  run_stops why at s =
      let f = read.meant in
      run_found c log bounds snapshot previous r.keep (state_of r rows) f frame.next read.there
      ∙ ap (λ x. onward f.start x (λ t. run_from c log bounds snapshot f.sequence frame.next t)) s.is
      ∙ ap (stopped why) (facts.starts ∙ sym s.start_is)

  pub step_few : (words entries : List ℕ) (next : Reached) → Stepped c.dimensions words entries steps frame.next next
      → next.replayed + next.skipped ≡ r.replayed + r.skipped + 1
  step_few words entries next s =
      let a : next.replayed ≡ s.state.replayed = ap (λ (x : State Row). x.replayed) s.comes.state_is in
      let b : next.skipped ≡ s.state.skipped = ap (λ (x : State Row). x.skipped) s.comes.state_is in
      let e = step_counts c.dimensions bounds snapshot read.meant (state_of r rows) s.state s.is in
      omega arith
