-- `replay_frames` reaches what the run of its frames reaches: the run from the beginning is the run from where the loop stands.
use Prim.Native.Nat.{ℕ, ◌+◌, ◌*◌, ◌≤◌, ◌<◌}
use mathlib.Core.Path.{◌≡◌, refl, sym, subst, ◌∙◌}
use mathlib.Core.List.{List}
use lib.ListN.{length}
use native.Mathlib.Omega.{arith}
use borrow.Author.Rules.{rules}
use Rattle.config.specs.declared.Config.{Config}
use Rattle.rows.specs.declared.Row.{Row}
use Rattle.meaning.specs.Log.{frame_at, too_little}
use Rattle.meaning.specs.Records.{row_kind}
use Rattle.meaning.specs.Recovery.{bounds_for}
use Rattle.meaning.specs.Replay.{Bounds, step}
use Rattle.meaning.proofs.FrameRead.{frame_too_little}
use Rattle.replay.specs.Stands.{TableStands}
use Rattle.refusal.proofs.Inverses.{handed_on}
use Rattle.recovery.specs.Run.{run_from, skipped_only, state_of, Reaches}
use Rattle.recovery.specs.declared.Reached.{Reached}
use Rattle.std.specs.Prelude.{Ok, Err}
use Rattle.recovery.proofs.RunLaws.{told_whole, told_little, told_wrong, read_facts, read_is, run_tail, run_bad, Going, stepped_as, stopped_as, run_goes, run_stops, step_few}
use Rattle.recovery.proofs.replay_frames.Goals as goal

-- a tail, over the rows that stand
ends : (c : Config) (log : List ℕ) (bounds : Bounds) (snapshot : ℕ) (words₀ entries₀ : List ℕ) (r₀ : Reached) (previous₀ : ℕ) (words entries : List ℕ) (r : Reached) (previous : ℕ)
    → Going c log bounds snapshot words₀ entries₀ r₀ previous₀ words entries r previous → frame_at c log previous r.keep ≡ too_little
    → (rows : List Row) → TableStands c.dimensions words₀ entries₀ r₀.table rows
    → Reaches c.dimensions (run_from c log bounds snapshot previous₀ r₀.keep (state_of r₀ rows)) (Ok r) words entries
ends c log bounds snapshot words₀ entries₀ r₀ previous₀ words entries r previous i e rows s =
    let o = i.on rows s in
    subst (λ x. Reaches c.dimensions x (Ok r) words entries)
    (sym (o.same ∙ run_tail c log bounds snapshot previous r.keep (state_of r o.rows) e))
    (record { stands = o.stands; state_is = refl; keep_is = refl })

pub loop-reached-init : goal.loop-reached-init
loop-reached-init c =
    let p = c.requires in
    let few = p.skipped_le_at in
    record {
      inside = p.at_in_bounds;
      few = omega arith;
      words_kept = refl;
      entries_kept = refl;
      kept = p.kept;
      on = λ rows s. record { rows = rows; stands = s; same = refl };
    }

pub overflow_add-reached : goal.overflow_add-reached
overflow_add-reached c = let inside = c.loop-reached.invariant.inside in search rules

pub read_frame-requires : goal.read_frame-requires
read_frame-requires c = let p = c.requires in
    record {
      rows = p.rows;
      dimensions_le_max_dimensions = p.dimensions_le_max_dimensions;
      at_in_bounds = c.loop-reached.invariant.inside;
    }

pub shape_of-words-in-Ok-None : goal.shape_of-words-in-Ok-None
shape_of-words-in-Ok-None c = c.loop-reached.invariant.words_kept

pub shape_of-entries-in-Ok-None : goal.shape_of-entries-in-Ok-None
shape_of-entries-in-Ok-None c = c.loop-reached.invariant.entries_kept

pub returns-in-Ok-None : goal.returns-in-Ok-None
returns-in-Ok-None c =
    let a = c.args in
    let l = c.loop-reached in
    ends a.config a.log.now (bounds_for a.lent) a.snapshot _ _ _ _ l.words l.entries l.reached l.previous l.invariant
    (told_little a.config a.log.now l.previous l.reached.keep (rw c.in-Ok-None.field-0-is at (sym c.in-Ok-None.is ∙ c.read_frame.ensures)))

pub step-requires : goal.step-requires
step-requires c =
    let p = c.requires in
    let a = c.args in
    let l = c.loop-reached in
    let frame = c.in-Ok-Some.frame in
    let r = told_whole a.config a.log.now l.previous l.reached.keep c.in-Ok-Some.frame (rw c.in-Ok-Some.field-0-is at (sym c.in-Ok-Some.is ∙ c.read_frame.ensures)) in
    let start = (read_facts a.config a.log.now l.previous l.reached.keep frame r).start_is in
    let few = l.invariant.few in
    let words_room : 2 * a.lent ≤ length l.words = let w = l.invariant.words_kept in let h = p.lent_in_bounds in omega arith in
    let entries_room : a.lent ≤ length l.entries = let w = l.invariant.entries_kept in let h = p.lent_in_bounds_2 in omega arith in
    let i = read_is a.config a.log.now l.previous l.reached.keep frame r in
    record {
      dimensions_le_max_dimensions = p.dimensions_le_max_dimensions;
      log_len_bound = p.log_len_bound;
      lent_in_bounds = words_room;
      lent_in_bounds_2 = entries_room;
      frame_there = record { meant = r.meant; is = i };
      skipped_bound = omega arith;
      kept = l.invariant.kept;
    }

pub loop-reached-smaller : goal.loop-reached-smaller
loop-reached-smaller c =
    let a = c.args in
    let l = c.loop-reached in
    let frame = c.in-Ok-Some.frame in
    let next = c.in_ok-reached-in-Ok-Some.reached in
    let d = a.config.dimensions in
    let r = told_whole a.config a.log.now l.previous l.reached.keep frame (rw c.in-Ok-Some.field-0-is at (sym c.in-Ok-Some.is ∙ c.read_frame.ensures)) in
    let i = read_is a.config a.log.now l.previous l.reached.keep frame r in
    let facts = read_facts a.config a.log.now l.previous l.reached.keep frame r in
    let far = facts.far in
    let inside = facts.inside in
    let k = l.invariant.kept in
    let w = stepped_as d frame.next frame.start (step (row_kind d) (bounds_for a.lent) a.snapshot r.meant (state_of l.reached k.rows)) c.step.result next c.step.new.words c.step.new.entries c.in_ok-reached-in-Ok-Some.was (c.step.ensures r.meant k.rows i k.stands) in
    let keep = w.comes.keep_is in
    omega arith

pub loop-reached-preserved : goal.loop-reached-preserved
loop-reached-preserved c =
    let a = c.args in
    let l = c.loop-reached in
    let frame = c.in-Ok-Some.frame in
    let next = c.in_ok-reached-in-Ok-Some.reached in
    let d = a.config.dimensions in
    let r = told_whole a.config a.log.now l.previous l.reached.keep frame (rw c.in-Ok-Some.field-0-is at (sym c.in-Ok-Some.is ∙ c.read_frame.ensures)) in
    let i = read_is a.config a.log.now l.previous l.reached.keep frame r in
    let facts = read_facts a.config a.log.now l.previous l.reached.keep frame r in
    let far = facts.far in
    let within = facts.inside in
    let k = l.invariant.kept in
    let w = stepped_as d frame.next frame.start (step (row_kind d) (bounds_for a.lent) a.snapshot r.meant (state_of l.reached k.rows)) c.step.result next c.step.new.words c.step.new.entries c.in_ok-reached-in-Ok-Some.was (c.step.ensures r.meant k.rows i k.stands) in
    let keep = w.comes.keep_is in
    let before = l.invariant.few in
    let counts = step_few a.config a.log.now (bounds_for a.lent) a.snapshot l.previous l.reached frame l.invariant.kept.rows r _ _ next w in
    record {
      inside = omega arith;
      few = omega arith;
      words_kept = c.step.auto.words ∙ l.invariant.words_kept;
      entries_kept = c.step.auto.entries ∙ l.invariant.entries_kept;
      kept = record { rows = w.state.records; stands = w.comes.stands };
      on = λ rows₀ s₀.
          let o = l.invariant.on rows₀ s₀ in
          let x = stepped_as d frame.next frame.start (step (row_kind d) (bounds_for a.lent) a.snapshot r.meant (state_of l.reached o.rows)) c.step.result next c.step.new.words c.step.new.entries c.in_ok-reached-in-Ok-Some.was (c.step.ensures r.meant o.rows i o.stands) in
          record {
            rows = x.state.records;
            stands = x.comes.stands;
            same = o.same ∙ run_goes a.config a.log.now (bounds_for a.lent) a.snapshot l.previous l.reached frame o.rows r _ _ next x;
          };
    }

pub returns-in_err-reached-in-Ok-Some : goal.returns-in_err-reached-in-Ok-Some
returns-in_err-reached-in-Ok-Some c =
    let a = c.args in
    let l = c.loop-reached in
    let frame = c.in-Ok-Some.frame in
    let d = a.config.dimensions in
    let r = told_whole a.config a.log.now l.previous l.reached.keep c.in-Ok-Some.frame (rw c.in-Ok-Some.field-0-is at (sym c.in-Ok-Some.is ∙ c.read_frame.ensures)) in
    let i = read_is a.config a.log.now l.previous l.reached.keep frame r in
    let words = c.step.new.words in
    let entries = c.step.new.entries in
    let why = c.in_err-reached-in-Ok-Some.field-0.0.0 in
    let at = c.in_err-reached-in-Ok-Some.field-0.0.1 in
    λ rows s.
    let o = l.invariant.on rows s in
    let x = step (row_kind d) (bounds_for a.lent) a.snapshot r.meant (state_of l.reached o.rows) in
    let stops = stopped_as d frame.next frame.start x c.step.result why at words entries c.in_err-reached-in-Ok-Some.was (c.step.ensures r.meant o.rows i o.stands) in
    subst (λ y. Reaches d (run_from a.config a.log.now (bounds_for a.lent) a.snapshot a.place.previous a.place.at (skipped_only a.snapshot rows a.place.skipped)) y words entries)
    (sym (handed_on _ _ c.from_residual.ensures))
    (subst (λ y. Reaches d y (Err (record { 0 = why; 1 = at })) words entries)
    (sym (o.same ∙ run_stops a.config a.log.now (bounds_for a.lent) a.snapshot l.previous l.reached frame o.rows r why at stops))
    (refl, refl))

pub shape_of-words-in-Err : goal.shape_of-words-in-Err
shape_of-words-in-Err c = c.loop-reached.invariant.words_kept

pub shape_of-entries-in-Err : goal.shape_of-entries-in-Err
shape_of-entries-in-Err c = c.loop-reached.invariant.entries_kept

pub returns-in-Err : goal.returns-in-Err
returns-in-Err c =
    let a = c.args in
    let l = c.loop-reached in
    let why = c.in-Err.why in
    let e = told_wrong a.config a.log.now l.previous l.reached.keep why (sym c.in-Err.is ∙ c.read_frame.ensures) in
    λ rows s.
    let o = l.invariant.on rows s in
    subst (λ x. Reaches a.config.dimensions x (Err (record { 0 = why; 1 = l.reached.keep })) l.words l.entries)
    (sym (o.same ∙ run_bad a.config a.log.now (bounds_for a.lent) a.snapshot l.previous l.reached.keep (state_of l.reached o.rows) why e))
    (refl, refl)

pub shape_of-words : goal.shape_of-words
shape_of-words c = c.loop-reached.invariant.words_kept

pub shape_of-entries : goal.shape_of-entries
shape_of-entries c = c.loop-reached.invariant.entries_kept

pub returns : goal.returns
returns c =
    let a = c.args in
    let l = c.loop-reached in
    let short : length a.log.now < l.reached.keep + 8 = c.loop-reached-test.false in
    ends a.config a.log.now (bounds_for a.lent) a.snapshot _ _ _ _ l.words l.entries l.reached l.previous l.invariant
    (frame_too_little a.config a.log.now l.previous l.reached.keep short)
