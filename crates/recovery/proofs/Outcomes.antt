-- What recovery comes to: where a log's tail begins, what frames reached or why they were refused, and the tables that a refusal leaves.
use Rattle.std.specs.Prelude.{Ok, Err, Result}
use Prim.Native.Nat.{ℕ, ◌-◌, ◌≤◌}
use mathlib.Core.Path.{◌≡◌, refl, sym, ap, ap₂, subst, ◌∙◌}
use mathlib.Core.List.{List, [], ◌∷◌}
use lib.ListN.{length, replicate}
use Rattle.config.specs.declared.Config.{Config}
use Rattle.rows.specs.declared.Row.{Row}
use Rattle.refusal.specs.Refusal.{Answer}
use Rattle.refusal.specs.declared.Refusal.{Refusal}
use Rattle.sorting.specs.Sorting.{sorted_nodes}
use Rattle.snapshot.specs.declared.SnapshotInfo.{SnapshotInfo}
use Rattle.snapshot.proofs.Outcome.{no_words}
use Rattle.meaning.specs.Calls.{recover_tables}
use Rattle.meaning.specs.Records.{row_kind}
use Rattle.meaning.specs.Recovery as Meant
use Rattle.meaning.specs.Log.{frames_at}
use Rattle.meaning.specs.Replay.{Kind, Frame, End, tail, bad, State, Outcome, reached, stopped, Bounds, step, run, onward}
use Rattle.meaning.specs.Tables.{Tables, row_words, live_from}
use Rattle.meaning.proofs.FramesAt.{tail_bounds}
use Rattle.recovery.specs.Told.{recovery_answer, Recovery}
use Rattle.recovery.specs.Run.{run_from, skipped_only, Reaches, ReachedAs, Left, ends_in, RecoversAs}
use Rattle.recovery.specs.declared.NotRecovered.TheVariants as Refusals
use Rattle.recovery.specs.declared.Reached.{Reached}
use Rattle.recovery.specs.declared.RefusedFrame.{RefusedFrame}

-- ---- a log that was replayed to its end ends in a tail
abbrev IsReached : {A : Type 0} → Outcome A → Type 0
IsReached (reached s keep) = Unit {0}
IsReached (stopped why at) = ⊥

abbrev keep_of : {A : Type 0} → Outcome A → ℕ
keep_of (reached s keep) = keep
keep_of (stopped why at) = at

module _ {A : Type 0} (K : Kind A) (bounds : Bounds) (snapshot : ℕ) where
  run_tail : (fs : List (Frame A)) (end : End) (s s' : State A) (keep : ℕ) → run K bounds snapshot fs end s ≡ reached s' keep → end ≡ tail keep
  unfolding run
  run_tail [] (tail at) s s' keep e = ap tail (ap keep_of e)
  run_tail [] (bad why at) s s' keep e = absurd (subst IsReached (sym e) tt)
  run_tail (f ∷ fs) end s s' keep e = go (λ s1. run_tail fs end s1 s' keep) (step K bounds snapshot f s) e
    where
      go : ((s1 : State A) → run K bounds snapshot fs end s1 ≡ reached s' keep → end ≡ tail keep)
          → (x : Answer (State A)) → onward f.start x (run K bounds snapshot fs end) ≡ reached s' keep → end ≡ tail keep
      go again (Ok s1) e = again s1 e
      go again (Err why) e = absurd (subst IsReached (sym e) tt)

-- the tail begins inside the log or at its end
pub keep_inside : (c : Config) (log : List ℕ) (bounds : Bounds) (snapshot previous at : ℕ) (s s' : State Row) (keep : ℕ) → at ≤ length log
    → run_from c log bounds snapshot previous at s ≡ reached s' keep → keep ≤ length log
keep_inside c log bounds snapshot previous at s s' keep h e =
    (tail_bounds c log previous at keep h
    (run_tail (row_kind c.dimensions) bounds snapshot (frames_at c log previous at).frames (frames_at c log previous at).ended s s' keep e)).1

-- ---- what the frames left, from the answer
pub record WasReached (d : ℕ) (words entries : List ℕ) (o : Outcome Row) (x : Reached) : Type 0 where
  pub state : State Row
  pub keep : ℕ
  pub is : o ≡ reached state keep
  pub there : ReachedAs d words entries state keep x

pub was_reached : (d : ℕ) (o : Outcome Row) (r : Result Reached RefusedFrame) (x : Reached) (words entries : List ℕ) → Reaches d o r words entries → r ≡ Ok x
    → WasReached d words entries o x
was_reached d (reached s k) r x words entries h e =
    record { state = s; keep = k; is = refl; there = subst (λ (y : Result Reached RefusedFrame). Reaches d (reached s k) y words entries) e h }
was_reached d (stopped why at) r x words entries h e = absurd (subst (λ (y : Result Reached RefusedFrame). Reaches d (stopped why at) y words entries) e h)

pub was_stopped : (d : ℕ) (o : Outcome Row) (r : Result Reached RefusedFrame) (why : Refusal) (at : ℕ) (words entries : List ℕ) → Reaches d o r words entries → r ≡ Err (record { 0 = why; 1 = at })
    → o ≡ stopped why at
was_stopped d (reached s k) r why at words entries h e = absurd (subst (λ (y : Result Reached RefusedFrame). Reaches d (reached s k) y words entries) e h)
was_stopped d (stopped w k) r why at words entries h e =
    let p = subst (λ (y : Result Reached RefusedFrame). Reaches d (stopped w k) y words entries) e h in ap₂ stopped (sym p.0) (sym p.1)

-- ---- the tables that are left are those of any lent tables as long
tables_same : (words entries words' entries' : List ℕ) → length words' ≡ length words → length entries' ≡ length entries
    → (x : Meant.Recovery) → recover_tables words' entries' x ≡ recover_tables words entries x
tables_same words entries words' entries' a b (Meant.recovered r) = rw (a, b) refl
tables_same words entries words' entries' a b (Meant.refused_snapshot why) = rw (a, b) refl
tables_same words entries words' entries' a b (Meant.refused_log why at) = rw (a, b) refl

pub recovers_for : (log words entries words' entries' : List ℕ) → length words' ≡ length words → length entries' ≡ length entries
    → (x y : Meant.Recovery) → x ≡ y → (r : Recovery) (words'' entries'' : List ℕ) → RecoversAs log words' entries' x r words'' entries'' → RecoversAs log words entries y r words'' entries''
recovers_for log words entries words' entries' a b x y e r words'' entries'' k =
    let t : recover_tables words' entries' x ≡ recover_tables words entries y = tables_same words entries words' entries' a b x ∙ ap (recover_tables words entries) e in
    record {
      told = k.told ∙ ap (recovery_answer log) e;
      rows_left = k.rows_left ∙ ap (λ (t : Tables). t.rows) t;
      active_left = k.active_left ∙ ap (λ (t : Tables). t.active) t;
    }

-- ---- a refusal leaves zeros
pub refused_recovers : (log words entries : List ℕ) (x : Meant.Recovery) (why : Refusal) (at : ℕ) → x ≡ Meant.refused_log why at
    → (words' entries' : List ℕ) → words' ≡ replicate (length words) 0 → entries' ≡ replicate (length entries) 0
    → RecoversAs log words entries x (Err (Refusals.Log why at)) words' entries'
unfolding row_words live_from sorted_nodes
refused_recovers log words entries x why at e words' entries' a b =
    record {
      told = sym (ap (recovery_answer log) e);
      rows_left = a ∙ no_words (length words) ∙ sym (ap (λ (x : Meant.Recovery). (recover_tables words entries x).rows) e);
      active_left = b ∙ no_words (length entries) ∙ sym (ap (λ (x : Meant.Recovery). (recover_tables words entries x).active) e);
    }

-- ---- no frame follows: the tables stay
pub tail_recovers : (info : SnapshotInfo) (log words entries : List ℕ) (rows : List Row) (x : Meant.Recovery) (keep skipped : ℕ) → Left info words entries rows
    → x ≡ ends_in info (skipped_only info.sequence rows skipped) keep
    → RecoversAs log words entries x
    (Ok
    (record {
      config = info.config;
      crc = info.crc;
      sequence = info.sequence;
      records = info.records;
      active = info.active;
      replayed = 0;
      skipped = skipped;
      keep = keep;
      tail = length log - keep;
      size = info.size;
    }))
    words entries
tail_recovers info log words entries rows x keep skipped l e =
    record {
      told = rw (e, l.counted, l.live, l.sized) refl;
      rows_left = l.rows_are ∙ sym (ap (λ (x : Meant.Recovery). (recover_tables words entries x).rows) e);
      active_left = l.active_are ∙ sym (ap (λ (x : Meant.Recovery). (recover_tables words entries x).active) e);
    }
