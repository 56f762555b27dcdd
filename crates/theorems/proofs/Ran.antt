-- What it takes for a run over frames to reach a state: each frame in order was skipped or replayed. Every other law goes by this.
use Rattle.std.specs.Prelude.{Ok, Err}
use Prim.Native.Nat.{ℕ, suc, ◌+◌, ◌≤◌, ◌<◌}
use mathlib.Core.Bool.{Bool, true, false, not, cond}
use mathlib.Core.List.{List, [], ◌∷◌, ◌++◌}
use mathlib.Core.Path.{◌≡◌, refl, sym, ap, subst, ◌∙◌}
use native.Mathlib.Omega.{arith}
use lib.ListN.{length}
use lib.Dec.{leb, eqb}
use borrow.Author.Tests.{leb-true, leb-false, eqb-true, not-false}
use Rattle.refusal.specs.Refusal.{Answer}
use Rattle.refusal.specs.declared.Refusal.{Refusal}
use Rattle.refusal.specs.declared.Refusal.TheVariants.{GapAfterSnapshot}
use Rattle.meaning.specs.Replay.{Kind, Frame, End, tail, State, Outcome, reached, stopped, Bounds, apply_all, skip, play, replay_frame, step, run, onward}
use Rattle.refusal.proofs.Results.{answer_injective, passed, went}
use Rattle.theorems.specs.Cut.{Ran}

abbrev IsReached : {A : Type 0} → Outcome A → Type 0
IsReached (reached s at) = Unit {0}
IsReached (stopped why at) = ⊥

pub reached_inj : {A : Type 0} {s t : State A} {at to : ℕ} → reached s at ≡ reached t to → s ≡ t
reached_inj e = cc

pub reached_at : {A : Type 0} {s t : State A} {at to : ℕ} → reached s at ≡ reached t to → at ≡ to
reached_at e = cc

pub stopped≢reached : {A : Type 0} {s : State A} {why : Refusal} {at to : ℕ} → stopped why at ≡ reached s to → ⊥
stopped≢reached e = subst IsReached (sym e) tt

-- what one frame did
pub data Did {A : Type 0} (K : Kind A) (L : Bounds) (q : ℕ) (f : Frame A) (s t : State A) : Type 0 where
  skips : f.sequence ≤ q → t ≡ skip s → Did K L q f s t
  plays : (rs : List A) → q < f.sequence → f.sequence ≡ s.sequence + 1 → apply_all K L f.shape f.operations s.records ≡ Ok rs
      → t ≡ play f s rs → Did K L q f s t

module _ {A : Type 0} (K : Kind A) (L : Bounds) (q : ℕ) where
  pub did : (f : Frame A) (s t : State A) → step K L q f s ≡ Ok t → Did K L q f s t
  unfolding step replay_frame
  did f s t e = go (leb f.sequence q) refl e
    where
      go : (x : Bool) → leb f.sequence q ≡ x → cond x (Ok (skip s)) (replay_frame K L f s) ≡ Ok t → Did K L q f s t
      go true h d = skips (leb-true _ _ h) (sym (answer_injective (skip s) t d))
      go false h d =
          let s1 = went GapAfterSnapshot (not (eqb f.sequence (s.sequence + 1))) _ t d in
          let s2 = passed (apply_all K L f.shape f.operations s.records) _ t s1.then in
          let rs = s2.value in
          plays rs (leb-false _ _ h) (eqb-true _ _ (not-false _ s1.test_false)) s2.first (sym (answer_injective (play f s rs) t s2.then))

  pub ran : (fs : List (Frame A)) (s t : State A) (k to : ℕ) → run K L q fs (tail k) s ≡ reached t to → Ran K L q fs s t
  unfolding run
  ran [] s t k to e = reached_inj e
  ran (f ∷ fs) s t k to e = go (step K L q f s) refl e (λ m. ran fs m t k to)
    where
      go : (x : Answer (State A)) → step K L q f s ≡ x → onward f.start x (run K L q fs (tail k)) ≡ reached t to
          → ((m : State A) → run K L q fs (tail k) m ≡ reached t to → Ran K L q fs m t) → Ran K L q (f ∷ fs) s t
      go (Ok m) h d rest = (m, h, rest m d)
      go (Err why) h d rest = absurd (stopped≢reached d)

  pub ran_at : (fs : List (Frame A)) (s t : State A) (k to : ℕ) → run K L q fs (tail k) s ≡ reached t to → k ≡ to
  unfolding run
  ran_at [] s t k to e = reached_at e
  ran_at (f ∷ fs) s t k to e = go (step K L q f s) e (λ m. ran_at fs m t k to)
    where
      go : (x : Answer (State A)) → onward f.start x (run K L q fs (tail k)) ≡ reached t to
          → ((m : State A) → run K L q fs (tail k) m ≡ reached t to → k ≡ to) → k ≡ to
      go (Ok m) d rest = rest m d
      go (Err why) d rest = absurd (stopped≢reached d)

  -- frames that were run go on into any others
  pub ran_on : (fs gs : List (Frame A)) (e : End) (s t : State A) → Ran K L q fs s t → run K L q (fs ++ gs) e s ≡ run K L q gs e t
  unfolding run
  ran_on [] gs e s t r = ap (run K L q gs e) r
  ran_on (f ∷ fs) gs e s t r = ap (λ (x : Answer (State A)). onward f.start x (run K L q (fs ++ gs) e)) r.1 ∙ ran_on fs gs e r.0 t r.2

  pub ran_reaches : (fs : List (Frame A)) (k : ℕ) (s t : State A) → Ran K L q fs s t → run K L q fs (tail k) s ≡ reached t k
  unfolding run
  ran_reaches [] k s t r = ap (λ (x : State A). reached x k) r
  ran_reaches (f ∷ fs) k s t r = ap (λ (x : Answer (State A)). onward f.start x (run K L q fs (tail k))) r.1 ∙ ran_reaches fs k r.0 t r.2

  -- a refusal among the first frames stands, whatever follows them
  pub run_stopped : (fs gs : List (Frame A)) (e : End) (k : ℕ) (s : State A) (why : Refusal) (at : ℕ)
      → run K L q fs (tail k) s ≡ stopped why at → run K L q (fs ++ gs) e s ≡ stopped why at
  unfolding run
  run_stopped [] gs e k s why at h = absurd (stopped≢reached (sym h))
  run_stopped (f ∷ fs) gs e k s why at h = go (step K L q f s) h (λ t. run_stopped fs gs e k t why at)
    where
      go : (x : Answer (State A)) → onward f.start x (run K L q fs (tail k)) ≡ stopped why at
          → ((t : State A) → run K L q fs (tail k) t ≡ stopped why at → run K L q (fs ++ gs) e t ≡ stopped why at)
          → onward f.start x (run K L q (fs ++ gs) e) ≡ stopped why at
      go (Ok t) h rest = rest t h
      go (Err why') h rest = h

  -- every frame is counted once, as replayed or as skipped
  pub ran_count : (fs : List (Frame A)) (s t : State A) → Ran K L q fs s t → t.replayed + t.skipped ≡ length fs + (s.replayed + s.skipped)
  ran_count [] s t r =
      let a : s.replayed ≡ t.replayed = ap (λ (x : State A). x.replayed) r in
      let b : s.skipped ≡ t.skipped = ap (λ (x : State A). x.skipped) r in
      omega arith
  ran_count (f ∷ fs) s t r = go (did f s r.0 r.1) (ran_count fs r.0 t r.2)
    where
      go : Did K L q f s r.0 → t.replayed + t.skipped ≡ length fs + (r.0.replayed + r.0.skipped)
          → t.replayed + t.skipped ≡ length (f ∷ fs) + (s.replayed + s.skipped)
      go (skips _ m) rest =
          let a : r.0.replayed ≡ s.replayed = ap (λ (x : State A). x.replayed) m in
          let b : r.0.skipped ≡ suc s.skipped = ap (λ (x : State A). x.skipped) m in
          omega arith
      go (plays rs _ _ _ m) rest =
          let a : r.0.replayed ≡ suc s.replayed = ap (λ (x : State A). x.replayed) m in
          let b : r.0.skipped ≡ s.skipped = ap (λ (x : State A). x.skipped) m in
          omega arith
