-- Cut a log after some frame and take the state there for a new snapshot: the whole log, and the log without its front, come to the same.
-- The two runs go in step over the frames after the cut, for the old and the new snapshot's sequence part those alike.
use Rattle.std.specs.Prelude.{Ok, Err}
use Prim.Native.Nat.{ℕ, suc, ◌+◌, ◌≤◌, ◌<◌}
use native.Mathlib.Nat.{add-suc, add-zero, zero-add}
use native.Mathlib.Omega.{arith}
use mathlib.Core.Bool.{Bool, true, false, not, cond}
use mathlib.Core.List.{List, [], ◌∷◌, ◌++◌}
use mathlib.Core.Path.{◌≡◌, refl, sym, ap, subst, ◌∙◌}
use lib.ListN.{length}
use lib.Dec.{leb, eqb}
use borrow.Author.Tests.{le-leb, lt-leb}
use Rattle.refusal.specs.Refusal.{Answer, refuse, ◌>>=◌}
use Rattle.refusal.specs.declared.Refusal.{Refusal}
use Rattle.refusal.specs.declared.Refusal.TheVariants.{GapAfterSnapshot}
use Rattle.meaning.specs.Replay.{begins, Kind, Frame, End, tail, bad, State, Outcome, reached, stopped, Bounds, apply_all, skip, play, replay_frame, step, run, replay, onward}
use Rattle.theorems.proofs.Ran.{Did, skips, plays, did, ran, ran_at, ran_count, ran_on, run_stopped, reached_inj, reached_at, stopped≢reached}
use Rattle.theorems.specs.Cut.{Ran}

-- sequences rise strictly along the list, from above n
abbrev pub RisingFrom : {A : Type 0} → ℕ → List (Frame A) → Type 0
RisingFrom n [] = Unit {0}
RisingFrom n (f ∷ fs) = (n < f.sequence) × RisingFrom f.sequence fs

-- sequences rise strictly from frame to frame
abbrev pub Rising : {A : Type 0} → List (Frame A) → Type 0
Rising [] = Unit {0}
Rising (f ∷ fs) = RisingFrom f.sequence fs

pub rising_of : {A : Type 0} (n : ℕ) (fs : List (Frame A)) → RisingFrom n fs → Rising fs
rising_of n [] h = tt
rising_of n (f ∷ fs) h = h.1

-- what of an outcome a new snapshot must not change: records, sequence, frames counted and the tail's first byte, or the refusal and its byte
pub data Summary (A : Type 0) : Type 0 where
  reaches : List A → ℕ → ℕ → ℕ → Summary A
  stops : Refusal → ℕ → Summary A

abbrev pub summary : {A : Type 0} → Outcome A → Summary A
summary (reached s at) = reaches s.records s.sequence (s.replayed + s.skipped) at
summary (stopped why at) = stops why at

-- a state, and an outcome, with frames counted before: a replayed, b skipped
abbrev pub counted_before : {A : Type 0} → ℕ → ℕ → State A → State A
counted_before a b s = record { records = s.records; sequence = s.sequence; replayed = a + s.replayed; skipped = b + s.skipped }

abbrev pub counted : {A : Type 0} → ℕ → ℕ → Outcome A → Outcome A
counted a b (reached s at) = reached (counted_before a b s) at
counted a b (stopped why at) = stopped why at

-- a state is its records and its sequence, with its frames counted before
pub counting_begins : {A : Type 0} (s : State A) → s ≡ counted_before s.replayed s.skipped (begins s.sequence s.records)
counting_begins s = λ i. record { records = s.records; sequence = s.sequence; replayed = sym (add-zero s.replayed) i; skipped = sym (add-zero s.skipped) i }

pub summary_counted : {A : Type 0} (a b c d : ℕ) (o : Outcome A) → a + b ≡ c + d → summary (counted a b o) ≡ summary (counted c d o)
summary_counted a b c d (reached s at) h =
    ap (λ (n : ℕ). reaches s.records s.sequence n at) (let z : a + s.replayed + (b + s.skipped) ≡ c + s.replayed + (d + s.skipped) = omega arith in z)
summary_counted a b c d (stopped why at) h = refl

-- every frame's sequence is above n, or at or below it
abbrev pub AllAbove : {A : Type 0} → ℕ → List (Frame A) → Type 0
AllAbove n [] = Unit {0}
AllAbove n (f ∷ fs) = (n < f.sequence) × AllAbove n fs

abbrev pub AllUpTo : {A : Type 0} → ℕ → List (Frame A) → Type 0
AllUpTo n [] = Unit {0}
AllUpTo n (f ∷ fs) = (f.sequence ≤ n) × AllUpTo n fs

pub rising_above : {A : Type 0} (n m : ℕ) (fs : List (Frame A)) → m ≤ n → RisingFrom n fs → AllAbove m fs
rising_above n m [] h r = tt
rising_above n m (f ∷ fs) h r =
    let z : m < f.sequence = omega arith in
    (z, rising_above f.sequence m fs (omega arith) r.1)

-- two snapshot sequences part the frames alike
abbrev pub Alike : {A : Type 0} → ℕ → ℕ → List (Frame A) → Type 0
Alike p q [] = Unit {0}
Alike p q (f ∷ fs) = (leb f.sequence p ≡ leb f.sequence q) × Alike p q fs

pub above_alike : {A : Type 0} (p q : ℕ) (fs : List (Frame A)) → AllAbove p fs → AllAbove q fs → Alike p q fs
above_alike p q [] a b = tt
above_alike p q (f ∷ fs) a b = (lt-leb _ _ a.0 ∙ sym (lt-leb _ _ b.0), above_alike p q fs a.1 b.1)

pub same_alike : {A : Type 0} (p q : ℕ) (fs : List (Frame A)) → p ≡ q → Alike p q fs
same_alike p q [] e = tt
same_alike p q (f ∷ fs) e = (ap (leb f.sequence) e, same_alike p q fs e)

-- where a run over rising-of frames stands: nothing was replayed yet, or all frames left are above the sequence reached
pub data Stands {A : Type 0} (q : ℕ) (n : ℕ) (fs : List (Frame A)) : Type 0 where
  before : n ≡ q → Rising fs → Stands q n fs
  past : q ≤ n → RisingFrom n fs → Stands q n fs

pub stands_alike : {A : Type 0} (q n : ℕ) (fs : List (Frame A)) → Stands q n fs → Alike q n fs
stands_alike q n fs (before e r) = same_alike q n fs (sym e)
stands_alike q n fs (past h r) = above_alike q n fs (rising_above n q fs h r) (rising_above n n fs (omega arith) r)

-- what the new snapshot s comes to beside the frames after the cut, where the old one came to u beside all frames
pub record RestAlone {A : Type 0} (K : Kind A) (L : Bounds) (s u : State A) (gs : List (Frame A)) (e : End) (to : ℕ) : Type 0 where
  pub state : State A
  pub comes : replay K L s.sequence s.records (record { frames = gs; ended = e }) ≡ reached state to
  pub records : state.records ≡ u.records
  pub sequence : state.sequence ≡ u.sequence
  pub replayed : u.replayed ≡ s.replayed + state.replayed
  pub skipped : u.skipped ≡ s.skipped + state.skipped

module _ {A : Type 0} (K : Kind A) (L : Bounds) where
  pub step_counting : (q a b : ℕ) (f : Frame A) (s : State A) → step K L q f (counted_before a b s) ≡ (step K L q f s >>= λ t. Ok (counted_before a b t))
  unfolding step replay_frame
  step_counting q a b f s = go (leb f.sequence q)
    where
      skipping : skip (counted_before a b s) ≡ counted_before a b (skip s)
      skipping = λ i. record { records = s.records; sequence = s.sequence; replayed = a + s.replayed; skipped = sym (add-suc b s.skipped) i }

      playing : (rs : List A) → play f (counted_before a b s) rs ≡ counted_before a b (play f s rs)
      playing rs = λ i. record { records = rs; sequence = f.sequence; replayed = sym (add-suc a s.replayed) i; skipped = b + s.skipped }

      applied : (x : Answer (List A))
          → (x >>= λ rs. Ok (play f (counted_before a b s) rs)) ≡ ((x >>= λ rs. Ok (play f s rs)) >>= λ t. Ok (counted_before a b t))
      applied (Ok rs) = ap (λ (t : State A). Ok t) (playing rs)
      applied (Err why) = refl

      next : (x : Bool)
          → (refuse GapAfterSnapshot x >>= λ _. apply_all K L f.shape f.operations s.records >>= λ rs. Ok (play f (counted_before a b s) rs))
          ≡ ((refuse GapAfterSnapshot x >>= λ _. apply_all K L f.shape f.operations s.records >>= λ rs. Ok (play f s rs)) >>= λ t. Ok (counted_before a b t))
      next true = refl
      next false = applied (apply_all K L f.shape f.operations s.records)

      go : (x : Bool)
          → cond x (Ok (skip (counted_before a b s))) (replay_frame K L f (counted_before a b s))
          ≡ (cond x (Ok (skip s)) (replay_frame K L f s) >>= λ t. Ok (counted_before a b t))
      go true = ap (λ (t : State A). Ok t) skipping
      go false = next (not (eqb f.sequence (s.sequence + 1)))

  -- frames counted before change nothing but the counts
  pub run_counting : (q a b : ℕ) (fs : List (Frame A)) (e : End) (s : State A) → run K L q fs e (counted_before a b s) ≡ counted a b (run K L q fs e s)
  unfolding run
  run_counting q a b [] (tail k) s = refl
  run_counting q a b [] (bad why k) s = refl
  run_counting q a b (f ∷ fs) e s =
      ap (λ (x : Answer (State A)). onward f.start x (run K L q fs e)) (step_counting q a b f s) ∙ go (step K L q f s) (run_counting q a b fs e)
    where
      go : (x : Answer (State A)) → ((t : State A) → run K L q fs e (counted_before a b t) ≡ counted a b (run K L q fs e t))
          → onward f.start (x >>= λ t. Ok (counted_before a b t)) (run K L q fs e) ≡ counted a b (onward f.start x (run K L q fs e))
      go (Ok t) rest = rest t
      go (Err why) rest = refl

  pub run_alike : (p q : ℕ) (fs : List (Frame A)) (e : End) (s : State A) → Alike p q fs → run K L p fs e s ≡ run K L q fs e s
  unfolding run step
  run_alike p q [] e s h = refl
  run_alike p q (f ∷ fs) e s h =
      ap (λ (b : Bool). onward f.start (cond b (Ok (skip s)) (replay_frame K L f s)) (run K L p fs e)) h.0
      ∙ go (cond (leb f.sequence q) (Ok (skip s)) (replay_frame K L f s)) (λ t. run_alike p q fs e t h.1)
    where
      go : (x : Answer (State A)) → ((t : State A) → run K L p fs e t ≡ run K L q fs e t)
          → onward f.start x (run K L p fs e) ≡ onward f.start x (run K L q fs e)
      go (Ok t) rest = rest t
      go (Err why) rest = refl

  -- frames at or below the snapshot's sequence are counted as skipped, and do nothing else
  pub run_skipped : (q : ℕ) (fs gs : List (Frame A)) (e : End) (s : State A) → AllUpTo q fs → run K L q (fs ++ gs) e s ≡ run K L q gs e (counted_before 0 (length fs) s)
  unfolding run step
  run_skipped q [] gs e s h =
      ap (run K L q gs e) (λ i. record { records = s.records; sequence = s.sequence; replayed = sym (zero-add s.replayed) i; skipped = sym (zero-add s.skipped) i })
  run_skipped q (f ∷ fs) gs e s h =
      ap (λ (b : Bool). onward f.start (cond b (Ok (skip s)) (replay_frame K L f s)) (run K L q (fs ++ gs) e)) (le-leb _ _ h.0)
      ∙ run_skipped q fs gs e (skip s) h.1
      ∙ ap (run K L q gs e) (λ i. record { records = s.records; sequence = s.sequence; replayed = 0 + s.replayed; skipped = one_more i })
    where
      one_more : length fs + suc s.skipped ≡ suc (length fs) + s.skipped
      one_more = omega arith

  -- every frame that was run is at or below the sequence reached
  pub ran_up_to : (q : ℕ) (fs : List (Frame A)) (s t : State A) → q ≤ s.sequence → Ran K L q fs s t → AllUpTo t.sequence fs × (s.sequence ≤ t.sequence)
  ran_up_to q [] s t h r = (tt, subst (λ (x : State A). s.sequence ≤ x.sequence) r (omega arith))
  ran_up_to q (f ∷ fs) s t h r = go (did K L q f s r.0 r.1) (λ b. ran_up_to q fs r.0 t b r.2)
    where
      go : Did K L q f s r.0 → (q ≤ r.0.sequence → AllUpTo t.sequence fs × (r.0.sequence ≤ t.sequence))
          → AllUpTo t.sequence (f ∷ fs) × (s.sequence ≤ t.sequence)
      go (skips below m) rest =
          let same : r.0.sequence ≡ s.sequence = ap (λ (x : State A). x.sequence) m in
          let z = rest (omega arith) in
          let low : f.sequence ≤ t.sequence = omega arith in
          ((low, z.0), omega arith)
      go (plays rs above next _ m) rest =
          let same : r.0.sequence ≡ f.sequence = ap (λ (x : State A). x.sequence) m in
          let z = rest (omega arith) in
          let low : f.sequence ≤ t.sequence = omega arith in
          ((low, z.0), omega arith)

  pub stands_after : (q : ℕ) (f : Frame A) (fs : List (Frame A)) (s t : State A) → Did K L q f s t → Stands q s.sequence (f ∷ fs) → Stands q t.sequence fs
  stands_after q f fs s t (skips below m) (before e r) = before (ap (λ (x : State A). x.sequence) m ∙ e) (rising_of f.sequence fs r)
  stands_after q f fs s t (skips below m) (past h r) = absurd (let low : s.sequence < f.sequence = r.0 in omega arith)
  stands_after q f fs s t (plays rs above next _ m) (before e r) =
      let same : t.sequence ≡ f.sequence = ap (λ (x : State A). x.sequence) m in
      past (omega arith) (subst (λ (n : ℕ). RisingFrom n fs) (sym same) r)
  stands_after q f fs s t (plays rs above next _ m) (past h r) =
      let same : t.sequence ≡ f.sequence = ap (λ (x : State A). x.sequence) m in
      past (omega arith) (subst (λ (n : ℕ). RisingFrom n fs) (sym same) r.1)

  pub ran_stands : (q : ℕ) (fs gs : List (Frame A)) (s t : State A) → Ran K L q fs s t → Stands q s.sequence (fs ++ gs) → Stands q t.sequence gs
  ran_stands q [] gs s t r h = subst (λ (x : State A). Stands q x.sequence gs) r h
  ran_stands q (f ∷ fs) gs s t r h = ran_stands q fs gs r.0 t r.2 (stands_after q f (fs ++ gs) s r.0 (did K L q f s r.0 r.1) h)

  -- an accepted log may be cut after any of its frames
  pub cut_anywhere : (q : ℕ) (rs : List A) (fs gs : List (Frame A)) (e : End) (k : ℕ) (u : State A) (to : ℕ)
      → replay K L q rs (record { frames = fs ++ gs; ended = e }) ≡ reached u to
      → (s : State A) × (replay K L q rs (record { frames = fs; ended = tail k }) ≡ reached s k)
  unfolding replay
  cut_anywhere q rs fs gs e k u to h = go (run K L q fs (tail k) (begins q rs)) refl
    where
      go : (o : Outcome A) → run K L q fs (tail k) (begins q rs) ≡ o → (s : State A) × (run K L q fs (tail k) (begins q rs) ≡ reached s k)
      go (reached s at) d = (s, d ∙ ap (λ (n : ℕ). reached s n) (sym (ran_at K L q fs (begins q rs) s k at d)))
      go (stopped why at) d = absurd (stopped≢reached (sym (run_stopped K L q fs gs e k (begins q rs) why at d) ∙ h))

  module _ (q : ℕ) (rs : List A) (fs gs : List (Frame A)) (e : End) (k at : ℕ) (s : State A) (rises : Rising (fs ++ gs))
      (cut : replay K L q rs (record { frames = fs; ended = tail k }) ≡ reached s at) where
    pub front_ran : Ran K L q fs (begins q rs) s
    unfolding replay
    front_ran = ran K L q fs (begins q rs) s k at cut

    -- the old snapshot beside the whole log is the new one beside the rest, but for the front's counts
    pub cut_front : replay K L q rs (record { frames = fs ++ gs; ended = e })
        ≡ counted s.replayed s.skipped (replay K L s.sequence s.records (record { frames = gs; ended = e }))
    unfolding replay
    cut_front =
        ran_on K L q fs gs e (begins q rs) s front_ran
        ∙ run_alike q s.sequence gs e s (stands_alike q s.sequence gs (ran_stands q fs gs (begins q rs) s front_ran (before refl rises)))
        ∙ ap (run K L s.sequence gs e) (counting_begins s)
        ∙ run_counting s.sequence s.replayed s.skipped gs e (begins s.sequence s.records)

    -- the new snapshot beside the whole log skips the front
    pub cut_skips : replay K L s.sequence s.records (record { frames = fs ++ gs; ended = e })
        ≡ counted 0 (length fs) (replay K L s.sequence s.records (record { frames = gs; ended = e }))
    unfolding replay
    cut_skips =
        run_skipped s.sequence fs gs e (begins s.sequence s.records) (ran_up_to q fs (begins q rs) s (omega arith) front_ran).0
        ∙ run_counting s.sequence 0 (length fs) gs e (begins s.sequence s.records)

    -- demand 3, first half: records, sequence, frames counted and tail, or the same refusal at the same byte
    pub cut_whole : summary (replay K L s.sequence s.records (record { frames = fs ++ gs; ended = e })) ≡ summary (replay K L q rs (record { frames = fs ++ gs; ended = e }))
    cut_whole =
        ap summary cut_skips
        ∙ summary_counted 0 (length fs) s.replayed s.skipped (replay K L s.sequence s.records (record { frames = gs; ended = e })) sums
        ∙ sym (ap summary cut_front)
      where
        sums : 0 + length fs ≡ s.replayed + s.skipped
        sums = omega (arith, ran_count K L q fs (begins q rs) s front_ran)

    -- demand 3, second half: where the old pair was accepted, so is the new snapshot beside the rest
    pub cut_rest : (u : State A) (to : ℕ) → replay K L q rs (record { frames = fs ++ gs; ended = e }) ≡ reached u to → RestAlone K L s u gs e to
    cut_rest u to h = go (replay K L s.sequence s.records (record { frames = gs; ended = e })) refl (sym cut_front ∙ h)
      where
        go : (o : Outcome A) → replay K L s.sequence s.records (record { frames = gs; ended = e }) ≡ o → counted s.replayed s.skipped o ≡ reached u to
            → RestAlone K L s u gs e to
        go (reached v k) o d =
            let same : counted_before s.replayed s.skipped v ≡ u = reached_inj d in
            record {
              state = v;
              comes = o ∙ ap (λ (n : ℕ). reached v n) (reached_at d);
              records = ap (λ (x : State A). x.records) same;
              sequence = ap (λ (x : State A). x.sequence) same;
              replayed = sym (ap (λ (x : State A). x.replayed) same);
              skipped = sym (ap (λ (x : State A). x.skipped) same);
            }
        go (stopped why k) o d = absurd (stopped≢reached d)
