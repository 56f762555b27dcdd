-- Nothing is taken twice and nothing left out: the frames split into those at or below the snapshot's sequence, which are counted as
-- skipped, and the others, which are replayed in order, each numbered one more than the one before.
use Rattle.std.specs.Prelude.{Ok, Err}
use Prim.Native.Nat.{ℕ, suc, ◌+◌}
use native.Mathlib.Nat.{zero-add}
use native.Mathlib.Omega.{arith}
use mathlib.Core.Bool.{Bool, true, false, cond}
use mathlib.Core.List.{List, [], ◌∷◌, ◌++◌}
use mathlib.Core.Path.{◌≡◌, refl, sym, ap, subst, ◌∙◌}
use lib.ListN.{length}
use lib.Dec.{leb}
use borrow.Author.Tests.{leb-false, le-leb, lt-leb, eq-eqb}
use Rattle.refusal.specs.Refusal.{Answer, ◌>>=◌}
use Rattle.meaning.specs.Replay.{begins, Kind, Frame, tail, State, reached, Bounds, apply_all, skip, play, replay_frame, step, run, replay, onward}
use Rattle.theorems.proofs.Ran.{Did, skips, plays, did, ran, ran_at, ran_count}
use Rattle.theorems.specs.Cut.{Ran}
use Rattle.theorems.proofs.CutFrames.{Rising, RisingFrom, AllAbove, rising_of, rising_above}
use Rattle.refusal.proofs.Results.{answer_injective, refused_no_answer}
use Rattle.theorems.specs.FrameLists.{Consecutive, last_sequence}
use Rattle.theorems.specs.EachFrameOnce.{up_to, above, apply_frames}

pub consecutive_rising : {A : Type 0} (n : ℕ) (fs : List (Frame A)) → Consecutive n fs → RisingFrom n fs
consecutive_rising n [] c = tt
consecutive_rising n (f ∷ fs) c = (omega arith, consecutive_rising f.sequence fs c.1)

pub up_to_none : {A : Type 0} (q : ℕ) (fs : List (Frame A)) → AllAbove q fs → up_to q fs ≡ []
unfolding up_to
up_to_none q [] h = refl
up_to_none q (f ∷ fs) h = ap (λ (x : Bool). cond x (f ∷ up_to q fs) (up_to q fs)) (lt-leb _ _ h.0) ∙ up_to_none q fs h.1

pub after_same : {A : Type 0} (q : ℕ) (fs : List (Frame A)) → AllAbove q fs → above q fs ≡ fs
unfolding above
after_same q [] h = refl
after_same {A} q (f ∷ fs) h =
    ap (λ (x : Bool). cond x (above q fs) (f ∷ above q fs)) (lt-leb _ _ h.0) ∙ ap {B = List (Frame A)} (λ gs. f ∷ gs) (after_same q fs h.1)

-- rising-of frames: the skipped ones are a front, the replayed ones the rest
pub parted : {A : Type 0} (q : ℕ) (fs : List (Frame A)) → Rising fs → fs ≡ up_to q fs ++ above q fs
unfolding up_to above
parted q [] r = refl
parted {A} q (f ∷ fs) r = go (leb f.sequence q) refl (parted q fs (rising_of f.sequence fs r))
  where
    go : (x : Bool) → leb f.sequence q ≡ x → fs ≡ up_to q fs ++ above q fs
        → f ∷ fs ≡ cond x (f ∷ up_to q fs) (up_to q fs) ++ cond x (above q fs) (f ∷ above q fs)
    go true h rest = ap {B = List (Frame A)} (λ gs. f ∷ gs) rest
    go false h rest =
        let above : AllAbove q fs = rising_above f.sequence q fs (omega (arith, leb-false f.sequence q h)) r in
        rw (up_to_none q fs above, after_same q fs above) refl

-- what a run came to, told from the frames alone
pub record Tally {A : Type 0} (K : Kind A) (L : Bounds) (q : ℕ) (fs : List (Frame A)) (s t : State A) : Type 0 where
  pub replayed : t.replayed ≡ length (above q fs) + s.replayed
  pub skipped : t.skipped ≡ length (up_to q fs) + s.skipped
  pub records : apply_frames K L (above q fs) s.records ≡ Ok t.records
  pub sequence : t.sequence ≡ last_sequence s.sequence (above q fs)
  pub consecutive : Consecutive s.sequence (above q fs)

module _ {A : Type 0} (K : Kind A) (L : Bounds) (q : ℕ) where
  pub ran_tally : (fs : List (Frame A)) (s t : State A) → Ran K L q fs s t → Tally K L q fs s t
  unfolding up_to above apply_frames
  ran_tally [] s t r =
      record {
        replayed = omega (arith, ap (λ (x : State A). x.replayed) r);
        skipped = omega (arith, ap (λ (x : State A). x.skipped) r);
        records = ap (λ (x : State A). Ok x.records) r;
        sequence = sym (ap (λ (x : State A). x.sequence) r);
        consecutive = tt;
      }
  ran_tally (f ∷ fs) s t r = go (did K L q f s r.0 r.1) (ran_tally fs r.0 t r.2)
    where
      go : Did K L q f s r.0 → Tally K L q fs r.0 t → Tally K L q (f ∷ fs) s t
      go (skips below m) rest =
          let then : Tally K L q fs (skip s) t = subst (λ (x : State A). Tally K L q fs x t) m rest in
          record {
            replayed = rw (le-leb f.sequence q below) then.replayed;
            skipped = rw (le-leb f.sequence q below) (omega (arith, then.skipped));
            records = rw (le-leb f.sequence q below) then.records;
            sequence = rw (le-leb f.sequence q below) then.sequence;
            consecutive = rw (le-leb f.sequence q below) then.consecutive;
          }
      go (plays rs above next h m) rest =
          let then : Tally K L q fs (play f s rs) t = subst (λ (x : State A). Tally K L q fs x t) m rest in
          record {
            replayed = rw (lt-leb f.sequence q above) (omega (arith, then.replayed));
            skipped = rw (lt-leb f.sequence q above) then.skipped;
            records = rw (lt-leb f.sequence q above, h) then.records;
            sequence = rw (lt-leb f.sequence q above) then.sequence;
            consecutive = rw (lt-leb f.sequence q above) (next, then.consecutive);
          }

-- what replay came to beside a tail, told from the snapshot and the frames alone
pub record Counts {A : Type 0} (K : Kind A) (L : Bounds) (q : ℕ) (rs : List A) (fs : List (Frame A)) (k : ℕ) (s : State A) (at : ℕ) : Type 0 where
  pub together : s.replayed + s.skipped ≡ length fs
  pub ends : at ≡ k
  pub skipped : s.skipped ≡ length (up_to q fs)
  pub replayed : s.replayed ≡ length (above q fs)
  pub records : apply_frames K L (above q fs) rs ≡ Ok s.records
  pub sequence : s.sequence ≡ last_sequence q (above q fs)
  pub consecutive : Consecutive q (above q fs)

module _ {A : Type 0} (K : Kind A) (L : Bounds) (q : ℕ) where
  pub replay_counts : (rs : List A) (fs : List (Frame A)) (k : ℕ) (s : State A) (at : ℕ)
      → replay K L q rs (record { frames = fs; ended = tail k }) ≡ reached s at → Counts K L q rs fs k s at
  unfolding replay
  replay_counts rs fs k s at h =
      let r : Ran K L q fs (begins q rs) s = ran K L q fs (begins q rs) s k at h in
      let z : Tally K L q fs (begins q rs) s = ran_tally K L q fs (begins q rs) s r in
      record {
        together = omega (arith, ran_count K L q fs (begins q rs) s r);
        ends = sym (ran_at K L q fs (begins q rs) s k at h);
        skipped = omega (arith, z.skipped);
        replayed = omega (arith, z.replayed);
        records = z.records;
        sequence = z.sequence;
        consecutive = z.consecutive;
      }

  -- the state that frames lead to whose operations leave these records
  abbrev pub tallied : List (Frame A) → State A → List A → State A
  tallied fs s ts =
      record { records = ts; sequence = last_sequence s.sequence (above q fs); replayed = length (above q fs) + s.replayed; skipped = length (up_to q fs) + s.skipped }

  -- the other way: frames numbered on from the snapshot, whose operations go through, are replayed
  pub run_reaches : (fs : List (Frame A)) (k : ℕ) (s : State A) (ts : List A)
      → Consecutive s.sequence (above q fs) → apply_frames K L (above q fs) s.records ≡ Ok ts → run K L q fs (tail k) s ≡ reached (tallied fs s ts) k
  unfolding run step replay_frame up_to above apply_frames
  run_reaches [] k s ts c h =
      λ i. reached (record { records = answer_injective s.records ts h i; sequence = s.sequence; replayed = sym (zero-add s.replayed) i; skipped = sym (zero-add s.skipped) i }) k
  run_reaches (f ∷ fs) k s ts c h = go (leb f.sequence q) c h (λ t. run_reaches fs k t ts)
    where
      onwards : (t : State A) → Type 0
      onwards t = Consecutive t.sequence (above q fs) → apply_frames K L (above q fs) t.records ≡ Ok ts → run K L q fs (tail k) t ≡ reached (tallied fs t ts) k

      applied : (x : Answer (List A)) → (x >>= apply_frames K L (above q fs)) ≡ Ok ts → Consecutive f.sequence (above q fs) → ((t : State A) → onwards t)
          → onward f.start (x >>= λ rs. Ok (play f s rs)) (run K L q fs (tail k))
          ≡ reached (record { records = ts; sequence = last_sequence f.sequence (above q fs); replayed = suc (length (above q fs)) + s.replayed; skipped = length (up_to q fs) + s.skipped }) k
      applied (Ok rs) h c rest =
          let more : length (above q fs) + suc s.replayed ≡ suc (length (above q fs)) + s.replayed = omega arith in
          rest (play f s rs) c h
          ∙ (λ i. reached (record { records = ts; sequence = last_sequence f.sequence (above q fs); replayed = more i; skipped = length (up_to q fs) + s.skipped }) k)
      applied (Err why) h c rest = absurd (refused_no_answer _ ts h)

      go : (x : Bool) → Consecutive s.sequence (cond x (above q fs) (f ∷ above q fs)) → apply_frames K L (cond x (above q fs) (f ∷ above q fs)) s.records ≡ Ok ts
          → ((t : State A) → onwards t)
          → onward f.start (cond x (Ok (skip s)) (replay_frame K L f s)) (run K L q fs (tail k))
          ≡ reached (record { records = ts; sequence = last_sequence s.sequence (cond x (above q fs) (f ∷ above q fs)); replayed = length (cond x (above q fs) (f ∷ above q fs)) + s.replayed; skipped = length (cond x (f ∷ up_to q fs) (up_to q fs)) + s.skipped }) k
      go true c h rest =
          let more : length (up_to q fs) + suc s.skipped ≡ suc (length (up_to q fs)) + s.skipped = omega arith in
          rest (skip s) c h
          ∙ (λ i. reached (record { records = ts; sequence = last_sequence s.sequence (above q fs); replayed = length (above q fs) + s.replayed; skipped = more i }) k)
      go false c h rest =
          rw (eq-eqb f.sequence (s.sequence + 1) c.0) (applied (apply_all K L f.shape f.operations s.records) h c.1 rest)

  pub replay_reaches : (rs : List A) (fs : List (Frame A)) (k : ℕ) (ts : List A)
      → Consecutive q (above q fs) → apply_frames K L (above q fs) rs ≡ Ok ts
      → replay K L q rs (record { frames = fs; ended = tail k }) ≡ reached (tallied fs (begins q rs) ts) k
  unfolding replay
  replay_reaches rs fs k ts c h = run_reaches fs k (begins q rs) ts c h
