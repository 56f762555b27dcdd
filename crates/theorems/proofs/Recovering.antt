-- What an accepted recovery says of its parts.
use Rattle.std.specs.Prelude.{Ok, Err}
use Prim.Native.Nat.{ℕ, ◌+◌, ◌≤◌, ◌<◌, ◌^◌}
use native.Mathlib.Omega.{arith}
use mathlib.Core.Path.{◌≡◌, refl, sym, ap, ◌∙◌, subst}
use mathlib.Core.Bool.{Bool, true, false, cond}
use mathlib.Core.List.{List, [], ◌∷◌}
use lib.ListN.{length}
use lib.Dec.{ltb}
use Rattle.fields.specs.Fields.{Bytes, num}
use Rattle.fields.proofs.Numbers.{num_lt}
use Rattle.config.specs.Limits.{max_log_bytes}
use Rattle.config.specs.declared.Config.{Config}
use Rattle.refusal.specs.Refusal.{Answer}
use Rattle.refusal.specs.declared.Refusal.TheVariants.{LogTooLong}
use Rattle.meaning.specs.Replay.{Kind, Frame, End, tail, bad, Frames, State, Outcome, reached, stopped, Bounds, step, run, replay, begins, onward}
use Rattle.meaning.specs.Records.{row_kind}
use Rattle.rows.specs.declared.Row.{Row}
use Rattle.meaning.specs.Snapshot.{Snapshot, read_snapshot}
use Rattle.meaning.specs.Log.{frames_of, frame_at, found}
use Rattle.meaning.specs.Recovery.{Recovered, Recovery, recovered, refused_snapshot, refused_log, bounds_for, ended, replay_log, with_snapshot, recover}
use Rattle.meaning.specs.Every.{Every}
use Rattle.theorems.specs.Cut.{Ran}
use Rattle.theorems.proofs.Ran.{Did, skips, plays, did, ran}
use borrow.Author.Tests.{ltb-false, ltb-true}
use Rattle.meaning.proofs.FrameRead.{payload_read, frame_read_lem}
use Rattle.meaning.proofs.FramesAt.{frames_of_lem, frames_induction}
use Rattle.meaning.proofs.RecoverBegins.{too_long_lem, short_enough}

-- a replay that reaches an end reached a tail
module _ {A : Type 0} (K : Kind A) (L : Bounds) (q : ℕ) where
  pub run_tail : (fs : List (Frame A)) (e : End) (s t : State A) (k : ℕ) → run K L q fs e s ≡ reached t k → e ≡ tail k
  unfolding run
  run_tail [] (tail at) s t k h = ap tail (go h)
    where
      place : Outcome A → ℕ
      place (reached u n) = n
      place (stopped why n) = n

      go : reached s at ≡ reached t k → at ≡ k
      go e = ap place e
  run_tail [] (bad why at) s t k h = absurd (let z : ◌≡◌ {A = ℕ} 0 1 = cc in omega arith)
  run_tail (f ∷ fs) e s t k h = go (step K L q f s) h (λ u x. run_tail fs e u t k x)
    where
      go : (r : Answer (State A)) → onward f.start r (run K L q fs e) ≡ reached t k → ((u : State A) → run K L q fs e u ≡ reached t k → e ≡ tail k) → e ≡ tail k
      go (Ok u) x more = more u x
      go (Err why) x more = absurd (let z : ◌≡◌ {A = ℕ} 0 1 = cc in omega arith)

  -- the sequence reached is the first state's or that of a frame
  pub sequence_of : (P : ℕ → Type 0) (fs : List (Frame A)) (s t : State A) → Ran K L q fs s t → Every (λ f. P f.sequence) fs → P s.sequence → P t.sequence
  sequence_of P [] s t r all p = subst (λ (x : State A). P x.sequence) r p
  sequence_of P (f ∷ fs) s t r all p = sequence_of P fs r.0 t r.2 all.1 (go (did K L q f s r.0 r.1))
    where
      go : Did K L q f s r.0 → P r.0.sequence
      go (skips h e) = subst (λ (x : State A). P x.sequence) (sym e) p
      go (plays rs h n a e) = subst (λ (x : State A). P x.sequence) (sym e) all.0

-- every frame of a log of bytes has a sequence of 8 bytes
pub sequences_fit : (c : Config) (log : List ℕ) → Bytes log → Every (λ (f : Frame Row). f.sequence < 256 ^ 8) (frames_of c log).frames
sequences_fit c log b =
    subst (λ (r : Frames Row). Every (λ (f : Frame Row). f.sequence < 256 ^ 8) r.frames) (sym (frames_of_lem c log))
    (frames_induction c log (λ p a r. Every (λ (f : Frame Row). f.sequence < 256 ^ 8) r.frames) (λ p a e. tt) (λ p a why e. tt)
    (λ p a f next e more. (first p a f next e, more)) 0 0)
  where
    first : (p a : ℕ) (f : Frame Row) (next : ℕ) → frame_at c log p a ≡ found f next → f.sequence < 256 ^ 8
    first p a f next e =
        let h = frame_read_lem c log p a f next e in
        let i = payload_read c log p a (num log a 4) f h.payload_answers in
        subst (λ (n : ℕ). n < 256 ^ 8) (sym i.sequence_is) (num_lt log (a + 9) 8 b)

-- the parts of an accepted recovery
pub record Accepted (lent : ℕ) (snapshot log : List ℕ) (r : Recovered) : Type 0 where
  pub short : length log ≤ max_log_bytes
  pub read : Snapshot
  pub reads : read_snapshot lent snapshot ≡ Ok read
  pub same_config : r.config ≡ read.config
  pub same_crc : r.crc ≡ read.crc
  pub replays : replay (row_kind read.config.dimensions) (bounds_for lent) read.sequence read.rows (frames_of read.config log) ≡ reached r.state r.keep

pub accepted : (lent : ℕ) (snapshot log : List ℕ) (r : Recovered) → recover lent snapshot log ≡ recovered r → Accepted lent snapshot log r
unfolding recover
accepted lent snapshot log r h = first (ltb max_log_bytes (length log)) refl h
  where
    state : Recovery → Outcome Row
    state (recovered x) = reached x.state x.keep
    state (refused_snapshot why) = stopped why 0
    state (refused_log why at) = stopped why at

    config : Recovered → Recovery → Config
    config z (recovered x) = x.config
    config z (refused_snapshot why) = z.config
    config z (refused_log why at) = z.config

    crc : Recovered → Recovery → ℕ
    crc z (recovered x) = x.crc
    crc z (refused_snapshot why) = z.crc
    crc z (refused_log why at) = z.crc

    third : (s : Snapshot) → read_snapshot lent snapshot ≡ Ok s → length log ≤ max_log_bytes → (o : Outcome Row)
        → replay (row_kind s.config.dimensions) (bounds_for lent) s.sequence s.rows (frames_of s.config log) ≡ o → ended s o ≡ recovered r → Accepted lent snapshot log r
    third s e short (reached st at) o h =
        record { short = short; read = s; reads = e; same_config = ap (config r) (sym h); same_crc = ap (crc r) (sym h); replays = o ∙ ap state h }
    third s e short (stopped why at) o h = absurd (let z : ◌≡◌ {A = ℕ} 0 1 = cc in omega arith)

    second : (x : Answer Snapshot) → read_snapshot lent snapshot ≡ x → length log ≤ max_log_bytes → with_snapshot lent log x ≡ recovered r → Accepted lent snapshot log r
    second (Ok s) e short h = third s e short _ refl h
    second (Err why) e short h = absurd (let z : ◌≡◌ {A = ℕ} 0 1 = cc in omega arith)

    first : (b : Bool) → ltb max_log_bytes (length log) ≡ b → cond b (refused_log LogTooLong 0) (with_snapshot lent log (read_snapshot lent snapshot)) ≡ recovered r → Accepted lent snapshot log r
    first true e h = absurd (let z : ◌≡◌ {A = ℕ} 0 1 = cc in omega arith)
    first false e h = second (read_snapshot lent snapshot) refl (ltb-false max_log_bytes (length log) e) h

module _ (lent : ℕ) (snapshot log : List ℕ) (r : Recovered) (a : Accepted lent snapshot log r) where
  abbrev c : Config
  c = a.read.config

  -- the frames were all read up to a tail
  pub frames_to_tail : frames_of a.read.config log ≡ record { frames = (frames_of a.read.config log).frames; ended = tail r.keep }
  unfolding replay
  frames_to_tail =
      ap (λ (x : End). record { frames = (frames_of c log).frames; ended = x })
      (run_tail (row_kind c.dimensions) (bounds_for lent) a.read.sequence (frames_of c log).frames (frames_of c log).ended (begins a.read.sequence a.read.rows) r.state r.keep a.replays)

  pub replays_frames : replay (row_kind a.read.config.dimensions) (bounds_for lent) a.read.sequence a.read.rows
      (record { frames = (frames_of a.read.config log).frames; ended = tail r.keep }) ≡ reached r.state r.keep
  replays_frames = ap (replay (row_kind c.dimensions) (bounds_for lent) a.read.sequence a.read.rows) (sym frames_to_tail) ∙ a.replays

  -- they lead from the snapshot to the state
  pub frames_led : Ran (row_kind a.read.config.dimensions) (bounds_for lent) a.read.sequence (frames_of a.read.config log).frames
      (begins a.read.sequence a.read.rows) r.state
  unfolding replay
  frames_led =
      ran (row_kind c.dimensions) (bounds_for lent) a.read.sequence (frames_of c log).frames (begins a.read.sequence a.read.rows) r.state r.keep r.keep replays_frames

-- recovery once the snapshot is read
pub recover_read : (lent : ℕ) (snapshot log : List ℕ) (s : Snapshot) → read_snapshot lent snapshot ≡ Ok s → length log ≤ max_log_bytes
    → recover lent snapshot log ≡ replay_log lent log s
recover_read lent snapshot log s e short = short_enough lent snapshot log short ∙ ap (with_snapshot lent log) e

-- two snapshots beside one log: what is told alike of their replays, and of a log that is too long, is told alike of their recoveries
pub recover_alike : {B : Type 0} (f g : Recovery → B) (lent : ℕ) (s s' log : List ℕ) (x y : Snapshot)
    → read_snapshot lent s ≡ Ok x → read_snapshot lent s' ≡ Ok y
    → f (refused_log LogTooLong 0) ≡ g (refused_log LogTooLong 0) → f (replay_log lent log x) ≡ g (replay_log lent log y)
    → f (recover lent s log) ≡ g (recover lent s' log)
recover_alike f g lent s s' log x y e e' long same = go (ltb max_log_bytes (length log)) refl
  where
    go : (b : Bool) → ltb max_log_bytes (length log) ≡ b → f (recover lent s log) ≡ g (recover lent s' log)
    go true t = let n = ltb-true max_log_bytes (length log) t in ap f (too_long_lem lent s log n) ∙ long ∙ sym (ap g (too_long_lem lent s' log n))
    go false t = let n = ltb-false max_log_bytes (length log) t in ap f (recover_read lent s log x e n) ∙ same ∙ sym (ap g (recover_read lent s' log y e' n))
