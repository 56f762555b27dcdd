-- What `specs/LogLaidOut.antt` says of the layouts that `recover` and `frame_at` read.
use Rattle.std.specs.Prelude.{Ok, Err, Option, Some, None}
use Prim.Native.Nat.{ℕ, suc, ◌+◌, ◌-◌}
use mathlib.Core.Path.{◌≡◌, refl, sym, ap, ◌∙◌, subst}
use native.Mathlib.Omega.{arith}
use mathlib.Core.List.{List, [], ◌∷◌, ◌++◌}
use lib.ListN.{length, drop, length-map}
use Rattle.refusal.specs.Refusal.{Answer, told}
use Rattle.refusal.specs.declared.Refusal.{Refusal}
use Rattle.fields.specs.Fields.{part, Bytes}
use Rattle.config.specs.Settings.{validate}
use Rattle.config.specs.declared.Config.{Config}
use Rattle.layout.specs.declared.Shape.{Shape}
use Rattle.layout.specs.declared.Shape.TheVariants.{Single, Batch}
use Rattle.rows.specs.declared.Row.{Row}
use Rattle.meaning.specs.Replay as Replays
use Rattle.meaning.specs.Records.{Record, seen}
use Rattle.meaning.specs.Log as Meant
use Rattle.meaning.specs.Log.{frame_at, frames_of}
use Rattle.meaning.specs.Recovery as Recoverings
use Rattle.meaning.specs.Recovery.{recover}
use Rattle.meaning.specs.Calls.{recover_call}
use Rattle.store_log.specs.declared.Frame.{Frame}
use Rattle.store_log.specs.Told.{frame_found, frame_told}
use Rattle.theorems.specs.FrameRows.{fields_of, logged_at, logged_from, operation_rows, Follows, carry_operation}
use Rattle.theorems.specs.LogLaidOut.{layout_of, frame_shown, FrameFits, frames_shown}
use Rattle.theorems.proofs.RawFrame.{frame_is_its_layout}
use Rattle.theorems.proofs.RawLog.{log_is_its_frames, refused_is_its_frames, layout_is_read}
use Rattle.recovery.specs.declared.RecoveryInfo.{RecoveryInfo}
use Rattle.recovery.specs.declared.NotRecovered.TheVariants as Refusals
use Rattle.recovery.specs.Told.{recovery_answer}
use Rattle.promises.specs.Recover.{Recovers, shown}
use Rattle.promises.specs.Store.{FrameAtMeets}
use Rattle.promises.specs.LogLaidOut.{RecoveredLaidOut, frame_laid, WholeLaidOut, LogLaidOut}
use Rattle.promises.proofs.RecoverShown.{shows}

recovered_is_its_frames : (lent : ℕ) (snapshot log : List ℕ) → Bytes snapshot → Bytes log
    → (i : RecoveryInfo) (words : List ℕ) → Recovers lent snapshot log (Ok i) words → RecoveredLaidOut snapshot log i
recovered_is_its_frames lent snapshot log bs bl i words call =
    let s = shows lent snapshot log i words bs bl call in
    let l = log_is_its_frames lent snapshot log (shown i words) bl s.given in
    let fs = (frames_of i.config log).frames in
    record {
      frames = frames_shown i.config snapshot log fs;
      is = l.front.is;
      then_the_tail = l.is;
      tail_told = ap (λ (x : RecoveryInfo). x.tail) s.told_is ∙ sym l.tail_is;
      counted = l.counted ∙ sym (length-map fs (frame_shown i.config snapshot log));
      fit = l.front.fit;
      shown = refl;
    }

refused_given : (log : List ℕ) (given : Recoverings.Recovery) (why : Refusal) (at : ℕ) → Err (Refusals.Log why at) ≡ recovery_answer log given
    → given ≡ Recoverings.refused_log why at
refused_given log (Recoverings.recovered r) why at e = absurd (let z : ◌≡◌ {A = ℕ} 0 1 = cc in omega arith)
refused_given log (Recoverings.refused_snapshot other) why at e = absurd (let z : ◌≡◌ {A = ℕ} 0 1 = cc in omega arith)
refused_given log (Recoverings.refused_log other place) why at e = cc

-- ---- a frame of its own
-- what stands there is the frame that was told
record IsFound (config : Config) (log : List ℕ) (previous at : ℕ) (f : Frame) : Type 0 where
  meant : Replays.Frame Row
  next : ℕ
  there : frame_at config log previous at ≡ Meant.found meant next
  told_is : f ≡ frame_found meant next

abbrev IsWhole : Answer (Option Frame) → Type 0
IsWhole (Ok None) = ⊥
IsWhole (Ok (Some f)) = Unit
IsWhole (Err why) = ⊥

abbrev whole_or : Frame → Answer (Option Frame) → Frame
whole_or other (Ok None) = other
whole_or other (Ok (Some f)) = f
whole_or other (Err why) = other

is_found : (config : Config) (log : List ℕ) (previous at : ℕ) (f : Frame) → FrameAtMeets config log previous at (Ok (Some f)) → IsFound config log previous at f
is_found config log previous at f m = valid (validate config) m.result_is
  where
    here : (x : Meant.ReadFrame) → frame_at config log previous at ≡ x → Ok (Some f) ≡ frame_told x → IsFound config log previous at f
    here Meant.too_little e h = absurd (subst IsWhole h tt)
    here (Meant.wrong why) e h = absurd (subst IsWhole h tt)
    here (Meant.found g next) e h = record { meant = g; next = next; there = e; told_is = ap (whole_or f) h }

    valid : (v : Answer (Unit {0})) → Ok (Some f) ≡ frame_told (told (λ _. frame_at config log previous at) Meant.wrong v) → IsFound config log previous at f
    valid (Ok u) h = here (frame_at config log previous at) refl h
    valid (Err why) h = absurd (subst IsWhole h tt)

whole_is_its_layout : (config : Config) (log : List ℕ) (previous at : ℕ) (f : Frame) → Bytes log
    → FrameAtMeets config log previous at (Ok (Some f)) → WholeLaidOut config log previous at f
whole_is_its_layout config log previous at f b m =
    let x = is_found config log previous at f m in
    let g = x.meant in
    let l = frame_is_its_layout config [] log b previous at g x.next x.there in
    let frame = frame_shown config [] log g in
    let start_is = l.start_is in
    let many : length g.operations ≡ length frame.operations = sym (length-map g.operations (carry_operation (seen config.dimensions [] log))) in
    let next_is : x.next ≡ g.start + length (layout_of frame) = l.next_is ∙ ap (λ (k : ℕ). k + length (layout_of frame)) (sym start_is) in
    subst (WholeLaidOut config log previous at) (sym x.told_is)
    (record {
      frame = frame;
      told_is = λ i. record { start = g.start; sequence = g.sequence; shape = g.shape; operations = many i; next = next_is i };
      is = ap (λ (k : ℕ). part log k (x.next - k)) start_is ∙ l.is;
      start_is = start_is;
      follows = l.follows;
      fits = l.fits;
    })

-- a row for each operation
length_logged : (at : ℕ) (os : List (Replays.Operation Record)) → length (logged_from at os) ≡ length os
unfolding logged_from
length_logged at [] = refl
length_logged at (o ∷ os) = ap suc (length_logged (at + 1 + length (fields_of o)) os)

length_operations : (shape : Shape) (at : ℕ) (os : List (Replays.Operation Record)) → length (operation_rows shape at os) ≡ length os
length_operations Single at os = length-map os (logged_at (at + 17))
length_operations Batch at os = length_logged (at + 21) os

layout_is_whole : (config : Config) (log : List ℕ) (previous : ℕ) (f : Replays.Frame Record) (rest : List ℕ) → validate config ≡ Ok tt
    → FrameFits config f → Follows previous f.sequence → drop f.start log ≡ layout_of f ++ rest
    → (r : Answer (Option Frame)) → FrameAtMeets config log previous f.start r → r ≡ Ok (Some (frame_laid f))
layout_is_whole config log previous f rest valid fits follows h r m =
    m.result_is
    ∙ ap (λ (v : Answer (Unit {0})). frame_told (told (λ _. frame_at config log previous f.start) Meant.wrong v)) valid
    ∙ ap frame_told (layout_is_read config log previous f rest fits follows h)
    ∙ ap (λ (n : ℕ). Ok (Some (record { start = f.start; sequence = f.sequence; shape = f.shape; operations = n; next = f.start + length (layout_of f) })))
    (length_operations f.shape f.start f.operations)

pub log_laid_out : LogLaidOut
log_laid_out =
    record {
      recovered_is_its_frames = recovered_is_its_frames;
      refused_is_its_frames = λ lent snapshot log b why at words call S reads.
          refused_is_its_frames lent snapshot log S why at b reads
          (ap (λ (n : ℕ). recover n snapshot log) (sym call.as_many) ∙ refused_given log (recover_call call.rows call.active snapshot log) why at call.meets.result_is);
      whole_is_its_layout = whole_is_its_layout;
      layout_is_whole = layout_is_whole;
    }
