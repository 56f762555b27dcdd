-- Layouts that the code read: the log that `recover` accepted is its frames laid out, byte for byte, up to `keep`, and one that it refused
-- up to the byte that it named; the bytes of a frame that `frame_at` found are its layout.
use Rattle.refusal.specs.Refusal.{Answer}
use Rattle.std.specs.Prelude.{ℕ, ◌+◌, ◌-◌, ◌≡◌, List, ◌++◌, length, take, drop, Ok, Err, Option, Some}
use Rattle.refusal.specs.declared.Refusal.{Refusal}
use Rattle.fields.specs.Fields.{part, Bytes}
use Rattle.config.specs.Settings.{validate}
use Rattle.config.specs.declared.Config.{Config}
use Rattle.meaning.specs.Replay as Replays
use Rattle.meaning.specs.Records.{Record}
use Rattle.meaning.specs.Snapshot.{Snapshot, read_snapshot}
use Rattle.meaning.specs.Log.{frames_of}
use Rattle.store_log.specs.declared.Frame.{Frame}
use Rattle.theorems.specs.FrameRows.{Follows}
use Rattle.theorems.specs.LogLaidOut.{layout_of, layouts_of, FrameFits, FramesFit, frames_shown, BeforeRefusal}
use Rattle.recovery.specs.declared.RecoveryInfo.{RecoveryInfo}
use Rattle.recovery.specs.declared.NotRecovered.TheVariants as Refusals
use Rattle.promises.specs.Recover.{Recovers}
use Rattle.promises.specs.Store.{FrameAtMeets}

-- the log of an answer: frames by value, laid out up to `keep`, and then the tail
pub record RecoveredLaidOut (snapshot log : List ℕ) (i : RecoveryInfo) : Type 0 where
  pub frames : List (Replays.Frame Record)
  pub is : take i.keep log ≡ layouts_of frames
  pub then_the_tail : log ≡ layouts_of frames ++ drop i.keep log
  pub tail_told : i.tail ≡ length (drop i.keep log)
  -- as many as were told, numbered one after the other; their fields can hold them
  pub counted : i.replayed + i.skipped ≡ length frames
  pub fit : FramesFit i.config frames
  -- they are what the rows of the log's frames show
  pub shown : frames_shown i.config snapshot log (frames_of i.config log).frames ≡ frames

-- what is told of a frame by value
abbrev pub frame_laid : Replays.Frame Record → Frame
frame_laid f =
    record {
      start = f.start;
      sequence = f.sequence;
      shape = f.shape;
      operations = length f.operations;
      next = f.start + length (layout_of f);
    }

-- a frame that was found at `at`, behind one of the sequence `previous`
pub record WholeLaidOut (config : Config) (log : List ℕ) (previous at : ℕ) (f : Frame) : Type 0 where
  pub frame : Replays.Frame Record
  pub told_is : f ≡ frame_laid frame
  pub is : part log f.start (f.next - f.start) ≡ layout_of frame
  pub start_is : f.start ≡ at
  pub follows : Follows previous f.sequence
  pub fits : FrameFits config frame

pub record LogLaidOut : Type 0 where
  pub recovered_is_its_frames : (lent : ℕ) (snapshot log : List ℕ) → Bytes snapshot → Bytes log
      → (i : RecoveryInfo) (words : List ℕ) → Recovers lent snapshot log (Ok i) words → RecoveredLaidOut snapshot log i
  -- where the log is refused: up to the byte that is named
  pub refused_is_its_frames : (lent : ℕ) (snapshot log : List ℕ) → Bytes log → (why : Refusal) (at : ℕ) (words : List ℕ)
      → Recovers lent snapshot log (Err (Refusals.Log why at)) words
      → (S : Snapshot) → read_snapshot lent snapshot ≡ Ok S → BeforeRefusal S.config snapshot log at
  pub whole_is_its_layout : (config : Config) (log : List ℕ) (previous at : ℕ) (f : Frame) → Bytes log
      → FrameAtMeets config log previous at (Ok (Some f)) → WholeLaidOut config log previous at f
  -- the other way: with valid settings, where a layout stands behind a frame that it can follow, `frame_at` finds it
  pub layout_is_whole : (config : Config) (log : List ℕ) (previous : ℕ) (f : Replays.Frame Record) (rest : List ℕ) → validate config ≡ Ok tt
      → FrameFits config f → Follows previous f.sequence → drop f.start log ≡ layout_of f ++ rest
      → (r : Answer (Option Frame)) → FrameAtMeets config log previous f.start r → r ≡ Ok (Some (frame_laid f))
