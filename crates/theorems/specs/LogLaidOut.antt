-- A frame that is read is, byte for byte, the layout of the operations that its rows show; so a log is its frames laid out one behind
-- the other, from its first byte to the one at which a tail begins, or a frame that is refused.
use Rattle.std.specs.Prelude.{ℕ, ◌+◌, ◌-◌, ◌≤◌, ◌<◌, ◌^◌, false, ◌≡◌, List, [], ◌∷◌, ◌++◌, map, length, take, drop, Ok}
use Rattle.fields.specs.Fields.{part, Bytes}
use Rattle.config.specs.Limits.{min_frame, max_frame}
use Rattle.config.specs.declared.Config.{Config}
use Rattle.refusal.specs.declared.Refusal.{Refusal}
use Rattle.rows.specs.declared.Row.{Row}
use Rattle.meaning.specs.Every.{Every}
use Rattle.meaning.specs.Replay.{Operation, put, remove, Frame, End, tail, bad}
use Rattle.meaning.specs.Records.{Record, seen}
use Rattle.meaning.specs.Snapshot.{Snapshot, read_snapshot}
use Rattle.meaning.specs.Log.{found, frame_at, frames_of}
use Rattle.meaning.specs.Recovery.{Recovered, recovered, refused_log, recover, tail_length}
use Rattle.theorems.specs.Storable.{Fit}
use Rattle.theorems.specs.FrameLists.{Numbered, byte_after}
use Rattle.theorems.specs.FrameRows.{payload_of, frame_of, frame_in, CountHolds, Follows, carry_operation}

-- ---- a frame by value: its first byte, its sequence, its shape, its operations with their records
-- its bytes
abbrev pub layout_of : Frame Record → List ℕ
layout_of f = frame_of f.shape f.sequence f.operations

-- the frame that a reader makes of them, at its first byte of a log
abbrev pub read_as : Frame Record → Frame Row
read_as f = frame_in f.shape f.sequence f.start f.operations

-- the frame that rows show
abbrev pub frame_shown : Config → List ℕ → List ℕ → Frame Row → Frame Record
frame_shown c snapshot log f =
    record {
      start = f.start;
      sequence = f.sequence;
      shape = f.shape;
      operations = map (carry_operation (seen c.dimensions snapshot log)) f.operations;
    }

-- an operation that a reader accepts: a live record is put, or an ID of 8 bytes is deleted
abbrev pub OperationFits : Config → Operation Record → Type 0
OperationFits c (put r) = Fit c r × (r.deleted ≡ false)
OperationFits c (remove id) = id < 256 ^ 8

-- a frame that a reader accepts: one operation, or a batch's 1 to 1024; a payload of 17 to 8,388,608 bytes
pub record FrameFits (c : Config) (f : Frame Record) : Type 0 where
  pub sequence_some : 0 < f.sequence
  pub sequence_fits : f.sequence < 256 ^ 8
  pub count_holds : CountHolds f.shape (length f.operations)
  pub operations_fit : Every (OperationFits c) f.operations
  pub payload_least : min_frame ≤ length (payload_of f.shape f.sequence f.operations)
  pub payload_most : length (payload_of f.shape f.sequence f.operations) ≤ max_frame

-- ---- one frame, read as f where it stands at `at` of a log, behind a frame of the sequence `previous`
pub record FrameLaidOut (c : Config) (snapshot log : List ℕ) (previous at : ℕ) (f : Frame Row) (next : ℕ) : Type 0 where
  -- the log's bytes from there up to the next frame's first are the layout of what the rows show
  pub is : part log at (next - at) ≡ layout_of (frame_shown c snapshot log f)
  pub next_is : next ≡ at + length (layout_of (frame_shown c snapshot log f))
  pub start_is : f.start ≡ at
  pub follows : Follows previous f.sequence
  pub fits : FrameFits c (frame_shown c snapshot log f)
  -- and the rows are where this layout has them
  pub rows_are : f ≡ read_as (frame_shown c snapshot log f)

-- ---- frames one behind the other
unfoldable pub layouts_of : List (Frame Record) → List ℕ
layouts_of [] = []
layouts_of (f ∷ fs) = layout_of f ++ layouts_of fs

-- each begins where the layout of the one before it ends, the first at `at`
abbrev pub StandFrom : ℕ → List (Frame Record) → Type 0
StandFrom at [] = Unit {0}
StandFrom at (f ∷ fs) = (f.start ≡ at) × StandFrom (at + length (layout_of f)) fs

-- frames that a log can hold from its first byte on
pub record FramesFit (c : Config) (fs : List (Frame Record)) : Type 0 where
  pub each : Every (FrameFits c) fs
  pub stand : StandFrom 0 fs
  pub numbered : Numbered fs

abbrev pub frames_shown : Config → List ℕ → List ℕ → List (Frame Row) → List (Frame Record)
frames_shown c snapshot log fs = map (frame_shown c snapshot log) fs

-- the first k bytes of a log, of which the frames fs were read
pub record FrontLaidOut (c : Config) (snapshot log : List ℕ) (fs : List (Frame Row)) (k : ℕ) : Type 0 where
  -- they are the layouts of what the frames' rows show
  pub is : take k log ≡ layouts_of (frames_shown c snapshot log fs)
  pub length_is : k ≡ length (layouts_of (frames_shown c snapshot log fs))
  pub fit : FramesFit c (frames_shown c snapshot log fs)
  pub rows_are : fs ≡ map read_as (frames_shown c snapshot log fs)

-- a log that was recovered: its frames, each counted once, and the tail's bytes
pub record LogLaidOut (snapshot log : List ℕ) (r : Recovered) : Type 0 where
  pub front : FrontLaidOut r.config snapshot log (frames_of r.config log).frames r.keep
  pub is : log ≡ layouts_of (frames_shown r.config snapshot log (frames_of r.config log).frames) ++ drop r.keep log
  pub tail_is : length (drop r.keep log) ≡ tail_length log r
  pub counted : r.state.replayed + r.state.skipped ≡ length (frames_of r.config log).frames

-- a log that was refused at this byte: all before it are frames that were read
pub record BeforeRefusal (c : Config) (snapshot log : List ℕ) (at : ℕ) : Type 0 where
  pub frames : List (Frame Row)
  pub behind : List (Frame Row)
  pub are_read : (frames_of c log).frames ≡ frames ++ behind
  pub front : FrontLaidOut c snapshot log frames at

-- whatever the snapshot: what a log's frames put lies in the log
pub record LaidOutLogs : Type 0 where
  pub frame_is_its_layout : (c : Config) (snapshot log : List ℕ) (previous at : ℕ) (f : Frame Row) (next : ℕ) → Bytes log
      → frame_at c log previous at ≡ found f next → FrameLaidOut c snapshot log previous at f next
  -- a front of the frames that were read: up to the byte behind the last of them
  pub front_is_its_frames : (c : Config) (snapshot log : List ℕ) (fs gs : List (Frame Row)) (end : End) → Bytes log
      → frames_of c log ≡ record { frames = fs ++ gs; ended = end } → FrontLaidOut c snapshot log fs (byte_after log 0 fs)
  -- all of them: up to the byte at which the tail begins, or the frame that is refused
  pub up_to_a_tail : (c : Config) (snapshot log : List ℕ) (fs : List (Frame Row)) (k : ℕ) → Bytes log
      → frames_of c log ≡ record { frames = fs; ended = tail k } → FrontLaidOut c snapshot log fs k
  pub up_to_a_refusal : (c : Config) (snapshot log : List ℕ) (fs : List (Frame Row)) (why : Refusal) (k : ℕ) → Bytes log
      → frames_of c log ≡ record { frames = fs; ended = bad why k } → FrontLaidOut c snapshot log fs k
  pub log_is_its_frames : (lent : ℕ) (snapshot log : List ℕ) (r : Recovered) → Bytes log
      → recover lent snapshot log ≡ recovered r → LogLaidOut snapshot log r
  pub refused_is_its_frames : (lent : ℕ) (snapshot log : List ℕ) (S : Snapshot) (why : Refusal) (at : ℕ) → Bytes log → read_snapshot lent snapshot ≡ Ok S
      → recover lent snapshot log ≡ refused_log why at → BeforeRefusal S.config snapshot log at
  -- the other way: a layout is read as its frame wherever it stands behind one that it can follow; and so are layouts from a log's first
  -- byte on, with fewer than 8 bytes behind them
  pub layout_is_read : (c : Config) (log : List ℕ) (previous : ℕ) (f : Frame Record) (rest : List ℕ) → FrameFits c f → Follows previous f.sequence
      → drop f.start log ≡ layout_of f ++ rest → frame_at c log previous f.start ≡ found (read_as f) (f.start + length (layout_of f))
  pub layouts_are_read : (c : Config) (fs : List (Frame Record)) (rest : List ℕ) → FramesFit c fs → length rest < 8
      → frames_of c (layouts_of fs ++ rest) ≡ record { frames = map read_as fs; ended = tail (length (layouts_of fs)) }
