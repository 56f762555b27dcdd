-- What was accepted: an operation, operations, a frame that was read.
use Rattle.std.specs.Prelude.{ℕ, List, ◌≡◌, Ok}
use Rattle.refusal.specs.Refusal.{Answer}
use Rattle.config.specs.declared.Config.{Config}
use Rattle.rows.specs.declared.Row.{Row}
use Rattle.meaning.specs.Log.{ReadOperation, ReadOperations, frame_at, found}
use Rattle.meaning.specs.Replay as Replays
use Rattle.store_log.specs.declared.Frame.{Frame}
use Rattle.store_log.specs.Told.{frame_found}

pub record Stored (x : Answer ReadOperation) : Type 0 where
  pub value : ReadOperation
  pub is : x ≡ Ok value

pub record StoredAll (x : Answer ReadOperations) : Type 0 where
  pub value : ReadOperations
  pub is : x ≡ Ok value

-- this frame was read there, behind some frame or none
pub record IsFrame (c : Config) (log : List ℕ) (frame : Frame) (f : Replays.Frame Row) : Type 0 where
  pub previous : ℕ
  pub there : frame_at c log previous frame.start ≡ found f frame.next
  pub told : frame ≡ frame_found f frame.next

-- some frame was
pub record FrameThere (c : Config) (log : List ℕ) (frame : Frame) : Type 0 where
  pub meant : Replays.Frame Row
  pub is : IsFrame c log frame meant
