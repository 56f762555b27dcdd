-- A log walked by its calls gives what the definitions decode it to: `frame_at` from byte 0 on its frames, and of each frame that it
-- finds `operation_at` its operations, none left out, none twice, none refused, to the frame's end. Of
-- a frame that `lambspool_frame_at` finds, `lambspool_operation_at` does so from C too.
use Rattle.std.specs.Prelude.{ℕ, zero, suc, ◌≡◌, List, [], ◌∷◌, map, length, Ok, Err, Some}
use Rattle.refusal.specs.Refusal.{Answer, ◌>>=◌}
use Rattle.config.specs.Settings.{validate}
use Rattle.config.specs.declared.Config.{Config}
use Rattle.layout.specs.declared.Shape.{Shape}
use Rattle.rows.specs.declared.Row.{Row}
use Rattle.meaning.specs.Replay.{Operation, put, remove, tail, Frames}
use Rattle.meaning.specs.Replay as Replays
use Rattle.meaning.specs.Log.{ReadOperations, found, go_on_reading, frame_at, frames_of}
use Rattle.meaning.specs.Calls.{frame_call, first_operation, operations_end, operation_call}
use Rattle.store_log.specs.declared.Frame.{Frame}
use Rattle.store_log.specs.declared.ReadOperation.{ReadOperation}
use Rattle.store_log.specs.declared.Operation as Told
use Rattle.store_log.specs.declared.Operation.TheVariants as Operations
use Rattle.store_log.specs.Told.{operation_as, operation_told, frame_told}
use Rattle.lambspool.specs.declared.Frame as SaidFrame
use Rattle.lambspool.specs.declared.Operation as Said
use Rattle.lambspool.specs.Asked.{settings_of, frame_asked, operation_asked}
use Rattle.lambspool.specs.Said.{frame_said, operation_said}

-- ---- the walks, over what the calls are said to give
-- n operations from `at` on, each where the one before ended; a refusal ends it
unfoldable pub operations_walked : ℕ → Config → List ℕ → Shape → ℕ → ℕ → Answer ReadOperations
operations_walked zero c log shape end at = Ok (record { operations = []; next = at })
operations_walked (suc n) c log shape end at = do
  this ← operation_call c log shape end at
  rest ← operations_walked n c log shape end this.next
  Ok (record { operations = this.operation ∷ rest.operations; next = rest.next })

-- at most n frames from `at` on, each where the one before ended, with its sequence
unfoldable pub frames_walked : ℕ → Config → List ℕ → ℕ → ℕ → Frames Row
frames_walked zero c log previous at = record { frames = []; ended = tail at }
frames_walked (suc n) c log previous at = go_on_reading (frames_walked n c log) at (frame_call c log previous at)

-- ---- the answers of calls one after another, each at the byte that the one before names as the next
-- `call at` is what the contract says of a call at that byte
abbrev pub Answers : {A : Type 0} → (A → ℕ) → (ℕ → A) → ℕ → List A → Type 0
Answers next call at [] = Unit
Answers next call at (r ∷ rs) = (r ≡ call at) × Answers next call (next r) rs

abbrev pub behind_all : {A : Type 0} → (A → ℕ) → ℕ → List A → ℕ
behind_all next at [] = at
behind_all next at (r ∷ rs) = behind_all next (next r) rs

-- ---- `operation_at`: where the next one begins, and the operation that it tells
abbrev pub behind : Answer ReadOperation → ℕ
behind (Ok x) = x.next
behind (Err why) = 0

abbrev pub meant_by : Told.Operation → Operation Row
meant_by (Operations.Put r) = put r
meant_by (Operations.Remove id) = remove id.0

abbrev pub operation_in : Answer ReadOperation → Answer (Operation Row)
operation_in (Ok x) = Ok (meant_by x.operation)
operation_in (Err why) = Err why

-- the answers to as many calls as the frame has operations
pub record FrameWalked (c : Config) (log : List ℕ) (previous at : ℕ) (frame : Frame) (rs : List (Answer ReadOperation)) : Type 0 where
  pub meant : Replays.Frame Row
  pub there : frame_at c log previous at ≡ found meant frame.next
  pub operations_are : map operation_in rs ≡ map Ok meant.operations
  pub ends_there : behind_all behind (first_operation frame.shape frame.start) rs ≡ operations_end frame.next

-- ---- the same of the C entry, whose answer has its values by name
abbrev pub next_said : Said.Operation → ℕ
next_said r = r.next

-- all but where the next one begins
abbrev pub without_next : Said.Operation → Said.Operation
without_next r =
    record { number = r.number; tag = r.tag; id = r.id; vector = r.vector; caption = r.caption; caption_length = r.caption_length; next = 0 }

abbrev pub said_of : ℕ → Operation Row → Said.Operation
said_of d o = operation_said d (Ok (record { operation = operation_as o; next = 0 }))

pub record SaidWalked (d m ef seed metric : ℕ) (log : List ℕ) (previous at : ℕ) (frame : SaidFrame.Frame) (rs : List Said.Operation) : Type 0 where
  pub config : Config
  pub settings_are : settings_of d m ef seed metric ≡ Ok config
  pub meant : Replays.Frame Row
  pub there : frame_at config log previous at ≡ found meant frame.next
  pub operations_are : map without_next rs ≡ map (said_of d) meant.operations
  pub ends_there : behind_all next_said frame.first rs ≡ frame.end

pub record LogWalked : Type 0 where
  pub operations_walked_lem : (c : Config) (log : List ℕ) (previous at : ℕ) (f : Replays.Frame Row) (next : ℕ) → frame_call c log previous at ≡ found f next
      → operations_walked (length f.operations) c log f.shape (operations_end next) (first_operation f.shape f.start)
      ≡ Ok (record { operations = f.operations; next = operations_end next })
  -- as many frames as the log has bytes are enough
  pub frames_walked_lem : (c : Config) (log : List ℕ) → validate c ≡ Ok tt → frames_walked (length log) c log 0 0 ≡ frames_of c log
  -- in the code: a frame that `frame_at` finds (`frame_at_one_answer`), and the answers of `operation_at` (`log_operation_at_one_answer`)
  pub frame_walked : (c : Config) (log : List ℕ) (previous at : ℕ) (frame : Frame) → Ok (Some frame) ≡ frame_told (frame_call c log previous at)
      → (rs : List (Answer ReadOperation)) → length rs ≡ frame.operations
      → Answers behind (λ k. operation_told (operation_call c log frame.shape (operations_end frame.next) k)) (first_operation frame.shape frame.start) rs
      → FrameWalked c log previous at frame rs
  -- from C: a frame of any kind that `lambspool_frame_at` finds (`door_frame_at_one_answer`), and the answers of `lambspool_operation_at`
  -- (`door_operation_at_one_answer`) with the frame's own kind, end and first place
  pub said_walked : (d m ef seed metric : ℕ) (log : List ℕ) (previous at : ℕ) (frame : SaidFrame.Frame)
      → frame ≡ frame_said (frame_told (frame_asked d m ef seed metric log previous at)) → (frame.kind ≡ 0 → ⊥)
      → (rs : List Said.Operation) → length rs ≡ frame.operations
      → Answers next_said (λ k. operation_said d (operation_told (operation_asked d m ef seed metric log frame.kind frame.end k))) frame.first rs
      → SaidWalked d m ef seed metric log previous at frame rs
