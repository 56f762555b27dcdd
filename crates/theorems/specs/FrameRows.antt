-- A frame of operations by value: its bytes, the rows that are read where it stands, and what they show.
use Rattle.std.specs.Prelude.{ℕ, ◌+◌, ◌≤◌, ◌<◌, ◌≡◌, true, false, List, [], ◌∷◌, ◌++◌, map, length}
use Rattle.fields.specs.Fields.{bytes}
use Rattle.config.specs.Limits.{max_batch_operations}
use Rattle.config.specs.declared.Config.{Config}
use Rattle.layout.specs.declared.Shape.{Shape}
use Rattle.layout.specs.declared.Shape.TheVariants.{Single, Batch}
use Rattle.rows.specs.declared.Row.{Row}
use Rattle.meaning.specs.Every.{Every}
use Rattle.meaning.specs.Replay.{Operation, put, remove, Frame}
use Rattle.meaning.specs.Records.{Record, seen}
use Rattle.meaning.specs.Log.{found, frame_at}
use Rattle.meaning.specs.Encoder.{Tagged, payload_bytes, frame_bytes}

-- ---- its bytes
abbrev pub encoded_of : Operation Record → Tagged
encoded_of (put r) = record { tag = 1; fields = bytes 8 r.id ++ (r.vector ++ (bytes 4 (length r.caption) ++ r.caption)) }
encoded_of (remove id) = record { tag = 2; fields = bytes 8 id }

-- an operation's tag and its fields
abbrev pub tag_of : Operation Record → ℕ
tag_of o = (encoded_of o).tag

abbrev pub fields_of : Operation Record → List ℕ
fields_of o = (encoded_of o).fields

abbrev pub payload_of : Shape → ℕ → List (Operation Record) → List ℕ
payload_of shape sequence os = payload_bytes shape sequence (map encoded_of os)

abbrev pub frame_of : Shape → ℕ → List (Operation Record) → List ℕ
frame_of shape sequence os = frame_bytes (payload_of shape sequence os)

-- ---- its rows
-- the operation whose ID stands at `at` of a log, as it is read
abbrev pub logged_at : ℕ → Operation Record → Operation Row
logged_at at (put r) = put (record { id = record { 0 = r.id }; deleted = false; from_log = true; caption_length = length r.caption; at = at + 8 })
logged_at at (remove id) = remove id

-- operations behind their tags from `at` on
unfoldable pub logged_from : ℕ → List (Operation Record) → List (Operation Row)
logged_from at [] = []
logged_from at (o ∷ os) = logged_at (at + 1) o ∷ logged_from (at + 1 + length (fields_of o)) os

-- the frame that is read where it stands at `at`
abbrev pub operation_rows : Shape → ℕ → List (Operation Record) → List (Operation Row)
operation_rows Single at os = map (logged_at (at + 17)) os
operation_rows Batch at os = logged_from (at + 21) os

abbrev pub frame_in : Shape → ℕ → ℕ → List (Operation Record) → Frame Row
frame_in shape sequence at os = record { start = at; sequence = sequence; shape = shape; operations = operation_rows shape at os }

-- how many operations a frame of this shape holds
abbrev pub CountHolds : Shape → ℕ → Type 0
CountHolds Single n = n ≡ 1
CountHolds Batch n = (1 ≤ n) × (n ≤ max_batch_operations)

-- the frame before lets this one follow: it is the first, or one more
abbrev pub Follows : ℕ → ℕ → Type 0
Follows previous sequence = 0 < previous → sequence ≡ previous + 1

-- ---- what they show
module _ {A B : Type 0} (h : A → B) where
  -- an operation with its record mapped
  abbrev pub carry_operation : Operation A → Operation B
  carry_operation (put r) = put (h r)
  carry_operation (remove id) = remove id

-- a put record has P
abbrev pub Puts : {A : Type 0} → (A → Type 0) → Operation A → Type 0
Puts P (put r) = P r
Puts P (remove id) = Unit {0}

-- a row's source is the log
abbrev pub FromLog : Row → Type 0
FromLog r = r.from_log ≡ true

-- a frame is found at `at` of a log, and the next begins at `next`; its rows show these operations
pub record ReadBack (shape : Shape) (c : Config) (sequence : ℕ) (os : List (Operation Record)) (snapshot log : List ℕ) (previous at next : ℕ) : Type 0 where
  pub frame : Frame Row
  pub frame_here : frame_at c log previous at ≡ found frame next
  pub start_is : frame.start ≡ at
  pub sequence_is : frame.sequence ≡ sequence
  pub shape_is : frame.shape ≡ shape
  pub operations_are : map (carry_operation (seen c.dimensions snapshot log)) frame.operations ≡ os
  pub from_log : Every (Puts FromLog) frame.operations
