-- How the code's answers tell what `meaning` gives: an operation and where the next begins, a frame by how many operations it has.
use Rattle.std.specs.Prelude.{ℕ, List, length, Option, Some, None, Ok, Err}
use Rattle.fields.specs.Fields.{num}
use Rattle.layout.specs.declared.Shape.{Shape}
use Rattle.layout.specs.declared.Shape.TheVariants.{Single, Batch}
use Rattle.refusal.specs.Refusal.{Answer, told}
use Rattle.rows.specs.declared.Row.{Row}
use Rattle.meaning.specs.Replay.{put, remove}
use Rattle.meaning.specs.Replay as Replays
use Rattle.meaning.specs.Log as Meant
use Rattle.store_log.specs.declared.Operation.{Operation}
use Rattle.store_log.specs.declared.Operation.TheVariants.{Put, Remove}
use Rattle.store_log.specs.declared.ReadOperation.{ReadOperation}
use Rattle.store_log.specs.declared.Frame.{Frame}

-- an operation as the code has it
abbrev pub operation_as : Replays.Operation Row → Operation
operation_as (put r) = Put r
operation_as (remove id) = Remove (record { 0 = id })

abbrev pub operation_read : Meant.ReadOperation → ReadOperation
operation_read x = record { operation = operation_as x.operation; next = x.next }

abbrev pub operation_told : Answer Meant.ReadOperation → Answer ReadOperation
operation_told = told (λ x. Ok (operation_read x)) (λ why. Err why)

-- where the next one begins
abbrev pub next_told : Answer Meant.ReadOperation → Answer ℕ
next_told = told (λ x. Ok x.next) (λ why. Err why)

abbrev pub nexts_told : Answer Meant.ReadOperations → Answer ℕ
nexts_told = told (λ x. Ok x.next) (λ why. Err why)

-- how many operations stand behind opcode and sequence
abbrev pub operation_count : Shape → List ℕ → ℕ → ℕ
operation_count Single log at = 1
operation_count Batch log at = num log at 4

-- a frame that is found, and where the next begins
abbrev pub frame_found : Replays.Frame Row → ℕ → Frame
frame_found f next =
    record { start = f.start; sequence = f.sequence; shape = f.shape; operations = length f.operations; next = next }

abbrev pub frame_told : Meant.ReadFrame → Answer (Option Frame)
frame_told Meant.too_little = Ok None
frame_told (Meant.wrong why) = Err why
frame_told (Meant.found f next) = Ok (Some (frame_found f next))
