-- What is asked of an answer before it is said, so that no place in it is past what a number holds.
use Rattle.std.specs.Prelude.{ℕ, ◌+◌, ◌≤◌, Option, Some, None, Ok, Err}
use Rattle.refusal.specs.Refusal.{Answer}
use Rattle.config.specs.Limits.{max_dimensions}
use Rattle.layout.specs.Layout.{item_length}
use Rattle.store_log.specs.declared.Frame.{Frame}
use Rattle.store_log.specs.declared.ReadOperation.{ReadOperation}
use Rattle.store_log.specs.declared.Operation.{Operation}
use Rattle.store_log.specs.declared.Operation.TheVariants as Operations

-- a frame has 29 bytes at least
abbrev pub FrameFits : Answer (Option Frame) → Type 0
FrameFits (Ok None) = Unit
FrameFits (Ok (Some f)) = f.start + 29 ≤ f.next
FrameFits (Err why) = Unit

-- a put ends behind its caption
abbrev pub ChangeFits : ℕ → Operation → ℕ → Type 0
ChangeFits d (Operations.Put r) next = (d ≤ max_dimensions) × (r.at + item_length d r.caption_length ≤ next)
ChangeFits d (Operations.Remove id) next = Unit

abbrev pub OperationFits : ℕ → Answer ReadOperation → Type 0
OperationFits d (Ok x) = ChangeFits d x.operation x.next
OperationFits d (Err why) = Unit
