-- A frame's envelope as `frame_at` of meaning/Log reads it: what stands around a payload at a byte of the log.
use Rattle.std.specs.Prelude.{ℕ, ◌+◌, ◌-◌, ◌≤◌, cond, List, ltb, length, Option, Some, None, Ok, Err}
use Rattle.config.specs.Limits.{min_frame, max_frame}
use Rattle.config.specs.declared.Config.{Config}
use Rattle.layout.specs.Layout.{frame_head, frame_length}
use Rattle.refusal.specs.Refusal.{Answer, ◌>>=◌}
use Rattle.meaning.specs.Log.{ReadFrame, too_little, wrong, frame_read, length_at, payload_at}

-- a payload of n bytes, where this many bytes are left; none where too few are
abbrev pub payload_in : ℕ → ℕ → Option ℕ
payload_in left n = cond (ltb left (frame_length n)) None (Some n)

unfoldable pub envelope_at : List ℕ → ℕ → Answer (Option ℕ)
envelope_at log at =
    cond (ltb (length log - at) frame_head) (Ok None) (length_at log at >>= λ n. Ok (payload_in (length log - at) n))

-- the frame that is read where this envelope stands
abbrev pub frame_within : Config → List ℕ → ℕ → ℕ → Answer (Option ℕ) → ReadFrame
frame_within c log previous at (Ok None) = too_little
frame_within c log previous at (Ok (Some n)) = frame_read (at + frame_length n) (payload_at c log previous at n)
frame_within c log previous at (Err why) = wrong why

-- what an envelope around n bytes says
pub record PayloadThere (log : List ℕ) (at n : ℕ) : Type 0 where
  pub low : min_frame ≤ n
  pub high : n ≤ max_frame
  pub there : at + frame_length n ≤ length log
