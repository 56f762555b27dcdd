-- What an encoder writes is decoded as the operations that were asked for, wherever the frame stands in a log, and at a log's end.
use Rattle.std.specs.Prelude.{ℕ, ◌+◌, ◌≤◌, ◌<◌, ◌^◌, ◌≡◌, List, [], ◌∷◌, ◌++◌, map, length, drop, Ok}
use Rattle.fields.specs.Fields.{Bytes}
use Rattle.config.specs.Limits.{min_frame, max_frame}
use Rattle.config.specs.declared.Config.{Config}
use Rattle.layout.specs.Layout.{frame_length}
use Rattle.layout.specs.declared.Shape.{Shape}
use Rattle.rows.specs.declared.Row.{Row}
use Rattle.meaning.specs.Every.{Every}
use Rattle.meaning.specs.Replay.{Operation, Frame, tail}
use Rattle.meaning.specs.Records.{Record, seen}
use Rattle.meaning.specs.Log.{frames_of}
use Rattle.meaning.specs.Encoder.{encode}
use Rattle.theorems.specs.FrameLists.{last_sequence}
use Rattle.theorems.specs.Requested.{requested}
use Rattle.theorems.specs.FrameRows.{payload_of, frame_in, Follows, carry_operation, ReadBack}

-- the bytes of a frame that holds these operations
pub record FrameOf (shape : Shape) (c : Config) (sequence : ℕ) (os : List (Operation Record)) (bs : List ℕ) : Type 0 where
  pub length_is : length bs ≡ frame_length (length (payload_of shape sequence os))
  pub payload_least : min_frame ≤ length (payload_of shape sequence os)
  pub payload_most : length (payload_of shape sequence os) ≤ max_frame
  -- it is read back wherever it stands
  pub back : (snapshot log : List ℕ) (previous at : ℕ) (rest : List ℕ) → drop at log ≡ bs ++ rest → Follows previous sequence
      → ReadBack shape c sequence os snapshot log previous at (at + length bs)
  -- appended to a log whose bytes are all read: its frames, then this one, and no tail
  pub appended : (log : List ℕ) (fs : List (Frame Row)) → frames_of c log ≡ record { frames = fs; ended = tail (length log) } → Follows (last_sequence 0 fs) sequence
      → frames_of c (log ++ bs) ≡ record { frames = fs ++ (frame_in shape sequence (length log) os ∷ []); ended = tail (length (log ++ bs)) }
  pub appended_seen : (snapshot log : List ℕ)
      → map (carry_operation (seen c.dimensions snapshot (log ++ bs))) (frame_in shape sequence (length log) os).operations ≡ os

pub record FrameReadBack : Type 0 where
  pub encode_back : (shape : Shape) (c : Config) (sequence : ℕ) (words coords captions : List ℕ) (room : ℕ) (bs : List ℕ)
      → Every (λ x. x < 2 ^ 64) words → sequence < 256 ^ 8 → encode shape c sequence words coords captions room ≡ Ok bs
      → FrameOf shape c sequence (requested c words coords captions) bs
  pub encode_bytes : (shape : Shape) (c : Config) (sequence : ℕ) (words coords captions : List ℕ) (room : ℕ) (bs : List ℕ)
      → Every (λ x. x < 2 ^ 64) words → sequence < 256 ^ 8 → encode shape c sequence words coords captions room ≡ Ok bs
      → Bytes captions → Bytes bs
