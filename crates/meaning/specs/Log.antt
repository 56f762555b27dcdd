-- A log as it is read: one frame, then the next, each decoded whole before anything is applied.
use Rattle.std.specs.Prelude.{ℕ, zero, suc, ◌+◌, ◌*◌, ◌-◌, ◌/◌, Bool, true, false, not, cond, List, [], ◌∷◌, length, ltb, eqb, Ok, Err}
use Rattle.crc32.specs.Crc.{crc_of}
use Rattle.fields.specs.Fields.{part, num}
use Rattle.config.specs.Limits.{min_frame, max_frame, max_batch_operations}
use Rattle.config.specs.declared.Config.{Config}
use Rattle.refusal.specs.Refusal.{Answer, ◌>>=◌, refuse}
use Rattle.refusal.specs.declared.Refusal.{Refusal}
use Rattle.refusal.specs.declared.Refusal.TheVariants.{PastTheEnd, BytesLeftOver, WrongLengthCrc, WrongLength, WrongPayloadCrc, WrongSequence, WrongBatchCount, UnknownOperation}
use Rattle.meaning.specs.Replay.{Operation, put, remove, Frame, tail, bad, Frames}
use Rattle.layout.specs.Layout.{frame_head, frame_length}
use Rattle.layout.specs.declared.Shape.{Shape}
use Rattle.layout.specs.declared.Shape.TheVariants.{Single, Batch}
use Rattle.rows.specs.declared.Row.{Row}
use Rattle.meaning.specs.Item.{item_at}

-- an operation read from a payload, and where the next one begins
pub record ReadOperation : Type 0 where
  pub operation : Operation Row
  pub next : ℕ

-- a put's row, whose ID stands at `at`
abbrev pub put_row : Config → List ℕ → ℕ → ℕ → ReadOperation
put_row c log at caption_length =
    record {
      operation =
          put
          (record {
            id = record { 0 = num log at 8 };
            deleted = false;
            from_log = true;
            caption_length = caption_length;
            at = at + 8;
          });
      next = at + 12 + 4 * c.dimensions + caption_length;
    }

-- one operation by its tag: its ID at `at` before 26; 1 is a put, 2 a delete
unfoldable pub operation_at : Config → List ℕ → ℕ → ℕ → ℕ → Answer ReadOperation
operation_at c log end tag at = do
  _ ← refuse PastTheEnd (ltb end (at + 8))
  cond (eqb tag 1) (item_at PastTheEnd c log end (at + 8) >>= λ caption_length. Ok (put_row c log at caption_length))
      (cond (eqb tag 2) (Ok (record { operation = remove (num log at 8); next = at + 8 }))
      (Err UnknownOperation))

pub record ReadOperations : Type 0 where
  pub operations : List (Operation Row)
  pub next : ℕ

-- a batch's operations, each behind its tag
unfoldable pub operations_at : ℕ → Config → List ℕ → ℕ → ℕ → Answer ReadOperations
operations_at zero c log end at = Ok (record { operations = []; next = at })
operations_at (suc n) c log end at = do
  _ ← refuse PastTheEnd (ltb end (at + 1))
  this ← operation_at c log end (num log at 1) (at + 1)
  rest ← operations_at n c log end this.next
  Ok (record { operations = this.operation ∷ rest.operations; next = rest.next })

-- the count of a batch: 1..=1024, and at most (bytes left) / 9. A payload has 17 bytes at least, so the count's field is there
unfoldable pub batch_at : Config → List ℕ → ℕ → ℕ → Answer ReadOperations
batch_at c log end at = do
  _ ← refuse WrongBatchCount (ltb (num log at 4) 1)
  _ ← refuse WrongBatchCount (ltb max_batch_operations (num log at 4))
  _ ← refuse WrongBatchCount (ltb ((end - (at + 4)) / 9) (num log at 4))
  operations_at (num log at 4) c log end (at + 4)

-- a single frame has one operation, whose tag is the opcode
unfoldable pub single_at : Config → List ℕ → ℕ → ℕ → ℕ → Answer ReadOperations
single_at c log end opcode at = do
  this ← operation_at c log end opcode at
  Ok (record { operations = this.operation ∷ []; next = this.next })

-- 24: sequence 0, or not one more than the frame before; no frame bears 0, so `previous` is 0 before the first
abbrev pub out_of_order : ℕ → ℕ → Bool
out_of_order previous sequence = cond (eqb sequence 0) true (cond (eqb previous 0) false (not (eqb sequence (previous + 1))))

-- opcode 3 is a batch
abbrev pub shape_of : ℕ → Shape
shape_of opcode = cond (eqb opcode 3) Batch Single

-- the operations behind opcode and sequence
abbrev pub operations_of : Shape → Config → List ℕ → ℕ → ℕ → ℕ → Answer ReadOperations
operations_of Single c log end opcode at = single_at c log end opcode at
operations_of Batch c log end opcode at = batch_at c log end at

-- the payload's CRC behind it, of the frame at `at` with a payload of n bytes
abbrev pub payload_crc_holds : List ℕ → ℕ → ℕ → Bool
payload_crc_holds log at n = eqb (crc_of (part log (at + 8) n)) (num log (at + 8 + n) 4)

-- what such a payload, 17 bytes at least, is decoded to: opcode, sequence, 24, every operation, 16
abbrev pub decoded_at : Config → List ℕ → ℕ → ℕ → ℕ → Answer (Frame Row)
decoded_at c log previous at n = do
  _ ← refuse WrongSequence (out_of_order previous (num log (at + 9) 8))
  found ← operations_of (shape_of (num log (at + 8) 1)) c log (at + 8 + n) (num log (at + 8) 1) (at + 17)
  _ ← refuse BytesLeftOver (not (eqb found.next (at + 8 + n)))
  Ok (record { start = at; sequence = num log (at + 9) 8; shape = shape_of (num log (at + 8) 1); operations = found.operations })

-- the frame at `at` whose payload of n bytes is all there: 23 before all else
unfoldable pub payload_at : Config → List ℕ → ℕ → ℕ → ℕ → Answer (Frame Row)
payload_at c log previous at n = do
  _ ← refuse WrongPayloadCrc (not (payload_crc_holds log at n))
  decoded_at c log previous at n

-- what stands at a byte of the log: too little for a frame, a frame that is refused, or a frame and where the next begins
pub data ReadFrame : Type 0 where
  too_little : ReadFrame
  wrong : Refusal → ReadFrame
  found : Frame Row → ℕ → ReadFrame

-- 21 before 22
unfoldable pub length_at : List ℕ → ℕ → Answer ℕ
length_at log at = do
  _ ← refuse WrongLengthCrc (not (eqb (crc_of (part log at 4)) (num log (at + 4) 4)))
  _ ← refuse WrongLength (ltb (num log at 4) min_frame)
  _ ← refuse WrongLength (ltb max_frame (num log at 4))
  Ok (num log at 4)

abbrev pub frame_read : ℕ → Answer (Frame Row) → ReadFrame
frame_read next (Ok f) = found f next
frame_read next (Err why) = wrong why

-- a payload or its CRC that is not all there is a tail
abbrev pub with_length : Config → List ℕ → ℕ → ℕ → Answer ℕ → ReadFrame
with_length c log previous at (Ok n) =
    cond (ltb (length log - at) (frame_length n)) too_little (frame_read (at + frame_length n) (payload_at c log previous at n))
with_length c log previous at (Err why) = wrong why

-- fewer than 8 bytes left are a tail
unfoldable pub frame_at : Config → List ℕ → ℕ → ℕ → ReadFrame
frame_at c log previous at = cond (ltb (length log - at) frame_head) too_little (with_length c log previous at (length_at log at))

abbrev pub join : Frame Row → Frames Row → Frames Row
join f more = record { frames = f ∷ more.frames; ended = more.ended }

-- what follows what stands at `at`
abbrev pub go_on_reading : (ℕ → ℕ → Frames Row) → ℕ → ReadFrame → Frames Row
go_on_reading more at too_little = record { frames = []; ended = tail at }
go_on_reading more at (wrong why) = record { frames = []; ended = bad why at }
go_on_reading more at (found f next) = join f (more f.sequence next)

-- the frames from `at` on; no log has more frames than bytes
unfoldable pub frames_from : ℕ → Config → List ℕ → ℕ → ℕ → Frames Row
frames_from zero c log previous at = record { frames = []; ended = tail at }
frames_from (suc n) c log previous at = go_on_reading (frames_from n c log) at (frame_at c log previous at)

-- all of them: as many turns as the log has bytes are enough at every byte
unfoldable pub frames_at : Config → List ℕ → ℕ → ℕ → Frames Row
frames_at c log previous at = frames_from (length log) c log previous at

unfoldable pub frames_of : Config → List ℕ → Frames Row
frames_of c log = frames_from (length log) c log 0 0
