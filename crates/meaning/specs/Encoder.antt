-- The encoders of a single frame and of a batch: what a request's words ask for, the refusals in document 01's order, the frame's bytes.
use Rattle.std.specs.Prelude.{ℕ, zero, suc, ◌+◌, ◌*◌, ◌/◌, ◌%◌, Bool, not, cond, List, [], ◌∷◌, ◌++◌, length, take, drop, get_or, ltb, eqb, Ok}
use Rattle.crc32.specs.Crc.{crc_of}
use Rattle.utf8.specs.Utf8.{is_utf8}
use Rattle.coordinates.specs.Coordinates.{coordinate_bytes}
use Rattle.fields.specs.Fields.{part, bytes}
use Rattle.config.specs.Limits.{max_frame, max_batch_operations}
use Rattle.config.specs.declared.Config.{Config}
use Rattle.rows.specs.Rows.{operation_of}
use Rattle.refusal.specs.Refusal.{Answer, ◌>>=◌, refuse}
use Rattle.refusal.specs.declared.Refusal.TheVariants.{CaptionTooLong, NotUtf8, WrongLength, WrongSequence, WrongBatchCount, OutputTooShort, RequestMalformed}
use Rattle.config.specs.Settings.{validate, caption_limit}
use Rattle.layout.specs.Layout.{frame_length}
use Rattle.layout.specs.declared.Shape.{Shape}
use Rattle.layout.specs.declared.Shape.TheVariants.{Single, Batch}
use Rattle.meaning.specs.Item.{coordinates}

-- an operation as it is asked for: an ID and a packed word (put, caption length, caption offset)
pub record Asked : Type 0 where
  pub id : ℕ
  pub word : ℕ

-- n operations of a request's words, from operation k on
unfoldable pub asked_from : ℕ → ℕ → List ℕ → List Asked
asked_from zero k words = []
asked_from (suc n) k words = record { id = get_or words (2 * k) 0; word = get_or words (2 * k + 1) 0 } ∷ asked_from n (suc k) words

abbrev pub asked : List ℕ → List Asked
asked words = asked_from (length words / 2) 0 words

abbrev pub is_put : Asked → Bool
is_put o = (operation_of o.id o.word).put

abbrev pub asked_length : Asked → ℕ
asked_length o = (operation_of o.id o.word).caption_length

abbrev pub asked_start : Asked → ℕ
asked_start o = (operation_of o.id o.word).at

unfoldable pub put_count : List Asked → ℕ
put_count [] = 0
put_count (o ∷ os) = cond (is_put o) (suc (put_count os)) (put_count os)

-- an operation's bytes: its tag stands before the sequence in a single frame and before the fields in a batch
pub record Tagged : Type 0 where
  pub tag : ℕ
  pub fields : List ℕ

-- a put's fields: ID, coordinates, caption length, caption
abbrev pub put_fields : ℕ → List ℕ → ℕ → List ℕ → List ℕ
put_fields id coords caption_length caption = bytes 8 id ++ (coordinate_bytes coords ++ (bytes 4 caption_length ++ caption))

-- A put of this ID whose caption has n bytes from `start` on: 14, 33 (caption range outside its buffer), 12, 13, 15.
-- Coordinates come as the bits of their f32, one word each.
abbrev pub put_for : Config → List ℕ → List ℕ → ℕ → ℕ → ℕ → Answer Tagged
put_for c coords captions id n start = do
  _ ← refuse CaptionTooLong (ltb (caption_limit c) n)
  _ ← refuse RequestMalformed (ltb (length captions) (start + n))
  _ ← coordinates c (coordinate_bytes coords)
  _ ← refuse NotUtf8 (not (is_utf8 (part captions start n)))
  Ok (record { tag = 1; fields = put_fields id coords n (part captions start n) })

unfoldable pub encode_put : Config → List ℕ → List ℕ → Asked → Answer Tagged
encode_put c coords captions o = put_for c coords captions o.id (asked_length o) (asked_start o)

-- per delete 33 if its packed word is not 0
unfoldable pub encode_delete : Asked → Answer Tagged
encode_delete o = do
  _ ← refuse RequestMalformed (not (eqb o.word 0))
  Ok (record { tag = 2; fields = bytes 8 o.id })

-- a put takes the first d coordinates
abbrev pub encode_operation : Config → List ℕ → List ℕ → Asked → Answer Tagged
encode_operation c coords captions o = cond (is_put o) (encode_put c (take c.dimensions coords) captions o) (encode_delete o)

-- operations in order; each put takes the next d coordinates
unfoldable pub encode_all : Config → List ℕ → List ℕ → List Asked → Answer (List Tagged)
encode_all c coords captions [] = Ok []
encode_all c coords captions (o ∷ os) = do
  this ← encode_operation c coords captions o
  rest ← encode_all c (cond (is_put o) (drop c.dimensions coords) coords) captions os
  Ok (this ∷ rest)

-- 25, batch only: half the words, rounded down, not 1..=1024
abbrev pub batch_count : Shape → ℕ → Answer (Unit {0})
batch_count Single n = Ok tt
batch_count Batch n = do
  _ ← refuse WrongBatchCount (ltb n 1)
  refuse WrongBatchCount (ltb max_batch_operations n)

-- a single frame has exactly one operation
abbrev pub single_count : Shape → ℕ → Answer (Unit {0})
single_count Single n = refuse RequestMalformed (not (eqb n 1))
single_count Batch n = Ok tt

unfoldable pub tagged_bytes : List Tagged → List ℕ
tagged_bytes [] = []
tagged_bytes (e ∷ es) = (e.tag ∷ e.fields) ++ tagged_bytes es

-- what a single frame's one operation is
abbrev pub single_bytes : ℕ → List Tagged → List ℕ
single_bytes sequence [] = []
single_bytes sequence (e ∷ es) = e.tag ∷ (bytes 8 sequence ++ e.fields)

abbrev pub payload_bytes : Shape → ℕ → List Tagged → List ℕ
payload_bytes Single sequence es = single_bytes sequence es
payload_bytes Batch sequence es = 3 ∷ (bytes 8 sequence ++ (bytes 4 (length es) ++ tagged_bytes es))

-- length, its CRC, payload, its CRC
unfoldable pub frame_bytes : List ℕ → List ℕ
frame_bytes payload =
    bytes 4 (length payload) ++ (bytes 4 (crc_of (bytes 4 (length payload))) ++ (payload ++ bytes 4 (crc_of payload)))

-- 22, then 32
unfoldable pub sealed : ℕ → List ℕ → Answer (List ℕ)
sealed room payload = do
  _ ← refuse WrongLength (ltb max_frame (length payload))
  _ ← refuse OutputTooShort (ltb room (frame_length (length payload)))
  Ok (frame_bytes payload)

-- 25, then 33: how many words there are
unfoldable pub words_checked : Shape → ℕ → Answer (Unit {0})
words_checked shape n = do
  _ ← batch_count shape (n / 2)
  _ ← refuse RequestMalformed (not (eqb (n % 2) 0))
  single_count shape (n / 2)

-- what follows: how many coordinates there are, the operations, the room
unfoldable pub encode_operations : Shape → Config → ℕ → List ℕ → List ℕ → List ℕ → ℕ → Answer (List ℕ)
encode_operations shape c sequence words coords captions room = do
  _ ← refuse RequestMalformed (not (eqb (length coords) (c.dimensions * put_count (asked words))))
  operations ← encode_all c coords captions (asked words)
  sealed room (payload_bytes shape sequence operations)

-- once the settings are valid: 24 for sequence 0, then the words
unfoldable pub encode_valid : Shape → Config → ℕ → List ℕ → List ℕ → List ℕ → ℕ → Answer (List ℕ)
encode_valid shape c sequence words coords captions room = do
  _ ← refuse WrongSequence (eqb sequence 0)
  _ ← words_checked shape (length words)
  encode_operations shape c sequence words coords captions room

unfoldable pub encode : Shape → Config → ℕ → List ℕ → List ℕ → List ℕ → ℕ → Answer (List ℕ)
encode shape c sequence words coords captions room = do
  _ ← validate c
  encode_valid shape c sequence words coords captions room

-- the playout host's delete frame, 29 bytes
abbrev pub delete_frame : ℕ → ℕ → List ℕ
delete_frame sequence id = frame_bytes (payload_bytes Single sequence (record { tag = 2; fields = bytes 8 id } ∷ []))
