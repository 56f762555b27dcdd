-- The layouts of document 01 as numbers: what stands where in a snapshot and in a frame, and how long it is.
use Rattle.std.specs.Prelude.{ℕ, ◌+◌, ◌*◌, List, [], ◌∷◌}
use Rattle.layout.specs.declared.Version.{Version}
use Rattle.layout.specs.declared.Version.TheVariants.{One, Two}

-- "VECTORS1"
abbrev pub magic : List ℕ
magic = 86 ∷ 69 ∷ 67 ∷ 84 ∷ 79 ∷ 82 ∷ 83 ∷ 49 ∷ []

-- these 8 bytes as one number, as the code has it
abbrev pub magic_number : ℕ
magic_number = 3554275031595042134

-- version 2 has the metric, 4 bytes, before the seed
abbrev pub metric_length : Version → ℕ
metric_length One = 0
metric_length Two = 4

-- the header: 48 bytes in version 1, 52 in version 2
abbrev pub header_length : Version → ℕ
header_length v = 48 + metric_length v

-- a snapshot's or a cache's CRC, at its end
abbrev pub crc_length : ℕ
crc_length = 4

-- a record's ID and flag
abbrev pub record_head : ℕ
record_head = 9

-- from the first coordinate byte to the caption's first: d times f32 and the caption's length
abbrev pub caption_offset : ℕ → ℕ
caption_offset d = 4 * d + 4

-- coordinates, caption length, caption
abbrev pub item_length : ℕ → ℕ → ℕ
item_length d caption_length = caption_offset d + caption_length

-- a record of d coordinates: ID, flag, coordinates, caption length, caption
abbrev pub record_length : ℕ → ℕ → ℕ
record_length d caption_length = 13 + 4 * d + caption_length

-- a written snapshot whose records take n bytes together
abbrev pub snapshot_length : ℕ → ℕ
snapshot_length n = 56 + n

-- a frame: 8 bytes before its payload, 4 behind it
abbrev pub frame_head : ℕ
frame_head = 8

abbrev pub frame_length : ℕ → ℕ
frame_length payload = payload + 12

-- an operation's ID; a payload's sequence, and what a batch has before its operations: opcode, sequence, count
abbrev pub id_length : ℕ
id_length = 8

abbrev pub sequence_length : ℕ
sequence_length = 8

abbrev pub batch_head : ℕ
batch_head = 13
