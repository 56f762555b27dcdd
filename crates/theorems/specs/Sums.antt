-- The sums at the edges, P1 to P12 of document 01 but P10, which is the cache's, and its worked example: each on bytes.
use Rattle.std.specs.Prelude.{ℕ, ◌+◌, ◌≡◌, true, false, List, [], ◌∷◌, ◌++◌, Ok, Err}
use Rattle.crc32.specs.Crc.{crc_of}
use Rattle.utf8.specs.Utf8.{is_utf8}
use Rattle.config.specs.Settings.{settings}
use Rattle.config.specs.declared.Metric.TheVariants.{SquaredL2}
use Rattle.rows.specs.Rows.{row_word}
use Rattle.refusal.specs.declared.Refusal.TheVariants.{WrongLength, WrongCount, VectorAllZero, WrongSequence, GapAfterSnapshot}
use Rattle.layout.specs.declared.Shape.TheVariants.{Single, Batch}
use Rattle.meaning.specs.Replay.{put, remove, Frame}
use Rattle.meaning.specs.Records.{Record}
use Rattle.meaning.specs.Snapshot.{read_snapshot}
use Rattle.meaning.specs.Log.{length_at, frames_of}
use Rattle.meaning.specs.Recovery.{Recovered, recovered, refused_log, recover, tail_length}
use Rattle.meaning.specs.Calls.{recovery_told, recover_tables}
use Rattle.meaning.specs.Tables.{row_words, active_nodes}
use Rattle.theorems.specs.Cut.{Cut, place}
use Rattle.theorems.specs.LogLaidOut.{layouts_of, frames_shown}

-- ---- the stores

-- document 01's listing: an empty version 2 snapshot with d 1, sequence 0; puts 1 and 2 of ID 7 with captions Hi, Ho; 3 stray bytes
abbrev pub example_snapshot : List ℕ
example_snapshot = 86 ∷ 69 ∷ 67 ∷ 84 ∷ 79 ∷ 82 ∷ 83 ∷ 49 ∷ 2 ∷ 0 ∷ 0 ∷ 0 ∷ 1 ∷ 0 ∷ 0 ∷ 0 ∷ 16 ∷ 0 ∷ 0 ∷ 0 ∷ 200 ∷ 0 ∷ 0 ∷ 0 ∷ 0 ∷ 0 ∷ 0 ∷ 0 ∷ 42 ∷ 0 ∷ 0 ∷ 0 ∷ 0 ∷ 0 ∷ 0 ∷ 0 ∷ 0 ∷ 0 ∷ 0 ∷ 0 ∷ 0 ∷ 0 ∷ 0 ∷ 0 ∷ 0 ∷ 0 ∷ 0 ∷ 0 ∷ 0 ∷ 0 ∷ 0 ∷ 0 ∷ 155 ∷ 161 ∷ 32 ∷ 21 ∷ []

abbrev pub example_log : List ℕ
example_log = 27 ∷ 0 ∷ 0 ∷ 0 ∷ 130 ∷ 15 ∷ 92 ∷ 166 ∷ 1 ∷ 1 ∷ 0 ∷ 0 ∷ 0 ∷ 0 ∷ 0 ∷ 0 ∷ 0 ∷ 7 ∷ 0 ∷ 0 ∷ 0 ∷ 0 ∷ 0 ∷ 0 ∷ 0 ∷ 0 ∷ 0 ∷ 128 ∷ 63 ∷ 2 ∷ 0 ∷ 0 ∷ 0 ∷ 72 ∷ 105 ∷ 154 ∷ 8 ∷ 211 ∷ 62 ∷ 27 ∷ 0 ∷ 0 ∷ 0 ∷ 130 ∷ 15 ∷ 92 ∷ 166 ∷ 1 ∷ 2 ∷ 0 ∷ 0 ∷ 0 ∷ 0 ∷ 0 ∷ 0 ∷ 0 ∷ 7 ∷ 0 ∷ 0 ∷ 0 ∷ 0 ∷ 0 ∷ 0 ∷ 0 ∷ 0 ∷ 0 ∷ 0 ∷ 64 ∷ 2 ∷ 0 ∷ 0 ∷ 0 ∷ 72 ∷ 111 ∷ 79 ∷ 101 ∷ 252 ∷ 108 ∷ 1 ∷ 2 ∷ 3 ∷ []

-- an empty snapshot of sequence 4, and logs of puts with sequences 4 and 5, 6, 3 and 5
abbrev pub snapshot4 : List ℕ
snapshot4 = 86 ∷ 69 ∷ 67 ∷ 84 ∷ 79 ∷ 82 ∷ 83 ∷ 49 ∷ 2 ∷ 0 ∷ 0 ∷ 0 ∷ 1 ∷ 0 ∷ 0 ∷ 0 ∷ 16 ∷ 0 ∷ 0 ∷ 0 ∷ 200 ∷ 0 ∷ 0 ∷ 0 ∷ 0 ∷ 0 ∷ 0 ∷ 0 ∷ 42 ∷ 0 ∷ 0 ∷ 0 ∷ 0 ∷ 0 ∷ 0 ∷ 0 ∷ 4 ∷ 0 ∷ 0 ∷ 0 ∷ 0 ∷ 0 ∷ 0 ∷ 0 ∷ 0 ∷ 0 ∷ 0 ∷ 0 ∷ 0 ∷ 0 ∷ 0 ∷ 0 ∷ 28 ∷ 237 ∷ 17 ∷ 193 ∷ []

abbrev pub log45 : List ℕ
log45 = 27 ∷ 0 ∷ 0 ∷ 0 ∷ 130 ∷ 15 ∷ 92 ∷ 166 ∷ 1 ∷ 4 ∷ 0 ∷ 0 ∷ 0 ∷ 0 ∷ 0 ∷ 0 ∷ 0 ∷ 7 ∷ 0 ∷ 0 ∷ 0 ∷ 0 ∷ 0 ∷ 0 ∷ 0 ∷ 0 ∷ 0 ∷ 128 ∷ 63 ∷ 2 ∷ 0 ∷ 0 ∷ 0 ∷ 72 ∷ 105 ∷ 211 ∷ 56 ∷ 90 ∷ 243 ∷ 27 ∷ 0 ∷ 0 ∷ 0 ∷ 130 ∷ 15 ∷ 92 ∷ 166 ∷ 1 ∷ 5 ∷ 0 ∷ 0 ∷ 0 ∷ 0 ∷ 0 ∷ 0 ∷ 0 ∷ 7 ∷ 0 ∷ 0 ∷ 0 ∷ 0 ∷ 0 ∷ 0 ∷ 0 ∷ 0 ∷ 0 ∷ 0 ∷ 64 ∷ 2 ∷ 0 ∷ 0 ∷ 0 ∷ 72 ∷ 111 ∷ 105 ∷ 30 ∷ 63 ∷ 180 ∷ []

abbrev pub log6 : List ℕ
log6 = 27 ∷ 0 ∷ 0 ∷ 0 ∷ 130 ∷ 15 ∷ 92 ∷ 166 ∷ 1 ∷ 6 ∷ 0 ∷ 0 ∷ 0 ∷ 0 ∷ 0 ∷ 0 ∷ 0 ∷ 7 ∷ 0 ∷ 0 ∷ 0 ∷ 0 ∷ 0 ∷ 0 ∷ 0 ∷ 0 ∷ 0 ∷ 128 ∷ 63 ∷ 2 ∷ 0 ∷ 0 ∷ 0 ∷ 72 ∷ 105 ∷ 188 ∷ 115 ∷ 16 ∷ 230 ∷ []

abbrev pub log35 : List ℕ
log35 = 27 ∷ 0 ∷ 0 ∷ 0 ∷ 130 ∷ 15 ∷ 92 ∷ 166 ∷ 1 ∷ 3 ∷ 0 ∷ 0 ∷ 0 ∷ 0 ∷ 0 ∷ 0 ∷ 0 ∷ 7 ∷ 0 ∷ 0 ∷ 0 ∷ 0 ∷ 0 ∷ 0 ∷ 0 ∷ 0 ∷ 0 ∷ 128 ∷ 63 ∷ 2 ∷ 0 ∷ 0 ∷ 0 ∷ 72 ∷ 105 ∷ 245 ∷ 67 ∷ 153 ∷ 43 ∷ 27 ∷ 0 ∷ 0 ∷ 0 ∷ 130 ∷ 15 ∷ 92 ∷ 166 ∷ 1 ∷ 5 ∷ 0 ∷ 0 ∷ 0 ∷ 0 ∷ 0 ∷ 0 ∷ 0 ∷ 7 ∷ 0 ∷ 0 ∷ 0 ∷ 0 ∷ 0 ∷ 0 ∷ 0 ∷ 0 ∷ 0 ∷ 0 ∷ 64 ∷ 2 ∷ 0 ∷ 0 ∷ 0 ∷ 72 ∷ 111 ∷ 105 ∷ 30 ∷ 63 ∷ 180 ∷ []

-- one record, sequence 0, in version 1 and in version 2
abbrev pub one_record1 : List ℕ
one_record1 = 86 ∷ 69 ∷ 67 ∷ 84 ∷ 79 ∷ 82 ∷ 83 ∷ 49 ∷ 1 ∷ 0 ∷ 0 ∷ 0 ∷ 1 ∷ 0 ∷ 0 ∷ 0 ∷ 16 ∷ 0 ∷ 0 ∷ 0 ∷ 200 ∷ 0 ∷ 0 ∷ 0 ∷ 42 ∷ 0 ∷ 0 ∷ 0 ∷ 0 ∷ 0 ∷ 0 ∷ 0 ∷ 0 ∷ 0 ∷ 0 ∷ 0 ∷ 0 ∷ 0 ∷ 0 ∷ 0 ∷ 1 ∷ 0 ∷ 0 ∷ 0 ∷ 0 ∷ 0 ∷ 0 ∷ 0 ∷ 7 ∷ 0 ∷ 0 ∷ 0 ∷ 0 ∷ 0 ∷ 0 ∷ 0 ∷ 0 ∷ 0 ∷ 0 ∷ 128 ∷ 63 ∷ 0 ∷ 0 ∷ 0 ∷ 0 ∷ 194 ∷ 17 ∷ 52 ∷ 152 ∷ []

abbrev pub one_record2 : List ℕ
one_record2 = 86 ∷ 69 ∷ 67 ∷ 84 ∷ 79 ∷ 82 ∷ 83 ∷ 49 ∷ 2 ∷ 0 ∷ 0 ∷ 0 ∷ 1 ∷ 0 ∷ 0 ∷ 0 ∷ 16 ∷ 0 ∷ 0 ∷ 0 ∷ 200 ∷ 0 ∷ 0 ∷ 0 ∷ 0 ∷ 0 ∷ 0 ∷ 0 ∷ 42 ∷ 0 ∷ 0 ∷ 0 ∷ 0 ∷ 0 ∷ 0 ∷ 0 ∷ 0 ∷ 0 ∷ 0 ∷ 0 ∷ 0 ∷ 0 ∷ 0 ∷ 0 ∷ 1 ∷ 0 ∷ 0 ∷ 0 ∷ 0 ∷ 0 ∷ 0 ∷ 0 ∷ 7 ∷ 0 ∷ 0 ∷ 0 ∷ 0 ∷ 0 ∷ 0 ∷ 0 ∷ 0 ∷ 0 ∷ 0 ∷ 128 ∷ 63 ∷ 0 ∷ 0 ∷ 0 ∷ 0 ∷ 127 ∷ 11 ∷ 30 ∷ 230 ∷ []

-- cosine, d 1, coordinate -0
abbrev pub cosine_zero : List ℕ
cosine_zero = 86 ∷ 69 ∷ 67 ∷ 84 ∷ 79 ∷ 82 ∷ 83 ∷ 49 ∷ 2 ∷ 0 ∷ 0 ∷ 0 ∷ 1 ∷ 0 ∷ 0 ∷ 0 ∷ 16 ∷ 0 ∷ 0 ∷ 0 ∷ 200 ∷ 0 ∷ 0 ∷ 0 ∷ 1 ∷ 0 ∷ 0 ∷ 0 ∷ 42 ∷ 0 ∷ 0 ∷ 0 ∷ 0 ∷ 0 ∷ 0 ∷ 0 ∷ 0 ∷ 0 ∷ 0 ∷ 0 ∷ 0 ∷ 0 ∷ 0 ∷ 0 ∷ 1 ∷ 0 ∷ 0 ∷ 0 ∷ 0 ∷ 0 ∷ 0 ∷ 0 ∷ 7 ∷ 0 ∷ 0 ∷ 0 ∷ 0 ∷ 0 ∷ 0 ∷ 0 ∷ 0 ∷ 0 ∷ 0 ∷ 0 ∷ 128 ∷ 0 ∷ 0 ∷ 0 ∷ 0 ∷ 46 ∷ 168 ∷ 175 ∷ 201 ∷ []

-- three records, the second deleted with a caption, sequence 3; a delete that is skipped, a batch that withdraws ID 7, replaces ID 9 and
-- deletes an absent ID, a delete of ID 9, and 3 stray bytes
abbrev pub withdrawn_snapshot : List ℕ
withdrawn_snapshot = 86 ∷ 69 ∷ 67 ∷ 84 ∷ 79 ∷ 82 ∷ 83 ∷ 49 ∷ 2 ∷ 0 ∷ 0 ∷ 0 ∷ 1 ∷ 0 ∷ 0 ∷ 0 ∷ 16 ∷ 0 ∷ 0 ∷ 0 ∷ 200 ∷ 0 ∷ 0 ∷ 0 ∷ 0 ∷ 0 ∷ 0 ∷ 0 ∷ 42 ∷ 0 ∷ 0 ∷ 0 ∷ 0 ∷ 0 ∷ 0 ∷ 0 ∷ 3 ∷ 0 ∷ 0 ∷ 0 ∷ 0 ∷ 0 ∷ 0 ∷ 0 ∷ 3 ∷ 0 ∷ 0 ∷ 0 ∷ 0 ∷ 0 ∷ 0 ∷ 0 ∷ 7 ∷ 0 ∷ 0 ∷ 0 ∷ 0 ∷ 0 ∷ 0 ∷ 0 ∷ 0 ∷ 0 ∷ 0 ∷ 128 ∷ 63 ∷ 6 ∷ 0 ∷ 0 ∷ 0 ∷ 111 ∷ 110 ∷ 32 ∷ 97 ∷ 105 ∷ 114 ∷ 8 ∷ 0 ∷ 0 ∷ 0 ∷ 0 ∷ 0 ∷ 0 ∷ 0 ∷ 1 ∷ 0 ∷ 0 ∷ 0 ∷ 64 ∷ 3 ∷ 0 ∷ 0 ∷ 0 ∷ 111 ∷ 108 ∷ 100 ∷ 9 ∷ 0 ∷ 0 ∷ 0 ∷ 0 ∷ 0 ∷ 0 ∷ 0 ∷ 0 ∷ 0 ∷ 0 ∷ 64 ∷ 64 ∷ 0 ∷ 0 ∷ 0 ∷ 0 ∷ 60 ∷ 185 ∷ 194 ∷ 110 ∷ []

abbrev pub withdrawn_log : List ℕ
withdrawn_log = 17 ∷ 0 ∷ 0 ∷ 0 ∷ 230 ∷ 239 ∷ 225 ∷ 201 ∷ 2 ∷ 3 ∷ 0 ∷ 0 ∷ 0 ∷ 0 ∷ 0 ∷ 0 ∷ 0 ∷ 9 ∷ 0 ∷ 0 ∷ 0 ∷ 0 ∷ 0 ∷ 0 ∷ 0 ∷ 163 ∷ 206 ∷ 84 ∷ 43 ∷ 51 ∷ 0 ∷ 0 ∷ 0 ∷ 83 ∷ 136 ∷ 218 ∷ 195 ∷ 3 ∷ 4 ∷ 0 ∷ 0 ∷ 0 ∷ 0 ∷ 0 ∷ 0 ∷ 0 ∷ 3 ∷ 0 ∷ 0 ∷ 0 ∷ 2 ∷ 7 ∷ 0 ∷ 0 ∷ 0 ∷ 0 ∷ 0 ∷ 0 ∷ 0 ∷ 1 ∷ 9 ∷ 0 ∷ 0 ∷ 0 ∷ 0 ∷ 0 ∷ 0 ∷ 0 ∷ 0 ∷ 0 ∷ 128 ∷ 64 ∷ 3 ∷ 0 ∷ 0 ∷ 0 ∷ 110 ∷ 101 ∷ 119 ∷ 2 ∷ 5 ∷ 0 ∷ 0 ∷ 0 ∷ 0 ∷ 0 ∷ 0 ∷ 0 ∷ 113 ∷ 243 ∷ 133 ∷ 59 ∷ 17 ∷ 0 ∷ 0 ∷ 0 ∷ 230 ∷ 239 ∷ 225 ∷ 201 ∷ 2 ∷ 5 ∷ 0 ∷ 0 ∷ 0 ∷ 0 ∷ 0 ∷ 0 ∷ 0 ∷ 9 ∷ 0 ∷ 0 ∷ 0 ∷ 0 ∷ 0 ∷ 0 ∷ 0 ∷ 71 ∷ 167 ∷ 197 ∷ 120 ∷ 17 ∷ 0 ∷ 0 ∷ []

-- ---- what they come to
-- the frames of the example and of the withdrawal by value: first byte, sequence, shape, operations
abbrev pub example_frames : List (Frame Record)
example_frames =
    record { start = 0; sequence = 1; shape = Single; operations = put (record { id = 7; deleted = false; vector = 0 ∷ 0 ∷ 128 ∷ 63 ∷ []; caption = 72 ∷ 105 ∷ [] }) ∷ [] }
    ∷ record { start = 39; sequence = 2; shape = Single; operations = put (record { id = 7; deleted = false; vector = 0 ∷ 0 ∷ 0 ∷ 64 ∷ []; caption = 72 ∷ 111 ∷ [] }) ∷ [] }
    ∷ []

abbrev pub withdrawn_frames : List (Frame Record)
withdrawn_frames =
    record { start = 0; sequence = 3; shape = Single; operations = remove 9 ∷ [] }
    ∷ record {
      start = 29;
      sequence = 4;
      shape = Batch;
      operations = remove 7 ∷ put (record { id = 9; deleted = false; vector = 0 ∷ 0 ∷ 128 ∷ 64 ∷ []; caption = 110 ∷ 101 ∷ 119 ∷ [] }) ∷ remove 5 ∷ [];
    }
    ∷ record { start = 92; sequence = 5; shape = Single; operations = remove 9 ∷ [] }
    ∷ []

abbrev pub example_recovered : Recovered
example_recovered = record { config = settings 1 16 200 42 SquaredL2; crc = 354460059; state = record { records = record { id = record { 0 = 7 }; deleted = true; from_log = true; caption_length = 0; at = 25 } ∷ record { id = record { 0 = 7 }; deleted = false; from_log = true; caption_length = 2; at = 64 } ∷ []; sequence = 2; replayed = 2; skipped = 0 }; keep = 78 }

pub record Sums : Type 0 where
  pub p1 : crc_of [] ≡ 0
  pub p2 : length_at (16 ∷ 0 ∷ 0 ∷ 0 ∷ 131 ∷ 136 ∷ 93 ∷ 113 ∷ []) 0 ≡ Err WrongLength
  pub p2_passes : length_at (17 ∷ 0 ∷ 0 ∷ 0 ∷ 230 ∷ 239 ∷ 225 ∷ 201 ∷ []) 0 ≡ Ok 17
  pub p3 : length_at (0 ∷ 0 ∷ 128 ∷ 0 ∷ 87 ∷ 71 ∷ 199 ∷ 26 ∷ []) 0 ≡ Ok 8388608
  pub p3_more : length_at (1 ∷ 0 ∷ 128 ∷ 0 ∷ 50 ∷ 32 ∷ 123 ∷ 162 ∷ []) 0 ≡ Err WrongLength
  pub p4 : recover 1 example_snapshot (1 ∷ 2 ∷ 3 ∷ 4 ∷ 5 ∷ 6 ∷ 7 ∷ []) ≡ recovered (record { config = settings 1 16 200 42 SquaredL2; crc = 354460059; state = record { records = []; sequence = 0; replayed = 0; skipped = 0 }; keep = 0 })
  pub p4_tail : tail_length (1 ∷ 2 ∷ 3 ∷ 4 ∷ 5 ∷ 6 ∷ 7 ∷ []) (record { config = settings 1 16 200 42 SquaredL2; crc = 354460059; state = record { records = []; sequence = 0; replayed = 0; skipped = 0 }; keep = 0 }) ≡ 7
  pub p5 : recover 1 snapshot4 log45 ≡ recovered (record { config = settings 1 16 200 42 SquaredL2; crc = 3239177500; state = record { records = record { id = record { 0 = 7 }; deleted = false; from_log = true; caption_length = 2; at = 64 } ∷ []; sequence = 5; replayed = 1; skipped = 1 }; keep = 78 })
  pub p6 : recover 1 snapshot4 log6 ≡ refused_log GapAfterSnapshot 0
  pub p7 : recover 1 snapshot4 log35 ≡ refused_log WrongSequence 39
  pub p8 : read_snapshot 1 one_record1 ≡ Err WrongCount
  pub p8_version_2 : read_snapshot 1 one_record2 ≡ Ok (record { config = settings 1 16 200 42 SquaredL2; crc = 3860728703; sequence = 0; rows = record { id = record { 0 = 7 }; deleted = false; from_log = false; caption_length = 0; at = 61 } ∷ [] })
  pub p9 : is_utf8 (0xF4 ∷ 0x8F ∷ 0xBF ∷ 0xBF ∷ []) ≡ true
  pub p9_overlong : is_utf8 (0xC0 ∷ 0x80 ∷ []) ≡ false
  pub p9_surrogate : is_utf8 (0xED ∷ 0xA0 ∷ 0x80 ∷ []) ≡ false
  pub p9_past : is_utf8 (0xF4 ∷ 0x90 ∷ 0x80 ∷ 0x80 ∷ []) ≡ false
  pub p9_empty : is_utf8 [] ≡ true
  pub p11 : read_snapshot 1 cosine_zero ≡ Err VectorAllZero
  pub p12 : row_word (record { id = record { 0 = 7 }; deleted = false; from_log = true; caption_length = 2; at = 64 }) ≡ 4611967493404098624
  -- the worked example: keep 78, tail 3, offsets 25 and 64, and the tables after
  pub example : recover 4096 example_snapshot example_log ≡ recovered example_recovered
  pub example_tail : tail_length example_log example_recovered ≡ 3
  pub example_rows : row_words example_recovered.state.records ≡ 7 ∷ (9223372036854775808 + 4611686018427387904 + 25) ∷ 7 ∷ 4611967493404098624 ∷ []
  pub example_active : active_nodes example_recovered.state.records ≡ 1 ∷ []
  pub example_told : recovery_told example_log example_recovered ≡ record { config = settings 1 16 200 42 SquaredL2; crc = 354460059; sequence = 2; records = 2; active = 1; replayed = 2; skipped = 0; keep = 78; tail = 3; size = 36 }
  -- with a row and an entry more than needed: zeros after
  pub example_tables : recover_tables (9 ∷ 9 ∷ 9 ∷ 9 ∷ 9 ∷ 9 ∷ 9 ∷ []) (9 ∷ 9 ∷ 9 ∷ []) (recovered example_recovered) ≡ record { rows = 7 ∷ (9223372036854775808 + 4611686018427387904 + 25) ∷ 7 ∷ 4611967493404098624 ∷ 0 ∷ 0 ∷ 0 ∷ []; active = 1 ∷ 0 ∷ 0 ∷ [] }
  -- its log is its two puts laid out and the 3 stray bytes, and the rows that are read show these puts
  pub example_laid_out : example_log ≡ layouts_of example_frames ++ (1 ∷ 2 ∷ 3 ∷ [])
  pub example_shown : frames_shown (settings 1 16 200 42 SquaredL2) example_snapshot example_log (frames_of (settings 1 16 200 42 SquaredL2) example_log).frames ≡ example_frames
  -- a still that is withdrawn stays withdrawn
  pub withdrawn : recover 4096 withdrawn_snapshot withdrawn_log ≡ recovered (record { config = settings 1 16 200 42 SquaredL2; crc = 1858255164; state = record { records = record { id = record { 0 = 7 }; deleted = true; from_log = false; caption_length = 0; at = 61 } ∷ record { id = record { 0 = 8 }; deleted = true; from_log = false; caption_length = 0; at = 84 } ∷ record { id = record { 0 = 9 }; deleted = true; from_log = false; caption_length = 0; at = 104 } ∷ record { id = record { 0 = 9 }; deleted = true; from_log = true; caption_length = 0; at = 68 } ∷ []; sequence = 5; replayed = 2; skipped = 1 }; keep = 121 })
  -- the same with deletes and a batch
  pub withdrawn_laid_out : withdrawn_log ≡ layouts_of withdrawn_frames ++ (17 ∷ 0 ∷ 0 ∷ [])
  pub withdrawn_shown : frames_shown (settings 1 16 200 42 SquaredL2) withdrawn_snapshot withdrawn_log (frames_of (settings 1 16 200 42 SquaredL2) withdrawn_log).frames ≡ withdrawn_frames
  -- demand 3 has a cut of it, after its first frame: its premises are met by real bytes
  pub example_cut_lem : Cut 4096 example_snapshot example_log
  pub example_cut_place : place example_cut_lem ≡ 39
