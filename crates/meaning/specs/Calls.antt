-- Each call that is offered to users: what it answers and what its lent memory holds after, refused or not, as a function of what is
-- handed in. The contracts of the code cite these.
use Rattle.std.specs.Prelude.{ℕ, ◌+◌, ◌-◌, Bool, true, cond, List, [], length, ltb, eqb, Ok, Err}
use Rattle.config.specs.Settings.{validate}
use Rattle.config.specs.declared.Config.{Config}
use Rattle.rows.specs.Lent.{rows_lent}
use Rattle.refusal.specs.Refusal.{Answer, ◌>>=◌, refuse, told}
use Rattle.refusal.specs.declared.Refusal.TheVariants.{PastTheEnd}
use Rattle.layout.specs.Layout.{crc_length, frame_head, sequence_length, batch_head}
use Rattle.layout.specs.declared.Extent.{Extent}
use Rattle.layout.specs.declared.Shape.{Shape}
use Rattle.layout.specs.declared.Shape.TheVariants.{Single, Batch}
use Rattle.fields.specs.Fields.{num}
use Rattle.fields.specs.Placed.{placed}
use Rattle.meaning.specs.Snapshot.{Snapshot, read_snapshot}
use Rattle.meaning.specs.Log.{ReadOperation, operation_at, ReadFrame, wrong, frame_at}
use Rattle.meaning.specs.Recovery.{Recovery, recovered, refused_snapshot, refused_log, Recovered, recover, rows_of, record_count, active_count, total_size, tail_length}
use Rattle.meaning.specs.Tables.{Tables, tables_for}
use Rattle.meaning.specs.Writer.{write}
use Rattle.meaning.specs.Encoder.{encode, delete_frame}

-- ---- reading and recovery: two lent tables, row words and active entries
abbrev pub read_call : List ℕ → List ℕ → List ℕ → Answer Snapshot
read_call words entries snapshot = read_snapshot (rows_lent words entries) snapshot

abbrev pub read_tables : List ℕ → List ℕ → Answer Snapshot → Tables
read_tables words entries (Ok s) = tables_for words entries s.rows
read_tables words entries (Err why) = tables_for words entries []

-- what an accepted recovery answers
pub record RecoveryTold : Type 0 where
  pub config : Config
  pub crc : ℕ
  pub sequence : ℕ
  pub records : ℕ
  pub active : ℕ
  pub replayed : ℕ
  pub skipped : ℕ
  pub keep : ℕ
  pub tail : ℕ
  pub size : ℕ

abbrev pub recovery_told : List ℕ → Recovered → RecoveryTold
recovery_told log r =
    record {
      config = r.config;
      crc = r.crc;
      sequence = r.state.sequence;
      records = record_count r;
      active = active_count r;
      replayed = r.state.replayed;
      skipped = r.state.skipped;
      keep = r.keep;
      tail = tail_length log r;
      size = total_size r;
    }

abbrev pub recover_call : List ℕ → List ℕ → List ℕ → List ℕ → Recovery
recover_call words entries snapshot log = recover (rows_lent words entries) snapshot log

abbrev pub recover_tables : List ℕ → List ℕ → Recovery → Tables
recover_tables words entries (recovered r) = tables_for words entries (rows_of r)
recover_tables words entries (refused_snapshot why) = tables_for words entries []
recover_tables words entries (refused_log why at) = tables_for words entries []

-- ---- one frame of a log: 6, 7, 8, then what stands at the byte; a byte past the log's end has too little
abbrev pub frame_call : Config → List ℕ → ℕ → ℕ → ReadFrame
frame_call c log previous at = told (λ _. frame_at c log previous at) wrong (validate c)

-- ---- one operation of a frame that was found: where the first one's tag stands, and the byte behind the last one
-- a single frame's tag is its opcode; a batch's operations stand behind opcode, sequence and count
abbrev pub first_operation : Shape → ℕ → ℕ
first_operation Single start = start + frame_head
first_operation Batch start = start + frame_head + batch_head

-- the payload's CRC stands behind them
abbrev pub operations_end : ℕ → ℕ
operations_end next = next - crc_length

-- from the tag to the ID: behind the sequence, or at once
abbrev pub id_offset : Shape → ℕ
id_offset Single = 1 + sequence_length
id_offset Batch = 1

-- 4 where the operations end past the log's end, or the ID begins past their end; then by the tag
abbrev pub operation_within : Config → List ℕ → Shape → ℕ → ℕ → Answer ReadOperation
operation_within c log shape end at = do
  _ ← refuse PastTheEnd (ltb (length log) end)
  _ ← refuse PastTheEnd (ltb end (at + id_offset shape))
  operation_at c log end (num log at 1) (at + id_offset shape)

-- 6, 7, 8, then the operation whose tag stands at `at`
abbrev pub operation_call : Config → List ℕ → Shape → ℕ → ℕ → Answer ReadOperation
operation_call c log shape end at = validate c >>= λ _. operation_within c log shape end at

-- ---- writers: a lent output
-- the bytes at its front and the rest untouched, or no byte changed
abbrev pub output_after : List ℕ → Answer (List ℕ) → List ℕ
output_after out (Ok bytes) = placed 0 bytes out
output_after out (Err why) = out

abbrev pub write_call : Extent → Config → ℕ → List ℕ → ℕ → List ℕ → List ℕ → List ℕ → Answer (List ℕ)
write_call extent c sequence words count snapshot log out = write extent c sequence words count snapshot log (length out)

abbrev pub encode_call : Shape → Config → ℕ → List ℕ → List ℕ → List ℕ → List ℕ → Answer (List ℕ)
encode_call shape c sequence words coords captions out = encode shape c sequence words coords captions (length out)

-- ---- the playout host's delete frame: 29 bytes, or 0 and nothing written if the sequence is 0 or room is short
abbrev pub delete_refused : ℕ → List ℕ → Bool
delete_refused sequence out = cond (eqb sequence 0) true (ltb (length out) 29)

abbrev pub delete_count : ℕ → List ℕ → ℕ
delete_count sequence out = cond (delete_refused sequence out) 0 29

abbrev pub delete_output : ℕ → ℕ → List ℕ → List ℕ
delete_output sequence id out = cond (delete_refused sequence out) out (placed 0 (delete_frame sequence id) out)
