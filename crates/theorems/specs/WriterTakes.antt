-- The writer never stands in the way: of a state that recovery gave, with the sources it was given for, it refuses nothing but 34 and
-- 32, whether it is lent the log that was read or a longer one that begins with it; and the full file is demand 3's.
use Rattle.std.specs.Prelude.{ℕ, ◌≡◌, List, ◌++◌, ltb, Ok}
use Rattle.fields.specs.Fields.{Bytes}
use Rattle.config.specs.Limits.{max_snapshot_bytes}
use Rattle.rows.specs.Lent.{rows_lent}
use Rattle.refusal.specs.Refusal.{refuse, ◌>>=◌}
use Rattle.refusal.specs.declared.Refusal.TheVariants.{TooLarge, OutputTooShort}
use Rattle.layout.specs.declared.Extent.{Extent}
use Rattle.layout.specs.declared.Extent.TheVariants.{Full}
use Rattle.meaning.specs.Recovery.{Recovered, recovered, recover, record_count, rows_of}
use Rattle.meaning.specs.Calls.{recover_tables}
use Rattle.meaning.specs.Writer.{written, file_of_rows, file_length, write}
use Rattle.theorems.specs.Cut.{full_snapshot}

pub record WriterTakes : Type 0 where
  -- it comes to 34 and 32
  pub writer_takes : (words active snapshot log more : List ℕ) (r : Recovered) → Bytes snapshot → Bytes log
      → recover (rows_lent words active) snapshot log ≡ recovered r → (extent : Extent) (room : ℕ)
      → write extent r.config r.state.sequence (recover_tables words active (recovered r)).rows (record_count r) snapshot (log ++ more) room
      ≡ file_of_rows r.config r.state.sequence snapshot (log ++ more) room (written extent (rows_of r))
  pub writer_writes : (words active snapshot log more : List ℕ) (r : Recovered) → Bytes snapshot → Bytes log
      → recover (rows_lent words active) snapshot log ≡ recovered r → (room : ℕ)
      → write Full r.config r.state.sequence (recover_tables words active (recovered r)).rows (record_count r) snapshot (log ++ more) room
      ≡ (refuse TooLarge (ltb max_snapshot_bytes (file_length r.config.dimensions (rows_of r)))
      >>= λ _. refuse OutputTooShort (ltb room (file_length r.config.dimensions (rows_of r)))
      >>= λ _. Ok (full_snapshot snapshot log r))
