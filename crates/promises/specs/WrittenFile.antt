-- Demand 3 of what `write_snapshot` leaves in the lent output, and by what a writer can refuse a recovered state.
use Rattle.refusal.specs.Refusal.{Answer}
use Rattle.std.specs.Prelude.{ℕ, ◌≤◌, ◌≡◌, ◌⊎◌, cond, List, ◌++◌, ltb, length, take, drop, Ok, Err}
use Rattle.refusal.specs.declared.Refusal.TheVariants.{TooLarge, OutputTooShort}
use Rattle.config.specs.Limits.{max_snapshot_bytes}
use Rattle.layout.specs.Layout.{snapshot_length}
use Rattle.fields.specs.Fields.{Bytes}
use Rattle.rows.specs.Lent.{rows_lent}
use Rattle.meaning.specs.Recovery.{Recovered, recovered, recover, record_count, total_size}
use Rattle.meaning.specs.Calls.{recover_tables}
use Rattle.theorems.specs.Compared.{compared, brief}
use Rattle.theorems.specs.Cut.{Cut, place, there, new_snapshot}
use Rattle.promises.specs.Store.{WriteMeets, WriteCompactedMeets}

-- what recovery told and left in the lent tables is handed to `write_snapshot`, with both sources and an output; it answers r and leaves `after`
abbrev pub WritesState : List ℕ → List ℕ → Recovered → List ℕ → List ℕ → List ℕ → Answer ℕ → List ℕ → Type 0
WritesState words active s snapshot log out r after =
    WriteMeets s.config s.state.sequence (recover_tables words active (recovered s)).rows (record_count s) snapshot log out r after

-- the same of `write_compacted_snapshot`
abbrev pub WritesStateCompacted : List ℕ → List ℕ → Recovered → List ℕ → List ℕ → List ℕ → Answer ℕ → List ℕ → Type 0
WritesStateCompacted words active s snapshot log out r after =
    WriteCompactedMeets s.config s.state.sequence (recover_tables words active (recovered s)).rows (record_count s) snapshot log out r after

-- the file that stands in an output of which n bytes were written, of the state at a cut
pub record FileAtTheCut (words active snapshot log : List ℕ) (cut : Cut (rows_lent words active) snapshot log) (n : ℕ) (out after : List ℕ) : Type 0 where
  -- the first n bytes are the full snapshot of the state at the cut, and the rest is untouched
  pub is_new_snapshot : take n after ≡ new_snapshot cut
  pub rest_untouched : drop n after ≡ drop n out
  -- it keeps to the limit
  pub new_snapshot_short : length (new_snapshot cut) ≤ max_snapshot_bytes
  -- recovering those bytes beside the whole log gives the same records, settings, sequence, tail and replayed plus skipped as the old
  -- snapshot did, or the same refusal at the same byte
  pub beside_the_whole_log : compared (take n after) log (recover (rows_lent words active) (take n after) log)
      ≡ compared snapshot log (recover (rows_lent words active) snapshot log)
  -- if the old pair was accepted, the log without the cut-off front also gives those records, settings, sequence and tail
  pub without_the_front : (old : Recovered) → recover (rows_lent words active) snapshot log ≡ recovered old
      → brief (take n after) (drop (place cut) log) (recover (rows_lent words active) (take n after) (drop (place cut) log)) ≡ brief snapshot log (recovered old)

-- an answer that is n bytes, or a refusal by 34 or 32
abbrev pub Only34Or32 : Answer ℕ → Type 0
Only34Or32 (Ok n) = Unit
Only34Or32 (Err why) = (why ≡ TooLarge) ⊎ (why ≡ OutputTooShort)

-- the answer of `write_snapshot` for records of this encoded size: 34 exactly if 56 bytes more exceed the limit, else 32 exactly if they
-- exceed the output, and else that many bytes
abbrev pub answer_for : ℕ → List ℕ → Answer ℕ
answer_for size out =
    cond (ltb max_snapshot_bytes (snapshot_length size)) (Err TooLarge)
    (cond (ltb (length out) (snapshot_length size)) (Err OutputTooShort) (Ok (snapshot_length size)))

pub record WrittenFile : Type 0 where
  -- Demand 3: the state is that at a cut, and `write_snapshot`, lent the log's front up to the cut with anything behind it, answers n
  -- bytes. Nothing behind it is the front that was recovered; `drop (place cut) log` behind it is the whole log
  pub file_at_the_cut : (words active snapshot log : List ℕ) (cut : Cut (rows_lent words active) snapshot log) → Bytes snapshot → Bytes log
      → (more : List ℕ) (n : ℕ) (out after : List ℕ)
      → WritesState words active (there cut) snapshot (take (place cut) log ++ more) out (Ok n) after
      → FileAtTheCut words active snapshot log cut n out after
  pub whole_log_lent : (k : ℕ) (words active : List ℕ) (s : Recovered) (snapshot log out : List ℕ) (r : Answer ℕ) (after : List ℕ)
      → WritesState words active s snapshot log out r after → WritesState words active s snapshot (take k log ++ drop k log) out r after
  -- of a state that recovery gave, lent the log that was read or a longer one, neither writer refuses by another number
  pub write_refuses_only : (words active snapshot log more : List ℕ) (s : Recovered) → Bytes snapshot → Bytes log
      → recover (rows_lent words active) snapshot log ≡ recovered s → (out : List ℕ) (r : Answer ℕ) (after : List ℕ)
      → WritesState words active s snapshot (log ++ more) out r after → Only34Or32 r
  pub write_compacted_refuses_only : (words active snapshot log more : List ℕ) (s : Recovered) → Bytes snapshot → Bytes log
      → recover (rows_lent words active) snapshot log ≡ recovered s → (out : List ℕ) (r : Answer ℕ) (after : List ℕ)
      → WritesStateCompacted words active s snapshot (log ++ more) out r after → Only34Or32 r
  -- `write_snapshot` answers by the size that recovery told
  pub write_answers : (words active snapshot log more : List ℕ) (s : Recovered) → Bytes snapshot → Bytes log
      → recover (rows_lent words active) snapshot log ≡ recovered s → (out : List ℕ) (r : Answer ℕ) (after : List ℕ)
      → WritesState words active s snapshot (log ++ more) out r after → r ≡ answer_for (total_size s) out
