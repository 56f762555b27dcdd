-- Demand 3 over the answer of the writer itself: the file is what `write` gives for the tables that recovery left at the cut, lent the
-- log's front up to the cut with anything behind it, or nothing. And recover, then write: the cut at the log's end.
use Rattle.std.specs.Prelude.{ℕ, ◌≤◌, ◌≡◌, List, ◌++◌, length, take, drop, Ok}
use Rattle.fields.specs.Fields.{Bytes}
use Rattle.config.specs.Limits.{max_snapshot_bytes}
use Rattle.rows.specs.Lent.{rows_lent}
use Rattle.refusal.specs.Refusal.{Answer}
use Rattle.layout.specs.declared.Extent.TheVariants.{Full}
use Rattle.meaning.specs.Recovery.{Recovered, recovered, recover, record_count}
use Rattle.meaning.specs.Calls.{recover_tables}
use Rattle.meaning.specs.Writer.{write}
use Rattle.theorems.specs.Cut.{Cut, place, there, new_snapshot}
use Rattle.theorems.specs.Compared.{compared, brief}

-- the writer's answer for the tables that recovery left of a state, lent these sources and this room
abbrev pub written_of : List ℕ → List ℕ → Recovered → List ℕ → List ℕ → ℕ → Answer (List ℕ)
written_of words active r snapshot log room =
    write Full r.config r.state.sequence (recover_tables words active (recovered r)).rows (record_count r) snapshot log room

pub record Demand3Written : Type 0 where
  -- the file is the new snapshot of the cut, and that fits
  pub is_new : (words active snapshot log : List ℕ) (cut : Cut (rows_lent words active) snapshot log) → Bytes snapshot → Bytes log
      → (more : List ℕ) (room : ℕ) (file : List ℕ) → written_of words active (there cut) snapshot (take (place cut) log ++ more) room ≡ Ok file
      → (length (new_snapshot cut) ≤ max_snapshot_bytes) × (new_snapshot cut ≡ file)
  pub written_beside_the_whole_log : (words active snapshot log : List ℕ) (cut : Cut (rows_lent words active) snapshot log) → Bytes snapshot → Bytes log
      → (more : List ℕ) (room : ℕ) (file : List ℕ) → written_of words active (there cut) snapshot (take (place cut) log ++ more) room ≡ Ok file
      → compared file log (recover (rows_lent words active) file log) ≡ compared snapshot log (recover (rows_lent words active) snapshot log)
  pub written_without_the_front : (words active snapshot log : List ℕ) (cut : Cut (rows_lent words active) snapshot log) → Bytes snapshot → Bytes log
      → (more : List ℕ) (room : ℕ) (file : List ℕ) → written_of words active (there cut) snapshot (take (place cut) log ++ more) room ≡ Ok file
      → (old : Recovered) → recover (rows_lent words active) snapshot log ≡ recovered old
      → brief file (drop (place cut) log) (recover (rows_lent words active) file (drop (place cut) log)) ≡ brief snapshot log (recovered old)
  -- recover, then write with the log lent: beside the log the file recovers as the old snapshot did, and beside the tail alone to the
  -- same records, settings, sequence and tail
  pub rewritten_beside_the_log : (words active snapshot log : List ℕ) (r : Recovered) → Bytes snapshot → Bytes log
      → recover (rows_lent words active) snapshot log ≡ recovered r → (room : ℕ) (file : List ℕ) → written_of words active r snapshot log room ≡ Ok file
      → compared file log (recover (rows_lent words active) file log) ≡ compared snapshot log (recovered r)
  pub rewritten_beside_the_tail : (words active snapshot log : List ℕ) (r : Recovered) → Bytes snapshot → Bytes log
      → recover (rows_lent words active) snapshot log ≡ recovered r → (room : ℕ) (file : List ℕ) → written_of words active r snapshot log room ≡ Ok file
      → brief file (drop r.keep log) (recover (rows_lent words active) file (drop r.keep log)) ≡ brief snapshot log (recovered r)
