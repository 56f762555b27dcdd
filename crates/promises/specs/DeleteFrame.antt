-- What the playout host's delete leaves in its buffer: nothing, or a frame that is read back from a log as that delete; and the recovery
-- of a log with that frame behind it.
use Rattle.std.specs.Prelude.{ℕ, ◌+◌, ◌≤◌, ◌<◌, ◌^◌, ◌≡◌, ◌⊎◌, true, List, [], ◌∷◌, ◌++◌, length, take, drop, Ok, Some}
use Rattle.config.specs.Limits.{max_log_bytes}
use Rattle.config.specs.declared.Config.{Config}
use Rattle.layout.specs.declared.Shape.TheVariants.{Single}
use Rattle.fields.specs.Fields.{Bytes}
use Rattle.rows.specs.Lent.{rows_lent}
use Rattle.rows.specs.declared.Row.{Row}
use Rattle.rows.specs.declared.Node.{Node}
use Rattle.rows.specs.declared.Id.{Id}
use Rattle.meaning.specs.Replay.{Frame, remove, tail, active, mark}
use Rattle.meaning.specs.Records.{row_kind, record_kind}
use Rattle.meaning.specs.Snapshot.{Snapshot, read_snapshot}
use Rattle.meaning.specs.Recovery.{Recovered, recovered, recover, rows_of, records_of, record_count, tail_length}
use Rattle.meaning.specs.Log.{frames_of}
use Rattle.meaning.specs.Encoder.{delete_frame}
use Rattle.meaning.specs.Calls.{recover_tables}
use Rattle.theorems.specs.FrameLists.{last_sequence}
use Rattle.theorems.specs.FrameRows.{Follows}
use Rattle.theorems.specs.DeleteAppended.{NotOlder, with_deleted}
use Rattle.promises.specs.Store.{LookupMeets}
use Rattle.promises.specs.Playout.{HostDeleteMeets}

-- what stands in a buffer of which 29 bytes were written
pub record DeleteLeft (sequence id : ℕ) (out after : List ℕ) : Type 0 where
  -- it was not refused, so the sequence is not 0 and there was room
  pub sequence_positive : 0 < sequence
  pub room_there : 29 ≤ length out
  -- the first 29 bytes are the delete's frame, and the rest is untouched
  pub is_delete : take 29 after ≡ delete_frame sequence id
  pub rest_untouched : drop 29 after ≡ drop 29 out
  -- appended to a log whose bytes are all read they are one frame more, which deletes this ID, and no tail
  pub appended : (c : Config) → sequence < 256 ^ 8 → id < 256 ^ 8
      → (log : List ℕ) (fs : List (Frame Row)) → frames_of c log ≡ record { frames = fs; ended = tail (length log) } → Follows (last_sequence 0 fs) sequence
      → frames_of c (log ++ take 29 after)
      ≡ record {
        frames = fs ++ (record { start = length log; sequence = sequence; shape = Single; operations = remove id ∷ [] } ∷ []);
        ended = tail (length (log ++ take 29 after));
      }
  -- The whole: recovery of a snapshot S and a log accepted, with r; no tail is left; the log is not older than the snapshot; the sequence
  -- is r's and one; the ID is live; the log has room. Then recovery of the log with the 29 bytes behind it accepts with that ID deleted
  -- (`mark`), its caption empty, the sequence and the replayed frames one more, 29 bytes more kept, and all else as it was
  pub recovers : (lent : ℕ) (snapshot log : List ℕ) (r : Recovered) → recover lent snapshot log ≡ recovered r
      → (S : Snapshot) → read_snapshot lent snapshot ≡ Ok S → NotOlder S log → tail_length log r ≡ 0
      → sequence ≡ r.state.sequence + 1 → sequence < 256 ^ 8 → id < 256 ^ 8
      → active (row_kind r.config.dimensions) id (rows_of r) ≡ true → length log + 29 ≤ max_log_bytes
      → recover lent snapshot (log ++ take 29 after) ≡ recovered (with_deleted id r)
  -- with no tail again
  pub no_tail : (log : List ℕ) (r : Recovered) → tail_length log r ≡ 0 → tail_length (log ++ take 29 after) (with_deleted id r) ≡ 0
  -- by value the records are the same, but for the live one of that ID, which is deleted with an empty caption
  pub records_are : (lent : ℕ) (snapshot log : List ℕ) (r : Recovered) → recover lent snapshot log ≡ recovered r → Bytes snapshot → Bytes log
      → records_of snapshot (log ++ take 29 after) (with_deleted id r) ≡ mark (record_kind r.config.dimensions) id (records_of snapshot log r)

pub record DeleteFrame : Type 0 where
  -- it answers 29 or 0; at 0 nothing is written
  pub twenty_nine_or_nothing : (sequence id : ℕ) (out after : List ℕ) (r : ℕ) → HostDeleteMeets sequence id out r after → (r ≡ 29) ⊎ ((r ≡ 0) × (after ≡ out))
  pub delete_left : (sequence id : ℕ) (out after : List ℕ) → HostDeleteMeets sequence id out 29 after → DeleteLeft sequence id out after
  -- an ID is live if `lookup` finds it in the tables that recovery left
  pub found_is_live : (words active' snapshot log : List ℕ) (r : Recovered) → Bytes snapshot → Bytes log
      → recover (rows_lent words active') snapshot log ≡ recovered r
      → (id : Id) (node : Node) → LookupMeets (recover_tables words active' (recovered r)).rows (record_count r) id (Ok (Some node))
      → active (row_kind r.config.dimensions) id.0 (rows_of r) ≡ true
