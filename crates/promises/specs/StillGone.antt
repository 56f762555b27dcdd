-- The playout host's delete, recovered: `recover` accepts, `lookup` finds an ID, the host writes a delete of it with the next sequence, and
-- its 29 bytes stand behind the log. The next `recover` accepts, and the still is gone.
use Rattle.refusal.specs.Refusal.{Answer}
use Rattle.std.specs.Prelude.{ℕ, ◌+◌, ◌≤◌, ◌<◌, ◌^◌, ◌≡◌, List, ◌++◌, length, take, Ok, Option, Some, None}
use Rattle.config.specs.Limits.{max_log_bytes}
use Rattle.fields.specs.Fields.{Bytes}
use Rattle.rows.specs.declared.Node.{Node}
use Rattle.rows.specs.declared.Id.{Id}
use Rattle.meaning.specs.Replay.{mark}
use Rattle.meaning.specs.Records.{row_kind, record_kind}
use Rattle.meaning.specs.Snapshot.{Snapshot, read_snapshot}
use Rattle.meaning.specs.Tables.{rows_in}
use Rattle.theorems.specs.DeleteAppended.{NotOlder}
use Rattle.recovery.specs.Told.{Recovery}
use Rattle.recovery.specs.declared.RecoveryInfo.{RecoveryInfo}
use Rattle.promises.specs.Recover.{Recovers, records_shown}
use Rattle.promises.specs.Store.{LookupMeets}
use Rattle.promises.specs.Playout.{HostDeleteMeets}

-- the answer and the words after the delete, beside those before it
pub record Gone (snapshot log log' : List ℕ) (id : Id) (before : RecoveryInfo) (words : List ℕ) (r : Recovery) (words' : List ℕ) : Type 0 where
  pub after : RecoveryInfo
  pub accepted : r ≡ Ok after
  -- settings, snapshot CRC, records and skipped as they were, one frame of 29 bytes more, and no tail
  pub same_config : after.config ≡ before.config
  pub same_crc : after.crc ≡ before.crc
  pub same_records : after.records ≡ before.records
  pub same_skipped : after.skipped ≡ before.skipped
  pub sequence_is : after.sequence ≡ before.sequence + 1
  pub replayed_is : after.replayed ≡ before.replayed + 1
  pub keep_is : after.keep ≡ before.keep + 29
  pub tail_is : after.tail ≡ 0
  -- one record less is live
  pub active_is : after.active + 1 ≡ before.active
  -- the rows and the records are those from before, with the live one of that ID deleted and its caption empty
  pub rows_are : rows_in after.records words' ≡ mark (row_kind before.config.dimensions) id.0 (rows_in before.records words)
  pub records_are : records_shown snapshot log' after words' ≡ mark (record_kind before.config.dimensions) id.0 (records_shown snapshot log before words)
  -- `lookup` finds it no more
  pub not_found : (f : Answer (Option Node)) → LookupMeets words' after.records id f → f ≡ Ok None

pub record StillGone : Type 0 where
  pub still_gone : (lent : ℕ) (snapshot log : List ℕ) → Bytes snapshot → Bytes log → length log + 29 ≤ max_log_bytes
      -- accepted, with no tail; and the log is not older than the snapshot
      → (i : RecoveryInfo) (words : List ℕ) → Recovers lent snapshot log (Ok i) words → i.tail ≡ 0
      → (S : Snapshot) → read_snapshot lent snapshot ≡ Ok S → NotOlder S log
      -- a live ID, and its delete with the next sequence
      → (id : Id) (node : Node) → LookupMeets words i.records id (Ok (Some node))
      → (out after : List ℕ) → HostDeleteMeets (i.sequence + 1) id.0 out 29 after → i.sequence + 1 < 256 ^ 8 → id.0 < 256 ^ 8
      → (r : Recovery) (words' : List ℕ) → Recovers lent snapshot (log ++ take 29 after) r words'
      → Gone snapshot log (log ++ take 29 after) id i words r words'
  -- a log of which a frame was replayed is not older
  pub replayed_not_older : (lent : ℕ) (snapshot log : List ℕ) → Bytes snapshot → Bytes log
      → (i : RecoveryInfo) (words : List ℕ) → Recovers lent snapshot log (Ok i) words
      → (S : Snapshot) → read_snapshot lent snapshot ≡ Ok S → 0 < i.replayed → NotOlder S log
