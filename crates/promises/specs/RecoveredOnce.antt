-- Nothing is taken twice, in the code's answer: the counts that `recover` tells are those of the log's frames, each taken once, and every
-- row in the words it left is a record of the snapshot or one put of one replayed frame.
use Rattle.std.specs.Prelude.{ℕ, ◌≤◌, ◌≡◌, List, length, Ok}
use Rattle.config.specs.Limits.{max_log_bytes}
use Rattle.fields.specs.Fields.{Bytes}
use Rattle.rows.specs.declared.Row.{Row}
use Rattle.meaning.specs.Replay.{tail}
use Rattle.meaning.specs.Records.{row_kind}
use Rattle.meaning.specs.Snapshot.{Snapshot, read_snapshot}
use Rattle.meaning.specs.Log.{frames_of}
use Rattle.meaning.specs.Recovery.{bounds_for}
use Rattle.meaning.specs.Calls.{recovery_told}
use Rattle.theorems.specs.FrameLists.{Consecutive}
use Rattle.theorems.specs.EachFrameOnce.{above, apply_frames, TakenOnce, replayed_to}
use Rattle.recovery.specs.Told.{Recovery, info_of}
use Rattle.recovery.specs.declared.RecoveryInfo.{RecoveryInfo}
use Rattle.promises.specs.Recover.{Recovers, shown}

pub record RecoveredOnce : Type 0 where
  -- `shown i words` is the answer's settings, sequence, replayed, skipped and keep, with the rows that stand in the words
  pub recovered_once : (lent : ℕ) (snapshot log : List ℕ) → Bytes snapshot → Bytes log
      → (i : RecoveryInfo) (words : List ℕ) → Recovers lent snapshot log (Ok i) words → TakenOnce lent snapshot log (shown i words)
  -- records, active, tail and size are told of those rows and that keep
  pub told_of_shown : (lent : ℕ) (snapshot log : List ℕ) → Bytes snapshot → Bytes log
      → (i : RecoveryInfo) (words : List ℕ) → Recovers lent snapshot log (Ok i) words → i ≡ info_of (recovery_told log (shown i words))
  -- the other way: a log whose frames are good up to a tail, follow the snapshot with no gap, and whose operations go through is accepted
  pub accepted_if : (lent : ℕ) (snapshot log : List ℕ) (S : Snapshot) (k : ℕ) (rows : List Row) → length log ≤ max_log_bytes → read_snapshot lent snapshot ≡ Ok S
      → (frames_of S.config log).ended ≡ tail k
      → Consecutive S.sequence (above S.sequence (frames_of S.config log).frames)
      → apply_frames (row_kind S.config.dimensions) (bounds_for lent) (above S.sequence (frames_of S.config log).frames) S.rows ≡ Ok rows
      → (r : Recovery) (words : List ℕ) → Recovers lent snapshot log r words
      → r ≡ Ok (info_of (recovery_told log (replayed_to S (frames_of S.config log).frames k rows)))
