-- The captions of deleted records do not count, in the code's answers: two snapshots that `read_snapshot` accepts and that differ in
-- nothing else, lengths included, are recovered with one log and equal tables lent to the same answer, the same tables and the same
-- records, snapshot CRC and row offsets excepted.
use Rattle.std.specs.Prelude.{ℕ, ◌≡◌, List, Ok, Err}
use Rattle.fields.specs.Fields.{Bytes}
use Rattle.snapshot.specs.declared.SnapshotInfo.{SnapshotInfo}
use Rattle.theorems.specs.DeletedCaptions.{DifferInDeleted, SameButPlaces}
use Rattle.recovery.specs.Told.{Recovery}
use Rattle.recovery.specs.declared.RecoveryInfo.{RecoveryInfo}
use Rattle.recovery.specs.declared.NotRecovered.TheVariants as Refusals
use Rattle.promises.specs.Recover.{RecoverMeets, compared_shown}
use Rattle.promises.specs.Store.{ReadSnapshotMeets}

-- an answer without the snapshot's CRC
abbrev pub crc_left_out : RecoveryInfo → RecoveryInfo
crc_left_out i =
    record {
      config = i.config;
      crc = 0;
      sequence = i.sequence;
      records = i.records;
      active = i.active;
      replayed = i.replayed;
      skipped = i.skipped;
      keep = i.keep;
      tail = i.tail;
      size = i.size;
    }

abbrev pub without_crc : Recovery → Recovery
without_crc (Ok i) = Ok (crc_left_out i)
without_crc (Err (Refusals.Snapshot why)) = Err (Refusals.Snapshot why)
without_crc (Err (Refusals.Log why at)) = Err (Refusals.Log why at)

-- of two snapshots beside one log: two answers, and the row words and active entries after
pub record SameButCrcAndPlaces (s s' log : List ℕ) (r r' : Recovery) (rows rows' active active' : List ℕ) : Type 0 where
  pub same_answer : without_crc r ≡ without_crc r'
  pub same_tables : SameButPlaces (record { rows = rows; active = active }) (record { rows = rows'; active = active' })
  pub same_records : compared_shown s log r rows ≡ compared_shown s' log r' rows'

pub record CaptionsOfDeleted : Type 0 where
  pub captions_of_deleted : (s s' log words entries : List ℕ) → Bytes s → Bytes s' → Bytes log → DifferInDeleted s s'
      → (i i' : SnapshotInfo) (x x' y y' : List ℕ)
      → ReadSnapshotMeets s words entries (Ok i) x y → ReadSnapshotMeets s' words entries (Ok i') x' y'
      → (r r' : Recovery) (rows rows' active active' : List ℕ)
      → RecoverMeets s log words entries r rows active → RecoverMeets s' log words entries r' rows' active'
      → SameButCrcAndPlaces s s' log r r' rows rows' active active'
