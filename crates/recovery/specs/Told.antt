-- How the code's answer tells what `meaning` gives.
use Rattle.std.specs.Prelude.{ℕ, ◌-◌, List, Ok, Err, Result}
use Rattle.refusal.specs.Refusal.{number}
use Rattle.meaning.specs.Calls.{RecoveryTold, recovery_told}
use Rattle.meaning.specs.Recovery as Meant
use Rattle.snapshot.specs.declared.SnapshotInfo.{SnapshotInfo}
use Rattle.recovery.specs.declared.RecoveryInfo.{RecoveryInfo}
use Rattle.recovery.specs.declared.Reached.{Reached}
use Rattle.recovery.specs.declared.NotRecovered.{NotRecovered}
use Rattle.recovery.specs.declared.NotRecovered.TheVariants as Refusals

-- what recovery answers
abbrev pub Recovery : Type 0
Recovery = Result RecoveryInfo NotRecovered

abbrev pub info_of : RecoveryTold → RecoveryInfo
info_of t =
    record {
      config = t.config;
      crc = t.crc;
      sequence = t.sequence;
      records = t.records;
      active = t.active;
      replayed = t.replayed;
      skipped = t.skipped;
      keep = t.keep;
      tail = t.tail;
      size = t.size;
    }

abbrev pub recovery_answer : List ℕ → Meant.Recovery → Recovery
recovery_answer log (Meant.recovered r) = Ok (info_of (recovery_told log r))
recovery_answer log (Meant.refused_snapshot why) = Err (Refusals.Snapshot why)
recovery_answer log (Meant.refused_log why at) = Err (Refusals.Log why at)

-- document 01's number of an answer, and 0 where nothing is refused
abbrev pub recovery_number : Recovery → ℕ
recovery_number (Ok i) = 0
recovery_number (Err (Refusals.Snapshot why)) = number why
recovery_number (Err (Refusals.Log why at)) = number why

-- the byte of the log that a refusal names, and 0 where it names none
abbrev pub recovery_byte : Recovery → ℕ
recovery_byte (Ok i) = 0
recovery_byte (Err (Refusals.Snapshot why)) = 0
recovery_byte (Err (Refusals.Log why at)) = at

-- what was reached over a snapshot, with how many records are live, before a log of n bytes
abbrev pub recovered_told : SnapshotInfo → ℕ → ℕ → Reached → RecoveryInfo
recovered_told info n active r =
    record {
      config = info.config;
      crc = info.crc;
      sequence = r.sequence;
      records = r.table.tree.count;
      active = active;
      replayed = r.replayed;
      skipped = r.skipped;
      keep = r.keep;
      tail = n - r.keep;
      size = r.table.size;
    }
