-- The call `recover`, told as `OneAnswer` says; and what an answer shows with the row words beside it.
use Rattle.std.specs.Prelude.{ℕ, ◌+◌, ◌≡◌, List, map, Ok, Err}
use Rattle.std.specs.Borrow.{Bor, MutBor}
use Rattle.rows.specs.Lent.{rows_lent}
use Rattle.meaning.specs.Records.{Record, seen}
use Rattle.meaning.specs.Recovery.{Recovered}
use Rattle.meaning.specs.Tables.{rows_in}
use Rattle.meaning.specs.Calls.{recover_call, recover_tables}
use Rattle.theorems.specs.Compared.{Compared, accepts, refuses, refuses_snapshot, Brief, holds, no_state}
use Rattle.recovery.specs.Told.{Recovery, recovery_answer}
use Rattle.recovery.specs.declared.RecoveryInfo.{RecoveryInfo}
use Rattle.recovery.specs.declared.NotRecovered.TheVariants as Refusals
use Rattle.recovery.proofs.recover.Reads as RecoverCall
use Rattle.promises.specs.OneAnswer.{OneOfThree}

-- recover(snapshot, log, rows, active): the answer, the row words and the active entries after
pub record RecoverMeets (snapshot log rows active : List ℕ) (r : Recovery) (rows' active' : List ℕ) : Type 0 where
  pub result_is : r ≡ recovery_answer log (recover_call rows active snapshot log)
  pub rows_are : rows' ≡ (recover_tables rows active (recover_call rows active snapshot log)).rows
  pub active_is : active' ≡ (recover_tables rows active (recover_call rows active snapshot log)).active

pub record RecoverCalls : Type 0 where
  pub recover_contract : (κs : _) (snapshot log : Bor (List ℕ)) (rows active : MutBor (List ℕ)) (r : Recovery) (rows' active' : MutBor (List ℕ))
      → RecoverCall.Learnt κs (snapshot, (log, (rows, (active, tt)))) r (snapshot, (log, (rows', (active', tt))))
      → RecoverMeets snapshot.now log.now rows.now active.now r rows'.now active'.now
  pub recover_one_answer : (snapshot log rows active : List ℕ) → OneOfThree (RecoverMeets snapshot log rows active)

-- a call of `recover` that is lent tables for so many rows, whatever stands in them: its answer, and the row words after
pub record Recovers (lent : ℕ) (snapshot log : List ℕ) (r : Recovery) (words : List ℕ) : Type 0 where
  pub rows : List ℕ
  pub active : List ℕ
  pub as_many : rows_lent rows active ≡ lent
  pub active' : List ℕ
  pub meets : RecoverMeets snapshot log rows active r words active'

-- what an answer and the row words beside it show: a row per record, as it stands in the words
abbrev pub shown : RecoveryInfo → List ℕ → Recovered
shown i words =
    record {
      config = i.config;
      crc = i.crc;
      state = record { records = rows_in i.records words; sequence = i.sequence; replayed = i.replayed; skipped = i.skipped };
      keep = i.keep;
    }

-- the records, as seen through the rows in the words
abbrev pub records_shown : List ℕ → List ℕ → RecoveryInfo → List ℕ → List Record
records_shown snapshot log i words = map (seen i.config.dimensions snapshot log) (rows_in i.records words)

-- what demand 3 compares: settings, records, sequence, replayed plus skipped, tail; or the refusal and its byte
abbrev pub compared_shown : List ℕ → List ℕ → Recovery → List ℕ → Compared
compared_shown snapshot log (Ok i) words = accepts i.config (records_shown snapshot log i words) i.sequence (i.replayed + i.skipped) i.tail
compared_shown snapshot log (Err (Refusals.Snapshot why)) words = refuses_snapshot why
compared_shown snapshot log (Err (Refusals.Log why at)) words = refuses why at

-- the same without the count of frames, for a log without its front
abbrev pub brief_shown : List ℕ → List ℕ → Recovery → List ℕ → Brief
brief_shown snapshot log (Ok i) words = holds i.config (records_shown snapshot log i words) i.sequence i.tail
brief_shown snapshot log (Err (Refusals.Snapshot why)) words = no_state
brief_shown snapshot log (Err (Refusals.Log why at)) words = no_state
