-- The five wrong recoveries of document 01 ("What we hold each contract to"), each shut out by the contract of `recover`.
use Rattle.std.specs.Prelude.{ℕ, ◌<◌, ◌^◌, ◌≡◌, List, length, take, Ok}
use Rattle.fields.specs.Fields.{Bytes}
use Rattle.rows.specs.Lent.{rows_lent}
use Rattle.meaning.specs.Every.{Every}
use Rattle.meaning.specs.Snapshot.{Snapshot, read_snapshot}
use Rattle.meaning.specs.Log.{frames_of}
use Rattle.theorems.specs.Cut.{Cut, place}
use Rattle.theorems.specs.EachFrameOnce.{up_to, above}
use Rattle.recovery.specs.Told.{Recovery}
use Rattle.recovery.specs.declared.RecoveryInfo.{RecoveryInfo}
use Rattle.promises.specs.Recover.{RecoverMeets, records_shown}

-- any recovery at all: what it answers and what it leaves in the tables, of a snapshot, a log, row words and active entries
pub record AnyRecovery : Type 0 where
  pub answers : (snapshot log rows active : List ℕ) → Recovery
  pub rows_after : (snapshot log rows active : List ℕ) → List ℕ
  pub active_after : (snapshot log rows active : List ℕ) → List ℕ

module _ (f : AnyRecovery) where
  -- it meets the contract of `recover` wherever it is handed bytes, words of 64 bits and entries of 32
  abbrev pub Keeps : Type 0
  Keeps = (snapshot log rows active : List ℕ) → Bytes snapshot → Bytes log → Every (λ x. x < 2 ^ 64) rows → Every (λ x. x < 2 ^ 32) active
      → RecoverMeets snapshot log rows active (f.answers snapshot log rows active) (f.rows_after snapshot log rows active) (f.active_after snapshot log rows active)

  -- one that refuses all
  abbrev pub RefusesAll : Type 0
  RefusesAll = (snapshot log rows active : List ℕ) (i : RecoveryInfo) → f.answers snapshot log rows active ≡ Ok i → ⊥

  -- one constant answer, wherever it accepts
  abbrev pub OneConstant : Type 0
  OneConstant = (snapshot log rows active snapshot' log' rows' active' : List ℕ) (i j : RecoveryInfo)
      → f.answers snapshot log rows active ≡ Ok i → f.answers snapshot' log' rows' active' ≡ Ok j → i ≡ j

  -- the same records wherever it accepts, as they are seen through the rows it leaves
  abbrev pub SameRecords : Type 0
  SameRecords = (snapshot log rows active snapshot' log' rows' active' : List ℕ) (i j : RecoveryInfo)
      → f.answers snapshot log rows active ≡ Ok i → f.answers snapshot' log' rows' active' ≡ Ok j
      → records_shown snapshot log i (f.rows_after snapshot log rows active) ≡ records_shown snapshot' log' j (f.rows_after snapshot' log' rows' active')

  -- the same row words in the same tables, wherever it accepts
  abbrev pub SameRows : Type 0
  SameRows = (snapshot log snapshot' log' rows active : List ℕ) (i j : RecoveryInfo)
      → f.answers snapshot log rows active ≡ Ok i → f.answers snapshot' log' rows active ≡ Ok j
      → f.rows_after snapshot log rows active ≡ f.rows_after snapshot' log' rows active

  -- one that writes no row word, and one that writes no active entry
  abbrev pub WritesNoRow : Type 0
  WritesNoRow = (snapshot log rows active : List ℕ) → f.rows_after snapshot log rows active ≡ rows

  abbrev pub WritesNoEntry : Type 0
  WritesNoEntry = (snapshot log rows active : List ℕ) → f.active_after snapshot log rows active ≡ active

  -- one that replays the first frame and ignores the rest: cut behind its first frame, the log leaves the same rows
  abbrev pub FirstFrameOnly : Type 0
  FirstFrameOnly = (snapshot log rows active : List ℕ) (cut : Cut (rows_lent rows active) snapshot log) → length cut.front ≡ 1
      → f.rows_after snapshot log rows active ≡ f.rows_after snapshot (take (place cut) log) rows active

  -- one that skips what the snapshot has, replays the first frame behind it and ignores the rest
  abbrev pub FirstReplayedOnly : Type 0
  FirstReplayedOnly = (snapshot log rows active : List ℕ) (cut : Cut (rows_lent rows active) snapshot log) → cut.state.replayed ≡ 1
      → f.rows_after snapshot log rows active ≡ f.rows_after snapshot (take (place cut) log) rows active

  -- replayed and skipped are those of the definition's frame list, not invented
  abbrev pub CountsTheFrames : Type 0
  CountsTheFrames = (snapshot log rows active : List ℕ) → Bytes snapshot → Bytes log → Every (λ x. x < 2 ^ 64) rows → Every (λ x. x < 2 ^ 32) active
      → (i : RecoveryInfo) → f.answers snapshot log rows active ≡ Ok i
      → (S : Snapshot) → read_snapshot (rows_lent rows active) snapshot ≡ Ok S
      → (i.replayed ≡ length (above S.sequence (frames_of S.config log).frames)) × (i.skipped ≡ length (up_to S.sequence (frames_of S.config log).frames))

-- no recovery that keeps the contract is like this
abbrev pub ShutOut : (AnyRecovery → Type 0) → Type 0
ShutOut Wrong = (f : AnyRecovery) → Keeps f → Wrong f → ⊥

pub record WrongRecoveries : Type 0 where
  pub refuses_all : ShutOut RefusesAll
  pub one_constant : ShutOut OneConstant
  pub same_records : ShutOut SameRecords
  pub same_rows : ShutOut SameRows
  pub writes_no_row : ShutOut WritesNoRow
  pub writes_no_entry : ShutOut WritesNoEntry
  pub first_frame_only : ShutOut FirstFrameOnly
  pub first_replayed_only : ShutOut FirstReplayedOnly
  pub counts_the_frames : (f : AnyRecovery) → Keeps f → CountsTheFrames f
