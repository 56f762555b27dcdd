-- Demand 3 of the code's own calls: `recover` a front of a log, `write_snapshot` what it told and left in the tables, and `recover` the
-- file that was written, beside the whole log or beside the rest of it.
use Rattle.refusal.specs.Refusal.{Answer}
use Rattle.std.specs.Prelude.{ℕ, ◌≡◌, List, ◌++◌, take, drop, Ok, Err}
use Rattle.fields.specs.Fields.{Bytes}
use Rattle.meaning.specs.Calls.{recovery_told}
use Rattle.theorems.specs.Cut.{Cut, place, there}
use Rattle.recovery.specs.Told.{Recovery, info_of}
use Rattle.recovery.specs.declared.RecoveryInfo.{RecoveryInfo}
use Rattle.promises.specs.Recover.{Recovers, compared_shown, brief_shown}
use Rattle.promises.specs.Store.{WriteMeets}
use Rattle.promises.specs.WrittenFile.{answer_for}

-- a file recovers as the old snapshot does beside a log of which `keep` bytes may be cut off
pub record RecoversAlike (lent : ℕ) (old file log : List ℕ) (keep : ℕ) : Type 0 where
  -- beside the whole log: the same records, settings, sequence, tail and replayed plus skipped, or the same refusal at the same byte
  pub beside_the_whole_log : (r s : Recovery) (words words' : List ℕ) → Recovers lent old log r words → Recovers lent file log s words'
      → compared_shown file log s words' ≡ compared_shown old log r words
  -- if the old pair is accepted, beside the rest of the log: the same records, settings, sequence and tail
  pub beside_the_rest : (i : RecoveryInfo) (s : Recovery) (words words' : List ℕ) → Recovers lent old log (Ok i) words
      → Recovers lent file (drop keep log) s words'
      → brief_shown file (drop keep log) s words' ≡ brief_shown old log (Ok i) words

-- what `write_snapshot` leaves: a file that recovers as the old snapshot does, or the output as it was
abbrev pub Rewrites : ℕ → List ℕ → List ℕ → ℕ → List ℕ → Answer ℕ → List ℕ → Type 0
Rewrites lent old log keep out (Ok n) after = RecoversAlike lent old (take n after) log keep
Rewrites lent old log keep out (Err why) after = after ≡ out

pub record RecoverWriteRecover : Type 0 where
  -- `recover` accepts a front of the log, whole or with a tail; what it told and left is handed to `write_snapshot` with the snapshot and
  -- that front, or a log that begins with it. It answers by the size that was told: 34, 32 or as many bytes. The log may be cut where
  -- the front's tail begins
  pub recover_write_recover : (lent : ℕ) (snapshot front rest : List ℕ) → Bytes snapshot → Bytes (front ++ rest)
      → (i : RecoveryInfo) (words : List ℕ) → Recovers lent snapshot front (Ok i) words
      → (more out : List ℕ) (w : Answer ℕ) (after : List ℕ) → WriteMeets i.config i.sequence words i.records snapshot (front ++ more) out w after
      → (w ≡ answer_for i.size out) × Rewrites lent snapshot (front ++ rest) i.keep out w after
  -- such a front ends before the first frame and after every frame that recovery reads without refusal, whatever follows: `recover`
  -- accepts it, and its tail is empty
  pub cut_accepted : (lent : ℕ) (snapshot log : List ℕ) (cut : Cut lent snapshot log) (r : Recovery) (words : List ℕ)
      → Recovers lent snapshot (take (place cut) log) r words → r ≡ Ok (info_of (recovery_told (take (place cut) log) (there cut)))
