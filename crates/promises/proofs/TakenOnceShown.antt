-- What `specs/RecoveredOnce.antt` says of the counts and the rows that `recover` gives.
use Prim.Native.Nat.{ℕ}
use mathlib.Core.Path.{ap, ◌∙◌}
use Rattle.meaning.specs.Recovery.{recover}
use Rattle.theorems.proofs.TakenOnce.{taken_once, taken_if}
use Rattle.recovery.specs.Told.{recovery_answer}
use Rattle.promises.specs.Recover.{shown}
use Rattle.promises.specs.RecoveredOnce.{RecoveredOnce}
use Rattle.promises.proofs.RecoverShown.{shows}

pub recovered_once : RecoveredOnce
recovered_once =
    record {
      recovered_once = λ lent snapshot log bs bl i words call. taken_once lent snapshot log (shown i words) (shows lent snapshot log i words bs bl call).given;
      told_of_shown = λ lent snapshot log bs bl i words call. (shows lent snapshot log i words bs bl call).told_is;
      accepted_if = λ lent snapshot log S k rows short reads ended follows applied r words call.
          call.meets.result_is
          ∙ ap (λ (n : ℕ). recovery_answer log (recover n snapshot log)) call.as_many
          ∙ ap (recovery_answer log) (taken_if lent snapshot log S k rows short reads ended follows applied);
    }
