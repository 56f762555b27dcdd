-- An accepted operation, as it was read.
use Rattle.std.specs.Prelude.{Ok}
use mathlib.Core.Path.{◌≡◌, sym, ap, ◌∙◌}
use Rattle.refusal.specs.Refusal.{Answer}
use Rattle.refusal.proofs.Results.{answer_injective}
use Rattle.meaning.specs.Log as Meant
use Rattle.store_log.specs.Told.{operation_read, operation_told}
use Rattle.store_log.specs.declared.ReadOperation.{ReadOperation}

pub stored_read : (r : Answer Meant.ReadOperation) (o : ReadOperation) (x : Meant.ReadOperation) → operation_told r ≡ Ok o → r ≡ Ok x → o ≡ operation_read x
stored_read r o x told is = answer_injective o (operation_read x) (sym told ∙ ap operation_told is)
