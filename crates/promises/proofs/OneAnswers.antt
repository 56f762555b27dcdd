-- Two answers that a contract permits are the same: each is what the contract's one equation gives.
use mathlib.Core.Path.{◌≡◌, sym, ◌∙◌}
use mathlib.Core.List.{List}
use Prim.Native.Nat.{ℕ}
use Rattle.std.specs.Prelude.{Ok}
use Rattle.refusal.specs.Refusal.{Answer}
use Rattle.refusal.proofs.Results.{answer_injective}
use denote.Ref.{MutBor}
use Rattle.promises.specs.OneAnswer.{Gives, GivesOk, LentAfter}

pub one_answer : {A : Type 0} {meant first second : A} → first ≡ meant → second ≡ meant → first ≡ second
one_answer e f = e ∙ sym f

-- what a caller learns is the equation
pub exact : {A : Type 0} {meant : A} → Gives meant (λ r. r ≡ meant)
exact = record { contract = λ r e. e; one_answer = λ r s e f. one_answer e f }

pub exact_ok : {A : Type 0} {meant : Answer A} → GivesOk meant (λ r. meant ≡ Ok r)
exact_ok = record { contract = λ r e. e; one_answer = λ r s e f. answer_injective r s (sym e ∙ f) }

pub exact_after : {meant : List ℕ} → LentAfter meant (λ (after : MutBor (List ℕ)). after.now ≡ meant)
exact_after = record { contract = λ after e. e; one_answer = λ x y e f. one_answer e f }
