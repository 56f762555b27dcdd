-- At a `match` or a `?` on a callee's answer: what the callee's contract says of it, and what it is; and what a `?` hands on.
use mathlib.Core.Path.{◌≡◌, sym, ap, ◌∙◌}
use Rattle.std.specs.Prelude.{Result, Ok, Err, IsErr, IsErrAnd}
use Rattle.refusal.specs.Refusal.{Answer}

pub came_to : {A : Type 0} (r : Answer A) {x y : Answer A} → x ≡ r → x ≡ y → r ≡ y
came_to r e g = sym e ∙ g

-- the error of a `?`, handed on as it is
pub handed_on : {A E : Type 0} (r : Result A E) (why : E) → IsErr r × IsErrAnd r (λ e. e ≡ why) → r ≡ Err why
handed_on (Ok a) why h = absurd h.1
handed_on {E} (Err e) why h = ap (λ (x : E). Err x) h.1
