-- A result back from how an answer of this crate tells it: at a `?` on a callee's answer, what the callee's result was.
use Rattle.std.specs.Prelude.{Ok, Err}
use Prim.Native.Nat.{ℕ}
use mathlib.Core.Path.{◌≡◌, refl, sym, ap, ◌∙◌}
use Rattle.refusal.specs.Refusal.{Answer, told}
use Rattle.refusal.specs.declared.Refusal.{Refusal}
use Rattle.rows.specs.declared.Row.{Row}
use Rattle.meaning.specs.Snapshot as Meant
use Rattle.snapshot.specs.Told.{record_told}

abbrev pub from_record : Answer (Row × ℕ) → Answer Meant.ReadRow
from_record (Ok x) = Ok (record { row = x.0; next = x.1 })
from_record (Err why) = Err why

pub record_is : (r : Answer Meant.ReadRow) {x y : Answer (Row × ℕ)} → x ≡ record_told r → x ≡ y → r ≡ from_record y
record_is (Ok x) e g = ap from_record (sym e ∙ g)
record_is (Err why) e g = ap from_record (sym e ∙ g)

-- ---- an answer that is told in brief
module _ {A B : Type 0} (good : A → B) where
  pub record Found (r : Answer A) (b : B) : Type 0 where
    pub value : A
    pub is : r ≡ Ok value
    pub told_as : b ≡ good value

  pub found : (r : Answer A) {x : Answer B} {b : B} → x ≡ told (λ a. Ok (good a)) (λ why. Err why) r → x ≡ Ok b → Found r b
  found (Ok a) e g = record { value = a; is = refl; told_as = cc }
  found (Err why) e g = absurd (cc)

  pub refused : (r : Answer A) {x : Answer B} {why : Refusal} → x ≡ told (λ a. Ok (good a)) (λ why. Err why) r → x ≡ Err why → r ≡ Err why
  refused (Ok a) e g = absurd (cc)
  refused (Err w) e g = cc
