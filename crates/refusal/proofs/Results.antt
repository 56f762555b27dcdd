-- Laws of results: a test that stops, a test that is passed, and what an answer says of all that was passed on the way to it.
use Rattle.std.specs.Prelude.{Ok, Err}
use mathlib.Core.Path.{◌≡◌, refl, sym, ap, subst}
use mathlib.Core.Bool.{Bool, true, false, true≢false, false≢true}
use mathlib.Core.List.{List}
use Prim.Native.Nat.{ℕ}
use native.Mathlib.Omega.{arith}
use lib.ListN.{length}
use Rattle.refusal.specs.Refusal.{Answer, ◌>>=◌, refuse, told, size_told, written_told}
use Rattle.refusal.specs.declared.Refusal.{Refusal}

module _ {A : Type 0} where
  abbrev pub IsAnswer : Answer A → Type 0
  IsAnswer (Ok a) = Unit
  IsAnswer (Err why) = ⊥

  abbrev pub answer_or : A → Answer A → A
  answer_or z (Ok a) = a
  answer_or z (Err why) = z

  pub answer_injective : (a b : A) → ◌≡◌ {A = Answer A} (Ok a) (Ok b) → a ≡ b
  answer_injective a b e = ap (answer_or a) e

  pub refused_no_answer : (why : Refusal) (a : A) → ◌≡◌ {A = Answer A} (Err why) (Ok a) → ⊥
  refused_no_answer why a e = subst IsAnswer (sym e) tt

-- ---- forwards
pub stop : {B : Type 0} (why : Refusal) (test : Bool) (next : Unit {0} → Answer B) → test ≡ true → (refuse why test >>= next) ≡ Err why
stop why true next e = refl
stop why false next e = absurd (false≢true e)

pub pass : {B : Type 0} (why : Refusal) (test : Bool) (next : Unit {0} → Answer B) → test ≡ false → (refuse why test >>= next) ≡ next tt
pass why true next e = absurd (true≢false e)
pass why false next e = refl

pub go_on : {A B : Type 0} (r : Answer A) (next : A → Answer B) (a : A) → r ≡ Ok a → (r >>= next) ≡ next a
go_on {A} r next a e = ap (λ (x : Answer A). x >>= next) e

pub give_up : {A B : Type 0} (r : Answer A) (next : A → Answer B) (why : Refusal) → r ≡ Err why → (r >>= next) ≡ Err why
give_up {A} r next why e = ap (λ (x : Answer A). x >>= next) e

-- ---- backwards
pub record Passed {A B : Type 0} (r : Answer A) (next : A → Answer B) (b : B) : Type 0 where
  pub value : A
  pub first : r ≡ Ok value
  pub then : next value ≡ Ok b

pub passed : {A B : Type 0} (r : Answer A) (next : A → Answer B) (b : B) → (r >>= next) ≡ Ok b → Passed r next b
passed (Ok a) next b e = record { value = a; first = refl; then = e }
passed (Err why) next b e = absurd (refused_no_answer why b e)

pub record Went {B : Type 0} (test : Bool) (next : Answer B) (b : B) : Type 0 where
  pub test_false : test ≡ false
  pub then : next ≡ Ok b

pub went : {B : Type 0} (why : Refusal) (test : Bool) (next : Unit {0} → Answer B) (b : B)
    → (refuse why test >>= next) ≡ Ok b → Went test (next tt) b
went why true next b e = absurd (refused_no_answer why b e)
went why false next b e = record { test_false = refl; then = e }

-- a last test that is passed
pub not_refused : (why : Refusal) (test : Bool) → refuse why test ≡ Ok tt → test ≡ false
not_refused why true e = absurd (refused_no_answer why tt e)
not_refused why false e = refl

-- ---- in two steps
pub bind_assoc : {A B C : Type 0} (r : Answer A) (f : A → Answer B) (g : B → Answer C) → (r >>= (λ a. f a >>= g)) ≡ r >>= f >>= g
bind_assoc (Ok a) f g = refl
bind_assoc (Err why) f g = refl

pub same_next : {A B : Type 0} (r : Answer A) (f g : A → Answer B) → ((a : A) → f a ≡ g a) → (r >>= f) ≡ (r >>= g)
same_next (Ok a) f g e = e a
same_next (Err why) f g e = refl

-- ---- told
pub told_bind : {A B C : Type 0} (good : B → C) (bad : Refusal → C) (r : Answer A) (next : A → Answer B)
    → told good bad (r >>= next) ≡ told (λ a. told good bad (next a)) bad r
told_bind good bad (Ok a) next = refl
told_bind good bad (Err why) next = refl

-- ---- what the code's answers say of the answer that they tell in brief
-- an answer, told by its size
pub record Sized {A : Type 0} (size : A → ℕ) (r : Answer A) (n : ℕ) : Type 0 where
  pub value : A
  pub is : r ≡ Ok value
  pub size_is : size value ≡ n

pub sized_is : {A : Type 0} (size : A → ℕ) (r : Answer A) (n : ℕ) → size_told size r ≡ Ok n → Sized size r n
sized_is size (Ok a) n e = record { value = a; is = refl; size_is = cc }
sized_is size (Err why) n e = absurd (let z : ◌≡◌ {A = ℕ} 0 1 = cc in omega arith)

pub sized_not : {A : Type 0} (size : A → ℕ) (r : Answer A) (why : Refusal) → size_told size r ≡ Err why → r ≡ Err why
sized_not size (Ok a) why e = absurd (let z : ◌≡◌ {A = ℕ} 0 1 = cc in omega arith)
sized_not size (Err w) why e = let same : w ≡ why = cc in ap Err same

pub written_is : (r : Answer (List ℕ)) (n : ℕ) → written_told r ≡ Ok n → Sized length r n
written_is (Ok a) n e = record { value = a; is = refl; size_is = cc }
written_is (Err why) n e = absurd (let z : ◌≡◌ {A = ℕ} 0 1 = cc in omega arith)

pub written_not : (r : Answer (List ℕ)) (why : Refusal) → written_told r ≡ Err why → r ≡ Err why
written_not (Ok a) why e = absurd (let z : ◌≡◌ {A = ℕ} 0 1 = cc in omega arith)
written_not (Err w) why e = let same : w ≡ why = cc in ap Err same
