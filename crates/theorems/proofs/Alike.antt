-- Two tests or two readings that go alike: each answers what the other does, or its answer carried along a function.
use Rattle.std.specs.Prelude.{Ok, Err}
use Prim.Native.Nat.{ℕ, ◌<◌}
use mathlib.Core.Path.{◌≡◌, refl, sym, ap, ◌∙◌}
use mathlib.Core.Bool.{Bool, true, false, cond, true≢false, false≢true}
use lib.Dec.{ltb, eqb}
use Rattle.refusal.specs.Refusal.{Answer, ◌>>=◌, refuse}
use Rattle.refusal.specs.declared.Refusal.{Refusal}
use borrow.Author.Tests.{ltb-true, lt-ltb, eqb-true, eq-eqb}

-- two tests of which each implies the other are the same
pub same_test : (a b : Bool) → (a ≡ true → b ≡ true) → (b ≡ true → a ≡ true) → a ≡ b
same_test true true f g = refl
same_test true false f g = sym (f refl)
same_test false true f g = g refl
same_test false false f g = refl

pub same_less : (a b x y : ℕ) → (a < b → x < y) → (x < y → a < b) → ltb a b ≡ ltb x y
same_less a b x y f g =
    same_test (ltb a b) (ltb x y) (λ e. lt-ltb x y (f (ltb-true a b e))) (λ e. lt-ltb a b (g (ltb-true x y e)))

pub same_equal : (a b x y : ℕ) → (a ≡ b → x ≡ y) → (x ≡ y → a ≡ b) → eqb a b ≡ eqb x y
same_equal a b x y f g =
    same_test (eqb a b) (eqb x y) (λ e. eq-eqb x y (f (eqb-true a b e))) (λ e. eq-eqb a b (g (eqb-true x y e)))

-- ---- answers
pub same_bind : {A B : Type 0} (x y : Answer A) (next next' : A → Answer B)
    → x ≡ y → ((a : A) → y ≡ Ok a → next a ≡ next' a) → (x >>= next) ≡ (y >>= next')
same_bind x (Ok a) next next' e h = ap (λ z. z >>= next) e ∙ h a refl
same_bind x (Err why) next next' e h = ap (λ z. z >>= next) e

-- the same test, and the same after it
pub same_refuse : {B : Type 0} (why : Refusal) (x y : Bool) (next next' : Unit {0} → Answer B)
    → x ≡ y → (y ≡ false → next tt ≡ next' tt) → (refuse why x >>= next) ≡ (refuse why y >>= next')
same_refuse why true true next next' e h = refl
same_refuse why true false next next' e h = absurd (true≢false e)
same_refuse why false true next next' e h = absurd (false≢true e)
same_refuse why false false next next' e h = h refl

-- ---- an answer carried along a function
abbrev pub on_answer : {A B : Type 0} → (A → B) → Answer A → Answer B
on_answer f (Ok a) = Ok (f a)
on_answer f (Err why) = Err why

pub carried_refuse : {A B : Type 0} (f : A → B) (why : Refusal) (x y : Bool) (next : Unit {0} → Answer B) (next' : Unit {0} → Answer A)
    → x ≡ y → (y ≡ false → next tt ≡ on_answer f (next' tt)) → (refuse why x >>= next) ≡ on_answer f (refuse why y >>= next')
carried_refuse f why true true next next' e h = refl
carried_refuse f why true false next next' e h = absurd (true≢false e)
carried_refuse f why false true next next' e h = absurd (false≢true e)
carried_refuse f why false false next next' e h = h refl

pub carried_bind : {A B P Q : Type 0} (f : P → Q) (g : A → B) (x : Answer B) (y : Answer A) (next : B → Answer Q) (next' : A → Answer P)
    → x ≡ on_answer g y → ((a : A) → y ≡ Ok a → next (g a) ≡ on_answer f (next' a)) → (x >>= next) ≡ on_answer f (y >>= next')
carried_bind f g x (Ok a) next next' e h = ap (λ z. z >>= next) e ∙ h a refl
carried_bind f g x (Err why) next next' e h = ap (λ z. z >>= next) e

pub carried_cond : {A B : Type 0} (f : A → B) (x y : Bool) (p q : Answer B) (p' q' : Answer A)
    → x ≡ y → p ≡ on_answer f p' → q ≡ on_answer f q' → cond x p q ≡ on_answer f (cond y p' q')
carried_cond f true true p q p' q' e h k = h
carried_cond f true false p q p' q' e h k = absurd (true≢false e)
carried_cond f false true p q p' q' e h k = absurd (false≢true e)
carried_cond f false false p q p' q' e h k = k
