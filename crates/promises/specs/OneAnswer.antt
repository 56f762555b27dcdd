-- A contract leaves nothing to choose: two answers that it permits are the same, and so is what they leave in lent memory.
-- A call whose contract is one equation has a statement `…_one_answer`, by `Gives` or `LentAfter`. Of another call, or of one that other
-- statements speak of: `…Meets` is what its contract says of a result and of what was lent, in the contract's own words; `…_contract`:
-- what a caller learns from the contract in the source is this; `…_one_answer`: nothing is left to choose.
use Rattle.std.specs.Prelude.{◌≡◌, List, ℕ, Ok}
use Rattle.refusal.specs.Refusal.{Answer}
use Rattle.std.specs.Borrow.{Bor, MutBor}

-- one thing: a result, or what was lent, after
abbrev pub One : {A : Type 0} → (A → Type 0) → Type 0
One {A} Meets = (r s : A) → Meets r → Meets s → r ≡ s

abbrev pub OneEach : {A B : Type 0} → (A → B → Type 0) → Type 0
OneEach {A} {B} Meets = (r s : A) (x y : B) → Meets r x → Meets s y → (r ≡ s) × (x ≡ y)

abbrev pub OneOfThree : {A B C : Type 0} → (A → B → C → Type 0) → Type 0
OneOfThree {A} {B} {C} Meets = (r s : A) (x y : B) (z w : C) → Meets r x z → Meets s y w → (r ≡ s) × (x ≡ y) × (z ≡ w)

-- a slice that is given: where it begins, and its bytes
abbrev pub OneView : (Bor (List ℕ) → Type 0) → Type 0
OneView Meets = (r s : Bor (List ℕ)) → Meets r → Meets s → (r.ref_ptr ≡ s.ref_ptr) × (r.now ≡ s.now)

-- A contract of one equation. `Learnt` is what a caller learns of an answer from the contract in the source: it is `meant`, and so two
-- that the contract permits are the same.
pub record Gives {A : Type 0} (meant : A) (Learnt : A → Type 0) : Type 0 where
  pub contract : (r : A) → Learnt r → r ≡ meant
  pub one_answer : One Learnt

-- the same of a call that is made only where the definition does not refuse
pub record GivesOk {A : Type 0} (meant : Answer A) (Learnt : A → Type 0) : Type 0 where
  pub contract : (r : A) → Learnt r → meant ≡ Ok r
  pub one_answer : One Learnt

-- the same of what was lent, after
pub record LentAfter (meant : List ℕ) (Learnt : MutBor (List ℕ) → Type 0) : Type 0 where
  pub contract : (after : MutBor (List ℕ)) → Learnt after → after.now ≡ meant
  pub one_answer : (x y : MutBor (List ℕ)) → Learnt x → Learnt y → x.now ≡ y.now
