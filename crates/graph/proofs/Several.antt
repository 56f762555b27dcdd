-- Laws of `several` and `each`: a turn of a loop over things read in a row, where they end, and what was asked of each of them.
use Rattle.std.specs.Prelude.{Ok, Err}
use Prim.Native.Nat.{ℕ, zero, suc, ◌+◌, ◌-◌, ◌≤◌, ◌<◌}
use mathlib.Core.Path.{◌≡◌, refl, sym, ap, ◌∙◌}
use mathlib.Core.List.{List, [], ◌∷◌}
use native.Mathlib.Numerals.{add-one}
use native.Mathlib.Omega.{arith}
use lib.ListN.{length, get_or}
use Rattle.refusal.specs.Refusal.{Answer, ◌>>=◌, passes}
use Rattle.refusal.proofs.Results.{passed, answer_injective}
use Rattle.graph.specs.Graph.{each}
use Rattle.graph.specs.Cache.{Read, several}
use Rattle.graph.specs.Told.{next_told}

module _ {A : Type 0} (one : ℕ → ℕ → Answer (Read A)) where
  kept : (this : A) (r : Answer (Read (List A))) → next_told (r >>= λ rest. Ok (record { value = this ∷ rest.value; next = rest.next })) ≡ next_told r
  kept this (Ok x) = refl
  kept this (Err why) = refl

  first_of : (n k at : ℕ) (r : Answer (Read A))
      → next_told (r >>= λ this. several one n (suc k) this.next >>= λ rest. Ok (record { value = this.value ∷ rest.value; next = rest.next }))
      ≡ (next_told r >>= λ next. next_told (several one n (suc k) next))
  first_of n k at (Ok x) = kept x.value (several one n (suc k) x.next)
  first_of n k at (Err why) = refl

  -- the run from here is what the next one leads to
  pub turn : (total k at : ℕ) → k < total
      → next_told (several one (total - k) k at) ≡ (next_told (one k at) >>= λ next. next_told (several one (total - (k + 1)) (k + 1) next))
  turn total k at h =
      let e : total - k ≡ suc (total - (k + 1)) = omega arith in
      ap (λ (n : ℕ). next_told (several one n k at)) e
      ∙ first_of (total - (k + 1)) k at (one k at)
      ∙ ap (λ (j : ℕ). next_told (one k at) >>= λ next. next_told (several one (total - (k + 1)) j next)) (sym (add-one k))

  pub over : (total k at : ℕ) → total ≤ k → next_told (several one (total - k) k at) ≡ Ok at
  over total k at h = let e : total - k ≡ 0 = omega arith in ap (λ (n : ℕ). next_told (several one n k at)) e

-- n + 1 things read are one and then n
pub record Parted {A : Type 0} (one : ℕ → ℕ → Answer (Read A)) (n k at : ℕ) (x : Read (List A)) : Type 0 where
  pub this : Read A
  pub rest : Read (List A)
  pub this_is : one k at ≡ Ok this
  pub rest_is : several one n (suc k) this.next ≡ Ok rest
  pub values : x.value ≡ this.value ∷ rest.value
  pub ends : x.next ≡ rest.next

pub parted : {A : Type 0} (one : ℕ → ℕ → Answer (Read A)) (n k at : ℕ) (x : Read (List A)) → several one (suc n) k at ≡ Ok x → Parted one n k at x
parted {A} one n k at x e =
    let p = passed (one k at) (λ this. several one n (suc k) this.next >>= λ rest. Ok (record { value = this.value ∷ rest.value; next = rest.next })) x e in
    let q = passed (several one n (suc k) p.value.next) (λ rest. Ok (record { value = p.value.value ∷ rest.value; next = rest.next })) x p.then in
    let i = answer_injective _ x q.then in
    record {
      this = p.value;
      rest = q.value;
      this_is = p.first;
      rest_is = q.first;
      values = sym (ap (λ (y : Read (List A)). y.value) i);
      ends = sym (ap (λ (y : Read (List A)). y.next) i);
    }

-- each ends no earlier than it begins, and not past the end: so do all
pub several_within : {A : Type 0} (one : ℕ → ℕ → Answer (Read A)) (end : ℕ)
    → ((k at : ℕ) (x : Read A) → at ≤ end → one k at ≡ Ok x → (at ≤ x.next) × (x.next ≤ end))
    → (n k at : ℕ) (x : Read (List A)) → at ≤ end → several one n k at ≡ Ok x → (at ≤ x.next) × (x.next ≤ end)
several_within {A} one end within zero k at x h e =
    let i : at ≡ x.next = ap (λ (y : Read (List A)). y.next) (answer_injective _ x e) in (omega arith, omega arith)
several_within one end within (suc n) k at x h e =
    let p = parted one n k at x e in
    let w = within k at p.this h p.this_is in
    let v = several_within one end within n (suc k) p.this.next p.rest w.1 p.rest_is in
    let i = p.ends in
    (omega arith, omega arith)

pub several_length : {A : Type 0} (one : ℕ → ℕ → Answer (Read A)) (n k at : ℕ) (x : Read (List A)) → several one n k at ≡ Ok x → length x.value ≡ n
several_length {A} one zero k at x e = sym (ap (λ (y : Read (List A)). length y.value) (answer_injective _ x e))
several_length one (suc n) k at x e =
    let p = parted one n k at x e in
    ap length p.values ∙ ap suc (several_length one n (suc k) p.this.next p.rest p.rest_is)

-- what each passes when it is read, all pass
pub several_tested : {A : Type 0} (one : ℕ → ℕ → Answer (Read A)) (test : ℕ → A → Answer (Unit {0})) (total : ℕ)
    → ((k at : ℕ) (x : Read A) → k < total → one k at ≡ Ok x → test k x.value ≡ passes)
    → (n k at : ℕ) (x : Read (List A)) → k + n ≤ total → several one n k at ≡ Ok x → each test k x.value ≡ passes
several_tested {A} one test total tested zero k at x h e =
    let i : x.value ≡ [] = sym (ap (λ (y : Read (List A)). y.value) (answer_injective _ x e)) in ap (each test k) i
several_tested one test total tested (suc n) k at x h e =
    let p = parted one n k at x e in
    let t = tested k at p.this (omega arith) p.this_is in
    let r = several_tested one test total tested n (suc k) p.this.next p.rest (omega arith) p.rest_is in
    ap (each test k) p.values ∙ ap (λ (u : Answer (Unit {0})). u >>= λ _. each test (suc k) p.rest.value) t ∙ r

-- of all that pass, each does
pub each_at : {A : Type 0} (test : ℕ → A → Answer (Unit {0})) (d : A) (k : ℕ) (xs : List A) → each test k xs ≡ passes
    → (i : ℕ) → i < length xs → test (k + i) (get_or xs i d) ≡ passes
each_at test d k [] e i h = absurd (omega arith)
each_at test d k (x ∷ xs) e zero h =
    let p = passed (test k x) (λ _. each test (suc k) xs) tt e in
    let z : k + zero ≡ k = omega arith in
    ap (λ (j : ℕ). test j x) z ∙ p.first
each_at test d k (x ∷ xs) e (suc i) h =
    let p = passed (test k x) (λ _. each test (suc k) xs) tt e in
    let z : k + suc i ≡ suc k + i = omega arith in
    ap (λ (j : ℕ). test j (get_or xs i d)) z ∙ each_at test d (suc k) xs p.then i (omega arith)
