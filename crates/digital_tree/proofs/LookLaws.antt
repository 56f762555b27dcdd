-- The way of an ID, link by link.
use Prim.Native.Nat.{ℕ, zero, suc, ◌+◌, ◌*◌, ◌-◌, ◌<◌, ◌≤◌}
use native.Mathlib.Omega.{arith}
use mathlib.Core.Bool.{Bool, true, false, cond}
use mathlib.Core.Path.{◌≡◌, refl, ap, ◌∙◌}
use lib.Dec.{eqb}
use borrow.Author.Tests.{eq-eqb, ne_eqb, eqb-true, eqb-false}
use Rattle.digital_tree.specs.Look.{bit_at, look}

cond_same : {A : Type 0} (b : Bool) (a : A) → cond b a a ≡ a
cond_same true a = refl
cond_same false a = refl

-- what a link can be on the way of an ID: none, a node of this ID, or a node of another
pub data Turn (id_of link : ℕ → ℕ) (z id : ℕ) : Type 0 where
  empty : link z ≡ 0 → Turn id_of link z id
  here : id_of (link z) ≡ id → Turn id_of link z id
  down : 0 < link z → (id_of (link z) ≡ id → ⊥) → Turn id_of link z id

pub turn : (id_of link : ℕ → ℕ) (z id : ℕ) → Turn id_of link z id
turn id_of link z id = go (eqb (link z) 0) refl (eqb (id_of (link z)) id) refl
  where
    go : (a : Bool) → eqb (link z) 0 ≡ a → (b : Bool) → eqb (id_of (link z)) id ≡ b → Turn id_of link z id
    go true p b q = empty (eqb-true _ _ p)
    go false p true q = here (eqb-true _ _ q)
    go false p false q = let n = eqb-false (link z) 0 p in down (omega arith) (eqb-false _ _ q)

module _ (key id_of link : ℕ → ℕ) where
  pub look_empty : (f z id : ℕ) → link z ≡ 0 → look key id_of link f z id ≡ z
  unfolding look
  look_empty zero z id e = refl
  look_empty (suc f) z id e = simp (eq-eqb (link z) 0 e)

  pub look_here : (f z id : ℕ) → id_of (link z) ≡ id → look key id_of link f z id ≡ z
  unfolding look
  look_here zero z id e = refl
  look_here (suc f) z id e = simp (eq-eqb (id_of (link z)) id e, cond_same)

  pub look_down : (f z id : ℕ) → 0 < link z → (id_of (link z) ≡ id → ⊥) → look key id_of link (suc f) z id ≡ look key id_of link f (2 * link z + bit_at (key id) f) id
  unfolding look
  look_down f z id p n = simp (ne_eqb (link z) 0 (λ e. omega arith), ne_eqb (id_of (link z)) id n)

  -- the same where the count falls to f - 1
  pub look_turn : (f z id : ℕ) → 0 < f → 0 < link z → (id_of (link z) ≡ id → ⊥) → look key id_of link f z id ≡ look key id_of link (f - 1) (2 * link z + bit_at (key id) (f - 1)) id
  look_turn zero z id h p n = absurd (omega arith)
  look_turn (suc f) z id h p n =
      let e : f ≡ suc f - 1 = omega arith in
      look_down f z id p n ∙ ap (λ (g : ℕ). look key id_of link g (2 * link z + bit_at (key id) g) id) e

  pub look_over : (f z id : ℕ) → f ≤ 0 → look key id_of link f z id ≡ z
  unfolding look
  look_over zero z id h = refl
  look_over (suc f) z id h = absurd (omega arith)
