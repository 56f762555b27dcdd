-- Mixing is one to one below 2 ^ 64: the mixer has an inverse modulo 2 ^ 64.
use Prim.Native.Nat.{ℕ, ◌+◌, ◌*◌, ◌/◌, ◌%◌, ◌^◌, ◌<◌}
use native.Mathlib.Nat.{add-mul, mul-add, mul_assoc, mul_comm, mul-one, div-add-mod', mod-eq_of_lt, mul-add-mod_self_right, mod-lt}
use mathlib.Core.Path.{◌≡◌, refl, sym, ap, ap₂, ◌∙◌}
use lib.Dec.{lit<}
use Rattle.digital_tree.specs.Look.{mixer, mixed_id}

inverse : ℕ
inverse = 0xf1de83e19937733d

turns : ℕ
turns = 10771413168148108919

-- a factor goes by its remainder
factor_mod : (m x v : ℕ) → x % m * v % m ≡ x * v % m
factor_mod m x v =
    sym (ap (λ (y : ℕ). y * v % m) (sym (div-add-mod' x m))
    ∙ ap (λ (y : ℕ). y % m) (add-mul (x / m * m) (x % m) v
    ∙ ap (λ (y : ℕ). y + x % m * v) (mul_assoc (x / m) m v ∙ ap (λ (y : ℕ). x / m * y) (mul_comm m v) ∙ sym (mul_assoc (x / m) v m)))
    ∙ mul-add-mod_self_right (x / m * v) m (x % m * v))

-- the ID back from what the mixing gave
back : (id : ℕ) → id < 2 ^ 64 → mixed_id id * inverse % 2 ^ 64 ≡ id
unfolding mixed_id inverse turns
back id h =
    let e : mixer * inverse ≡ turns * 2 ^ 64 + 1 = refl in
    factor_mod (2 ^ 64) (id * mixer) inverse
    ∙ ap (λ (y : ℕ). y % 2 ^ 64)
    (mul_assoc id mixer inverse ∙ ap (λ (y : ℕ). id * y) e ∙ mul-add id (turns * 2 ^ 64) 1 ∙ ap₂ ◌+◌ (sym (mul_assoc id turns (2 ^ 64))) (mul-one id))
    ∙ mul-add-mod_self_right (id * turns) (2 ^ 64) id
    ∙ mod-eq_of_lt h

pub mixed_one_to_one : (a b : ℕ) → a < 2 ^ 64 → b < 2 ^ 64 → mixed_id a ≡ mixed_id b → a ≡ b
mixed_one_to_one a b p q e = sym (back a p) ∙ ap (λ (y : ℕ). y * inverse % 2 ^ 64) e ∙ back b q

pub mixed_below : (id : ℕ) → mixed_id id < 2 ^ 64
unfolding mixed_id
mixed_below id = mod-lt (id * mixer) (lit< tt)
