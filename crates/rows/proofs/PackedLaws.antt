-- Laws of packed words, over any widths: packing and taking apart undo each other, and a packed word has no more bits than its widths.
use Prim.Native.Nat.{ℕ, ◌+◌, ◌*◌, ◌/◌, ◌%◌, ◌^◌, ◌<◌}
use mathlib.Core.Path.{◌≡◌, refl, sym, ap, ap₂, subst, ◌∙◌}
use mathlib.Core.List.{List, [], ◌∷◌}
use native.Mathlib.Nat.{mul_assoc, mul-add-div_right, mul-add-mod_self_right, mod-eq_of_lt, mod-lt, mod-one}
use lib.Dec.{lit<}
use lib.Arith.{digits_lt}
use lib.Pow.{pow-add, pow_pos, high, mod-pow-add}
use Rattle.rows.specs.Packed.{total, packed, fields, Fitting, none, more}

pub packed_below : {ws vs : List ℕ} → Fitting ws vs → packed ws vs < 2 ^ total ws
unfolding packed total
packed_below none = lit< tt
packed_below (more {w} {v} {ws} {vs} h f) =
    subst (λ (n : ℕ). v * 2 ^ total ws + packed ws vs < n) (sym (pow-add 2 w (total ws))) (digits_lt h (packed_below f))

-- the bits above a word's widths are in none of its fields
pub fields_above : (ws : List ℕ) (q n : ℕ) → fields ws (q * 2 ^ total ws + n) ≡ fields ws n
unfolding fields total
fields_above [] q n = refl
fields_above (w ∷ ws) q n =
    let t = total ws in
    let e : q * 2 ^ (w + t) ≡ q * 2 ^ w * 2 ^ t = ap (λ (x : ℕ). q * x) (pow-add 2 w t) ∙ sym (mul_assoc q (2 ^ w) (2 ^ t)) in
    let first : (q * 2 ^ (w + t) + n) / 2 ^ t % 2 ^ w ≡ n / 2 ^ t % 2 ^ w =
    ap (λ (x : ℕ). (x + n) / 2 ^ t % 2 ^ w) e
    ∙ ap (λ (x : ℕ). x % 2 ^ w) (mul-add-div_right (pow_pos t) (q * 2 ^ w) n)
    ∙ mul-add-mod_self_right q (2 ^ w) (n / 2 ^ t) in
    ap₂ ◌∷◌ first (ap (λ (x : ℕ). fields ws (x + n)) e ∙ fields_above ws (q * 2 ^ w) n)

pub fields_of_packed : {ws vs : List ℕ} → Fitting ws vs → fields ws (packed ws vs) ≡ vs
unfolding fields packed total
fields_of_packed none = refl
fields_of_packed (more {w} {v} {ws} {vs} h f) =
    ap₂ ◌∷◌ (ap (λ (x : ℕ). x % 2 ^ w) (high v (total ws) (packed_below f)) ∙ mod-eq_of_lt h)
    (fields_above ws v (packed ws vs) ∙ fields_of_packed f)

pub packed_of_fields_mod : (ws : List ℕ) (n : ℕ) → packed ws (fields ws n) ≡ n % 2 ^ total ws
unfolding fields packed total
packed_of_fields_mod [] n = sym (mod-one n)
packed_of_fields_mod (w ∷ ws) n =
    ap (λ (x : ℕ). n / 2 ^ total ws % 2 ^ w * 2 ^ total ws + x) (packed_of_fields_mod ws n) ∙ sym (mod-pow-add n w (total ws))

pub packed_of_fields : (ws : List ℕ) {n : ℕ} → n < 2 ^ total ws → packed ws (fields ws n) ≡ n
packed_of_fields ws {n} h = packed_of_fields_mod ws n ∙ mod-eq_of_lt h

pub fields_fit : (ws : List ℕ) (n : ℕ) → Fitting ws (fields ws n)
unfolding fields
fields_fit [] n = none
fields_fit (w ∷ ws) n = more (mod-lt (n / 2 ^ total ws) (pow_pos w)) (fields_fit ws n)

pub packed_injective : {ws us vs : List ℕ} → Fitting ws us → Fitting ws vs → packed ws us ≡ packed ws vs → us ≡ vs
packed_injective {ws} f g e = sym (fields_of_packed f) ∙ ap (fields ws) e ∙ fields_of_packed g
