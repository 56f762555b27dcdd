-- Laws of xor that lib.Bits lacks.
-- Assumes nothing.
use mathlib.Core.Path.{◌≡◌, refl, sym, ap, ap₂, ◌∙◌}
use Prim.Native.Nat.{ℕ, zero, suc, ◌+◌, ◌*◌, ◌/◌, ◌%◌, ◌<◌}
use native.Mathlib.Nat.{mod-lt, zero-lt-suc}
use native.Mathlib.Omega.{arith}
use lib.Arith.{bin_ind, digits_mod}
use lib.Bits.{differ, bit_xor, xor_step, xor_shr, xor_comm, xor_self, xor_zero_r}

pub bit_lt : (x : ℕ) → x % 2 < 2
bit_lt x = mod-lt x (zero-lt-suc 1)

pub differ_lt : (x y : ℕ) → x < 2 → y < 2 → differ x y < 2
differ_lt zero y hx hy = hy
differ_lt (suc zero) zero hx hy = hx
differ_lt (suc zero) (suc zero) hx hy = omega arith
differ_lt (suc zero) (suc (suc y)) hx hy = absurd (omega arith)
differ_lt (suc (suc x)) y hx hy = absurd (omega arith)

pub differ_assoc : (x y z : ℕ) → x < 2 → y < 2 → z < 2 → differ (differ x y) z ≡ differ x (differ y z)
differ_assoc zero y z hx hy hz = refl
differ_assoc (suc zero) zero z hx hy hz = refl
differ_assoc (suc zero) (suc zero) zero hx hy hz = refl
differ_assoc (suc zero) (suc zero) (suc zero) hx hy hz = refl
differ_assoc (suc zero) (suc zero) (suc (suc z)) hx hy hz = absurd (omega arith)
differ_assoc (suc zero) (suc (suc y)) z hx hy hz = absurd (omega arith)
differ_assoc (suc (suc x)) y z hx hy hz = absurd (omega arith)

pub xor_half : (a b : ℕ) → bit_xor a b / 2 ≡ bit_xor (a / 2) (b / 2)
xor_half a b = xor_shr a b 1

pub xor_odd : (a b : ℕ) → bit_xor a b % 2 ≡ differ (a % 2) (b % 2)
xor_odd a b =
    ap (λ (x : ℕ). x % 2) (xor_step a b)
    ∙ digits_mod (bit_xor (a / 2) (b / 2)) (differ_lt (a % 2) (b % 2) (bit_lt a) (bit_lt b))

pub xor_assoc : (a b c : ℕ) → bit_xor (bit_xor a b) c ≡ bit_xor a (bit_xor b c)
xor_assoc =
    bin_ind (λ (n : ℕ). (b c : ℕ) → bit_xor (bit_xor n b) c ≡ bit_xor n (bit_xor b c)) (λ b c. refl)
    (λ n ih b c. xor_step (bit_xor n b) c
    ∙ ap₂ (λ (x y : ℕ). bit_xor x (c / 2) * 2 + differ y (c % 2)) (xor_half n b) (xor_odd n b)
    ∙ ap₂ (λ (x y : ℕ). x * 2 + y) (ih (b / 2) (c / 2)) (differ_assoc (n % 2) (b % 2) (c % 2) (bit_lt n) (bit_lt b) (bit_lt c))
    ∙ sym (ap₂ (λ (x y : ℕ). bit_xor (n / 2) x * 2 + differ (n % 2) y) (xor_half b c) (xor_odd b c))
    ∙ sym (xor_step n (bit_xor b c)))

pub xor_swap : (a b c : ℕ) → bit_xor a (bit_xor b c) ≡ bit_xor b (bit_xor a c)
xor_swap a b c = sym (xor_assoc a b c) ∙ ap (λ (x : ℕ). bit_xor x c) (xor_comm a b) ∙ xor_assoc b a c

pub xor4 : (a b c d : ℕ) → bit_xor (bit_xor a b) (bit_xor c d) ≡ bit_xor (bit_xor a c) (bit_xor b d)
xor4 a b c d = xor_assoc a b (bit_xor c d) ∙ ap (bit_xor a) (xor_swap b c d) ∙ sym (xor_assoc a c (bit_xor b d))

pub xor_twice : (a b : ℕ) → bit_xor a (bit_xor a b) ≡ b
xor_twice a b = sym (xor_assoc a a b) ∙ ap (λ (x : ℕ). bit_xor x b) (xor_self a)

pub xor_undone : (a b : ℕ) → bit_xor (bit_xor a b) b ≡ a
xor_undone a b = xor_assoc a b b ∙ ap (bit_xor a) (xor_self b) ∙ xor_zero_r a

pub xor_reversed : (a b c d : ℕ) → bit_xor d (bit_xor c (bit_xor b a)) ≡ bit_xor a (bit_xor b (bit_xor c d))
xor_reversed a b c d =
    xor_comm d (bit_xor c (bit_xor b a))
    ∙ ap (λ (x : ℕ). bit_xor x d) (xor_comm c (bit_xor b a))
    ∙ xor_assoc (bit_xor b a) c d
    ∙ ap (λ (x : ℕ). bit_xor x (bit_xor c d)) (xor_comm b a)
    ∙ xor_assoc a b (bit_xor c d)

-- of single bits the difference is the xor
differ_xor : (x y : ℕ) → x < 2 → y < 2 → differ x y ≡ bit_xor x y
differ_xor zero y hx hy = refl
differ_xor (suc zero) zero hx hy = refl
differ_xor (suc zero) (suc zero) hx hy = refl
differ_xor (suc zero) (suc (suc y)) hx hy = absurd (omega arith)
differ_xor (suc (suc x)) y hx hy = absurd (omega arith)

pub differ4 : (a b c d : ℕ) → a < 2 → b < 2 → c < 2 → d < 2
    → differ (differ a b) (differ c d) ≡ differ (differ a c) (differ b d)
differ4 a b c d ha hb hc hd =
    let across : (w x y z : ℕ) → w < 2 → x < 2 → y < 2 → z < 2
    → differ (differ w x) (differ y z) ≡ bit_xor (bit_xor w x) (bit_xor y z) =
    λ w x y z hw hx hy hz.
    differ_xor (differ w x) (differ y z) (differ_lt w x hw hx) (differ_lt y z hy hz)
    ∙ ap₂ bit_xor (differ_xor w x hw hx) (differ_xor y z hy hz) in
    across a b c d ha hb hc hd ∙ xor4 a b c d ∙ sym (across a c b d ha hc hb hd)
