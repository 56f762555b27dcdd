-- The largest magnitude decides both tests; and a turn of each loop that gathers it.
-- Assumes nothing.
use Rattle.std.specs.Prelude.{Err}
use mathlib.Core.Path.{◌≡◌, refl, sym, ap, ap₂, ◌∙◌}
use mathlib.Core.Bool.{Bool, true, false, ◌&&◌, cond, and_assoc, and-true}
use mathlib.Core.List.{List, [], ◌∷◌}
use Prim.Native.Nat.{ℕ, suc, ◌+◌, ◌-◌, ◌*◌, ◌/◌, ◌%◌, ◌≤◌, ◌<◌, max}
use native.Mathlib.Numerals.{add-one}
use native.Mathlib.Omega.{arith}
use lib.Dec.{T, ltb, eqb, ltb→lt, lt→ltb, eqb→eq, not_T, T_not}
use lib.Ieee.Fits.{and_i, and_l, and_r, eq→eqb}
use lib.ListN.{length, get_or, drop}
use lib.Seq.{drop-cons, drop-drop, drop-length}
use Rattle.fields.specs.Fields.{num}
use Rattle.coordinates.specs.Coordinates.{is_finite_bits, is_zero_bits, every_finite, every_zero, vector_of, patterns}
use Rattle.coordinates.specs.Largest.{magnitude, largest, judged}
use Rattle.refusal.specs.Refusal.{Answer, passes}
use Rattle.refusal.specs.declared.Refusal.TheVariants.{NotFinite, VectorAllZero}

-- two tests that imply each other
pub agree : (a b : Bool) → (T a → T b) → (T b → T a) → a ≡ b
agree true true p q = refl
agree true false p q = absurd (p tt)
agree false true p q = absurd (q tt)
agree false false p q = refl

-- ---- one pattern
pub finite_magnitude : (b : ℕ) → ltb (magnitude b) 2139095040 ≡ is_finite_bits b
finite_magnitude b =
    agree (ltb (magnitude b) 2139095040) (is_finite_bits b)
    (λ t. not_T (eqb (b / 8388608 % 256) 255) (λ u. omega (arith, ltb→lt (magnitude b) 2139095040 t, eqb→eq (b / 8388608 % 256) 255 u)))
    (λ t. lt→ltb (magnitude b) 2139095040 (under (λ e. T_not (eqb (b / 8388608 % 256) 255) t (eq→eqb e))))
  where
    under : (b / 8388608 % 256 ≡ 255 → ⊥) → magnitude b < 2139095040
    under n = omega arith

-- ---- all of them
pub finite_largest : (m : ℕ) (bs : List ℕ) → ltb (largest m bs) 2139095040 ≡ ltb m 2139095040 && every_finite bs
unfolding largest every_finite
finite_largest m [] = sym (and-true (ltb m 2139095040))
finite_largest m (b ∷ bs) =
    let x = magnitude b in
    let both : ltb (max m x) 2139095040 ≡ ltb m 2139095040 && ltb x 2139095040 =
    agree (ltb (max m x) 2139095040) (ltb m 2139095040 && ltb x 2139095040)
    (λ t. let l = ltb→lt (max m x) 2139095040 t in
    and_i (ltb m 2139095040) (ltb x 2139095040) (lt→ltb m 2139095040 (omega arith)) (lt→ltb x 2139095040 (omega arith)))
    (λ t. let l = ltb→lt m 2139095040 (and_l (ltb m 2139095040) (ltb x 2139095040) t) in
    let k = ltb→lt x 2139095040 (and_r (ltb m 2139095040) (ltb x 2139095040) t) in
    lt→ltb (max m x) 2139095040 (omega arith)) in
    finite_largest (max m x) bs
    ∙ ap (λ (a : Bool). a && every_finite bs) (both ∙ ap (λ (a : Bool). ltb m 2139095040 && a) (finite_magnitude b))
    ∙ and_assoc (ltb m 2139095040) (is_finite_bits b) (every_finite bs)

pub zero_largest : (m : ℕ) (bs : List ℕ) → eqb (largest m bs) 0 ≡ eqb m 0 && every_zero bs
unfolding largest every_zero
zero_largest m [] = sym (and-true (eqb m 0))
zero_largest m (b ∷ bs) =
    let x = magnitude b in
    let both : eqb (max m x) 0 ≡ eqb m 0 && is_zero_bits b =
    agree (eqb (max m x) 0) (eqb m 0 && is_zero_bits b)
    (λ t. let l = eqb→eq (max m x) 0 t in
    let p : m ≡ 0 = omega arith in
    let q : x ≡ 0 = omega arith in
    and_i (eqb m 0) (is_zero_bits b) (eq→eqb p) (eq→eqb q))
    (λ t. let l = eqb→eq m 0 (and_l (eqb m 0) (is_zero_bits b) t) in
    let k = eqb→eq x 0 (and_r (eqb m 0) (is_zero_bits b) t) in
    let q : max m x ≡ 0 = omega arith in
    eq→eqb q) in
    zero_largest (max m x) bs ∙ ap (λ (a : Bool). a && every_zero bs) both ∙ and_assoc (eqb m 0) (is_zero_bits b) (every_zero bs)

pub judged_largest : (cosine : Bool) (bs : List ℕ) → judged cosine (largest 0 bs) ≡ vector_of cosine bs
unfolding vector_of
judged_largest cosine bs =
    ap₂ (λ (f z : Bool). cond f (cond z (cond cosine (Err VectorAllZero) passes) passes) (Err NotFinite)) (finite_largest 0 bs) (zero_largest 0 bs)
    ∙ ap (λ (v : Answer (Unit {0})). cond (every_finite bs) v (Err NotFinite)) (either cosine (every_zero bs))
  where
    either : (c z : Bool) → cond z (cond c (Err VectorAllZero) passes) passes ≡ cond (c && z) (Err VectorAllZero) passes
    either true true = refl
    either true false = refl
    either false true = refl
    either false false = refl

-- ---- the loops
-- over bytes: the pattern at i goes in, and the rest is one shorter
pub bytes_turn : (s : List ℕ) (at d i m : ℕ) → i < d
    → largest m (patterns (d - i) (drop (at + 4 * i) s))
    ≡ largest (max m (magnitude (num s (at + 4 * i) 4))) (patterns (d - (i + 1)) (drop (at + 4 * (i + 1)) s))
unfolding largest patterns
bytes_turn s at d i m h =
    let e : d - i ≡ suc (d - (i + 1)) = omega arith in
    let p : at + 4 * i + 4 ≡ at + 4 * (i + 1) = omega arith in
    ap (λ (k : ℕ). largest m (patterns k (drop (at + 4 * i) s))) e
    ∙ ap (λ (l : List ℕ). largest (max m (magnitude (num s (at + 4 * i) 4))) (patterns (d - (i + 1)) l))
    (drop-drop 4 (at + 4 * i) s ∙ ap (λ (k : ℕ). drop k s) p)

pub bytes_end : (s : List ℕ) (at d i m : ℕ) → d ≤ i → largest m (patterns (d - i) (drop (at + 4 * i) s)) ≡ m
unfolding largest patterns
bytes_end s at d i m h =
    let e : d - i ≡ 0 = omega arith in ap (λ (k : ℕ). largest m (patterns k (drop (at + 4 * i) s))) e

-- over patterns
pub bits_turn : (c : List ℕ) (i m : ℕ) → i < length c
    → largest m (drop i c) ≡ largest (max m (magnitude (get_or c i 0))) (drop (i + 1) c)
unfolding largest
bits_turn c i m h =
    ap (largest m) (drop-cons c i 0 h) ∙ ap (λ (k : ℕ). largest (max m (magnitude (get_or c i 0))) (drop k c)) (sym (add-one i))

pub bits_end : (c : List ℕ) (i m : ℕ) → i ≡ length c → largest m (drop i c) ≡ m
unfolding largest
bits_end c i m e = ap (largest m) (ap (λ (k : ℕ). drop k c) e ∙ drop-length c)
