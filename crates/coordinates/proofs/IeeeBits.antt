-- The tests by bits are those of IEEE 754: a pattern of 32 bits is `is_finite_bits` exactly where the value that it stands for is finite,
-- and `is_zero_bits` exactly where that value equals 0.
-- Assumes nothing.
use mathlib.Core.Path.{◌≡◌, refl, sym, ap, ◌∙◌}
use mathlib.Core.Bool.{Bool, true, false, not, ◌&&◌, ◌||◌, beq, cond}
use Prim.Native.Nat.{ℕ, zero, suc, ◌+◌, ◌*◌, ◌/◌, ◌%◌, ◌^◌, ◌<◌}
use native.Mathlib.Omega.{arith}
use native.Mathlib.Nat.{mul-one, zero-mul, mul-pos}
use borrow.Author.Tests.{ne_eqb}
use lib.IntN.{pos}
use lib.Pow.{pow_pos}
use lib.Dec.{T, eqb, leb, eqb→eq, eqb-suc-zero}
use lib.Ieee.{Float, nan, inf, fin, binary32, up, down, eq, odd, of_fields, of_bits}
use lib.Ieee.Digits.{Equals, odd_val}
use lib.Ieee.Fits.{down_pos, and_i, and_l, and_r, eq→eqb}
use Rattle.coordinates.proofs.Gathered.{agree}
use lib.Ieee.Scale.{finite}
use Rattle.coordinates.specs.Coordinates.{is_finite_bits, is_zero_bits}

odd_finite : (d : ℕ) (s : Bool) (q k l : ℕ) → finite (odd d s q k l) ≡ true
unfolding odd
odd_finite d s zero k l = refl
odd_finite d s (suc q) k l = refl

fields_finite : (s : Bool) (x t : ℕ) → finite (of_fields binary32 s x t) ≡ not (eqb x 255)
unfolding of_fields
fields_finite s zero t = odd_finite 24 s t 0 149
fields_finite s (suc x) t = go (eqb (suc x) 255) (eqb t 0)
  where
    go : (b z : Bool) → finite (cond b (cond z (inf s) nan) (odd 24 s (8388608 + t) x 149)) ≡ not b
    go true true = refl
    go true false = refl
    go false z = odd_finite 24 s (8388608 + t) x 149

pub finite_bits : (b : ℕ) → finite (of_bits binary32 b) ≡ is_finite_bits b
unfolding of_bits
finite_bits b =
    let e : b % 2147483648 / 8388608 ≡ b / 8388608 % 256 = omega arith in
    fields_finite (leb 2147483648 b) (b % 2147483648 / 8388608) (b % 8388608) ∙ ap (λ (x : ℕ). not (eqb x 255)) e

-- a value above 0 in size is not equal to +0
pos_not_zero : (x : Float) (a c : ℕ) → 0 < a → Equals x a c → eq x (fin false 0 (pos 0)) ≡ false
unfolding eq
pos_not_zero nan a c h e = refl
pos_not_zero (inf s) a c h e = refl
pos_not_zero (fin s m d) a c h e =
    ap (λ (b : Bool). b && (beq s false || eqb (m * up d * 1) 0)) (ne_eqb (m * up d * 1) (0 * 1 * down d) (λ z. go (trans_zero z)))
  where
    trans_zero : m * up d * 1 ≡ 0 * 1 * down d → m * up d ≡ 0
    trans_zero z = sym (mul-one (m * up d)) ∙ z ∙ zero-mul (down d)

    go : m * up d ≡ 0 → ⊥
    go z =
        let w : a * down d ≡ 0 = sym e ∙ ap (λ (k : ℕ). k * c) z ∙ zero-mul c in
        let p : 0 < a * down d = mul-pos h (down_pos d) in
        omega arith

fields_zero : (s : Bool) (x t : ℕ) → eq (of_fields binary32 s x t) (fin false 0 (pos 0)) ≡ eqb x 0 && eqb t 0
unfolding of_fields
fields_zero s zero zero = unfold odd eq in signed s
  where
    signed : (s : Bool) → beq s false || true ≡ true
    signed true = refl
    signed false = refl
fields_zero s zero (suc t) = pos_not_zero (odd 24 s (suc t) 0 149) (suc t * 2 ^ 0) (2 ^ 149) (omega arith) (odd_val 24 s (suc t) 0 149) ∙ sym (eqb-suc-zero t)
fields_zero s (suc x) t = go (eqb (suc x) 255) (eqb t 0) ∙ sym (ap (λ (b : Bool). b && eqb t 0) (eqb-suc-zero x))
  where
    go : (b z : Bool) → eq (cond b (cond z (inf s) nan) (odd 24 s (8388608 + t) x 149)) (fin false 0 (pos 0)) ≡ false
    go true true = unfold eq in refl
    go true false = unfold eq in refl
    go false z = pos_not_zero (odd 24 s (8388608 + t) x 149) ((8388608 + t) * 2 ^ x) (2 ^ 149) (mul-pos (omega arith) (pow_pos x)) (odd_val 24 s (8388608 + t) x 149)

pub zero_bits : (b : ℕ) → eq (of_bits binary32 b) (of_bits binary32 0) ≡ is_zero_bits b
unfolding of_bits
zero_bits b =
    fields_zero (leb 2147483648 b) (b % 2147483648 / 8388608) (b % 8388608)
    ∙ agree (eqb (b % 2147483648 / 8388608) 0 && eqb (b % 8388608) 0) (eqb (b % 2147483648) 0) whole parts
  where
    whole : T (eqb (b % 2147483648 / 8388608) 0 && eqb (b % 8388608) 0) → T (eqb (b % 2147483648) 0)
    whole t =
        let p = eqb→eq (b % 2147483648 / 8388608) 0 (and_l (eqb (b % 2147483648 / 8388608) 0) (eqb (b % 8388608) 0) t) in
        let q = eqb→eq (b % 8388608) 0 (and_r (eqb (b % 2147483648 / 8388608) 0) (eqb (b % 8388608) 0) t) in
        let e : b % 2147483648 ≡ 0 = omega arith in
        eq→eqb e

    parts : T (eqb (b % 2147483648) 0) → T (eqb (b % 2147483648 / 8388608) 0 && eqb (b % 8388608) 0)
    parts t =
        let e = eqb→eq (b % 2147483648) 0 t in
        let p : b % 2147483648 / 8388608 ≡ 0 = omega arith in
        let q : b % 8388608 ≡ 0 = omega arith in
        and_i (eqb (b % 2147483648 / 8388608) 0) (eqb (b % 8388608) 0) (eq→eqb p) (eq→eqb q)
