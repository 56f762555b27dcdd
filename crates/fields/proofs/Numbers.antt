-- Laws of little-endian numbers over the width n: a number and its n bytes determine each other, bounds, and numbers of lists that are joined.
-- Assumes nothing.
use mathlib.Core.Path.{◌≡◌, refl, sym, ap, ap₂, subst, ◌∙◌}
use mathlib.Core.List.{List, [], ◌∷◌, ◌++◌}
use Prim.Native.Nat.{ℕ, zero, suc, ◌+◌, ◌*◌, ◌/◌, ◌%◌, ◌^◌, ◌≤◌, ◌<◌}
use native.Mathlib.Nat.{mod-eq_of_lt, mod-mod, pow-zero, pow-suc, mod-one, one-le-pow, pow-le-pow_right, lt_of_lt_of_le, div-div-eq-div-mul, mul_assoc, mul_comm, zero-lt-suc}
use native.Mathlib.Omega.{arith}
use lib.Arith.{mod-mul}
use lib.ListN.{length, get_or, take, drop, length-take}
use lib.Seq.{get_or-drop}
use Rattle.fields.specs.Fields.{part, le, num, bytes, Bytes}
use Rattle.fields.proofs.Parts.{length_part, part_append, part_after, part_front, part_part}

-- ---- lists of bytes
pub Bytes-nil : Bytes []
Bytes-nil = record { below = λ k. omega arith }

pub Bytes-cons : (b : ℕ) (s : List ℕ) → b < 256 → Bytes s → Bytes (b ∷ s)
Bytes-cons b s h r = record { below = go }
  where
    go : (k : ℕ) → get_or (b ∷ s) k 0 < 256
    go zero = h
    go (suc k) = r.below k

pub Bytes-head : (b : ℕ) (s : List ℕ) → Bytes (b ∷ s) → b < 256
Bytes-head b s r = r.below 0

pub Bytes-tail : (b : ℕ) (s : List ℕ) → Bytes (b ∷ s) → Bytes s
Bytes-tail b s r = record { below = λ k. r.below (suc k) }

pub Bytes-append : (a b : List ℕ) → Bytes a → Bytes b → Bytes (a ++ b)
Bytes-append [] b p q = q
Bytes-append (x ∷ a) b p q = Bytes-cons x (a ++ b) (Bytes-head x a p) (Bytes-append a b (Bytes-tail x a p) q)

pub Bytes-take : (n : ℕ) (s : List ℕ) → Bytes s → Bytes (take n s)
Bytes-take zero s r = Bytes-nil
Bytes-take (suc n) [] r = Bytes-nil
Bytes-take (suc n) (x ∷ s) r = Bytes-cons x (take n s) (Bytes-head x s r) (Bytes-take n s (Bytes-tail x s r))

pub Bytes-drop : (n : ℕ) (s : List ℕ) → Bytes s → Bytes (drop n s)
Bytes-drop n s r = record { below = λ k. subst (λ (b : ℕ). b < 256) (sym (get_or-drop n s k 0)) (r.below (n + k)) }

pub Bytes-part : (s : List ℕ) (at n : ℕ) → Bytes s → Bytes (part s at n)
Bytes-part s at n r = Bytes-take n (drop at s) (Bytes-drop at s r)

pub Bytes-left : (a b : List ℕ) → Bytes (a ++ b) → Bytes a
Bytes-left [] b r = Bytes-nil
Bytes-left (x ∷ a) b r = Bytes-cons x a (Bytes-head x (a ++ b) r) (Bytes-left a b (Bytes-tail x (a ++ b) r))

pub Bytes-right : (a b : List ℕ) → Bytes (a ++ b) → Bytes b
Bytes-right [] b r = r
Bytes-right (x ∷ a) b r = Bytes-right a b (Bytes-tail x (a ++ b) r)

pub Bytes-bytes : (n v : ℕ) → Bytes (bytes n v)
unfolding bytes
Bytes-bytes zero v = Bytes-nil
Bytes-bytes (suc n) v = Bytes-cons (v % 256) (bytes n (v / 256)) (omega arith) (Bytes-bytes n (v / 256))

-- ---- a number and its bytes
pub length_bytes : (n v : ℕ) → length (bytes n v) ≡ n
unfolding bytes
length_bytes zero v = refl
length_bytes (suc n) v = ap suc (length_bytes n (v / 256))

pub le_bytes_mod : (n v : ℕ) → le (bytes n v) ≡ v % 256 ^ n
unfolding bytes le
le_bytes_mod zero v = sym (ap (λ (m : ℕ). v % m) (pow-zero 256) ∙ mod-one v)
le_bytes_mod (suc n) v =
    let i = le_bytes_mod n (v / 256) in
    let e = ap (λ (m : ℕ). v % m) (pow-suc 256 n) ∙ mod-mul v {m = 256 ^ n} {c = 256} (one-le-pow n 256 (zero-lt-suc 255)) (zero-lt-suc 255) in
    omega arith

pub le_bytes : (n v : ℕ) → v < 256 ^ n → le (bytes n v) ≡ v
le_bytes n v h = le_bytes_mod n v ∙ mod-eq_of_lt h

pub bytes_le : (l : List ℕ) → Bytes l → bytes (length l) (le l) ≡ l
unfolding bytes le
bytes_le [] r = refl
bytes_le (b ∷ l) r =
    let h = Bytes-head b l r in
    let e : (b + 256 * le l) % 256 ≡ b = omega arith in
    let d : (b + 256 * le l) / 256 ≡ le l = omega arith in
    ap₂ ◌∷◌ e (ap (bytes (length l)) d ∙ bytes_le l (Bytes-tail b l r))

pub le_lt : (l : List ℕ) → Bytes l → le l < 256 ^ length l
unfolding le
le_lt [] r = omega (arith, pow-zero 256)
le_lt (b ∷ l) r = omega (arith, Bytes-head b l r, le_lt l (Bytes-tail b l r), pow-suc 256 (length l))

-- bytes of one length that stand for the same number are the same
pub le_injective : (a b : List ℕ) → Bytes a → Bytes b → length a ≡ length b → le a ≡ le b → a ≡ b
le_injective a b p q l e = sym (bytes_le a p) ∙ ap₂ bytes l e ∙ bytes_le b q

pub le_append : (a b : List ℕ) → le (a ++ b) ≡ le a + 256 ^ length a * le b
unfolding le
le_append [] b = omega (arith, ap (λ (p : ℕ). p * le b) (pow-zero 256))
le_append (x ∷ a) b =
    let e : 256 ^ suc (length a) * le b ≡ 256 * (256 ^ length a * le b) =
    ap (λ (p : ℕ). p * le b) (pow-suc 256 (length a) ∙ mul_comm (256 ^ length a) 256) ∙ mul_assoc 256 (256 ^ length a) (le b) in
    omega (arith, le_append a b)

-- only the n low bytes count
pub bytes_mod : (n v : ℕ) → bytes n (v % 256 ^ n) ≡ bytes n v
bytes_mod n v =
    le_injective (bytes n (v % 256 ^ n)) (bytes n v) (Bytes-bytes n (v % 256 ^ n)) (Bytes-bytes n v)
    (length_bytes n (v % 256 ^ n) ∙ sym (length_bytes n v))
    (le_bytes_mod n (v % 256 ^ n) ∙ mod-mod v (256 ^ n) ∙ sym (le_bytes_mod n v))

-- the bytes of m + n are the m low ones and then the n high ones
pub bytes_split : (m n v : ℕ) → bytes (m + n) v ≡ bytes m v ++ bytes n (v / 256 ^ m)
unfolding bytes
bytes_split zero n v =
    let e : zero + n ≡ n = omega arith in
    let d : v / 256 ^ zero ≡ v = ap (λ (p : ℕ). v / p) (pow-zero 256) ∙ omega arith in
    ap (λ (k : ℕ). bytes k v) e ∙ ap (bytes n) (sym d)
bytes_split (suc m) n v =
    let e : suc m + n ≡ suc (m + n) = omega arith in
    let d : v / 256 / 256 ^ m ≡ v / 256 ^ suc m =
    div-div-eq-div-mul v 256 (256 ^ m) ∙ ap (λ (p : ℕ). v / p) (mul_comm 256 (256 ^ m) ∙ sym (pow-suc 256 m)) in
    ap (λ (k : ℕ). bytes k v) e ∙ ap (λ (l : List ℕ). v % 256 ∷ l) (bytes_split m n (v / 256) ∙ ap (λ (x : ℕ). bytes m (v / 256) ++ bytes n x) d)

-- ---- the number at a place
-- past the end both sides have zeros, so no room is asked
pub num_suc : (s : List ℕ) (at n : ℕ) → num s at (suc n) ≡ get_or s at 0 + 256 * num s (suc at) n
unfolding le
num_suc [] zero n = sym (le_none n)
  where
    le_none : (n : ℕ) → 0 + 256 * num [] 1 n ≡ 0
    le_none zero = refl
    le_none (suc n) = refl
num_suc [] (suc at) zero = refl
num_suc [] (suc at) (suc n) = refl
num_suc (x ∷ s) zero n = refl
num_suc (x ∷ s) (suc at) n = num_suc s at n

pub num_one : (s : List ℕ) (at : ℕ) → num s at 1 ≡ get_or s at 0
unfolding le
num_one s at = omega (arith, num_suc s at 0)

pub num_lt : (s : List ℕ) (at n : ℕ) → Bytes s → num s at n < 256 ^ n
num_lt s at n r =
    lt_of_lt_of_le (le_lt (part s at n) (Bytes-part s at n r))
    (pow-le-pow_right (zero-lt-suc 255) (omega (arith, length-take n (drop at s))))

pub num_append : (a b : List ℕ) (at n : ℕ) → at + n ≤ length a → num (a ++ b) at n ≡ num a at n
num_append a b at n h = ap le (part_append a b at n h)

pub num_after : (a b : List ℕ) (at n : ℕ) → num (a ++ b) (length a + at) n ≡ num b at n
num_after a b at n = ap le (part_after a b at n)

pub num_part : (s : List ℕ) (at n i m : ℕ) → i + m ≤ n → num (part s at n) i m ≡ num s (at + i) m
num_part s at n i m h = ap le (part_part s at n i m h)

pub bytes_num : (s : List ℕ) (at n : ℕ) → Bytes s → at + n ≤ length s → bytes n (num s at n) ≡ part s at n
bytes_num s at n r h =
    ap (λ (k : ℕ). bytes k (num s at n)) (sym (length_part s at n h)) ∙ bytes_le (part s at n) (Bytes-part s at n r)

-- ---- what was written is read again
pub part_bytes : (n v : ℕ) (rest : List ℕ) → part (bytes n v ++ rest) 0 n ≡ bytes n v
part_bytes n v rest =
    ap (λ (k : ℕ). part (bytes n v ++ rest) 0 k) (sym (length_bytes n v)) ∙ part_front (bytes n v) rest

pub num_bytes_mod : (n v : ℕ) (rest : List ℕ) → num (bytes n v ++ rest) 0 n ≡ v % 256 ^ n
num_bytes_mod n v rest = ap le (part_bytes n v rest) ∙ le_bytes_mod n v

pub num_bytes : (n v : ℕ) (rest : List ℕ) → v < 256 ^ n → num (bytes n v ++ rest) 0 n ≡ v
num_bytes n v rest h = ap le (part_bytes n v rest) ∙ le_bytes n v h
