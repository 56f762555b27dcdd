-- Laws of `part s at n`, the n elements from `at`: its length and elements, parts of parts, and parts of lists that are joined.
-- Assumes nothing.
use mathlib.Core.Path.{◌≡◌, sym, ap, ◌∙◌}
use mathlib.Core.List.{List, [], ◌∷◌, ◌++◌, append_assoc}
use Prim.Native.Nat.{ℕ, zero, suc, ◌+◌, ◌-◌, ◌≤◌, ◌<◌}
use native.Mathlib.Nat.{le_refl}
use native.Mathlib.Omega.{arith}
use lib.ListN.{length, get_or, take, drop, length-drop, drop_of_length-le}
use lib.Seq.{length-take-le, take_all, take-nil, drop-cons, take-append-le, drop-append-le, take-append_seam, drop-append_seam, drop-append-add, get_or-take, get_or-drop, take-take, drop-drop, take-add}
use Rattle.fields.specs.Fields.{part}

pub length_part : (s : List ℕ) (at n : ℕ) → at + n ≤ length s → length (part s at n) ≡ n
length_part s at n h = length-take-le n (drop at s) (omega (arith, length-drop at s))

pub get_d_part : (s : List ℕ) (at n i d : ℕ) → i < n → get_or (part s at n) i d ≡ get_or s (at + i) d
get_d_part s at n i d h = get_or-take n (drop at s) i d h ∙ get_or-drop at s i d

pub part_all : (s : List ℕ) → part s 0 (length s) ≡ s
part_all s = take_all (length s) s (le_refl (length s))

pub part_past : (s : List ℕ) (at n : ℕ) → length s ≤ at → part s at n ≡ []
part_past s at n h = ap (take n) (drop_of_length-le s h) ∙ take-nil n

pub part_cons : (s : List ℕ) (at n : ℕ) → at < length s → part s at (suc n) ≡ get_or s at 0 ∷ part s (suc at) n
part_cons s at n h = ap (take (suc n)) (drop-cons s at 0 h)

-- a part of what stands in front, or behind
pub part_append : (a b : List ℕ) (at n : ℕ) → at + n ≤ length a → part (a ++ b) at n ≡ part a at n
part_append a b at n h =
    ap (take n) (drop-append-le at a b (omega arith)) ∙ take-append-le n (drop at a) b (omega (arith, length-drop at a))

pub part_after : (a b : List ℕ) (at n : ℕ) → part (a ++ b) (length a + at) n ≡ part b at n
part_after a b at n = ap (take n) (drop-append-add a b at)

pub part_front : (a b : List ℕ) → part (a ++ b) 0 (length a) ≡ a
part_front a b = take-append_seam a b

-- the middle one of three
pub part_middle : (a b c : List ℕ) → part (a ++ b ++ c) (length a) (length b) ≡ b
part_middle a b c = ap (λ (l : List ℕ). part l (length a) (length b)) (append_assoc a b c) ∙ ap (take (length b)) (drop-append_seam a (b ++ c)) ∙ take-append_seam b c

-- a part of a part, of a front, and of a rest
pub drop_take : (s : List ℕ) (i n : ℕ) → drop i (take (i + n) s) ≡ take n (drop i s)
drop_take s zero n = let e : zero + n ≡ n = omega arith in ap (λ (m : ℕ). take m s) e
drop_take [] (suc i) n = ap (drop (suc i)) (take-nil (suc i + n)) ∙ sym (take-nil n)
drop_take (x ∷ s) (suc i) n =
    let e : suc i + n ≡ suc (i + n) = omega arith in ap (λ (m : ℕ). drop (suc i) (take m (x ∷ s))) e ∙ drop_take s i n

pub part_take : (s : List ℕ) (m at n : ℕ) → at + n ≤ m → part (take m s) at n ≡ part s at n
part_take s m at n h =
    let e : m ≡ at + (m - at) = omega arith in
    ap (λ (k : ℕ). part (take k s) at n) e ∙ ap (take n) (drop_take s at (m - at)) ∙ take-take n (m - at) (drop at s) (omega arith)

pub part_drop : (s : List ℕ) (m at n : ℕ) → part (drop m s) at n ≡ part s (m + at) n
part_drop s m at n = ap (take n) (drop-drop at m s)

pub part_part : (s : List ℕ) (at n i m : ℕ) → i + m ≤ n → part (part s at n) i m ≡ part s (at + i) m
part_part s at n i m h = part_take (drop at s) n i m h ∙ part_drop s at i m

pub part_split : (s : List ℕ) (at m n : ℕ) → part s at (m + n) ≡ part s at m ++ part s (at + m) n
part_split s at m n = take-add m n (drop at s) ∙ ap (λ (l : List ℕ). part s at m ++ l) (part_drop s at m n)

-- the k-th place behind `at`, as code writes it: `at`, `at + 1`, `at + 2`
abbrev pub past : ℕ → ℕ → ℕ
past at zero = at
past at (suc k) = at + suc k

pub past_suc : (at k : ℕ) → past at (suc k) ≡ suc (past at k)
past_suc at zero = omega arith
past_suc at (suc k) = omega arith
