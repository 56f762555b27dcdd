-- ASCII several octets at once: by or-ing them (`or_passes`), and by the trailing zeros of their high bits as one number (`word_front`).
use mathlib.Core.Path.{◌≡◌, refl, sym, ap, ap₂, ◌∙◌, subst}
use mathlib.Core.Bool.{Bool, true, false, cond}
use mathlib.Core.List.{List, [], ◌∷◌}
use Prim.Native.Nat.{ℕ, zero, suc, ◌+◌, ◌*◌, ◌/◌, ◌%◌, ◌≤◌, ◌<◌, zero-le}
use native.Mathlib.Nat.{add-suc, add-zero}
use native.Mathlib.Omega.{arith}
use borrow.Author.Tests.{ltb-true, ltb-false}
use lib.Bits.{bit_and, bit_or, or_add_and, or_zero_r, and_le_l, and_le_r, and_block, and_high}
use lib.Count.{count_trailing_zeros, under}
use lib.Dec.{ltb, lit<}
use lib.ListN.{length, take, drop, get_or, length-drop}
use lib.Seq.{drop-cons, get_or-drop, get_or-take, length-take-le}
use Rattle.utf8.specs.Steps.{Passes, or_all, or_eight, word_of, ascii_front}
use Rattle.std.specs.Int.{w64, from_le_bytes}
use Rattle.utf8.proofs.Passing.{passes_on, passes_ascii}

-- ---- eight octets of a list

more : (s : List ℕ) (i j n : ℕ) → i + j < length s → take (suc n) (drop (i + j) s) ≡ get_or s (i + j) 0 ∷ take n (drop (i + suc j) s)
more s i j n h = ap (take (suc n)) (drop-cons s (i + j) 0 h) ∙ ap (λ (m : ℕ). get_or s (i + j) 0 ∷ take n (drop m s)) (sym (add-suc i j))

pub eight_is : (s : List ℕ) (i : ℕ) → i + 8 ≤ length s
    → take 8 (drop i s)
    ≡ get_or s i 0 ∷ get_or s (i + 1) 0 ∷ get_or s (i + 2) 0 ∷ get_or s (i + 3) 0 ∷ get_or s (i + 4) 0 ∷ get_or s (i + 5) 0 ∷ get_or s (i + 6) 0 ∷ get_or s (i + 7) 0 ∷ []
eight_is s i h =
    ap (λ (m : ℕ). take 8 (drop m s)) (sym (add-zero i))
    ∙ rw (more s i 0 7 (omega arith), more s i 1 6 (omega arith), more s i 2 5 (omega arith), more s i 3 4 (omega arith), more s i 4 3 (omega arith), more s i 5 2 (omega arith), more s i 6 1 (omega arith), more s i 7 0 (omega arith), add-zero i)

eight_length : (s : List ℕ) (i : ℕ) → i + 8 ≤ length s → length (take 8 (drop i s)) ≡ 8
eight_length s i h = length-take-le 8 (drop i s) (omega (arith, length-drop i s))

eight_at : (s : List ℕ) (i j : ℕ) → j < 8 → get_or (take 8 (drop i s)) j 0 ≡ get_or s (i + j) 0
eight_at s i j h = get_or-take 8 (drop i s) j 0 h ∙ get_or-drop i s j 0

-- ---- or-ed

le_or_l : (a b : ℕ) → a ≤ bit_or a b
le_or_l a b = omega (arith, or_add_and a b, and_le_r a b)

le_or_r : (a b : ℕ) → b ≤ bit_or a b
le_or_r a b = omega (arith, or_add_and a b, and_le_l a b)

or_ascii : (l : List ℕ) → or_all l < 128 → (j : ℕ) → j < length l → get_or l j 0 < 128
unfolding or_all
or_ascii [] h j k = absurd (omega arith)
or_ascii (b ∷ s) h zero k = omega (arith, le_or_l b (or_all s))
or_ascii (b ∷ s) h (suc j) k = or_ascii s (omega (arith, le_or_r b (or_all s))) j (omega arith)

or_eight_lem : (s : List ℕ) (i : ℕ) → i + 8 ≤ length s → or_eight s i < 128 → Passes s i (i + 8)
or_eight_lem s i h k = passes_ascii s i 8 h (λ j l. subst (λ (x : ℕ). x < 128) (eight_at s i j l) (or_ascii (take 8 (drop i s)) k j (omega (arith, eight_length s i h))))

pub or_passes : (s : List ℕ) (i : ℕ) → i + 32 ≤ length s
    → bit_or (or_eight s i) (bit_or (or_eight s (i + 8)) (bit_or (or_eight s (i + 16)) (or_eight s (i + 24)))) < 128 → Passes s i (i + 32)
or_passes s i h k =
    let a = or_eight s i in
    let b = or_eight s (i + 8) in
    let c = or_eight s (i + 16) in
    let d = or_eight s (i + 24) in
    let l1 = le_or_l a (bit_or b (bit_or c d)) in
    let r1 = le_or_r a (bit_or b (bit_or c d)) in
    let l2 = le_or_l b (bit_or c d) in
    let r2 = le_or_r b (bit_or c d) in
    let l3 = le_or_l c d in
    let r3 = le_or_r c d in
    let p = or_eight_lem s i (omega arith) (omega arith) in
    let q : Passes s (i + 8) (i + 16) = subst (Passes s (i + 8)) (omega arith) (or_eight_lem s (i + 8) (omega arith) (omega arith)) in
    let u : Passes s (i + 16) (i + 24) = subst (Passes s (i + 16)) (omega arith) (or_eight_lem s (i + 16) (omega arith) (omega arith)) in
    let v : Passes s (i + 24) (i + 32) = subst (Passes s (i + 24)) (omega arith) (or_eight_lem s (i + 24) (omega arith) (omega arith)) in
    passes_on p (passes_on q (passes_on u v))

-- ---- as one number: the high bit of each octet, and the zeros below the lowest that is set

abbrev eight_more : ℕ → ℕ
eight_more k = suc (suc (suc (suc (suc (suc (suc (suc k)))))))

-- the high bits, and the width, of n octets
abbrev pub high_bits : ℕ → ℕ
high_bits zero = 0
high_bits (suc n) = 128 + 256 * high_bits n

abbrev pub width : ℕ → ℕ
width zero = 0
width (suc n) = eight_more (width n)

trailing_even : (k n m : ℕ) → n ≡ m * 2 → count_trailing_zeros (suc k) n ≡ suc (count_trailing_zeros k m)
unfolding count_trailing_zeros
trailing_even k n m e =
    let z : n % 2 ≡ 0 = omega arith in
    let q : n / 2 ≡ m = omega arith in
    ap₂ (λ (x y : ℕ). under x (count_trailing_zeros k y)) z q

trailing_odd : (k n : ℕ) → n % 2 ≡ 1 → count_trailing_zeros (suc k) n ≡ 0
unfolding count_trailing_zeros
trailing_odd k n e = ap (λ (x : ℕ). under x (count_trailing_zeros k (n / 2))) e

low_octet : (k m : ℕ) → count_trailing_zeros (eight_more k) (m * 256) ≡ eight_more (count_trailing_zeros k m)
low_octet k m =
    trailing_even (suc (suc (suc (suc (suc (suc (suc k))))))) (m * 256) (m * 128) (omega arith)
    ∙ ap suc (trailing_even (suc (suc (suc (suc (suc (suc k)))))) (m * 128) (m * 64) (omega arith)
    ∙ ap suc (trailing_even (suc (suc (suc (suc (suc k))))) (m * 64) (m * 32) (omega arith)
    ∙ ap suc (trailing_even (suc (suc (suc (suc k)))) (m * 32) (m * 16) (omega arith)
    ∙ ap suc (trailing_even (suc (suc (suc k))) (m * 16) (m * 8) (omega arith)
    ∙ ap suc (trailing_even (suc (suc k)) (m * 8) (m * 4) (omega arith)
    ∙ ap suc (trailing_even (suc k) (m * 4) (m * 2) (omega arith)
    ∙ ap suc (trailing_even k (m * 2) m refl)))))))

high_octet : (k m : ℕ) → count_trailing_zeros (eight_more k) (m * 256 + 128) ≡ 7
high_octet k m =
    trailing_even (suc (suc (suc (suc (suc (suc (suc k))))))) (m * 256 + 128) (m * 128 + 64) (omega arith)
    ∙ ap suc (trailing_even (suc (suc (suc (suc (suc (suc k)))))) (m * 128 + 64) (m * 64 + 32) (omega arith)
    ∙ ap suc (trailing_even (suc (suc (suc (suc (suc k))))) (m * 64 + 32) (m * 32 + 16) (omega arith)
    ∙ ap suc (trailing_even (suc (suc (suc (suc k)))) (m * 32 + 16) (m * 16 + 8) (omega arith)
    ∙ ap suc (trailing_even (suc (suc (suc k))) (m * 16 + 8) (m * 8 + 4) (omega arith)
    ∙ ap suc (trailing_even (suc (suc k)) (m * 8 + 4) (m * 4 + 2) (omega arith)
    ∙ ap suc (trailing_even (suc k) (m * 4 + 2) (m * 2 + 1) (omega arith)
    ∙ ap suc (trailing_odd k (m * 2 + 1) (omega arith))))))))

-- the high bit of an octet
high_bit : (b : ℕ) → b < 256 → bit_and b 128 ≡ b / 128 * 128
high_bit b h = and_high b 1 7 ∙ ap (λ (x : ℕ). x * 128) (omega arith)

trailing_none : (n : ℕ) → count_trailing_zeros 0 n / 8 ≡ 0
unfolding count_trailing_zeros
trailing_none n = refl

-- The trailing zeros of the high bits, by eights, are the ASCII octets at the front.
pub word_front : (n : ℕ) (l : List ℕ) → length l ≡ n → ((j : ℕ) → j < n → get_or l j 0 < 256)
    → count_trailing_zeros (width n) (bit_and (word_of l) (high_bits n)) / 8 ≡ ascii_front l
unfolding word_of ascii_front
word_front zero [] e small = trailing_none (bit_and 0 0)
word_front zero (b ∷ s) e small = absurd (omega arith)
word_front (suc n) [] e small = absurd (omega arith)
word_front (suc n) (b ∷ s) e small =
    let k : 0 < suc n = omega arith in
    let h : b < 256 = small 0 k in
    let w = word_of s in
    let m = bit_and w (high_bits n) in
    let x : b + 256 * w ≡ w * 256 + b = omega arith in
    let y : 128 + 256 * high_bits n ≡ high_bits n * 256 + 128 = omega arith in
    let z : bit_and (b + 256 * w) (128 + 256 * high_bits n) ≡ m * 256 + b / 128 * 128 =
    ap₂ bit_and x y ∙ and_block 8 w (high_bits n) b 128 h (lit< tt) ∙ ap (λ (r : ℕ). m * 256 + r) (high_bit b h) in
    ap (λ (r : ℕ). count_trailing_zeros (width (suc n)) r / 8) z
    ∙ go (ltb b 128) refl h (word_front n s (omega arith) (λ j l. small (suc j) (omega arith)))
  where
    go : (t : Bool) → ltb b 128 ≡ t → b < 256 → count_trailing_zeros (width n) (bit_and (word_of s) (high_bits n)) / 8 ≡ ascii_front s
        → count_trailing_zeros (width (suc n)) (bit_and (word_of s) (high_bits n) * 256 + b / 128 * 128) / 8 ≡ cond t (suc (ascii_front s)) 0
    go true c h ih =
        let m = bit_and (word_of s) (high_bits n) in
        let q : m * 256 + b / 128 * 128 ≡ m * 256 = omega (arith, ltb-true b 128 c) in
        let f : count_trailing_zeros (width (suc n)) (m * 256 + b / 128 * 128) ≡ eight_more (count_trailing_zeros (width n) m) =
        ap (count_trailing_zeros (width (suc n))) q ∙ low_octet (width n) m in
        omega arith
    go false c h ih =
        let m = bit_and (word_of s) (high_bits n) in
        let q : m * 256 + b / 128 * 128 ≡ m * 256 + 128 = omega (arith, ltb-false b 128 c) in
        let f : count_trailing_zeros (width (suc n)) (m * 256 + b / 128 * 128) ≡ 7 = ap (count_trailing_zeros (width (suc n))) q ∙ high_octet (width n) m in
        omega arith

front_ascii : (l : List ℕ) (j : ℕ) → j < ascii_front l → get_or l j 0 < 128
unfolding ascii_front
front_ascii [] j h = absurd (omega arith)
front_ascii (b ∷ s) j h = go (ltb b 128) refl j h (λ i k. front_ascii s i k)
  where
    go : (t : Bool) → ltb b 128 ≡ t → (j : ℕ) → j < cond t (suc (ascii_front s)) 0 → ((i : ℕ) → i < ascii_front s → get_or s i 0 < 128)
        → get_or (b ∷ s) j 0 < 128
    go true c zero h rest = ltb-true b 128 c
    go true c (suc j) h rest = rest j (omega arith)
    go false c j h rest = absurd (omega arith)

pub ascii_front_le : (l : List ℕ) → ascii_front l ≤ length l
unfolding ascii_front
ascii_front_le [] = zero-le
ascii_front_le (b ∷ s) = go (ltb b 128) (ascii_front_le s)
  where
    go : (t : Bool) → ascii_front s ≤ length s → cond t (suc (ascii_front s)) 0 ≤ length (b ∷ s)
    go true h = omega arith
    go false h = zero-le

-- as many octets as the word's front is ASCII
pub word_passes : (s : List ℕ) (i k : ℕ) → i + 8 ≤ length s → k ≡ ascii_front (take 8 (drop i s)) → Passes s i (i + k)
word_passes s i k h e =
    let m : k ≤ 8 = omega (arith, ascii_front_le (take 8 (drop i s)), eight_length s i h) in
    passes_ascii s i k (omega arith)
    (λ j l. subst (λ (x : ℕ). x < 128) (eight_at s i j (omega arith)) (front_ascii (take 8 (drop i s)) j (omega arith)))

pub word_all_passes : (s : List ℕ) (i k : ℕ) → i + 8 ≤ length s → k ≡ ascii_front (take 8 (drop i s)) → 8 ≤ k → Passes s i (i + 8)
word_all_passes s i k h e l =
    let m : k ≡ 8 = omega (arith, ascii_front_le (take 8 (drop i s)), eight_length s i h) in
    subst (λ (n : ℕ). Passes s i (i + n)) m (word_passes s i k h e)

-- the code's word: eight octets of a slice
pub word_is : (s : List ℕ) (i : ℕ) → i + 8 ≤ length s → ((j : ℕ) → get_or s j 0 < 256)
    → count_trailing_zeros 64 (bit_and (word_of (take 8 (drop i s))) 0x8080808080808080) / 8 ≡ ascii_front (take 8 (drop i s))
word_is s i h small =
    word_front 8 (take 8 (drop i s)) (eight_length s i h)
    (λ j l. subst (λ (x : ℕ). x < 256) (sym (eight_at s i j l)) (small (i + j)))

-- the code's sums
module _ (s : List ℕ) (i : ℕ) (h : i + 8 ≤ length s) where
  pub or_eight_is : bit_or (get_or s i 0) (bit_or (get_or s (i + 1) 0) (bit_or (get_or s (i + 2) 0) (bit_or (get_or s (i + 3) 0) (bit_or (get_or s (i + 4) 0) (bit_or (get_or s (i + 5) 0) (bit_or (get_or s (i + 6) 0) (get_or s (i + 7) 0)))))))
      ≡ or_eight s i
  unfolding or_all
  or_eight_is = rw (eight_is s i h, or_zero_r (get_or s (i + 7) 0))

  pub le_word : from_le_bytes w64 (get_or s i 0 ∷ get_or s (i + 1) 0 ∷ get_or s (i + 2) 0 ∷ get_or s (i + 3) 0 ∷ get_or s (i + 4) 0 ∷ get_or s (i + 5) 0 ∷ get_or s (i + 6) 0 ∷ get_or s (i + 7) 0 ∷ [])
      ≡ word_of (take 8 (drop i s))
  unfolding word_of
  le_word = rw (eight_is s i h) (omega arith)
