-- Several bytes at once: each is looked up by itself, in the row of as many zero bytes as follow it.
-- Assumes nothing.
use mathlib.Core.Path.{◌≡◌, refl, sym, ap, ap₂, ◌∙◌}
use mathlib.Core.List.{List, [], ◌∷◌, ◌++◌}
use Prim.Native.Nat.{ℕ, suc, ◌+◌, ◌-◌, ◌*◌, ◌/◌, ◌%◌, ◌≤◌, ◌<◌}
use native.Mathlib.Nat.{div-eq_of_lt, add_comm}
use native.Mathlib.Numerals.{add-one}
use native.Mathlib.Omega.{arith}
use lib.Bits.{bit_xor, xor_comm, xor_shr, xor_zero_r}
use lib.ListN.{length, get_or, take, drop, take-append-drop, length-drop, drop_of_length-le}
use lib.Seq.{drop-cons, drop-drop, take-add, take_all, length-take-le}
use Rattle.elimination.proofs.Xor.{xor_reversed}
use Rattle.crc32.specs.Crc.{bits_in, bytes_in}
use Rattle.crc32.specs.Steps.{shifts, turns}
use Rattle.crc32.proofs.Shift.{shifts_split, shifts_add, turns_xor, turns_add, turns_zero, turns_split, rounds_halves}
use Rattle.crc32.proofs.Bytes.{bits_in_lem, bytes_in_append, bytes_in_xor, bytes_in_start}

-- a byte does not reach what stands above the low byte
pub above : (c b : ℕ) → b < 256 → bit_xor c b / 256 ≡ c / 256
above c b h = xor_shr c b 8 ∙ ap (bit_xor (c / 256)) (div-eq_of_lt h) ∙ xor_zero_r (c / 256)

pub byte_split : (c b : ℕ) → b < 256 → bits_in 8 c b ≡ bit_xor (shifts 8 (bit_xor c b % 256)) (c / 256)
byte_split c b h =
    bits_in_lem 8 c b h ∙ shifts_split 8 (bit_xor c b) ∙ ap (bit_xor (shifts 8 (bit_xor c b % 256))) (above c b h)

-- a byte goes in as its two halves
pub byte_halves : (c b : ℕ) → b < 256 → bits_in 8 c b ≡ shifts 4 (shifts 4 (bit_xor c b))
byte_halves c b h = bits_in_lem 8 c b h ∙ shifts_add 4 4 (bit_xor c b)

-- a byte's entry of row j is that of its low half, one half row up, and that of its high half
pub row_halves : (j x : ℕ) → x < 256
    → bit_xor (turns 4 (suc (2 * j + 1)) (x % 16)) (turns 4 (suc (2 * j)) (x / 16)) ≡ turns 8 (suc j) x
row_halves j x h =
    let m : suc j + suc j ≡ suc (2 * j + 1) = omega arith in
    let n : 2 * j + 1 ≡ suc (2 * j) = omega arith in
    ap (λ (y : ℕ). bit_xor (turns 4 (suc (2 * j + 1)) (x % 16)) (turns 4 y (x / 16))) (sym n)
    ∙ sym (rounds_halves (suc j) x ∙ ap (λ (y : ℕ). turns 4 y x) m ∙ turns_split 4 (2 * j + 1) x)

-- the first byte of some, with `row` zero bytes after the last
pub first_byte : (row c b : ℕ) (bs : List ℕ) → b < 256
    → turns 8 row (bytes_in c (b ∷ bs)) ≡ bit_xor (turns 8 (suc (row + length bs)) (bit_xor c b % 256)) (turns 8 row (bytes_in (c / 256) bs))
unfolding bytes_in turns
first_byte row c b bs h =
    let x = shifts 8 (bit_xor c b % 256) in
    ap (λ (y : ℕ). turns 8 row (bytes_in y bs)) (byte_split c b h)
    ∙ ap (turns 8 row) (bytes_in_xor x (c / 256) bs)
    ∙ turns_xor 8 row (turns 8 (length bs) x) (bytes_in (c / 256) bs)
    ∙ ap (λ (y : ℕ). bit_xor y (turns 8 row (bytes_in (c / 256) bs)))
    (sym (turns_add 8 (length bs) row x) ∙ ap (λ (n : ℕ). turns 8 n x) (add_comm (length bs) row))

-- four bytes: the register has no more than four
four_bytes : (row c b₀ b₁ b₂ b₃ : ℕ) → c < 4294967296 → b₀ < 256 → b₁ < 256 → b₂ < 256 → b₃ < 256
    → bit_xor (turns 8 (suc (row + 3)) (bit_xor c b₀ % 256))
    (bit_xor (turns 8 (suc (row + 2)) (bit_xor (c / 256) b₁ % 256))
    (bit_xor (turns 8 (suc (row + 1)) (bit_xor (c / 65536) b₂ % 256))
    (turns 8 (suc row) (bit_xor (c / 16777216) b₃ % 256))))
    ≡ turns 8 row (bytes_in c (b₀ ∷ b₁ ∷ b₂ ∷ b₃ ∷ []))
unfolding bytes_in
four_bytes row c b₀ b₁ b₂ b₃ hc h₀ h₁ h₂ h₃ =
    let e₂ : c / 256 / 256 ≡ c / 65536 = omega arith in
    let e₃ : c / 65536 / 256 ≡ c / 16777216 = omega arith in
    let e₄ : c / 16777216 / 256 ≡ 0 = omega arith in
    let e₀ : row + 0 ≡ row = omega arith in
    sym
    (first_byte row c b₀ (b₁ ∷ b₂ ∷ b₃ ∷ []) h₀
    ∙ ap (bit_xor (turns 8 (suc (row + 3)) (bit_xor c b₀ % 256)))
    (first_byte row (c / 256) b₁ (b₂ ∷ b₃ ∷ []) h₁
    ∙ ap (bit_xor (turns 8 (suc (row + 2)) (bit_xor (c / 256) b₁ % 256)))
    (ap (λ (x : ℕ). turns 8 row (bytes_in x (b₂ ∷ b₃ ∷ []))) e₂
    ∙ first_byte row (c / 65536) b₂ (b₃ ∷ []) h₂
    ∙ ap (bit_xor (turns 8 (suc (row + 1)) (bit_xor (c / 65536) b₂ % 256)))
    (ap (λ (x : ℕ). turns 8 row (bytes_in x (b₃ ∷ []))) e₃
    ∙ first_byte row (c / 16777216) b₃ [] h₃
    ∙ ap₂ (λ (n x : ℕ). bit_xor (turns 8 (suc n) (bit_xor (c / 16777216) b₃ % 256)) (turns 8 row x)) e₀ e₄
    ∙ ap (bit_xor (turns 8 (suc row) (bit_xor (c / 16777216) b₃ % 256))) (turns_zero 8 row)
    ∙ xor_zero_r (turns 8 (suc row) (bit_xor (c / 16777216) b₃ % 256))))))

-- the next bytes of a list
take_next : (n i j : ℕ) (s : List ℕ) → i < length s → j ≡ i + 1
    → take (suc n) (drop i s) ≡ get_or s i 0 ∷ take n (drop j s)
take_next n i j s h e =
    ap (take (suc n)) (drop-cons s i 0 h ∙ ap (λ (m : ℕ). get_or s i 0 ∷ drop m s) (sym (e ∙ add-one i)))

pub take_four : (i : ℕ) (s : List ℕ) → i + 4 ≤ length s
    → take 4 (drop i s) ≡ get_or s i 0 ∷ get_or s (i + 1) 0 ∷ get_or s (i + 2) 0 ∷ get_or s (i + 3) 0 ∷ []
take_four i s h =
    take_next 3 i (i + 1) s (omega arith) refl
    ∙ ap (λ (l : List ℕ). get_or s i 0 ∷ l)
    (take_next 2 (i + 1) (i + 2) s (omega arith) (omega arith)
    ∙ ap (λ (l : List ℕ). get_or s (i + 1) 0 ∷ l)
    (take_next 1 (i + 2) (i + 3) s (omega arith) (omega arith)
    ∙ ap (λ (l : List ℕ). get_or s (i + 2) 0 ∷ l) (take_next 0 (i + 3) (i + 4) s (omega arith) (omega arith))))

-- four bytes of a list, each looked up
pub four_looked : (row c at : ℕ) (s : List ℕ) {x₀ x₁ x₂ x₃ : ℕ} → at + 4 ≤ length s → c < 4294967296 → ((i : ℕ) → get_or s i 0 < 256)
    → x₀ ≡ turns 8 (suc (row + 3)) (bit_xor c (get_or s at 0) % 256)
    → x₁ ≡ turns 8 (suc (row + 2)) (bit_xor (c / 256) (get_or s (at + 1) 0) % 256)
    → x₂ ≡ turns 8 (suc (row + 1)) (bit_xor (c / 65536) (get_or s (at + 2) 0) % 256)
    → x₃ ≡ turns 8 (suc row) (bit_xor (c / 16777216) (get_or s (at + 3) 0) % 256)
    → bit_xor x₀ (bit_xor x₁ (bit_xor x₂ x₃)) ≡ turns 8 row (bytes_in c (take 4 (drop at s)))
four_looked row c at s h hc fits e₀ e₁ e₂ e₃ =
    ap₂ bit_xor e₀ (ap₂ bit_xor e₁ (ap₂ bit_xor e₂ e₃))
    ∙ four_bytes row c (get_or s at 0) (get_or s (at + 1) 0) (get_or s (at + 2) 0) (get_or s (at + 3) 0) hc (fits at) (fits (at + 1)) (fits (at + 2)) (fits (at + 3))
    ∙ ap (λ (l : List ℕ). turns 8 row (bytes_in c l)) (sym (take_four at s h))

-- n + m bytes: the n first with m zero bytes after them, and the m others into the zero register
pub first_part : (c n m i j : ℕ) (s : List ℕ) → j ≡ i + n → j + m ≤ length s
    → bit_xor (turns 8 m (bytes_in c (take n (drop i s)))) (bytes_in 0 (take m (drop j s))) ≡ bytes_in c (take (n + m) (drop i s))
first_part c n m i j s e h =
    let l : length (take m (drop j s)) ≡ m =
    length-take-le m (drop j s) (omega (arith, length-drop j s)) in
    let d : drop n (drop i s) ≡ drop j s = drop-drop n i s ∙ ap (λ (k : ℕ). drop k s) (sym e) in
    sym
    (ap (bytes_in c) (take-add n m (drop i s) ∙ ap (λ (x : List ℕ). take n (drop i s) ++ take m x) d)
    ∙ bytes_in_append c (take n (drop i s)) (take m (drop j s))
    ∙ bytes_in_start (bytes_in c (take n (drop i s))) (take m (drop j s))
    ∙ ap (λ (k : ℕ). bit_xor (turns 8 k (bytes_in c (take n (drop i s)))) (bytes_in 0 (take m (drop j s)))) l)

-- eight bytes, those that wait for the register last, so that the others can be looked up before it is known
pub eight_bytes : (c i : ℕ) (s : List ℕ) → i + 8 ≤ length s
    → bit_xor (turns 8 0 (bytes_in 0 (take 4 (drop (i + 4) s)))) (turns 8 4 (bytes_in c (take 4 (drop i s))))
    ≡ bytes_in c (take 8 (drop i s))
unfolding turns
eight_bytes c i s h =
    xor_comm (bytes_in 0 (take 4 (drop (i + 4) s))) (turns 8 4 (bytes_in c (take 4 (drop i s))))
    ∙ first_part c 4 4 i (i + 4) s refl (omega arith)

-- sixteen bytes, likewise
pub sixteen_bytes : (c i : ℕ) (s : List ℕ) → i + 16 ≤ length s
    → bit_xor (turns 8 0 (bytes_in 0 (take 4 (drop (i + 12) s))))
    (bit_xor (turns 8 4 (bytes_in 0 (take 4 (drop (i + 8) s))))
    (bit_xor (turns 8 8 (bytes_in 0 (take 4 (drop (i + 4) s)))) (turns 8 12 (bytes_in c (take 4 (drop i s))))))
    ≡ bytes_in c (take 16 (drop i s))
unfolding turns
sixteen_bytes c i s h =
    let first = turns 8 12 (bytes_in c (take 4 (drop i s))) in
    let second = turns 8 8 (bytes_in 0 (take 4 (drop (i + 4) s))) in
    xor_reversed first second (turns 8 4 (bytes_in 0 (take 4 (drop (i + 8) s)))) (bytes_in 0 (take 4 (drop (i + 12) s)))
    ∙ ap (bit_xor first)
    (ap (bit_xor second) (first_part 0 4 4 (i + 8) (i + 12) s (omega arith) (omega arith))
    ∙ first_part 0 4 8 (i + 4) (i + 8) s (omega arith) (omega arith))
    ∙ first_part c 4 12 i (i + 4) s refl (omega arith)

-- a loop's turn over n bytes: the rest of the run is the same run
pub onward : (n i c : ℕ) (s : List ℕ) → bytes_in (bytes_in c (take n (drop i s))) (drop (i + n) s) ≡ bytes_in c (drop i s)
onward n i c s =
    ap (bytes_in (bytes_in c (take n (drop i s)))) (sym (drop-drop n i s))
    ∙ sym (bytes_in_append c (take n (drop i s)) (drop n (drop i s)))
    ∙ ap (bytes_in c) (take-append-drop n (drop i s))

-- a turn over one byte
onward_one : (i c : ℕ) (s : List ℕ) → i < length s → bytes_in (bits_in 8 c (get_or s i 0)) (drop (i + 1) s) ≡ bytes_in c (drop i s)
unfolding bytes_in
onward_one i c s h =
    sym (ap (bytes_in c) (drop-cons s i 0 h ∙ ap (λ (m : ℕ). get_or s i 0 ∷ drop m s) (sym (add-one i))))

-- its end
no_more : (i c : ℕ) (s : List ℕ) → length s ≤ i → bytes_in c (drop i s) ≡ c
unfolding bytes_in
no_more i c s h = ap (bytes_in c) (drop_of_length-le s h)

-- a run over the bytes of s from `at` on, which has come to place i: its rest is the whole run
pub record Underway (c at : ℕ) (s : List ℕ) (here i : ℕ) : Type 0 where
  pub within : i ≤ length s
  pub run : bytes_in here (drop i s) ≡ bytes_in c (drop at s)

module _ {c at : ℕ} {s : List ℕ} {here i : ℕ} (u : Underway c at s here i) where
  pub underway_on : (n : ℕ) {next : ℕ} → i + n ≤ length s → next ≡ bytes_in here (take n (drop i s)) → Underway c at s next (i + n)
  underway_on n h e = record { within = h; run = ap (λ (x : ℕ). bytes_in x (drop (i + n) s)) e ∙ onward n i here s ∙ u.run }

  -- four bytes as `four` puts them in, with no zero byte after them
  pub underway_four : {next : ℕ} → i + 4 ≤ length s → next ≡ turns 8 0 (bytes_in here (take 4 (drop i s))) → Underway c at s next (i + 4)
  unfolding turns
  underway_four h e = underway_on 4 h e

  pub underway_one : {next : ℕ} → i < length s → next ≡ bits_in 8 here (get_or s i 0) → Underway c at s next (i + 1)
  underway_one h e = record { within = omega arith; run = ap (λ (x : ℕ). bytes_in x (drop (i + 1) s)) e ∙ onward_one i here s h ∙ u.run }

  pub underway_out : length s ≤ i → here ≡ bytes_in c (drop at s)
  underway_out h = sym (no_more i here s h) ∙ u.run

-- the bytes from `at` on, as the part of a slice that is lent is told
abbrev pub from : ℕ → List ℕ → List ℕ
from at s = take (length s - at) (drop at s)

pub underway_past : (c at : ℕ) (s : List ℕ) (here i : ℕ) → Underway c 0 (from at s) here i → length (from at s) ≤ i → here ≡ bytes_in c (drop at s)
underway_past c at s here i u h = underway_out u h ∙ ap (bytes_in c) (take_all (length s - at) (drop at s) (omega (arith, length-drop at s)))
