-- What the readers' proofs cite: a number as the sum of its bytes at any width, two halves of a number, and a reader's answer where there is room and where there is none.
-- Assumes nothing.
use Rattle.std.specs.Prelude.{Some, None}
use mathlib.Core.Path.{◌≡◌, refl, sym, ap, ◌∙◌}
use mathlib.Core.List.{List}
use Prim.Native.Nat.{ℕ, zero, suc, ◌+◌, ◌*◌, ◌^◌, ◌≤◌, ◌<◌}
use borrow.Author.Tests.{le-leb, lt-leb}
use lib.ListN.{length, get_or}
use Rattle.fields.specs.Fields.{part, le, num, field8, field32, field64}
use Rattle.fields.proofs.Parts.{length_part, part_split, past, past_suc}
use Rattle.fields.proofs.Numbers.{num_suc, le_append}

-- the sum of n bytes from the k-th behind `at`, as code at a numeral n writes it out
abbrev pub sum_at : List ℕ → ℕ → ℕ → ℕ → ℕ
sum_at s at k zero = 0
sum_at s at k (suc n) = get_or s (past at k) 0 + 256 * sum_at s at (suc k) n

pub num_sum : (s : List ℕ) (at k n : ℕ) → num s (past at k) n ≡ sum_at s at k n
unfolding le
num_sum s at k zero = refl
num_sum s at k (suc n) =
    num_suc s (past at k) n
    ∙ ap (λ (m : ℕ). get_or s (past at k) 0 + 256 * m) (ap (λ (j : ℕ). num s j n) (sym (past_suc at k)) ∙ num_sum s at (suc k) n)

-- the low m bytes and the high n of a number
pub num_halves : (s : List ℕ) (at m n : ℕ) → at + m ≤ length s → num s at (m + n) ≡ num s at m + 256 ^ m * num s (at + m) n
num_halves s at m n h =
    ap le (part_split s at m n) ∙ le_append (part s at m) (part s (at + m) n)
    ∙ ap (λ (k : ℕ). num s at m + 256 ^ k * num s (at + m) n) (length_part s at m h)

pub field8_room : (s : List ℕ) (at : ℕ) → at + 1 ≤ length s → field8 s at ≡ Some (num s at 1, at + 1)
unfolding field8
field8_room s at h = simp (le-leb _ _ h)

pub field8_past : (s : List ℕ) (at : ℕ) → length s < at + 1 → field8 s at ≡ None
unfolding field8
field8_past s at h = simp (lt-leb _ _ h)

pub field32_room : (s : List ℕ) (at : ℕ) → at + 4 ≤ length s → field32 s at ≡ Some (num s at 4, at + 4)
unfolding field32
field32_room s at h = simp (le-leb _ _ h)

pub field32_past : (s : List ℕ) (at : ℕ) → length s < at + 4 → field32 s at ≡ None
unfolding field32
field32_past s at h = simp (lt-leb _ _ h)

pub field64_room : (s : List ℕ) (at : ℕ) → at + 8 ≤ length s → field64 s at ≡ Some (num s at 8, at + 8)
unfolding field64
field64_room s at h = simp (le-leb _ _ h)

pub field64_past : (s : List ℕ) (at : ℕ) → length s < at + 8 → field64 s at ≡ None
unfolding field64
field64_past s at h = simp (lt-leb _ _ h)
