-- `Passes s at to`, from one place of a list to a later one, by one character, by ASCII, and step after step.
use mathlib.Core.Path.{◌≡◌, refl, sym, ap, ◌∙◌, subst}
use mathlib.Core.List.{List, ◌++◌}
use Prim.Native.Nat.{ℕ, ◌+◌, ◌≤◌, ◌<◌}
use native.Mathlib.Nat.{le_refl}
use native.Mathlib.Omega.{arith}
use lib.ListN.{length, take, drop, get_or, length-drop, take-append-drop}
use lib.Seq.{drop-drop, get_or-drop, get_or-take, length-take-le}
use Rattle.utf8.specs.Utf8.{Octets, char_length, valid_front}
use Rattle.utf8.specs.Steps.{Passes}
use Rattle.utf8.proofs.Laws.{ascii_octets, char_inside, front_append, front_char, front_le, front_none}

pub passes_none : (s : List ℕ) (at : ℕ) → at ≤ length s → Passes s at at
passes_none s at h = record { ahead = le_refl at; inside = h; same = refl }

pub passes_on : {s : List ℕ} {at mid to : ℕ} → Passes s at mid → Passes s mid to → Passes s at to
passes_on p q = record { ahead = omega arith; inside = q.inside; same = p.same ∙ q.same }

-- a character of n octets that starts at `at`
pub passes_char : (s : List ℕ) (at n : ℕ) → at ≤ length s → 0 < n → n ≡ char_length (drop at s) → Passes s at (at + n)
passes_char s at n h k e =
    let f : valid_front (drop at s) ≡ n + valid_front (drop n (drop at s)) = front_char (drop at s) n k (sym e) in
    let d : valid_front (drop n (drop at s)) ≡ valid_front (drop (at + n) s) = ap valid_front (drop-drop n at s) in
    record {
      ahead = omega arith;
      inside = omega (arith, char_inside (drop at s) n (sym e), length-drop at s);
      same = omega arith;
    }

-- one more character
pub passes_next : {s : List ℕ} {at i n : ℕ} → Passes s at i → 0 < n → n ≡ char_length (drop i s) → Passes s at (i + n)
passes_next {s} {at} {i} {n} p k e = passes_on p (passes_char s i n p.inside k e)

-- k octets from `at` on that are ASCII
pub passes_ascii : (s : List ℕ) (at k : ℕ) → at + k ≤ length s → ((i : ℕ) → i < k → get_or s (at + i) 0 < 128) → Passes s at (at + k)
passes_ascii s at k h small =
    let t = take k (drop at s) in
    let n : length t ≡ k = length-take-le k (drop at s) (omega (arith, length-drop at s)) in
    let o : Octets t = ascii_octets t (λ i l. ascii_at i (omega arith)) in
    let f : valid_front (t ++ drop k (drop at s)) ≡ length t + valid_front (drop k (drop at s)) = front_append o (drop k (drop at s)) in
    let w : valid_front (t ++ drop k (drop at s)) ≡ valid_front (drop at s) = ap valid_front (take-append-drop k (drop at s)) in
    let d : valid_front (drop k (drop at s)) ≡ valid_front (drop (at + k) s) = ap valid_front (drop-drop k at s) in
    record { ahead = omega arith; inside = h; same = omega arith }
  where
    ascii_at : (i : ℕ) → i < k → get_or (take k (drop at s)) i 0 < 128
    ascii_at i l = rw (get_or-take k (drop at s) i 0 l, get_or-drop at s i 0) (small i l)

-- where no character starts at the place that was reached, the valid front ends there
pub ends_at : (s : List ℕ) (at : ℕ) → Passes s 0 at → char_length (drop at s) ≡ 0 → at ≡ valid_front s
ends_at s at p e = omega (arith, p.same, front_none (drop at s) e)

pub ends_all : (s : List ℕ) (at : ℕ) → Passes s 0 at → length s ≤ at → at ≡ valid_front s
ends_all s at p h = omega (arith, p.same, p.inside, front_le (drop at s), length-drop at s)

pub passes_byte : (s : List ℕ) (at : ℕ) → at < length s → get_or s at 0 < 128 → Passes s at (at + 1)
passes_byte s at h k =
    passes_ascii s at 1 (omega arith)
    (λ i l. let e : at + i ≡ at = omega arith in subst (λ (j : ℕ). get_or s j 0 < 128) (sym e) k)
