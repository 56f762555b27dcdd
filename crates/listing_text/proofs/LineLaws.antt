-- How long the lines are, and what a call answers and leaves that writes one where it fits.
use Rattle.std.specs.Prelude.{Ok, Err}
use Prim.Native.Nat.{ℕ, ◌+◌, ◌≤◌, ◌<◌}
use native.Mathlib.Omega.{arith}
use mathlib.Core.Path.{◌≡◌, sym, ap, ◌∙◌}
use mathlib.Core.List.{List, ◌++◌, append_assoc}
use lib.ListN.{length, length-append}
use borrow.Author.Tests.{lt-ltb, le-ltb}
use Rattle.refusal.specs.Refusal.{Answer, written_told}
use Rattle.refusal.specs.declared.Refusal.TheVariants.{OutputTooShort}
use Rattle.fields.specs.Placed.{placed}
use Rattle.meaning.specs.Calls.{output_after}
use Rattle.listing_text.specs.Decimal.{decimal}
use Rattle.listing_text.specs.Lines.{ascii, newline, named, state_counts, log_counts, line_of}
use Rattle.listing_text.specs.Listing.{fitted}
use Rattle.listing_text.specs.declared.Heading.{Heading}

-- ---- lengths
-- how many digits a number has
abbrev pub digits : ℕ → ℕ
digits n = length (decimal n)

pub length_named : (words : List ℕ) (n : ℕ) → length (named words n) ≡ length words + digits n
length_named words n = length-append words (decimal n)

-- words and a number in front of a rest
pub length_before : (words : List ℕ) (n : ℕ) (rest : List ℕ) → length (named words n ++ rest) ≡ length words + digits n + length rest
length_before words n rest = length-append (named words n) rest ∙ ap (λ (k : ℕ). k + length rest) (length_named words n)

pub length_three : (a b c : List ℕ) → length (a ++ (b ++ c)) ≡ length a + (length b + length c)
length_three a b c = length-append a (b ++ c) ∙ ap (λ (k : ℕ). length a + k) (length-append b c)

pub length_four : (a b c d : List ℕ) → length (a ++ (b ++ (c ++ d))) ≡ length a + (length b + (length c + length d))
length_four a b c d = length-append a (b ++ (c ++ d)) ∙ ap (λ (k : ℕ). length a + k) (length_three b c d)

pub length_state : (h : Heading) → length (state_counts h) ≡ 21 + (digits h.sequence + (digits h.records + digits h.active))
length_state h =
    let c = named (ascii " active ") h.active in
    let b = named (ascii " records ") h.records ++ c in
    omega (arith, length_before (ascii "seq ") h.sequence b, length_before (ascii " records ") h.records c, length_named (ascii " active ") h.active)

pub length_log : (h : Heading) → length (log_counts h) ≡ 31 + (digits h.replayed + (digits h.skipped + (digits h.keep + digits h.tail)))
length_log h =
    let g = named (ascii " tail ") h.tail in
    let f = named (ascii " keep ") h.keep ++ g in
    let e = named (ascii " skipped ") h.skipped ++ f in
    omega (arith, length_before (ascii " replayed ") h.replayed e, length_before (ascii " skipped ") h.skipped f, length_before (ascii " keep ") h.keep g, length_named (ascii " tail ") h.tail)

pub length_line : (n id : ℕ) (state : List ℕ) → length (line_of n id state) ≡ digits n + digits id + length state + 2
length_line n id state =
    let rest = named (ascii " ") id ++ (state ++ newline) in
    omega (arith, length-append (decimal n) rest, length_before (ascii " ") id (state ++ newline), length-append state newline)

-- ---- parts that were put one behind the other
pub five : (a b c d e : List ℕ) → a ++ b ++ c ++ d ++ e ≡ a ++ (b ++ (c ++ d ++ e))
five a b c d e = ap (λ (l : List ℕ). l ++ e) (append_assoc (a ++ b) c d) ∙ append_assoc (a ++ b) (c ++ d) e ∙ append_assoc a b (c ++ d ++ e)

-- ---- what a callee tells and leaves, of a result that is known to be another
pub tells : (out : List ℕ) (x y : Answer (List ℕ)) (r : Answer ℕ) (left : List ℕ) → (r ≡ written_told x) × (left ≡ output_after out x) → x ≡ y
    → (r ≡ written_told y) × (left ≡ output_after out y)
tells out x y r left said e = (said.0 ∙ ap written_told e, said.1 ∙ ap (output_after out) e)

-- ---- a line that is written where it fits
module _ (out line : List ℕ) where
  fitted_short : length out < length line → fitted out line ≡ Err OutputTooShort
  unfolding fitted
  fitted_short h = simp (lt-ltb (length out) (length line) h)

  pub fitted_whole : length line ≤ length out → fitted out line ≡ Ok line
  unfolding fitted
  fitted_whole h = simp (le-ltb (length out) (length line) h)

  pub too_short : (n : ℕ) → n ≡ length line → length out < n → (Err OutputTooShort ≡ written_told (fitted out line)) × (out ≡ output_after out (fitted out line))
  too_short n e h =
      let s : fitted out line ≡ Err OutputTooShort = fitted_short (omega arith) in
      (sym (ap written_told s), sym (ap (output_after out) s))

  pub stands : (n : ℕ) (left : List ℕ) → n ≡ length line → n ≤ length out → left ≡ placed 0 line out
      → (Ok n ≡ written_told (fitted out line)) × (left ≡ output_after out (fitted out line))
  stands n left e h s =
      let w : fitted out line ≡ Ok line = fitted_whole (omega arith) in
      (ap (λ (k : ℕ). Ok k) e ∙ sym (ap written_told w), s ∙ sym (ap (output_after out) w))
