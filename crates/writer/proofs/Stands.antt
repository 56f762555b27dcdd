-- Parts put into an output one behind the other, how far they reach, and that a sum of the bytes before them stays.
use Prim.Native.Nat.{ℕ, ◌+◌, ◌≤◌}
use native.Mathlib.Omega.{arith}
use mathlib.Core.Path.{◌≡◌, sym, ap, ap₂, ◌∙◌}
use mathlib.Core.List.{List, ◌++◌}
use lib.ListN.{length, take, drop, length-append}
use lib.Seq.{length-take-le, take-append-le, take-take}
use Rattle.crc32.specs.Crc.{all_ones, bytes_in}
use Rattle.pieces.specs.Sums.{Sums}
use Rattle.pieces.specs.declared.Sum.{Sum}
use Rattle.fields.specs.Fields.{bytes}
use Rattle.fields.specs.Placed.{placed}
use Rattle.fields.proofs.Numbers.{length_bytes}
use Rattle.fields.proofs.PlacedLaws.{then_placed}

-- of `out` is left `left`, with the k bytes a at `at`
pub record Stands (at : ℕ) (out : List ℕ) (k : ℕ) (a left : List ℕ) : Type 0 where
  pub long : length a ≡ k
  pub same : left ≡ placed at a out

module _ (at : ℕ) (out : List ℕ) (h : at ≤ length out) where
  pub then_part : {k m here : ℕ} {a one two : List ℕ} (b : List ℕ) → Stands at out k a one → length b ≡ m → here ≡ at + k → two ≡ placed here b one
      → Stands at out (k + m) (a ++ b) two
  then_part {here = here} {a} {one} {two} b s l p e =
      record {
        long = length-append a b ∙ ap₂ ◌+◌ s.long l;
        same = then_placed at a b out one two here h s.same (p ∙ ap (λ (n : ℕ). at + n) (sym s.long)) e;
      }

  pub then_field : {k here : ℕ} {a one two : List ℕ} (n v : ℕ) → Stands at out k a one → here ≡ at + k → two ≡ placed here (bytes n v) one
      → Stands at out (k + n) (a ++ bytes n v) two
  then_field n v s p e = then_part (bytes n v) s (length_bytes n v) p e

pub sums_placed : (sum : Sum) (at : ℕ) (b out left : List ℕ) → sum.upto ≤ at → at ≤ length out → left ≡ placed at b out → Sums out sum → Sums left sum
unfolding placed
sums_placed sum at b out left k h e s =
    let n = sum.upto in
    let front : take n left ≡ take n out =
    ap (take n) e ∙ take-append-le n (take at out) (b ++ drop (at + length b) out) (omega (arith, length-take-le at out h)) ∙ take-take n at out k in
    s ∙ ap (bytes_in all_ones) (sym front)
