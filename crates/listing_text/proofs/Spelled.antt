-- A number spelled from its last digit: what stands in the output while the digits of `rest` are still to be written.
use Prim.Native.Nat.{ℕ, ◌+◌, ◌-◌, ◌/◌, ◌%◌, ◌≤◌, ◌<◌}
use native.Mathlib.Omega.{arith}
use mathlib.Core.Path.{◌≡◌, refl, sym, ap, ◌∙◌}
use mathlib.Core.List.{List, [], ◌∷◌, ◌++◌, append-nil}
use lib.ListN.{length, set, length-append, length-set}
use lib.Seq.{append_snoc}
use Rattle.fields.specs.Placed.{placed}
use Rattle.fields.proofs.PlacedLaws.{placed_none}
use Rattle.listing_text.specs.Decimal.{digit, decimal}
use Rattle.listing_text.proofs.DecimalLaws.{decimal_one, decimal_more, length_one, length_more, length_some}
use Rattle.listing_text.proofs.PutLaws.{set_before}

-- the digits behind those of `rest` stand at i
pub record Spelled (at n : ℕ) (o out : List ℕ) (i rest : ℕ) : Type 0 where
  pub tail : List ℕ
  pub all : decimal n ≡ decimal rest ++ tail
  pub here : i ≡ at + length (decimal rest)
  pub same : out ≡ placed i tail o
  pub kept : length out ≡ length o

pub spelled_none : (at n i : ℕ) (o : List ℕ) → i ≡ at + length (decimal n) → Spelled at n o o i n
spelled_none at n i o e =
    record { tail = []; all = sym (append-nil (decimal n)); here = e; same = sym (placed_none i o); kept = refl }

module _ {at n : ℕ} {o out : List ℕ} {i rest : ℕ} (room : at + length (decimal n) ≤ length o) (s : Spelled at n o out i rest) where
  long : length (decimal n) ≡ length (decimal rest) + length s.tail
  long = ap length s.all ∙ length-append (decimal rest) s.tail

  fits : i + length s.tail ≤ length o
  fits = omega (arith, s.here, long)

  -- the first of what stands is behind `at`
  pub behind : at < i
  behind = omega (arith, s.here, length_some rest)

  -- the place before it is inside, and so is the first place of all
  pub before_inside : i - 1 < length out
  before_inside = omega (arith, behind, fits, s.kept)

  pub first_inside : at < length out
  first_inside = omega (arith, behind, fits, s.kept)

  pub spelled_more : 10 ≤ rest → (d : ℕ) → d ≡ digit (rest % 10) → Spelled at n o (set out (i - 1) d) (i - 1) (rest / 10)
  spelled_more h d e =
      let next : i ≡ i - 1 + 1 = omega (arith, behind) in
      record {
        tail = d ∷ s.tail;
        all = s.all ∙ ap (λ (l : List ℕ). l ++ s.tail) (decimal_more rest h) ∙ append_snoc (decimal (rest / 10)) (digit (rest % 10)) s.tail ∙ ap (λ (x : ℕ). decimal (rest / 10) ++ x ∷ s.tail) (sym e);
        here = omega (arith, s.here, length_more rest h);
        same = ap (λ (l : List ℕ). set l (i - 1) d) s.same ∙ set_before i (i - 1) d s.tail o next fits;
        kept = length-set out (i - 1) d ∙ s.kept;
      }

  pub spelled_all : rest < 10 → (d : ℕ) → d ≡ digit rest → set out at d ≡ placed at (decimal n) o
  spelled_all h d e =
      let next : i ≡ at + 1 = omega (arith, s.here, length_one rest h) in
      let whole : d ∷ s.tail ≡ decimal n = ap (λ (x : ℕ). x ∷ s.tail) e ∙ ap (λ (l : List ℕ). l ++ s.tail) (sym (decimal_one rest h)) ∙ sym s.all in
      ap (λ (l : List ℕ). set l at d) s.same ∙ set_before i at d s.tail o next fits ∙ ap (λ (l : List ℕ). placed at l o) whole
