-- What is put into an output: a byte in front of what stands, and one part behind another.
use Prim.Native.Nat.{ℕ, suc, ◌+◌, ◌≤◌}
use native.Mathlib.Omega.{arith}
use mathlib.Core.Path.{◌≡◌, ap, ◌∙◌}
use mathlib.Core.List.{List, ◌∷◌, ◌++◌, append_assoc}
use lib.ListN.{length, get_or, take, drop, set, length-append}
use lib.Seq.{length-take-le, take-suc, append_snoc, set_at}
use Rattle.fields.specs.Placed.{placed}
use Rattle.fields.proofs.PlacedLaws.{then_placed}

-- a byte put in front
pub set_before : (i j b : ℕ) (t o : List ℕ) → i ≡ j + 1 → i + length t ≤ length o → set (placed i t o) j b ≡ placed j (b ∷ t) o
unfolding placed
set_before i j b t o e g =
    let k : i ≡ suc j = omega arith in
    let R = t ++ drop (i + length t) o in
    let front : take i o ++ R ≡ take j o ++ get_or o j 0 ∷ R =
    ap (λ (m : ℕ). take m o ++ R) k ∙ ap (λ (l : List ℕ). l ++ R) (take-suc o j 0 (omega arith)) ∙ append_snoc (take j o) (get_or o j 0) R in
    let n : i + length t ≡ j + suc (length t) = omega arith in
    ap (λ (l : List ℕ). set l j b) front
    ∙ set_at (take j o) (get_or o j 0) R b j (length-take-le j o (omega arith))
    ∙ ap (λ (m : ℕ). take j o ++ b ∷ (t ++ drop m o)) n

-- of `out` is left `left`, with these bytes at `at`, and `here` is the cursor behind them
pub record Put (at : ℕ) (out bytes left : List ℕ) (here : ℕ) : Type 0 where
  pub cursor : here ≡ at + length bytes
  pub same : left ≡ placed at bytes out

pub first_put : {at : ℕ} {out one : List ℕ} {here : ℕ} (a : List ℕ) → here ≡ at + length a → one ≡ placed at a out → Put at out a one here
first_put a n e = record { cursor = n; same = e }

pub then_put : {at : ℕ} {out a one two : List ℕ} {here next : ℕ} (b : List ℕ) → at ≤ length out → Put at out a one here
    → next ≡ here + length b → two ≡ placed here b one → Put at out (a ++ b) two next
then_put {at = at} {out} {a} {one} {two} {here} b h p n e =
    record {
      cursor = omega (arith, n, p.cursor, length-append a b);
      same = then_placed at a b out one two here h p.same p.cursor e;
    }

-- three and four parts, each behind the one before, as a callee tells and leaves them
module _ (at : ℕ) (out : List ℕ) (h : at ≤ length out) where
  pub three_puts : {one two three : List ℕ} {i j k : ℕ} (a b c : List ℕ) → (i ≡ at + length a) × (one ≡ placed at a out)
      → (j ≡ i + length b) × (two ≡ placed i b one) → (k ≡ j + length c) × (three ≡ placed j c two)
      → (k ≡ at + length (a ++ (b ++ c))) × (three ≡ placed at (a ++ (b ++ c)) out)
  three_puts a b c p q r =
      let s = then_put c h (then_put b h (first_put a p.0 p.1) q.0 q.1) r.0 r.1 in
      let e = append_assoc a b c in
      (s.cursor ∙ ap (λ (l : List ℕ). at + length l) e, s.same ∙ ap (λ (l : List ℕ). placed at l out) e)

  pub four_puts : {one two three four : List ℕ} {i j k m : ℕ} (a b c d : List ℕ) → (i ≡ at + length a) × (one ≡ placed at a out)
      → (j ≡ i + length b) × (two ≡ placed i b one) → (k ≡ j + length c) × (three ≡ placed j c two) → (m ≡ k + length d) × (four ≡ placed k d three)
      → (m ≡ at + length (a ++ (b ++ (c ++ d)))) × (four ≡ placed at (a ++ (b ++ (c ++ d))) out)
  four_puts a b c d p q r s =
      let t = three_puts a b c p q r in
      let u = then_put d h (first_put (a ++ (b ++ c)) t.0 t.1) s.0 s.1 in
      let e = append_assoc a (b ++ c) d ∙ ap (λ (l : List ℕ). a ++ l) (append_assoc b c d) in
      (u.cursor ∙ ap (λ (l : List ℕ). at + length l) e, u.same ∙ ap (λ (l : List ℕ). placed at l out) e)
