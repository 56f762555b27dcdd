-- Laws of `placed`, bytes put into an output: its length, one part behind another, and how the field writers and a copy put their bytes.
use Prim.Native.Nat.{ℕ, ◌+◌, ◌-◌, ◌≤◌}
use native.Mathlib.Nat.{add_assoc, add-zero, zero-add}
use native.Mathlib.Omega.{arith}
use mathlib.Core.Path.{◌≡◌, refl, sym, ap, ap₂, ◌∙◌}
use mathlib.Core.List.{List, [], ◌++◌, append_assoc}
use borrow.Rule.Slice.PartMut.{mid_of, put_mid}
use lib.ListN.{length, take, drop, length-append, length-drop, take-append-drop}
use lib.Seq.{length-take-le, take-append_seam, drop-append-add, drop-drop}
use Rattle.fields.specs.Fields.{part, bytes}
use Rattle.fields.proofs.Parts.{length_part, part_middle}
use Rattle.fields.proofs.Numbers.{length_bytes}
use Rattle.fields.proofs.WriteOn.{write_at, write_on}
use Rattle.fields.specs.Placed.{placed}

module _ (at : ℕ) (b out : List ℕ) where
  pub placed_split : placed at b out ≡ (take at out ++ b) ++ drop (at + length b) out
  unfolding placed
  placed_split = sym (append_assoc (take at out) b (drop (at + length b) out))

  pub length_front : at ≤ length out → length (take at out ++ b) ≡ at + length b
  length_front h = length-append (take at out) b ∙ ap (λ (n : ℕ). n + length b) (length-take-le at out h)

  pub length_placed : at + length b ≤ length out → length (placed at b out) ≡ length out
  length_placed h =
      ap length placed_split ∙ length-append (take at out ++ b) (drop (at + length b) out)
      ∙ ap₂ ◌+◌ (length_front (omega arith)) (length-drop (at + length b) out) ∙ omega arith

  pub take_placed : at ≤ length out → take (at + length b) (placed at b out) ≡ take at out ++ b
  take_placed h =
      ap₂ take (sym (length_front h)) placed_split ∙ take-append_seam (take at out ++ b) (drop (at + length b) out)

  -- the output as the laws of `WriteOn` have it
  pub placed_on : at ≤ length out → placed at b out ≡ (take at out ++ b) ++ drop (length (take at out ++ b)) out
  placed_on h = placed_split ∙ ap (λ (n : ℕ). (take at out ++ b) ++ drop n out) (sym (length_front h))

pub placed_none : (at : ℕ) (out : List ℕ) → placed at [] out ≡ out
unfolding placed
placed_none at out = ap (λ (n : ℕ). take at out ++ drop n out) (add-zero at) ∙ take-append-drop at out

pub placed_front : (b out : List ℕ) → placed 0 b out ≡ b ++ drop (length b) out
unfolding placed
placed_front b out = ap (λ (n : ℕ). b ++ drop n out) (zero-add (length b))

-- one part behind another is both parts
pub placed_behind : (at : ℕ) (a b out : List ℕ) → at ≤ length out → placed (at + length a) b (placed at a out) ≡ placed at (a ++ b) out
placed_behind at a b out h =
    let P = take at out ++ a in
    let L : at + length a ≡ length P = sym (length_front at a out h) in
    let w = write_at out P b (placed at a out) (at + length a) (length b) (placed_on at a out h) L refl in
    let n : length (P ++ b) ≡ at + length (a ++ b) = length-append P b ∙ ap (λ (k : ℕ). k + length b) (sym L) ∙ add_assoc at (length a) (length b) ∙ ap (λ (k : ℕ). at + k) (sym (length-append a b)) in
    placed_split (at + length a) b (placed at a out) ∙ w
    ∙ ap₂ (λ (x : List ℕ) (k : ℕ). x ++ drop k out) (append_assoc (take at out) a b) n ∙ sym (placed_split at (a ++ b) out)

-- what a field writer leaves
pub placed_bytes : (n v at : ℕ) (out : List ℕ) → take at out ++ bytes n v ++ drop (at + n) out ≡ placed at (bytes n v) out
placed_bytes n v at out =
    ap (λ (k : ℕ). take at out ++ bytes n v ++ drop (at + k) out) (sym (length_bytes n v)) ∙ sym (placed_split at (bytes n v) out)

-- what a copy to the front of the rest leaves
pub placed_copied : (at : ℕ) (b out ys : List ℕ) → at ≤ length out → ys ≡ b ++ drop (length b) (mid_of at (length out - at) out)
    → put_mid at (length out - at) out ys ≡ placed at b out
placed_copied at b out ys h e =
    let P = take at out in
    let l : length P ≡ at = length-take-le at out h in
    let o : out ≡ P ++ drop (length P) out = sym (take-append-drop at out) ∙ ap (λ (n : ℕ). P ++ drop n out) (sym l) in
    write_on out P b out ys at o (sym l) e
    ∙ ap (λ (n : ℕ). (P ++ b) ++ drop n out) (length_front at b out h) ∙ sym (placed_split at b out)

-- what a callee leaves that was lent the rest and placed its bytes at the front of it
pub placed_lent : (at : ℕ) (b out ys : List ℕ) → at ≤ length out → ys ≡ placed 0 b (mid_of at (length out - at) out)
    → put_mid at (length out - at) out ys ≡ placed at b out
placed_lent at b out ys h e = placed_copied at b out ys h (e ∙ placed_front b (mid_of at (length out - at) out))

-- the bytes that were put there
pub part_placed : (at : ℕ) (b out : List ℕ) → at ≤ length out → part (placed at b out) at (length b) ≡ b
part_placed at b out h =
    ap₂ (λ (k : ℕ) (l : List ℕ). part l k (length b)) (sym (length-take-le at out h)) (placed_split at b out)
    ∙ part_middle (take at out) b (drop (at + length b) out)

-- what stood behind stays
pub placed_keep : (at : ℕ) (b out : List ℕ) (n : ℕ) → at + length b + n ≤ length out → placed at b out ≡ placed at (b ++ part out (at + length b) n) out
unfolding placed
placed_keep at b out n h =
    let k = at + length b in
    let p = part out k n in
    let split : drop k out ≡ p ++ drop (k + n) out = sym (take-append-drop n (drop k out)) ∙ ap (λ (l : List ℕ). p ++ l) (drop-drop n k out) in
    let size : k + n ≡ at + length (b ++ p) = omega (arith, length-append b p, length_part out k n h) in
    ap (λ (l : List ℕ). take at out ++ (b ++ l)) split ∙ ap (λ (l : List ℕ). take at out ++ l) (sym (append_assoc b p (drop (k + n) out)))
    ∙ ap (λ (m : ℕ). take at out ++ ((b ++ p) ++ drop m out)) size

-- bytes at the front hide what was put where they stand
pub placed_over : (at : ℕ) (b c out : List ℕ) → at ≤ length out → at + length b ≤ length c → placed 0 c (placed at b out) ≡ placed 0 c out
placed_over at b c out h g =
    let r = length c - (at + length b) in
    let P = take at out ++ b in
    let n : length c ≡ length P + r = omega (arith, length_front at b out h) in
    let k : length P + r ≡ at + length b + r = omega (arith, length_front at b out h) in
    let behind : drop (length c) (placed at b out) ≡ drop (length c) out =
    ap₂ drop n (placed_split at b out) ∙ drop-append-add P (drop (at + length b) out) r ∙ drop-drop r (at + length b) out
    ∙ ap (λ (m : ℕ). drop m out) (sym (n ∙ k)) in
    placed_front c (placed at b out) ∙ ap (λ (l : List ℕ). c ++ l) behind ∙ sym (placed_front c out)

-- the next part, put behind those that stand
module _ (at : ℕ) (a b out one two : List ℕ) (here : ℕ) (h : at ≤ length out) (e : one ≡ placed at a out) (p : here ≡ at + length a) where
  pub then_placed : two ≡ placed here b one → two ≡ placed at (a ++ b) out
  then_placed q = q ∙ ap₂ (λ (n : ℕ) (l : List ℕ). placed n b l) p e ∙ placed_behind at a b out h
