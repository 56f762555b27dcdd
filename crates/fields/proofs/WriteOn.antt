-- Writing into the rest of a lent output: what a callee leaves at the front of `&mut out[at..]`, told of the whole output.
-- `put_mid` and `mid_of` are the borrow checker's words for a part that was lent and came back.
-- Assumes nothing.
use mathlib.Core.Path.{◌≡◌, sym, ap, ◌∙◌}
use mathlib.Core.List.{List, [], ◌++◌, append_assoc, append-nil}
use Prim.Native.Nat.{ℕ, ◌+◌, ◌-◌}
use native.Mathlib.Nat.{le_of_eq}
use borrow.Rule.Slice.PartMut.{mid_of, put_mid}
use lib.ListN.{length, take, drop, length-append, length-drop, drop_of_length-le}
use lib.Seq.{take_all, take-append_seam, drop-append_seam, drop-drop}

-- P stands at the front of the output o, and the callee puts B at the front of the rest: then P ++ B stands at the front
pub write_on : (o P B out ys : List ℕ) (at : ℕ) → out ≡ P ++ drop (length P) o → at ≡ length P
    → ys ≡ B ++ drop (length B) (mid_of at (length out - at) out)
    → put_mid at (length out - at) out ys ≡ P ++ B ++ drop (length (P ++ B)) o
write_on o P B out ys at e a y =
    let k = length out - at in
    let eT : take at out ≡ P = rw (a, e) (take-append_seam P (drop (length P) o)) in
    let eD : drop at out ≡ drop (length P) o = rw (a, e) (drop-append_seam P (drop (length P) o)) in
    let n : length (drop at out) ≡ k = length-drop at out in
    let eM : take k (drop at out) ≡ drop at out = take_all k (drop at out) (le_of_eq n) in
    let eP : drop k (drop at out) ≡ [] = drop_of_length-le (drop at out) (le_of_eq n) in
    let first : put_mid at k out ys ≡ P ++ (B ++ drop (length B) (drop (length P) o) ++ []) = cc in
    first
    ∙ ap (λ (l : List ℕ). P ++ l) (append-nil (B ++ drop (length B) (drop (length P) o)))
    ∙ sym (append_assoc P B (drop (length B) (drop (length P) o)))
    ∙ ap (λ (l : List ℕ). P ++ B ++ l) (drop-drop (length B) (length P) o ∙ ap (λ (m : ℕ). drop m o) (sym (length-append P B)))

-- the same where B is stored into the whole output, at the end of P
pub write_at : (o P B out : List ℕ) (at n : ℕ) → out ≡ P ++ drop (length P) o → at ≡ length P → length B ≡ n
    → take at out ++ B ++ drop (at + n) out ≡ P ++ B ++ drop (length (P ++ B)) o
write_at o P B out at n e a b =
    let eT : take at out ≡ P = rw (a, e) (take-append_seam P (drop (length P) o)) in
    let eD : drop at out ≡ drop (length P) o = rw (a, e) (drop-append_seam P (drop (length P) o)) in
    let eN : drop (at + n) out ≡ drop (length (P ++ B)) o =
    sym (drop-drop n at out) ∙ ap (drop n) eD ∙ drop-drop n (length P) o
    ∙ ap (λ (m : ℕ). drop m o) (ap (λ (m : ℕ). length P + m) (sym b) ∙ sym (length-append P B)) in
    ap (λ (l : List ℕ). l ++ B ++ drop (at + n) out) eT ∙ ap (λ (l : List ℕ). P ++ B ++ l) eN
