-- A table whose rest was lent and came back as zeros.
-- `put_mid` and `mid_of` are the borrow checker's words for a part that was lent and came back.
use Prim.Native.Nat.{ℕ, ◌-◌, ◌≤◌}
use native.Mathlib.Nat.{le_refl}
use mathlib.Core.Path.{◌≡◌, ap, ap₂, ◌∙◌}
use mathlib.Core.List.{List, [], ◌++◌, append-nil}
use borrow.Rule.Slice.PartMut.{mid_of, put_mid, post_of, Post-is, mid_len}
use lib.ListN.{length, take, replicate, drop_of_length-le}

pub zero_tail : (xs ys : List ℕ) (at : ℕ) → at ≤ length xs → ys ≡ replicate (length (mid_of at (length xs - at) xs)) 0
    → put_mid at (length xs - at) xs ys ≡ take at xs ++ replicate (length xs - at) 0
zero_tail xs ys at h e =
    let zeros : ys ≡ replicate (length xs - at) 0 = e ∙ ap (λ (n : ℕ). replicate n 0) (mid_len at (length xs) xs (le_refl (length xs))) in
    let after : post_of at (length xs - at) xs ≡ [] = Post-is at (length xs) xs h ∙ drop_of_length-le xs (le_refl (length xs)) in
    ap₂ (λ (a b : List ℕ). take at xs ++ (a ++ b)) zeros after ∙ ap (λ (l : List ℕ). take at xs ++ l) (append-nil (replicate (length xs - at) 0))
