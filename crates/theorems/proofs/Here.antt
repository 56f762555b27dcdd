-- What stands at a place of a list: `drop at s` begins with it. Each field read there, and the place behind it.
use Prim.Native.Nat.{ℕ, ◌+◌, ◌-◌, ◌≤◌, ◌<◌, ◌^◌}
use mathlib.Core.Path.{◌≡◌, sym, ap, ◌∙◌}
use mathlib.Core.List.{List, ◌++◌}
use native.Mathlib.Omega.{arith}
use lib.ListN.{length, take, drop, length-append, length-drop}
use lib.Seq.{take_at, drop_at, drop-drop}
use Rattle.fields.specs.Fields.{part, num, le, bytes}
use Rattle.fields.proofs.Parts.{part_split}
use Rattle.fields.proofs.Numbers.{length_bytes, le_bytes}

pub part_here : (s : List ℕ) (at n : ℕ) (a b : List ℕ) → drop at s ≡ a ++ b → length a ≡ n → part s at n ≡ a
part_here s at n a b h l = ap (take n) h ∙ take_at a b n l

pub after_here : (s : List ℕ) (at n : ℕ) (a b : List ℕ) → drop at s ≡ a ++ b → length a ≡ n → drop (at + n) s ≡ b
after_here s at n a b h l = sym (drop-drop n at s) ∙ ap (drop n) h ∙ drop_at a b n l

pub num_here : (s : List ℕ) (at n v : ℕ) (b : List ℕ) → drop at s ≡ bytes n v ++ b → v < 256 ^ n → num s at n ≡ v
num_here s at n v b h k = ap le (part_here s at n (bytes n v) b h (length_bytes n v)) ∙ le_bytes n v k

pub after_number : (s : List ℕ) (at n v : ℕ) (b : List ℕ) → drop at s ≡ bytes n v ++ b → drop (at + n) s ≡ b
after_number s at n v b h = after_here s at n (bytes n v) b h (length_bytes n v)

pub room_here : (s : List ℕ) (at : ℕ) (a b : List ℕ) → drop at s ≡ a ++ b → 0 < length a → at + length a ≤ length s
room_here s at a b h k =
    let e : length s - at ≡ length a + length b = sym (length-drop at s) ∙ ap length h ∙ length-append a b in
    omega arith

-- two parts of which one begins where the other ends
pub parts_joined : (s : List ℕ) (a m b k t : ℕ) → b ≡ a + m → t ≡ m + k → part s a m ++ part s b k ≡ part s a t
parts_joined s a m b k t p q =
    ap (λ (x : ℕ). part s a m ++ part s x k) p ∙ sym (part_split s a m k) ∙ ap (part s a) (sym q)
