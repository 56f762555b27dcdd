-- What the writers' proofs cite: n stores, one behind the other, leave n bytes between what stood before and after them; a copy to the front; zeros to the end.
-- Assumes nothing.
use mathlib.Core.Path.{◌≡◌, refl, sym, ap, ap₂, ◌∙◌}
use mathlib.Core.List.{List, [], ◌∷◌, ◌++◌, append-nil, append_assoc}
use Prim.Native.Nat.{ℕ, zero, suc, ◌+◌, ◌/◌, ◌%◌, ◌^◌, ◌≤◌, ◌<◌}
use native.Mathlib.Nat.{not-suc-le-zero, le_of_suc-le-suc}
use native.Mathlib.Numerals.{add-one}
use native.Mathlib.Omega.{arith}
use lib.ListN.{length, get_or, take, drop, set, replicate, length-append}
use lib.Seq.{sets, sets-eq, length-take-le, take-length, drop-length}
use Rattle.fields.specs.Fields.{bytes}
use Rattle.fields.proofs.Parts.{past, past_suc}
use Rattle.fields.proofs.Numbers.{length_bytes, bytes_mod, bytes_split}
use Rattle.fields.proofs.WriteOn.{write_at}

-- vs stored from the k-th place behind `at` on, as code at a numeral width writes it out
abbrev pub stores : List ℕ → ℕ → ℕ → List ℕ → List ℕ
stores o at k [] = o
stores o at k (v ∷ vs) = stores (set o (past at k) v) at (suc k) vs

stores_sets : (o : List ℕ) (at k : ℕ) (vs : List ℕ) → stores o at k vs ≡ sets o (past at k) vs
stores_sets o at k [] = refl
stores_sets o at k (v ∷ vs) =
    stores_sets (set o (past at k) v) at (suc k) vs ∙ ap (λ (j : ℕ). sets (set o (past at k) v) j vs) (past_suc at k)

-- the n bytes of v, stored from `at` on
pub stores_bytes : (n : ℕ) (o : List ℕ) (at v : ℕ) → at + n ≤ length o
    → stores o at 0 (bytes n v) ≡ take at o ++ bytes n v ++ drop (at + n) o
stores_bytes n o at v h =
    stores_sets o at 0 (bytes n v) ∙ sets-eq (bytes n v) o at (omega (arith, length_bytes n v))
    ∙ ap (λ (k : ℕ). take at o ++ bytes n v ++ drop (at + k) o) (length_bytes n v)

-- the m low bytes of v stored at `at`, and then the n high ones behind them
pub halves_bytes : (o : List ℕ) (at m n v : ℕ) → at + m ≤ length o → (p : List ℕ) → p ≡ take at o ++ bytes m (v % 256 ^ m) ++ drop (at + m) o
    → take (at + m) p ++ bytes n (v / 256 ^ m) ++ drop (at + m + n) p ≡ take at o ++ bytes (m + n) v ++ drop (at + m + n) o
halves_bytes o at m n v h p e =
    let low = bytes m (v % 256 ^ m) in
    let high = bytes n (v / 256 ^ m) in
    let front = take at o ++ low in
    let l : length front ≡ at + m = length-append (take at o) low ∙ ap₂ ◌+◌ (length-take-le at o (omega arith)) (length_bytes m (v % 256 ^ m)) in
    let s : p ≡ front ++ drop (length front) o = e ∙ ap (λ (k : ℕ). front ++ drop k o) (sym l) in
    let k : length (front ++ high) ≡ at + m + n = length-append front high ∙ ap₂ ◌+◌ l (length_bytes n (v / 256 ^ m)) in
    let w : low ++ high ≡ bytes (m + n) v = ap (λ (x : List ℕ). x ++ high) (bytes_mod m v) ∙ sym (bytes_split m n v) in
    write_at o front high p (at + m) n s (sym l) (length_bytes n (v / 256 ^ m))
    ∙ ap₂ (λ (x : List ℕ) (j : ℕ). x ++ drop j o) (append_assoc (take at o) low high ∙ ap (λ (x : List ℕ). take at o ++ x) w) k

-- a copy to the front: a store takes the copy of i elements to the copy of i + 1, and the copy of all is the source
copy_suc : (i : ℕ) (src o : List ℕ) → i < length src → i < length o → set (take i src ++ drop i o) i (get_or src i 0) ≡ take (suc i) src ++ drop (suc i) o
copy_suc i [] o h g = absurd (not-suc-le-zero h)
copy_suc i (x ∷ src) [] h g = absurd (not-suc-le-zero g)
copy_suc zero (x ∷ src) (y ∷ o) h g = refl
copy_suc (suc i) (x ∷ src) (y ∷ o) h g =
    ap (λ (l : List ℕ). x ∷ l) (copy_suc i src o (le_of_suc-le-suc h) (le_of_suc-le-suc g))

pub copy_more : (i : ℕ) (src o : List ℕ) → i < length src → i < length o → set (take i src ++ drop i o) i (get_or src i 0) ≡ take (i + 1) src ++ drop (i + 1) o
copy_more i src o h g = copy_suc i src o h g ∙ ap (λ (k : ℕ). take k src ++ drop k o) (sym (add-one i))

pub copy_all : (i : ℕ) (src o : List ℕ) → i ≡ length src → take i src ++ drop i o ≡ src ++ drop (length src) o
copy_all i src o e =
    ap (λ (k : ℕ). take k src ++ drop k o) e ∙ ap (λ (l : List ℕ). l ++ drop (length src) o) (take-length src)

-- zeros to the end
pub fill_all : (i : ℕ) (o : List ℕ) → i ≡ length o → replicate i 0 ++ drop i o ≡ replicate (length o) 0
fill_all i o e =
    ap (λ (k : ℕ). replicate k 0 ++ drop k o) e
    ∙ ap (λ (l : List ℕ). replicate (length o) 0 ++ l) (drop-length o) ∙ append-nil (replicate (length o) 0)
