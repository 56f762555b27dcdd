-- What callers may use of `valid_front` and `is_utf8`: they agree with the grammar (`utf8_octets`, `octets_utf8`), the valid front is the longest
-- (`front_octets`, `front_longest`), and both go on over `++`. For lists of any numbers.
use mathlib.Core.Path.{◌≡◌, refl, sym, ap, ap₂, ◌∙◌, subst}
use mathlib.Core.Bool.{Bool, true, false}
use mathlib.Core.List.{List, [], ◌∷◌, ◌++◌, append-nil, append_assoc}
use Prim.Native.Nat.{ℕ, zero, suc, ◌+◌, ◌≤◌, ◌<◌, zero-le}
use native.Mathlib.Nat.{le_refl}
use native.Mathlib.Omega.{arith}
use borrow.Author.Tests.{eq-eqb, ne_eqb, eqb-true, eqb-false}
use lib.Dec.{eqb}
use lib.ListN.{length, take, drop, get_or, length-append, length-drop, take-append-drop}
use lib.Seq.{drop-append_seam, take-length, length-take-le, take-add, take_at, drop_at}
use Rattle.utf8.specs.Utf8.{Range, Octets, char_length, onward, front_in, valid_front, is_utf8}
use Rattle.utf8.specs.Utf8.Utf8-1.{from_00}
use Rattle.utf8.specs.Utf8.Char.{utf8_1}
use Rattle.utf8.specs.Utf8.Octets.{none, more}
use Rattle.utf8.proofs.Chars.{char_length_lem, char_found, char_pos}

-- a character has its octets, one at least
pub char_inside : (s : List ℕ) (n : ℕ) → char_length s ≡ n → n ≤ length s
char_inside s zero e = zero-le
char_inside s (suc n) e =
    let f = char_found s n e in
    omega (arith, ap length f.whole, length-append f.head f.rest, f.size)

char_of_nil : char_length [] ≡ 0
unfolding char_length
char_of_nil = refl

-- ---- turns beyond the length change nothing

enough : (m n : ℕ) (s : List ℕ) → length s ≤ m → length s ≤ n → front_in m s ≡ front_in n s
unfolding front_in
enough zero zero s h k = refl
enough zero (suc n) [] h k = ap (λ (x : ℕ). onward x (λ j. front_in n (drop j []))) (sym char_of_nil)
enough zero (suc n) (a ∷ s) h k = absurd (omega arith)
enough (suc m) zero [] h k = ap (λ (x : ℕ). onward x (λ j. front_in m (drop j []))) char_of_nil
enough (suc m) zero (a ∷ s) h k = absurd (omega arith)
enough (suc m) (suc n) s h k = go (char_length s) (λ j a b. enough m n (drop j s) a b)
  where
    go : (c : ℕ) → ((j : ℕ) → length (drop j s) ≤ m → length (drop j s) ≤ n → front_in m (drop j s) ≡ front_in n (drop j s))
        → onward c (λ j. front_in m (drop j s)) ≡ onward c (λ j. front_in n (drop j s))
    go zero f = refl
    go (suc c) f = ap (λ (x : ℕ). suc c + x) (f (suc c) (omega (arith, length-drop (suc c) s)) (omega (arith, length-drop (suc c) s)))

-- ---- one character

pub front_none : (s : List ℕ) → char_length s ≡ 0 → valid_front s ≡ 0
unfolding valid_front front_in
front_none [] e = refl
front_none (a ∷ s) e = ap (λ (x : ℕ). onward x (λ j. front_in (length s) (drop j (a ∷ s)))) e

pub front_char : (s : List ℕ) (n : ℕ) → 0 < n → char_length s ≡ n → valid_front s ≡ n + valid_front (drop n s)
unfolding valid_front front_in
front_char s zero h e = absurd (omega arith)
front_char [] (suc n) h e = absurd (omega (arith, char_of_nil))
front_char (a ∷ s) (suc n) h e =
    ap (λ (x : ℕ). onward x (λ j. front_in (length s) (drop j (a ∷ s)))) e
    ∙ ap (λ (x : ℕ). suc n + x)
    (enough (length s) (length (drop (suc n) (a ∷ s))) (drop (suc n) (a ∷ s)) (omega (arith, length-drop (suc n) (a ∷ s))) (le_refl (length (drop (suc n) (a ∷ s)))))

-- ---- whole characters at the front

pub front_append : {a : List ℕ} → Octets a → (b : List ℕ) → valid_front (a ++ b) ≡ length a + valid_front b
front_append none b = omega arith
front_append (more {c} {s} h o) b =
    let t : List ℕ = c ++ (s ++ b) in
    let e : valid_front t ≡ length c + valid_front (drop (length c) t) = front_char t (length c) (char_pos h) (char_length_lem h (s ++ b)) in
    let d : valid_front (drop (length c) t) ≡ valid_front (s ++ b) = ap valid_front (drop-append_seam c (s ++ b)) in
    let f : valid_front ((c ++ s) ++ b) ≡ valid_front t = ap valid_front (append_assoc c s b) in
    omega (arith, front_append o b, length-append c s)

octets_in : (turns : ℕ) (s : List ℕ) → Octets (take (front_in turns s) s)
unfolding front_in
octets_in zero s = none
octets_in (suc turns) s = go (char_length s) refl (λ j. octets_in turns (drop j s))
  where
    go : (n : ℕ) → char_length s ≡ n → ((j : ℕ) → Octets (take (front_in turns (drop j s)) (drop j s)))
        → Octets (take (onward n (λ j. front_in turns (drop j s))) s)
    go zero e rest = none
    go (suc n) e rest =
        let f = char_found s n e in
        let k = front_in turns (drop (suc n) s) in
        let d : drop (suc n) s ≡ f.rest = ap (drop (suc n)) f.whole ∙ drop_at f.head f.rest (suc n) f.size in
        let w : take (suc n + k) s ≡ f.head ++ take k (drop (suc n) s) = take-add (suc n) k s ∙ ap (λ (l : List ℕ). l ++ take k (drop (suc n) s)) (ap (take (suc n)) f.whole ∙ take_at f.head f.rest (suc n) f.size) in
        subst Octets (sym w) (more f.char (rest (suc n)))

-- The valid front is whole characters,
pub front_octets : (s : List ℕ) → Octets (take (valid_front s) s)
unfolding valid_front
front_octets s = octets_in (length s) s

front_in_le : (turns : ℕ) (s : List ℕ) → front_in turns s ≤ length s
unfolding front_in
front_in_le zero s = zero-le
front_in_le (suc turns) s = go (char_length s) refl (λ j. front_in_le turns (drop j s))
  where
    go : (n : ℕ) → char_length s ≡ n → ((j : ℕ) → front_in turns (drop j s) ≤ length (drop j s)) → onward n (λ j. front_in turns (drop j s)) ≤ length s
    go zero e rest = zero-le
    go (suc n) e rest = omega (arith, rest (suc n), length-drop (suc n) s, char_inside s (suc n) e)

pub front_le : (s : List ℕ) → valid_front s ≤ length s
unfolding valid_front
front_le s = front_in_le (length s) s

-- and no longer front is.
pub front_longest : (s : List ℕ) (n : ℕ) → n ≤ length s → Octets (take n s) → n ≤ valid_front s
front_longest s n h o =
    omega (arith, front_append o (drop n s), ap valid_front (take-append-drop n s), length-take-le n s h)

-- ---- the whole list

pub utf8_front : (s : List ℕ) → is_utf8 s ≡ true → valid_front s ≡ length s
unfolding is_utf8
utf8_front s e = eqb-true (valid_front s) (length s) e

pub front_utf8 : (s : List ℕ) → valid_front s ≡ length s → is_utf8 s ≡ true
unfolding is_utf8
front_utf8 s e = eq-eqb (valid_front s) (length s) e

-- The tests find UTF-8 exactly where the grammar has it.
pub utf8_octets : (s : List ℕ) → is_utf8 s ≡ true → Octets s
utf8_octets s e = subst Octets (ap (λ (n : ℕ). take n s) (utf8_front s e) ∙ take-length s) (front_octets s)

pub octets_utf8 : {s : List ℕ} → Octets s → is_utf8 s ≡ true
octets_utf8 {s} o =
    front_utf8 s
    (omega (arith, front_append o [], ap valid_front (append-nil s), front_none [] char_of_nil))

-- ---- for callers

pub utf8_nil : is_utf8 [] ≡ true
utf8_nil = octets_utf8 none

eqb_add : (n x y : ℕ) → eqb (n + x) (n + y) ≡ eqb x y
eqb_add n x y = go (eqb x y) refl
  where
    go : (t : Bool) → eqb x y ≡ t → eqb (n + x) (n + y) ≡ t
    go true e = eq-eqb (n + x) (n + y) (omega (arith, eqb-true x y e))
    go false e = ne_eqb (n + x) (n + y) (λ h. eqb-false x y e (omega arith))

-- after UTF-8, a list is UTF-8 exactly where the rest is
pub utf8_append : (a b : List ℕ) → is_utf8 a ≡ true → is_utf8 (a ++ b) ≡ is_utf8 b
unfolding is_utf8
utf8_append a b e =
    let o = utf8_octets a e in
    let f : valid_front (a ++ b) ≡ length a + valid_front b = front_append o b in
    ap₂ eqb f (length-append a b) ∙ eqb_add (length a) (valid_front b) (length b)

-- a list of ASCII
abbrev pub Ascii : List ℕ → Type 0
Ascii s = (i : ℕ) → i < length s → get_or s i 0 < 128

pub ascii_octets : (s : List ℕ) → Ascii s → Octets s
ascii_octets [] h = none
ascii_octets (a ∷ s) h =
    let p : 0 < length (a ∷ s) = omega arith in
    let r : Range 0x00 0x7F a = record { at_least = zero-le; at_most = omega (arith, h 0 p) } in
    more (utf8_1 (from_00 r)) (ascii_octets s (λ i k. h (suc i) (omega arith)))

pub ascii_utf8 : (s : List ℕ) → Ascii s → is_utf8 s ≡ true
ascii_utf8 s h = octets_utf8 (ascii_octets s h)
