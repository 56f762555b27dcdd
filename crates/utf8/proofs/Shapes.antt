-- A character by numbers: how many octets there are, and the first four of them, as the code tests them.
-- `shape_of_lem` and `shape_length` tie it to `char_length`; `no_two`, `no_three`, `no_four` and `no_lead` are the code's refusals.
use mathlib.Core.Path.{◌≡◌, refl, sym, ap, ◌∙◌}
use mathlib.Core.Logic.{◌⊎◌, inl, inr, ⊎_elim}
use mathlib.Core.Bool.{Bool, true, false, cond}
use mathlib.Core.List.{List, [], ◌∷◌, ◌++◌}
use Prim.Native.Nat.{ℕ, zero, suc, ◌+◌, ◌-◌, ◌/◌, ◌≤◌, ◌<◌}
use native.Mathlib.Nat.{add-zero, eq-or-lt_of_le}
use native.Mathlib.Omega.{arith}
use borrow.Author.Tests.{eq-eqb, ne_eqb, eqb-true, eqb-false, ltb-true, ltb-false}
use lib.Dec.{eqb, ltb}
use lib.ListN.{length, drop, get_or, length-drop}
use lib.Seq.{get_or-drop}
use Rattle.utf8.specs.Utf8.{Range, Tail, Utf8-3, Utf8-4, Char, char_length}
use Rattle.utf8.specs.Utf8.Utf8-1.{from_00}
use Rattle.utf8.specs.Utf8.Utf8-2.{from_C2}
use Rattle.utf8.specs.Utf8.Utf8-3.{from_E0, from_E1, from_ED, from_EE}
use Rattle.utf8.specs.Utf8.Utf8-4.{from_F0, from_F1, from_F4}
use Rattle.utf8.specs.Utf8.Char.{utf8_1, utf8_2, utf8_3, utf8_4}
use Rattle.utf8.specs.Steps.{low3_of, high3_of, low4_of, high4_of}
use Rattle.utf8.proofs.Chars.{char_length_lem, char_found}

-- n octets there are, a b c d are the first four, and the character has as many as the last index says
pub data Shape (n a b c d : ℕ) : ℕ → Type 0 where
  one : a ≤ 0x7F → Shape n a b c d 1
  two : 2 ≤ n → Range 0xC2 0xDF a → b / 64 ≡ 2 → Shape n a b c d 2
  three : 3 ≤ n → Range 0xE0 0xEF a → Range (low3_of a) (high3_of a) b → c / 64 ≡ 2 → Shape n a b c d 3
  four : 4 ≤ n → Range 0xF0 0xF4 a → Range (low4_of a) (high4_of a) b → c / 64 ≡ 2 → d / 64 ≡ 2 → Shape n a b c d 4

-- ---- the bounds of the second octet

bound_is : (a key x y : ℕ) → a ≡ key → cond (eqb a key) x y ≡ x
bound_is a key x y e = simp (eq-eqb a key e)

bound_not : (a key x y : ℕ) → (a ≡ key → ⊥) → cond (eqb a key) x y ≡ y
bound_not a key x y e = simp (ne_eqb a key e)

tail_in : {b : ℕ} → Tail b → b / 64 ≡ 2
tail_in r = omega arith

tail_of : {b : ℕ} → b / 64 ≡ 2 → Tail b
tail_of e = omega arith

of_3 : {a b c : ℕ} → Utf8-3 (a ∷ b ∷ c ∷ []) → (n d : ℕ) → 3 ≤ n → Shape n a b c d 3
of_3 (from_E0 {a} {b} {c} p q r) n d h =
    let l : low3_of a ≡ 0xA0 = bound_is a 0xE0 0xA0 0x80 (omega arith) in
    let u : high3_of a ≡ 0xBF = bound_not a 0xED 0x9F 0xBF (λ e. omega arith) in
    three h (omega arith) (omega arith) (tail_in r)
of_3 (from_E1 {a} {b} {c} p q r) n d h =
    let l : low3_of a ≡ 0x80 = bound_not a 0xE0 0xA0 0x80 (λ e. omega arith) in
    let u : high3_of a ≡ 0xBF = bound_not a 0xED 0x9F 0xBF (λ e. omega arith) in
    three h (omega arith) (omega arith) (tail_in r)
of_3 (from_ED {a} {b} {c} p q r) n d h =
    let l : low3_of a ≡ 0x80 = bound_not a 0xE0 0xA0 0x80 (λ e. omega arith) in
    let u : high3_of a ≡ 0x9F = bound_is a 0xED 0x9F 0xBF (omega arith) in
    three h (omega arith) (omega arith) (tail_in r)
of_3 (from_EE {a} {b} {c} p q r) n d h =
    let l : low3_of a ≡ 0x80 = bound_not a 0xE0 0xA0 0x80 (λ e. omega arith) in
    let u : high3_of a ≡ 0xBF = bound_not a 0xED 0x9F 0xBF (λ e. omega arith) in
    three h (omega arith) (omega arith) (tail_in r)

of_4 : {a b c d : ℕ} → Utf8-4 (a ∷ b ∷ c ∷ d ∷ []) → (n : ℕ) → 4 ≤ n → Shape n a b c d 4
of_4 (from_F0 {a} {b} {c} {d} p q r t) n h =
    let l : low4_of a ≡ 0x90 = bound_is a 0xF0 0x90 0x80 (omega arith) in
    let u : high4_of a ≡ 0xBF = bound_not a 0xF4 0x8F 0xBF (λ e. omega arith) in
    four h (omega arith) (omega arith) (tail_in r) (tail_in t)
of_4 (from_F1 {a} {b} {c} {d} p q r t) n h =
    let l : low4_of a ≡ 0x80 = bound_not a 0xF0 0x90 0x80 (λ e. omega arith) in
    let u : high4_of a ≡ 0xBF = bound_not a 0xF4 0x8F 0xBF (λ e. omega arith) in
    four h (omega arith) (omega arith) (tail_in r) (tail_in t)
of_4 (from_F4 {a} {b} {c} {d} p q r t) n h =
    let l : low4_of a ≡ 0x80 = bound_not a 0xF0 0x90 0x80 (λ e. omega arith) in
    let u : high4_of a ≡ 0x8F = bound_is a 0xF4 0x8F 0xBF (omega arith) in
    four h (omega arith) (omega arith) (tail_in r) (tail_in t)

-- where a number of low..high stands to a number in between
data Place (low key high a : ℕ) : Type 0 where
  below : Range low (key - 1) a → Place low key high a
  there : a ≡ key → Place low key high a
  above : Range (key + 1) high a → Place low key high a

place : (low key high a : ℕ) → Range low high a → Place low key high a
place low key high a p = go (ltb a key) (eqb a key) refl refl
  where
    go : (t u : Bool) → ltb a key ≡ t → eqb a key ≡ u → Place low key high a
    go true u e f = below (record { at_least = p.at_least; at_most = omega (arith, ltb-true a key e) })
    go false true e f = there (eqb-true a key f)
    go false false e f =
        let h : key ≤ a = ltb-false a key e in
        above (record { at_least = ⊎_elim (λ (x : key ≡ a). absurd (eqb-false a key f (sym x))) (λ (x : key < a). omega arith) (eq-or-lt_of_le h); at_most = p.at_most })

to_3 : (a b c : ℕ) → Range 0xE0 0xEF a → Range (low3_of a) (high3_of a) b → Tail c → Utf8-3 (a ∷ b ∷ c ∷ [])
to_3 a b c p q r = go (place 0xE0 0xE0 0xEF a p) (place 0xE0 0xED 0xEF a p)
  where
    go : Place 0xE0 0xE0 0xEF a → Place 0xE0 0xED 0xEF a → Utf8-3 (a ∷ b ∷ c ∷ [])
    go (below x) y = absurd (omega arith)
    go (there e) y =
        let l : low3_of a ≡ 0xA0 = bound_is a 0xE0 0xA0 0x80 e in
        let u : high3_of a ≡ 0xBF = bound_not a 0xED 0x9F 0xBF (λ x. omega arith) in
        from_E0 {a = a} {b = b} (omega arith) (omega arith) r
    go (above x) (below y) =
        let l : low3_of a ≡ 0x80 = bound_not a 0xE0 0xA0 0x80 (λ e. omega arith) in
        let u : high3_of a ≡ 0xBF = bound_not a 0xED 0x9F 0xBF (λ e. omega arith) in
        from_E1 {a = a} {b = b} (omega arith) (omega arith) r
    go (above x) (there e) =
        let l : low3_of a ≡ 0x80 = bound_not a 0xE0 0xA0 0x80 (λ e. omega arith) in
        let u : high3_of a ≡ 0x9F = bound_is a 0xED 0x9F 0xBF e in
        from_ED {a = a} {b = b} (omega arith) (omega arith) r
    go (above x) (above y) =
        let l : low3_of a ≡ 0x80 = bound_not a 0xE0 0xA0 0x80 (λ e. omega arith) in
        let u : high3_of a ≡ 0xBF = bound_not a 0xED 0x9F 0xBF (λ e. omega arith) in
        from_EE {a = a} {b = b} (omega arith) (omega arith) r

to_4 : (a b c d : ℕ) → Range 0xF0 0xF4 a → Range (low4_of a) (high4_of a) b → Tail c → Tail d → Utf8-4 (a ∷ b ∷ c ∷ d ∷ [])
to_4 a b c d p q r t = go (place 0xF0 0xF0 0xF4 a p) (place 0xF0 0xF4 0xF4 a p)
  where
    go : Place 0xF0 0xF0 0xF4 a → Place 0xF0 0xF4 0xF4 a → Utf8-4 (a ∷ b ∷ c ∷ d ∷ [])
    go (below x) y = absurd (omega arith)
    go (there e) y =
        let l : low4_of a ≡ 0x90 = bound_is a 0xF0 0x90 0x80 e in
        let u : high4_of a ≡ 0xBF = bound_not a 0xF4 0x8F 0xBF (λ x. omega arith) in
        from_F0 {a = a} {b = b} (omega arith) (omega arith) r t
    go (above x) (below y) =
        let l : low4_of a ≡ 0x80 = bound_not a 0xF0 0x90 0x80 (λ e. omega arith) in
        let u : high4_of a ≡ 0xBF = bound_not a 0xF4 0x8F 0xBF (λ e. omega arith) in
        from_F1 {a = a} {b = b} (omega arith) (omega arith) r t
    go (above x) (there e) =
        let l : low4_of a ≡ 0x80 = bound_not a 0xF0 0x90 0x80 (λ e. omega arith) in
        let u : high4_of a ≡ 0x8F = bound_is a 0xF4 0x8F 0xBF e in
        from_F4 {a = a} {b = b} (omega arith) (omega arith) r t
    go (above x) (above y) = absurd (omega arith)

-- ---- shapes and characters

-- the shape of what stands at the front of a list
abbrev pub ShapeOf : List ℕ → ℕ → Type 0
ShapeOf l k = Shape (length l) (get_or l 0 0) (get_or l 1 0) (get_or l 2 0) (get_or l 3 0) k

char_shape : {c : List ℕ} → Char c → (s : List ℕ) → ShapeOf (c ++ s) (length c)
char_shape (utf8_1 (from_00 p)) s = one p.at_most
char_shape (utf8_2 (from_C2 p q)) s = two (omega arith) p (tail_in q)
char_shape (utf8_3 (from_E0 {a} {b} {c} p q r)) s = of_3 (from_E0 p q r) (length (a ∷ b ∷ c ∷ s)) (get_or s 0 0) (omega arith)
char_shape (utf8_3 (from_E1 {a} {b} {c} p q r)) s = of_3 (from_E1 p q r) (length (a ∷ b ∷ c ∷ s)) (get_or s 0 0) (omega arith)
char_shape (utf8_3 (from_ED {a} {b} {c} p q r)) s = of_3 (from_ED p q r) (length (a ∷ b ∷ c ∷ s)) (get_or s 0 0) (omega arith)
char_shape (utf8_3 (from_EE {a} {b} {c} p q r)) s = of_3 (from_EE p q r) (length (a ∷ b ∷ c ∷ s)) (get_or s 0 0) (omega arith)
char_shape (utf8_4 (from_F0 {a} {b} {c} {d} p q r t)) s = of_4 (from_F0 p q r t) (length (a ∷ b ∷ c ∷ d ∷ s)) (omega arith)
char_shape (utf8_4 (from_F1 {a} {b} {c} {d} p q r t)) s = of_4 (from_F1 p q r t) (length (a ∷ b ∷ c ∷ d ∷ s)) (omega arith)
char_shape (utf8_4 (from_F4 {a} {b} {c} {d} p q r t)) s = of_4 (from_F4 p q r t) (length (a ∷ b ∷ c ∷ d ∷ s)) (omega arith)

pub shape_of_lem : (l : List ℕ) (n : ℕ) → char_length l ≡ suc n → ShapeOf l (suc n)
shape_of_lem l n e =
    let f = char_found l n e in
    rw (f.whole, ← f.size) (char_shape f.char f.rest)

-- a list of as many octets as its shape has, taken apart
pub shape_length : {k : ℕ} (l : List ℕ) → 0 < length l → ShapeOf l k → char_length l ≡ k
shape_length [] h x = absurd (omega arith)
shape_length (a ∷ s) h (one p) =
    let r : Range 0x00 0x7F a = record { at_least = omega arith; at_most = p } in
    char_length_lem (utf8_1 (from_00 r)) s
shape_length (a ∷ []) h (two n p q) = absurd (omega arith)
shape_length (a ∷ b ∷ s) h (two n p q) = char_length_lem (utf8_2 (from_C2 p (tail_of q))) s
shape_length (a ∷ []) h (three n p q r) = absurd (omega arith)
shape_length (a ∷ b ∷ []) h (three n p q r) = absurd (omega arith)
shape_length (a ∷ b ∷ c ∷ s) h (three n p q r) = char_length_lem (utf8_3 (to_3 a b c p q (tail_of r))) s
shape_length (a ∷ []) h (four n p q r t) = absurd (omega arith)
shape_length (a ∷ b ∷ []) h (four n p q r t) = absurd (omega arith)
shape_length (a ∷ b ∷ c ∷ []) h (four n p q r t) = absurd (omega arith)
shape_length (a ∷ b ∷ c ∷ d ∷ s) h (four n p q r t) = char_length_lem (utf8_4 (to_4 a b c d p q (tail_of r) (tail_of t))) s

-- ---- at a place of a list

abbrev pub ShapeAt : List ℕ → ℕ → ℕ → Type 0
ShapeAt s at k = Shape (length s - at) (get_or s at 0) (get_or s (at + 1) 0) (get_or s (at + 2) 0) (get_or s (at + 3) 0) k

at_first : (s : List ℕ) (at : ℕ) → get_or (drop at s) 0 0 ≡ get_or s at 0
at_first s at = get_or-drop at s 0 0 ∙ ap (λ (i : ℕ). get_or s i 0) (add-zero at)

pub shape_at : {k : ℕ} (s : List ℕ) (at : ℕ) → at < length s → ShapeAt s at k → char_length (drop at s) ≡ k
shape_at {k} s at h x =
    let p : 0 < length (drop at s) = omega (arith, length-drop at s) in
    shape_length (drop at s) p (rw (length-drop at s, at_first s at, get_or-drop at s 1 0, get_or-drop at s 2 0, get_or-drop at s 3 0) x)

pub none_at : (s : List ℕ) (at : ℕ) → ((k : ℕ) → ShapeAt s at k → ⊥) → char_length (drop at s) ≡ 0
none_at s at bad = go (char_length (drop at s)) refl
  where
    go : (n : ℕ) → char_length (drop at s) ≡ n → char_length (drop at s) ≡ 0
    go zero e = e
    go (suc n) e =
        absurd (bad (suc n) (rw (length-drop at s, at_first s at, get_or-drop at s 1 0, get_or-drop at s 2 0, get_or-drop at s 3 0) at (shape_of_lem (drop at s) n e)))

-- ---- no character, by the class of the first octet

module _ (n a b c d : ℕ) where
  pub no_two : Range 0xC0 0xDF a → (2 ≤ n → 0xC2 ≤ a → b / 64 ≡ 2 → ⊥) → (k : ℕ) → Shape n a b c d k → ⊥
  no_two r bad k (one p) = omega arith
  no_two r bad k (two h p q) = bad h p.at_least q
  no_two r bad k (three h p q s) = omega arith
  no_two r bad k (four h p q s t) = omega arith

  pub no_three : Range 0xE0 0xEF a → (3 ≤ n → low3_of a ≤ b → b ≤ high3_of a → c / 64 ≡ 2 → ⊥) → (k : ℕ) → Shape n a b c d k → ⊥
  no_three r bad k (one p) = omega arith
  no_three r bad k (two h p q) = omega arith
  no_three r bad k (three h p q s) = bad h q.at_least q.at_most s
  no_three r bad k (four h p q s t) = omega arith

  pub no_four : Range 0xF0 0xF7 a → (4 ≤ n → a ≤ 0xF4 → low4_of a ≤ b → b ≤ high4_of a → c / 64 ≡ 2 → d / 64 ≡ 2 → ⊥) → (k : ℕ) → Shape n a b c d k → ⊥
  no_four r bad k (one p) = omega arith
  no_four r bad k (two h p q) = omega arith
  no_four r bad k (three h p q s) = omega arith
  no_four r bad k (four h p q s t) = bad h p.at_most q.at_least q.at_most s t

  pub no_lead : (Range 0x80 0xBF a) ⊎ (0xF8 ≤ a) → (k : ℕ) → Shape n a b c d k → ⊥
  no_lead (inl r) k (one p) = omega arith
  no_lead (inl r) k (two h p q) = omega arith
  no_lead (inl r) k (three h p q s) = omega arith
  no_lead (inl r) k (four h p q s t) = omega arith
  no_lead (inr r) k (one p) = omega arith
  no_lead (inr r) k (two h p q) = omega arith
  no_lead (inr r) k (three h p q s) = omega arith
  no_lead (inr r) k (four h p q s t) = omega arith

-- ---- the same at a place, as the code answers it

module _ (s : List ℕ) (at : ℕ) where
  pub two_not : Range 0xC0 0xDF (get_or s at 0) → (2 ≤ length s - at → 0xC2 ≤ get_or s at 0 → get_or s (at + 1) 0 / 64 ≡ 2 → ⊥) → 0 ≡ char_length (drop at s)
  two_not r bad =
      sym (none_at s at (no_two (length s - at) (get_or s at 0) (get_or s (at + 1) 0) (get_or s (at + 2) 0) (get_or s (at + 3) 0) r bad))

  pub three_not : Range 0xE0 0xEF (get_or s at 0)
      → (3 ≤ length s - at → low3_of (get_or s at 0) ≤ get_or s (at + 1) 0 → get_or s (at + 1) 0 ≤ high3_of (get_or s at 0) → get_or s (at + 2) 0 / 64 ≡ 2 → ⊥)
      → 0 ≡ char_length (drop at s)
  three_not r bad =
      sym (none_at s at (no_three (length s - at) (get_or s at 0) (get_or s (at + 1) 0) (get_or s (at + 2) 0) (get_or s (at + 3) 0) r bad))

  pub four_not : Range 0xF0 0xF7 (get_or s at 0)
      → (4 ≤ length s - at → get_or s at 0 ≤ 0xF4 → low4_of (get_or s at 0) ≤ get_or s (at + 1) 0 → get_or s (at + 1) 0 ≤ high4_of (get_or s at 0)
      → get_or s (at + 2) 0 / 64 ≡ 2 → get_or s (at + 3) 0 / 64 ≡ 2 → ⊥)
      → 0 ≡ char_length (drop at s)
  four_not r bad =
      sym (none_at s at (no_four (length s - at) (get_or s at 0) (get_or s (at + 1) 0) (get_or s (at + 2) 0) (get_or s (at + 3) 0) r bad))

  pub lead_not : (Range 0x80 0xBF (get_or s at 0)) ⊎ (0xF8 ≤ get_or s at 0) → 0 ≡ char_length (drop at s)
  lead_not r =
      sym (none_at s at (no_lead (length s - at) (get_or s at 0) (get_or s (at + 1) 0) (get_or s (at + 2) 0) (get_or s (at + 3) 0) r))
