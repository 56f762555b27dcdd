-- One character: the tests find what the grammar says. `char_length_lem`: a character at the front is found with its length, whatever follows it.
-- `char_found`: where a length is found, a character of that length stands at the front. Both for lists of any numbers.
use mathlib.Core.Path.{◌≡◌, refl}
use mathlib.Core.Logic.{◌⊎◌, inl, inr, ⊎_elim}
use mathlib.Core.Bool.{Bool, true, false, ◌&&◌, ◌||◌, false≢true}
use mathlib.Core.List.{List, [], ◌∷◌, ◌++◌}
use Prim.Native.Nat.{ℕ, suc, ◌<◌}
use native.Mathlib.Omega.{arith}
use borrow.Author.Tests.{le-leb, lt-leb, leb-true}
use lib.Dec.{leb}
use lib.ListN.{length}
use Rattle.utf8.specs.Utf8.{Range, Tail, Utf8-3, Utf8-4, Char, octet, tails, starts1, starts2, starts3, starts4, first_of, char_length}
use Rattle.utf8.specs.Utf8.Utf8-1.{from_00}
use Rattle.utf8.specs.Utf8.Utf8-2.{from_C2}
use Rattle.utf8.specs.Utf8.Utf8-3.{from_E0, from_E1, from_ED, from_EE}
use Rattle.utf8.specs.Utf8.Utf8-4.{from_F0, from_F1, from_F4}
use Rattle.utf8.specs.Utf8.Char.{utf8_1, utf8_2, utf8_3, utf8_4}

-- ---- tests of one octet

octet_in : (low high : ℕ) (next : List ℕ → Bool) (b : ℕ) (s : List ℕ) → Range low high b → next s ≡ true → octet low high next (b ∷ s) ≡ true
octet_in low high next b s r e = simp (le-leb low b r.at_least, le-leb b high r.at_most, e)

octet_above : (low high : ℕ) (next : List ℕ → Bool) (b : ℕ) (s : List ℕ) → high < b → octet low high next (b ∷ s) ≡ false
octet_above low high next b s h = both (leb low b) (leb b high) (next s) (lt-leb b high h)
  where
    both : (x y z : Bool) → y ≡ false → (x && (y && z)) ≡ false
    both true y z e = simp e
    both false y z e = refl

and_left : (x y : Bool) → (x && y) ≡ true → x ≡ true
and_left true y e = refl
and_left false y e = e

and_right : (x y : Bool) → (x && y) ≡ true → y ≡ true
and_right true y e = e
and_right false y e = absurd (false≢true e)

or_cases : (x y : Bool) → (x || y) ≡ true → (x ≡ true) ⊎ (y ≡ true)
or_cases true y e = inl refl
or_cases false y e = inr e

or_left : (x y : Bool) → x ≡ true → (x || y) ≡ true
or_left x y e = simp e

or_right : (x y : Bool) → y ≡ true → (x || y) ≡ true
or_right true y e = refl
or_right false y e = e

octet_range : (low high : ℕ) (next : List ℕ → Bool) (b : ℕ) (s : List ℕ) → octet low high next (b ∷ s) ≡ true → Range low high b
octet_range low high next b s e =
    let f = and_right (leb low b) (leb b high && next s) e in
    record {
      at_least = leb-true low b (and_left (leb low b) (leb b high && next s) e);
      at_most = leb-true b high (and_left (leb b high) (next s) f);
    }

octet_next : (low high : ℕ) (next : List ℕ → Bool) (b : ℕ) (s : List ℕ) → octet low high next (b ∷ s) ≡ true → next s ≡ true
octet_next low high next b s e = and_right (leb b high) (next s) (and_right (leb low b) (leb b high && next s) e)

-- ---- the rules of three and of four octets, one by one

abbrev row_E0 : List ℕ → Bool
row_E0 l = octet 0xE0 0xE0 (octet 0xA0 0xBF (tails 1)) l

abbrev row_E1 : List ℕ → Bool
row_E1 l = octet 0xE1 0xEC (tails 2) l

abbrev row_ED : List ℕ → Bool
row_ED l = octet 0xED 0xED (octet 0x80 0x9F (tails 1)) l

abbrev row_EE : List ℕ → Bool
row_EE l = octet 0xEE 0xEF (tails 2) l

abbrev row_F0 : List ℕ → Bool
row_F0 l = octet 0xF0 0xF0 (octet 0x90 0xBF (tails 2)) l

abbrev row_F1 : List ℕ → Bool
row_F1 l = octet 0xF1 0xF3 (tails 3) l

abbrev row_F4 : List ℕ → Bool
row_F4 l = octet 0xF4 0xF4 (octet 0x80 0x8F (tails 2)) l

-- ---- from the grammar to the tests

chosen1 : (x y z w : Bool) → x ≡ true → first_of x y z w ≡ 1
chosen1 x y z w e = simp e

chosen2 : (x y z w : Bool) → x ≡ false → y ≡ true → first_of x y z w ≡ 2
chosen2 x y z w e f = simp (e, f)

chosen3 : (x y z w : Bool) → x ≡ false → y ≡ false → z ≡ true → first_of x y z w ≡ 3
chosen3 x y z w e f g = simp (e, f, g)

chosen4 : (x y z w : Bool) → x ≡ false → y ≡ false → z ≡ false → w ≡ true → first_of x y z w ≡ 4
chosen4 x y z w e f g h = simp (e, f, g, h)

or_none : (x y z w : Bool) → x ≡ false → y ≡ false → z ≡ false → w ≡ false → (x || (y || (z || w))) ≡ false
or_none x y z w e f g h = simp (e, f, g, h)

-- a first octet above 7F, above DF, above EF
not1 : (a : ℕ) (s : List ℕ) → 0x7F < a → starts1 (a ∷ s) ≡ false
not1 a s h = octet_above 0x00 0x7F (tails 0) a s h

not2 : (a : ℕ) (s : List ℕ) → 0xDF < a → starts2 (a ∷ s) ≡ false
not2 a s h = octet_above 0xC2 0xDF (tails 1) a s h

not3 : (a : ℕ) (s : List ℕ) → 0xEF < a → starts3 (a ∷ s) ≡ false
not3 a s h =
    or_none (row_E0 (a ∷ s)) (row_E1 (a ∷ s)) (row_ED (a ∷ s)) (row_EE (a ∷ s))
    (octet_above 0xE0 0xE0 (octet 0xA0 0xBF (tails 1)) a s (omega arith))
    (octet_above 0xE1 0xEC (tails 2) a s (omega arith))
    (octet_above 0xED 0xED (octet 0x80 0x9F (tails 1)) a s (omega arith))
    (octet_above 0xEE 0xEF (tails 2) a s h)

three_in : (low high low2 high2 a b c : ℕ) (s : List ℕ) → Range low high a → Range low2 high2 b → Tail c
    → octet low high (octet low2 high2 (tails 1)) (a ∷ b ∷ c ∷ s) ≡ true
three_in low high low2 high2 a b c s p q r =
    octet_in low high (octet low2 high2 (tails 1)) a (b ∷ c ∷ s) p
    (octet_in low2 high2 (tails 1) b (c ∷ s) q (octet_in 0x80 0xBF (tails 0) c s r refl))

four_in : (low high low2 high2 a b c d : ℕ) (s : List ℕ) → Range low high a → Range low2 high2 b → Tail c → Tail d
    → octet low high (octet low2 high2 (tails 2)) (a ∷ b ∷ c ∷ d ∷ s) ≡ true
four_in low high low2 high2 a b c d s p q r t =
    octet_in low high (octet low2 high2 (tails 2)) a (b ∷ c ∷ d ∷ s) p
    (octet_in low2 high2 (tails 2) b (c ∷ d ∷ s) q
    (octet_in 0x80 0xBF (tails 1) c (d ∷ s) r (octet_in 0x80 0xBF (tails 0) d s t refl)))

length_3 : (a : ℕ) (s : List ℕ) → 0xDF < a → starts3 (a ∷ s) ≡ true → char_length (a ∷ s) ≡ 3
unfolding char_length
length_3 a s h e =
    chosen3 (starts1 (a ∷ s)) (starts2 (a ∷ s)) (starts3 (a ∷ s)) (starts4 (a ∷ s)) (not1 a s (omega arith)) (not2 a s h) e

length_4 : (a : ℕ) (s : List ℕ) → 0xEF < a → starts4 (a ∷ s) ≡ true → char_length (a ∷ s) ≡ 4
unfolding char_length
length_4 a s h e =
    chosen4 (starts1 (a ∷ s)) (starts2 (a ∷ s)) (starts3 (a ∷ s)) (starts4 (a ∷ s)) (not1 a s (omega arith)) (not2 a s (omega arith)) (not3 a s h) e

-- A character at the front is found with its length, whatever follows it.
pub char_length_lem : {c : List ℕ} → Char c → (s : List ℕ) → char_length (c ++ s) ≡ length c
unfolding char_length
char_length_lem (utf8_1 (from_00 {a} p)) s =
    chosen1 (starts1 (a ∷ s)) (starts2 (a ∷ s)) (starts3 (a ∷ s)) (starts4 (a ∷ s)) (octet_in 0x00 0x7F (tails 0) a s p refl)
char_length_lem (utf8_2 (from_C2 {a} {b} p q)) s =
    let l : List ℕ = a ∷ b ∷ s in
    chosen2 (starts1 l) (starts2 l) (starts3 l) (starts4 l) (not1 a (b ∷ s) (omega arith))
    (octet_in 0xC2 0xDF (tails 1) a (b ∷ s) p (octet_in 0x80 0xBF (tails 0) b s q refl))
char_length_lem (utf8_3 (from_E0 {a} {b} {c} p q r)) s =
    length_3 a (b ∷ c ∷ s) (omega arith)
    (or_left (row_E0 (a ∷ b ∷ c ∷ s)) (row_E1 (a ∷ b ∷ c ∷ s) || (row_ED (a ∷ b ∷ c ∷ s) || row_EE (a ∷ b ∷ c ∷ s)))
    (three_in 0xE0 0xE0 0xA0 0xBF a b c s p q r))
char_length_lem (utf8_3 (from_E1 {a} {b} {c} p q r)) s =
    let l : List ℕ = a ∷ b ∷ c ∷ s in
    length_3 a (b ∷ c ∷ s) (omega arith)
    (or_right (row_E0 l) (row_E1 l || (row_ED l || row_EE l))
    (or_left (row_E1 l) (row_ED l || row_EE l) (three_in 0xE1 0xEC 0x80 0xBF a b c s p q r)))
char_length_lem (utf8_3 (from_ED {a} {b} {c} p q r)) s =
    let l : List ℕ = a ∷ b ∷ c ∷ s in
    length_3 a (b ∷ c ∷ s) (omega arith)
    (or_right (row_E0 l) (row_E1 l || (row_ED l || row_EE l))
    (or_right (row_E1 l) (row_ED l || row_EE l) (or_left (row_ED l) (row_EE l) (three_in 0xED 0xED 0x80 0x9F a b c s p q r))))
char_length_lem (utf8_3 (from_EE {a} {b} {c} p q r)) s =
    let l : List ℕ = a ∷ b ∷ c ∷ s in
    length_3 a (b ∷ c ∷ s) (omega arith)
    (or_right (row_E0 l) (row_E1 l || (row_ED l || row_EE l))
    (or_right (row_E1 l) (row_ED l || row_EE l) (or_right (row_ED l) (row_EE l) (three_in 0xEE 0xEF 0x80 0xBF a b c s p q r))))
char_length_lem (utf8_4 (from_F0 {a} {b} {c} {d} p q r t)) s =
    let l : List ℕ = a ∷ b ∷ c ∷ d ∷ s in
    length_4 a (b ∷ c ∷ d ∷ s) (omega arith) (or_left (row_F0 l) (row_F1 l || row_F4 l) (four_in 0xF0 0xF0 0x90 0xBF a b c d s p q r t))
char_length_lem (utf8_4 (from_F1 {a} {b} {c} {d} p q r t)) s =
    let l : List ℕ = a ∷ b ∷ c ∷ d ∷ s in
    length_4 a (b ∷ c ∷ d ∷ s) (omega arith)
    (or_right (row_F0 l) (row_F1 l || row_F4 l) (or_left (row_F1 l) (row_F4 l) (four_in 0xF1 0xF3 0x80 0xBF a b c d s p q r t)))
char_length_lem (utf8_4 (from_F4 {a} {b} {c} {d} p q r t)) s =
    let l : List ℕ = a ∷ b ∷ c ∷ d ∷ s in
    length_4 a (b ∷ c ∷ d ∷ s) (omega arith)
    (or_right (row_F0 l) (row_F1 l || row_F4 l) (or_right (row_F1 l) (row_F4 l) (four_in 0xF4 0xF4 0x80 0x8F a b c d s p q r t)))

-- ---- from the tests to the grammar

-- a character of n octets at the front of l
pub record Found (l : List ℕ) (n : ℕ) : Type 0 where
  pub head : List ℕ
  pub rest : List ℕ
  pub whole : l ≡ head ++ rest
  pub size : length head ≡ n
  pub char : Char head

record Three (low high low2 high2 : ℕ) (l : List ℕ) : Type 0 where
  a : ℕ
  b : ℕ
  c : ℕ
  s : List ℕ
  whole : l ≡ a ∷ b ∷ c ∷ s
  first : Range low high a
  second : Range low2 high2 b
  third : Tail c

three_found : (low high low2 high2 : ℕ) (l : List ℕ) → octet low high (octet low2 high2 (tails 1)) l ≡ true → Three low high low2 high2 l
three_found low high low2 high2 [] e = absurd (false≢true e)
three_found low high low2 high2 (a ∷ []) e = absurd (false≢true (octet_next low high (octet low2 high2 (tails 1)) a [] e))
three_found low high low2 high2 (a ∷ b ∷ []) e =
    absurd (false≢true (octet_next low2 high2 (tails 1) b [] (octet_next low high (octet low2 high2 (tails 1)) a (b ∷ []) e)))
three_found low high low2 high2 (a ∷ b ∷ c ∷ s) e =
    let f = octet_next low high (octet low2 high2 (tails 1)) a (b ∷ c ∷ s) e in
    let g = octet_next low2 high2 (tails 1) b (c ∷ s) f in
    record {
      a = a;
      b = b;
      c = c;
      s = s;
      whole = refl;
      first = octet_range low high (octet low2 high2 (tails 1)) a (b ∷ c ∷ s) e;
      second = octet_range low2 high2 (tails 1) b (c ∷ s) f;
      third = octet_range 0x80 0xBF (tails 0) c s g;
    }

record Four (low high low2 high2 : ℕ) (l : List ℕ) : Type 0 where
  a : ℕ
  b : ℕ
  c : ℕ
  d : ℕ
  s : List ℕ
  whole : l ≡ a ∷ b ∷ c ∷ d ∷ s
  first : Range low high a
  second : Range low2 high2 b
  third : Tail c
  fourth : Tail d

four_found : (low high low2 high2 : ℕ) (l : List ℕ) → octet low high (octet low2 high2 (tails 2)) l ≡ true → Four low high low2 high2 l
four_found low high low2 high2 [] e = absurd (false≢true e)
four_found low high low2 high2 (a ∷ []) e = absurd (false≢true (octet_next low high (octet low2 high2 (tails 2)) a [] e))
four_found low high low2 high2 (a ∷ b ∷ s) e =
    let f = octet_next low high (octet low2 high2 (tails 2)) a (b ∷ s) e in
    go s (octet_range low high (octet low2 high2 (tails 2)) a (b ∷ s) e) (octet_range low2 high2 (tails 2) b s f) (octet_next low2 high2 (tails 2) b s f)
  where
    go : (s : List ℕ) → Range low high a → Range low2 high2 b → tails 2 s ≡ true → Four low high low2 high2 (a ∷ b ∷ s)
    go [] p q e = absurd (false≢true e)
    go (c ∷ []) p q e = absurd (false≢true (octet_next 0x80 0xBF (tails 1) c [] e))
    go (c ∷ d ∷ s) p q e =
        let f = octet_next 0x80 0xBF (tails 1) c (d ∷ s) e in
        record {
          a = a;
          b = b;
          c = c;
          d = d;
          s = s;
          whole = refl;
          first = p;
          second = q;
          third = octet_range 0x80 0xBF (tails 1) c (d ∷ s) e;
          fourth = octet_range 0x80 0xBF (tails 0) d s f;
        }

found1 : (l : List ℕ) → starts1 l ≡ true → Found l 1
found1 [] e = absurd (false≢true e)
found1 (a ∷ s) e =
    record { head = a ∷ []; rest = s; whole = refl; size = refl; char = utf8_1 (from_00 (octet_range 0x00 0x7F (tails 0) a s e)) }

found2 : (l : List ℕ) → starts2 l ≡ true → Found l 2
found2 [] e = absurd (false≢true e)
found2 (a ∷ []) e = absurd (false≢true (octet_next 0xC2 0xDF (tails 1) a [] e))
found2 (a ∷ b ∷ s) e =
    let f = octet_next 0xC2 0xDF (tails 1) a (b ∷ s) e in
    record {
      head = a ∷ b ∷ [];
      rest = s;
      whole = refl;
      size = refl;
      char = utf8_2 (from_C2 (octet_range 0xC2 0xDF (tails 1) a (b ∷ s) e) (octet_range 0x80 0xBF (tails 0) b s f));
    }

of_three : {low high low2 high2 : ℕ} {l : List ℕ} (t : Three low high low2 high2 l) → Utf8-3 (t.a ∷ t.b ∷ t.c ∷ []) → Found l 3
of_three t u =
    record {
      head = t.a ∷ t.b ∷ t.c ∷ [];
      rest = t.s;
      whole = t.whole;
      size = refl;
      char = utf8_3 u;
    }

of_four : {low high low2 high2 : ℕ} {l : List ℕ} (t : Four low high low2 high2 l) → Utf8-4 (t.a ∷ t.b ∷ t.c ∷ t.d ∷ []) → Found l 4
of_four t u =
    record {
      head = t.a ∷ t.b ∷ t.c ∷ t.d ∷ [];
      rest = t.s;
      whole = t.whole;
      size = refl;
      char = utf8_4 u;
    }

found3 : (l : List ℕ) → starts3 l ≡ true → Found l 3
found3 l e =
    ⊎_elim (λ x. let t = three_found 0xE0 0xE0 0xA0 0xBF l x in of_three t (from_E0 t.first t.second t.third))
    (λ f. ⊎_elim (λ x. let t = three_found 0xE1 0xEC 0x80 0xBF l x in of_three t (from_E1 t.first t.second t.third))
    (λ g. ⊎_elim (λ x. let t = three_found 0xED 0xED 0x80 0x9F l x in of_three t (from_ED t.first t.second t.third))
    (λ x. let t = three_found 0xEE 0xEF 0x80 0xBF l x in of_three t (from_EE t.first t.second t.third))
    (or_cases (row_ED l) (row_EE l) g))
    (or_cases (row_E1 l) (row_ED l || row_EE l) f))
    (or_cases (row_E0 l) (row_E1 l || (row_ED l || row_EE l)) e)

found4 : (l : List ℕ) → starts4 l ≡ true → Found l 4
found4 l e =
    ⊎_elim (λ x. let t = four_found 0xF0 0xF0 0x90 0xBF l x in of_four t (from_F0 t.first t.second t.third t.fourth))
    (λ f. ⊎_elim (λ x. let t = four_found 0xF1 0xF3 0x80 0xBF l x in of_four t (from_F1 t.first t.second t.third t.fourth))
    (λ x. let t = four_found 0xF4 0xF4 0x80 0x8F l x in of_four t (from_F4 t.first t.second t.third t.fourth))
    (or_cases (row_F1 l) (row_F4 l) f))
    (or_cases (row_F0 l) (row_F1 l || row_F4 l) e)

-- Where a length is found, a character of that length stands at the front.
pub char_found : (l : List ℕ) (n : ℕ) → char_length l ≡ suc n → Found l (suc n)
unfolding char_length
char_found l n e = go (starts1 l) (starts2 l) (starts3 l) (starts4 l) (found1 l) (found2 l) (found3 l) (found4 l) e
  where
    go : (x y z w : Bool) → (x ≡ true → Found l 1) → (y ≡ true → Found l 2) → (z ≡ true → Found l 3) → (w ≡ true → Found l 4)
        → first_of x y z w ≡ suc n → Found l (suc n)
    go true y z w p q r t e = rw e at (p refl)
    go false true z w p q r t e = rw e at (q refl)
    go false false true w p q r t e = rw e at (r refl)
    go false false false true p q r t e = rw e at (t refl)
    go false false false false p q r t e = absurd (omega arith)

pub char_pos : {c : List ℕ} → Char c → 0 < length c
char_pos (utf8_1 (from_00 p)) = omega arith
char_pos (utf8_2 (from_C2 p q)) = omega arith
char_pos (utf8_3 (from_E0 p q r)) = omega arith
char_pos (utf8_3 (from_E1 p q r)) = omega arith
char_pos (utf8_3 (from_ED p q r)) = omega arith
char_pos (utf8_3 (from_EE p q r)) = omega arith
char_pos (utf8_4 (from_F0 p q r t)) = omega arith
char_pos (utf8_4 (from_F1 p q r t)) = omega arith
char_pos (utf8_4 (from_F4 p q r t)) = omega arith
