-- Rows with no links in them, by place, and after a store.
use Prim.Native.Nat.{ℕ, zero, suc, ◌+◌, ◌*◌, ◌-◌, ◌/◌, ◌%◌, ◌<◌}
use native.Mathlib.Omega.{arith}
use mathlib.Core.Bool.{Bool, true, false}
use mathlib.Core.List.{List, [], ◌∷◌}
use mathlib.Core.Path.{◌≡◌, refl, sym, ap, ◌∙◌}
use lib.ListN.{length, get_or, set, take}
use lib.Seq.{set-get_or, ext_get_or}
use lib.Dec.{eqb}
use borrow.Author.Tests.{eqb-true, eqb-false}
use Rattle.links.specs.Links.{plain_word, plain_rows}

-- twice a number, by its recursion
twice : ℕ → ℕ
twice zero = 0
twice (suc k) = suc (suc (twice k))

twice_is : (k : ℕ) → 2 * k ≡ twice k
unfolding twice
twice_is zero = refl
twice_is (suc k) = let h = twice_is k in omega arith

twice_more : (k : ℕ) → 2 * k + 1 ≡ suc (twice k)
twice_more k = let h = twice_is k in omega arith

pub length_plain : (ws : List ℕ) → length (plain_rows ws) ≡ length ws
unfolding plain_rows
length_plain [] = refl
length_plain (i ∷ []) = refl
length_plain (i ∷ w ∷ ws) = ap (λ (n : ℕ). suc (suc n)) (length_plain ws)

id_at : (k : ℕ) (ws : List ℕ) → get_or (plain_rows ws) (twice k) 0 ≡ get_or ws (twice k) 0
unfolding plain_rows twice
id_at k [] = refl
id_at zero (i ∷ []) = refl
id_at (suc k) (i ∷ []) = refl
id_at zero (i ∷ w ∷ ws) = refl
id_at (suc k) (i ∷ w ∷ ws) = id_at k ws

word_at : (k : ℕ) (ws : List ℕ) → get_or (plain_rows ws) (suc (twice k)) 0 ≡ plain_word (get_or ws (suc (twice k)) 0)
unfolding plain_rows twice plain_word
word_at k [] = refl
word_at zero (i ∷ []) = refl
word_at (suc k) (i ∷ []) = refl
word_at zero (i ∷ w ∷ ws) = refl
word_at (suc k) (i ∷ w ∷ ws) = word_at k ws

set_id : (k v : ℕ) (ws : List ℕ) → plain_rows (set ws (twice k) v) ≡ set (plain_rows ws) (twice k) v
unfolding plain_rows twice
set_id k v [] = refl
set_id zero v (i ∷ []) = refl
set_id (suc k) v (i ∷ []) = refl
set_id zero v (i ∷ w ∷ ws) = refl
set_id (suc k) v (i ∷ w ∷ ws) = ap (λ (l : List ℕ). i ∷ plain_word w ∷ l) (set_id k v ws)

set_word : (k v : ℕ) (ws : List ℕ) → plain_rows (set ws (suc (twice k)) v) ≡ set (plain_rows ws) (suc (twice k)) (plain_word v)
unfolding plain_rows twice
set_word k v [] = refl
set_word zero v (i ∷ []) = refl
set_word (suc k) v (i ∷ []) = refl
set_word zero v (i ∷ w ∷ ws) = refl
set_word (suc k) v (i ∷ w ∷ ws) = ap (λ (l : List ℕ). i ∷ plain_word w ∷ l) (set_word k v ws)

take_rows : (n : ℕ) (ws : List ℕ) → plain_rows (take (twice n) ws) ≡ take (twice n) (plain_rows ws)
unfolding plain_rows twice
take_rows zero ws = refl
take_rows (suc n) [] = refl
take_rows (suc n) (i ∷ []) = refl
take_rows (suc n) (i ∷ w ∷ ws) = ap (λ (l : List ℕ). i ∷ plain_word w ∷ l) (take_rows n ws)

module _ (ws : List ℕ) where
  pub plain_id : (k : ℕ) → get_or (plain_rows ws) (2 * k) 0 ≡ get_or ws (2 * k) 0
  plain_id k = rw twice_is (id_at k ws)

  pub plain_word_lem : (k : ℕ) → get_or (plain_rows ws) (2 * k + 1) 0 ≡ plain_word (get_or ws (2 * k + 1) 0)
  plain_word_lem k = rw twice_more (word_at k ws)

  pub plain_set_id : (k v : ℕ) → plain_rows (set ws (2 * k) v) ≡ set (plain_rows ws) (2 * k) v
  plain_set_id k v = rw twice_is (set_id k v ws)

  pub plain_set_word : (k v : ℕ) → plain_rows (set ws (2 * k + 1) v) ≡ set (plain_rows ws) (2 * k + 1) (plain_word v)
  plain_set_word k v = rw twice_more (set_word k v ws)

  pub plain_take : (n : ℕ) → plain_rows (take (2 * n) ws) ≡ take (2 * n) (plain_rows ws)
  plain_take n = rw twice_is (take_rows n ws)

  -- by links, which count from 1
  pub id_of_link : (u : ℕ) → get_or (plain_rows ws) (2 * u - 2) 0 ≡ get_or ws (2 * u - 2) 0
  id_of_link u =
      let e : 2 * u - 2 ≡ 2 * (u - 1) = omega arith in
      rw e (plain_id (u - 1))

  pub word_of_link : (u : ℕ) → 0 < u → get_or (plain_rows ws) (2 * u - 1) 0 ≡ plain_word (get_or ws (2 * u - 1) 0)
  word_of_link u p =
      let e : 2 * u - 1 ≡ 2 * (u - 1) + 1 = omega arith in
      rw e (plain_word_lem (u - 1))

  -- the link of node m is suc m
  pub next_id : (m : ℕ) → get_or (plain_rows ws) (2 * suc m - 2) 0 ≡ get_or ws (2 * m) 0
  next_id m =
      let e : 2 * suc m - 2 ≡ 2 * m = omega arith in
      id_of_link (suc m) ∙ ap (λ (i : ℕ). get_or ws i 0) e

  pub next_word : (m : ℕ) → get_or (plain_rows ws) (2 * suc m - 1) 0 ≡ plain_word (get_or ws (2 * m + 1) 0)
  next_word m =
      let e : 2 * suc m - 1 ≡ 2 * m + 1 = omega arith in
      rw e (plain_word_lem m)

  pub set_word_of_link : (u v : ℕ) → 0 < u → plain_rows (set ws (2 * u - 1) v) ≡ set (plain_rows ws) (2 * u - 1) (plain_word v)
  set_word_of_link u v p =
      let e : 2 * u - 1 ≡ 2 * (u - 1) + 1 = omega arith in
      rw e (plain_set_word (u - 1) v)

  -- a word that is plainly the same changes no row
  pub same_rows : (u v : ℕ) → 0 < u → plain_word v ≡ plain_word (get_or ws (2 * u - 1) 0) → plain_rows (set ws (2 * u - 1) v) ≡ plain_rows ws
  same_rows u v p e =
      set_word_of_link u v p ∙ ap (λ (x : ℕ). set (plain_rows ws) (2 * u - 1) x) (e ∙ sym (word_of_link u p)) ∙ set-get_or (plain_rows ws) (2 * u - 1) 0

  -- a table of plain words is its own rows
  pub plain_all : ((k : ℕ) → 2 * k + 1 < length ws → plain_word (get_or ws (2 * k + 1) 0) ≡ get_or ws (2 * k + 1) 0) → plain_rows ws ≡ ws
  plain_all all = ext_get_or 0 (plain_rows ws) ws (length_plain ws) (λ i h. at i (length_plain ws) h (eqb (i % 2) 0) refl)
    where
      at : (i : ℕ) → length (plain_rows ws) ≡ length ws → i < length (plain_rows ws) → (b : Bool) → eqb (i % 2) 0 ≡ b → get_or (plain_rows ws) i 0 ≡ get_or ws i 0
      at i l h true e =
          let k = eqb-true (i % 2) 0 e in
          let q : i ≡ 2 * (i / 2) = omega arith in
          ap (λ (x : ℕ). get_or (plain_rows ws) x 0) q ∙ plain_id (i / 2) ∙ ap (λ (x : ℕ). get_or ws x 0) (sym q)
      at i l h false e =
          let k = eqb-false (i % 2) 0 e in
          let q : i ≡ 2 * (i / 2) + 1 = omega arith in
          ap (λ (x : ℕ). get_or (plain_rows ws) x 0) q ∙ plain_word_lem (i / 2) ∙ all (i / 2) (omega arith) ∙ ap (λ (x : ℕ). get_or ws x 0) (sym q)
