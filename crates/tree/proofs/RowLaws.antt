-- IDs and live rows of a table after a row is put at its end, or marked deleted.
use Prim.Native.Nat.{ℕ, suc, ◌+◌, ◌*◌, ◌-◌, ◌<◌, ◌≤◌}
use native.Mathlib.Omega.{arith}
use mathlib.Core.Bool.{Bool, true, false, cond}
use mathlib.Core.List.{List}
use mathlib.Core.Path.{◌≡◌, refl, sym, ap, ◌∙◌, subst}
use lib.Dec.{eqb, ltb}
use lib.ListN.{length, get_or, set, length-set}
use lib.Seq.{get_or-set_same, get_or-set_other, set-get_or}
use borrow.Author.Tests.{ne_eqb, ltb-true, ltb-false}
use Rattle.digital_tree.proofs.PutLaws.{Same, yes, no, same}
use Rattle.links.specs.Links.{deleted_unit, deleted_word, marked, put_at}
use Rattle.tree.specs.Grown.{id_of, Live, Absent, Finds, found, none, Once}
use Rattle.links.proofs.WordLaws.{deleted_dead}

module _ (rows : List ℕ) (n id w : ℕ) where
  put_other : (i : ℕ) → (i ≡ 2 * n → ⊥) → (i ≡ 2 * n + 1 → ⊥) → get_or (put_at rows n id w) i 0 ≡ get_or rows i 0
  unfolding put_at
  put_other i a b = get_or-set_other (set rows (2 * n) id) (2 * n + 1) i w 0 b ∙ get_or-set_other rows (2 * n) i id 0 a

  -- link 0 has the place of link 1
  pub put_id : (u : ℕ) → (u ≡ suc n → ⊥) → 0 < n → id_of (put_at rows n id w) u ≡ id_of rows u
  put_id u h p = put_other (2 * u - 2) (λ e. h (omega arith)) (λ e. omega arith)

  pub put_id_old : (u : ℕ) → 0 < u → u ≤ n → id_of (put_at rows n id w) u ≡ id_of rows u
  put_id_old u p h = put_other (2 * u - 2) (λ e. omega arith) (λ e. omega arith)

  pub put_word_old : (u : ℕ) → 0 < u → u ≤ n → get_or (put_at rows n id w) (2 * u - 1) 0 ≡ get_or rows (2 * u - 1) 0
  put_word_old u p h = put_other (2 * u - 1) (λ e. omega arith) (λ e. omega arith)

  pub put_id_new : 2 * n < length rows → id_of (put_at rows n id w) (suc n) ≡ id
  unfolding put_at
  put_id_new h =
      let e : 2 * suc n - 2 ≡ 2 * n = omega arith in
      rw e (get_or-set_other (set rows (2 * n) id) (2 * n + 1) (2 * n) w 0 (λ q. omega arith) ∙ get_or-set_same rows (2 * n) id 0 h)

  pub put_word_new : 2 * n + 1 < length rows → get_or (put_at rows n id w) (2 * suc n - 1) 0 ≡ w
  unfolding put_at
  put_word_new h =
      let e : 2 * suc n - 1 ≡ 2 * n + 1 = omega arith in
      let l = length-set rows (2 * n) id in
      rw e (get_or-set_same (set rows (2 * n) id) (2 * n + 1) w 0 (omega arith))

  pub live_old : (u : ℕ) → 0 < u → u ≤ n → Live (put_at rows n id w) u → Live rows u
  live_old u p h l = subst (λ (x : ℕ). x < deleted_unit) (put_word_old u p h) l

-- the row that is there already
pub put_same : (rows : List ℕ) (n : ℕ) → put_at rows n (get_or rows (2 * n) 0) (get_or rows (2 * n + 1) 0) ≡ rows
unfolding put_at
put_same rows n =
    ap (λ (l : List ℕ). set l (2 * n + 1) (get_or rows (2 * n + 1) 0)) (set-get_or rows (2 * n) 0) ∙ set-get_or rows (2 * n + 1) 0

pub length_put : (rows : List ℕ) (n id w : ℕ) → length (put_at rows n id w) ≡ length rows
unfolding put_at
length_put rows n id w = simp length-set

module _ (rows : List ℕ) (u : ℕ) where
  pub marked_none : u ≡ 0 → marked rows u ≡ rows
  unfolding marked
  marked_none e = ap (λ (x : ℕ). cond (eqb x 0) rows (set rows (2 * x - 1) (deleted_word (get_or rows (2 * x - 1) 0)))) e

  pub marked_at : 0 < u → marked rows u ≡ set rows (2 * u - 1) (deleted_word (get_or rows (2 * u - 1) 0))
  unfolding marked
  marked_at p = simp (ne_eqb u 0 (λ e. omega arith))

  mark_other : (i : ℕ) → (0 < u → i ≡ 2 * u - 1 → ⊥) → get_or (marked rows u) i 0 ≡ get_or rows i 0
  mark_other i n = go (same u 0)
    where
      go : Same u 0 → get_or (marked rows u) i 0 ≡ get_or rows i 0
      go (yes e) = ap (λ (l : List ℕ). get_or l i 0) (marked_none e)
      go (no e) =
          let p : 0 < u = omega arith in
          ap (λ (l : List ℕ). get_or l i 0) (marked_at p) ∙ get_or-set_other rows (2 * u - 1) i (deleted_word (get_or rows (2 * u - 1) 0)) 0 (n p)

  pub marked_id : (v : ℕ) → id_of (marked rows u) v ≡ id_of rows v
  marked_id v = mark_other (2 * v - 2) (λ p e. omega arith)

  pub marked_other : (v : ℕ) → (v ≡ u → ⊥) → 0 < v → get_or (marked rows u) (2 * v - 1) 0 ≡ get_or rows (2 * v - 1) 0
  marked_other v n p = mark_other (2 * v - 1) (λ q e. n (omega arith))

  pub marked_dead : 0 < u → 2 * u ≤ length rows → Live (marked rows u) u → ⊥
  marked_dead p h l =
      let w : ℕ = deleted_word (get_or rows (2 * u - 1) 0) in
      let e : get_or (marked rows u) (2 * u - 1) 0 ≡ w = ap (λ (x : List ℕ). get_or x (2 * u - 1) 0) (marked_at p) ∙ get_or-set_same rows (2 * u - 1) w 0 (omega arith) in
      let d = deleted_dead (get_or rows (2 * u - 1) 0) in
      omega arith

  -- a live row after a mark is another, and was live
  pub live_before : (v : ℕ) → 0 < v → 2 * u ≤ length rows → Live (marked rows u) v → Live rows v
  live_before v p h l = go (same v u)
    where
      go : Same v u → Live rows v
      go (yes e) = absurd (marked_dead (subst (λ (x : ℕ). 0 < x) e p) h (subst (λ (x : ℕ). Live (marked rows u) x) e l))
      go (no n) = subst (λ (x : ℕ). x < deleted_unit) (marked_other v n p) l

-- once the row that was found is marked deleted, no row of the ID is live
pub marked_absent : (rows : List ℕ) (n id u : ℕ) → 2 * u ≤ length rows → Once rows n → Finds rows n id u → Absent (marked rows u) n id
marked_absent rows n id u fits once (none a) v p h l e = a v p h (live_before rows 0 v p fits l) (sym (marked_id rows 0 v) ∙ e)
marked_absent rows n id u fits once (found q k m f) v p h l e = go (same v u)
  where
    was : Live rows v
    was = live_before rows u v p fits l

    same_id : id_of rows v ≡ id_of rows u
    same_id = sym (marked_id rows u v) ∙ e ∙ sym f

    go : Same v u → ⊥
    go (yes s) = marked_dead rows u q fits (subst (λ (x : ℕ). Live (marked rows u) x) s l)
    go (no s) = apart (ltb v u) refl
      where
        apart : (b : Bool) → ltb v u ≡ b → ⊥
        apart true o = once v u p (ltb-true v u o) k was m same_id
        apart false o =
            let q' = ltb-false v u o in
            once u v q (omega arith) h m was (sym same_id)

-- a live row further on has an ID that none before it is live under
pub once_absent : (rows : List ℕ) (n k : ℕ) → Once rows n → k < n → Live rows (suc k) → Absent rows k (id_of rows (suc k))
once_absent rows n k once h l u p q m e = once u (suc k) p (omega arith) (omega arith) m l e

pub once_less : (rows : List ℕ) (n k : ℕ) → k ≤ n → Once rows n → Once rows k
once_less rows n k h once u v p q r = once u v p q (omega arith)
