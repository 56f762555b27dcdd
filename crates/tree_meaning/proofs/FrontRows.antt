-- Tables whose first words are a list of rows, by induction on the rows.
use Prim.Native.Nat.{ℕ, zero, suc, ◌+◌, ◌*◌, ◌-◌, ◌<◌, ◌≤◌}
use native.Mathlib.Omega.{arith}
use mathlib.Core.Bool.{Bool, true, false, cond, true≢false, false≢true}
use mathlib.Core.List.{List, [], ◌∷◌, ◌++◌}
use mathlib.Core.Path.{◌≡◌, refl, sym, ap, ap₂, ◌∙◌, subst}
use lib.Dec.{eqb}
use lib.ListN.{length, get_or, set}
use borrow.Author.Tests.{eq-eqb, ne_eqb, eqb-true}
use Rattle.meaning.specs.Every.{Every}
use Rattle.meaning.specs.Replay.{active, mark, mark_one, live_as, size}
use Rattle.rows.specs.Rows.{RowFits, row_word}
use Rattle.rows.specs.declared.Row.{Row}
use Rattle.meaning.specs.Records.{row_kind, delete_row}
use Rattle.layout.specs.Layout.{record_length}
use Rattle.meaning.specs.Snapshot.{live_twice}
use Rattle.meaning.specs.Tables.{row_words}
use Rattle.links.specs.Links.{deleted_unit, deleted_word, caption_length, caption_freed, marked}
use Rattle.tree.specs.Grown.{id_of, Live, Absent, Once}
use Rattle.tree.proofs.RowLaws.{marked_at}
use Rattle.tree_meaning.proofs.RowFacts.{live_row, row_live, caption_row, deleted_row}

-- ---- a row in front

module _ (i w : ℕ) (ws : List ℕ) (u : ℕ) (p : 0 < u) where
  pub id_behind : id_of (i ∷ w ∷ ws) (suc u) ≡ id_of ws u
  id_behind =
      let e : 2 * suc u - 2 ≡ suc (suc (2 * u - 2)) = omega arith in
      ap (λ (k : ℕ). get_or (i ∷ w ∷ ws) k 0) e

  word_behind : get_or (i ∷ w ∷ ws) (2 * suc u - 1) 0 ≡ get_or ws (2 * u - 1) 0
  word_behind =
      let e : 2 * suc u - 1 ≡ suc (suc (2 * u - 1)) = omega arith in
      ap (λ (k : ℕ). get_or (i ∷ w ∷ ws) k 0) e

  pub live_behind : Live ws u → Live (i ∷ w ∷ ws) (suc u)
  live_behind l = subst (λ (x : ℕ). x < deleted_unit) (sym word_behind) l

  pub behind_live : Live (i ∷ w ∷ ws) (suc u) → Live ws u
  behind_live l = subst (λ (x : ℕ). x < deleted_unit) word_behind l

  pub marked_behind : marked (i ∷ w ∷ ws) (suc u) ≡ i ∷ w ∷ marked ws u
  marked_behind =
      let e : 2 * suc u - 1 ≡ suc (suc (2 * u - 1)) = omega arith in
      marked_at (i ∷ w ∷ ws) (suc u) (omega arith)
      ∙ ap (λ (k : ℕ). set (i ∷ w ∷ ws) k (deleted_word (get_or (i ∷ w ∷ ws) k 0))) e
      ∙ ap (λ (l : List ℕ). i ∷ w ∷ l) (sym (marked_at ws u p))

  pub freed_behind : caption_freed (i ∷ w ∷ ws) (suc u) ≡ caption_freed ws u
  unfolding caption_freed
  freed_behind =
      let a : eqb (suc u) 0 ≡ false = ne_eqb (suc u) 0 (λ e. omega arith) in
      let b : eqb u 0 ≡ false = ne_eqb u 0 (λ e. omega arith) in
      ap (λ (t : Bool). cond t 0 (caption_length (get_or (i ∷ w ∷ ws) (2 * suc u - 1) 0))) a
      ∙ ap caption_length word_behind
      ∙ sym (ap (λ (t : Bool). cond t 0 (caption_length (get_or ws (2 * u - 1) 0))) b)

pub absent_behind : (i w : ℕ) (ws : List ℕ) (n id : ℕ) → Absent (i ∷ w ∷ ws) (suc n) id → Absent ws n id
absent_behind i w ws n id a u p h l e = a (suc u) (omega arith) (omega arith) (live_behind i w ws u p l) (id_behind i w ws u p ∙ e)

pub once_behind : (i w : ℕ) (ws : List ℕ) (n : ℕ) → Once (i ∷ w ∷ ws) (suc n) → Once ws n
once_behind i w ws n once u v p q h l m e =
    let r : 0 < v = omega arith in
    once (suc u) (suc v) (omega arith) (omega arith) (omega arith) (live_behind i w ws u p l) (live_behind i w ws v r m)
    (id_behind i w ws u p ∙ e ∙ sym (id_behind i w ws v r))

-- ---- the first row

module _ (d id : ℕ) (r : Row) (packs : RowFits r) where
  -- the first row is the live one of this ID, or not
  pub data First : Type 0 where
    this : r.deleted ≡ false → r.id.0 ≡ id → live_as (row_kind d) id r ≡ true → First
    not_this : (row_word r < deleted_unit → r.id.0 ≡ id → ⊥) → live_as (row_kind d) id r ≡ false → First

  pub first : First
  first = go r.deleted refl (eqb r.id.0 id) refl
    where
      go : (a : Bool) → r.deleted ≡ a → (b : Bool) → eqb r.id.0 id ≡ b → First
      go true e b f = not_this (λ h q. true≢false (sym e ∙ live_row r packs h)) (ap (λ (x : Bool). cond x false (eqb r.id.0 id)) e)
      go false e true f = this e (eqb-true _ _ f) (ap (λ (x : Bool). cond x false (eqb r.id.0 id)) e ∙ f)
      go false e false f = not_this (λ h q. true≢false (sym (eq-eqb _ _ q) ∙ f)) (ap (λ (x : Bool). cond x false (eqb r.id.0 id)) e ∙ f)

pub cond_true : (b c : Bool) → c ≡ true → cond b true c ≡ true
cond_true true c e = refl
cond_true false c e = e

-- ---- none is live

module _ (d id : ℕ) (rest : List ℕ) where
  pub none_active : (rows : List Row) → Every RowFits rows → Absent (row_words rows ++ rest) (length rows) id → active (row_kind d) id rows ≡ false
  unfolding active row_words
  none_active [] all a = refl
  none_active (r ∷ rs) all a = go (first d id r all.0) (none_active rs all.1 (absent_behind r.id.0 (row_word r) (row_words rs ++ rest) (length rs) id a))
    where
      go : First d id r all.0 → active (row_kind d) id rs ≡ false → cond (live_as (row_kind d) id r) true (active (row_kind d) id rs) ≡ false
      go (this e f t) more = absurd (a 1 (omega arith) (omega arith) (row_live r all.0 e) f)
      go (not_this n t) more = ap (λ (b : Bool). cond b true (active (row_kind d) id rs)) t ∙ more

  pub none_marked : (rows : List Row) → Every RowFits rows → Absent (row_words rows ++ rest) (length rows) id → mark (row_kind d) id rows ≡ rows
  unfolding mark row_words
  none_marked [] all a = refl
  none_marked (r ∷ rs) all a = go (first d id r all.0) (none_marked rs all.1 (absent_behind r.id.0 (row_word r) (row_words rs ++ rest) (length rs) id a))
    where
      go : First d id r all.0 → mark (row_kind d) id rs ≡ rs → cond (live_as (row_kind d) id r) (delete_row r) r ∷ mark (row_kind d) id rs ≡ r ∷ rs
      go (this e f t) more = absurd (a 1 (omega arith) (omega arith) (row_live r all.0 e) f)
      go (not_this n t) more = ap₂ ◌∷◌ (ap (λ (b : Bool). cond b (delete_row r) r) t) more

-- ---- one is live

-- what marking the live row of an ID comes to
pub record Marks (d id : ℕ) (rows : List Row) (rest : List ℕ) (u : ℕ) : Type 0 where
  pub words : marked (row_words rows ++ rest) u ≡ row_words (mark (row_kind d) id rows) ++ rest
  pub sizes : size (row_kind d) (mark (row_kind d) id rows) + caption_freed (row_words rows ++ rest) u ≡ size (row_kind d) rows

module _ (d id : ℕ) (rest : List ℕ) where
  first_marks : (r : Row) (rs : List Row) → RowFits r → Every RowFits rs → Once (row_words (r ∷ rs) ++ rest) (suc (length rs)) → r.deleted ≡ false
      → r.id.0 ≡ id → live_as (row_kind d) id r ≡ true → Marks d id (r ∷ rs) rest 1
  unfolding mark size row_words marked caption_freed
  first_marks r rs p all once e f t =
      let absent : Absent (row_words rs ++ rest) (length rs) id
      = λ u q h l g. once 1 (suc u) (omega arith) (omega arith) (omega arith) (row_live r p e) (live_behind r.id.0 (row_word r) (row_words rs ++ rest) u q l) (f ∙ sym g ∙ sym (id_behind r.id.0 (row_word r) (row_words rs ++ rest) u q)) in
      let m : mark (row_kind d) id rs ≡ rs = none_marked d id rest rs all absent in
      let k : mark_one (row_kind d) id r ≡ delete_row r = ap (λ (b : Bool). cond b (delete_row r) r) t in
      let c = caption_row r p in
      record {
        words = ap (λ (x : ℕ). r.id.0 ∷ x ∷ (row_words rs ++ rest)) (deleted_row r p e)
            ∙ ap₂ (λ (x : Row) (xs : List Row). row_words (x ∷ xs) ++ rest) (sym k) (sym m);
        sizes = ap₂ (λ (x : Row) (xs : List Row). record_length d x.caption_length + size (row_kind d) xs + caption_length (row_word r)) k m ∙ omega arith;
      }

  later_marks : (r : Row) (rs : List Row) (u : ℕ) → 0 < u → live_as (row_kind d) id r ≡ false → Marks d id rs rest u → Marks d id (r ∷ rs) rest (suc u)
  unfolding mark size row_words
  later_marks r rs u p t m =
      let k : mark_one (row_kind d) id r ≡ r = ap (λ (b : Bool). cond b (delete_row r) r) t in
      let s = m.sizes in
      let f : caption_freed (r.id.0 ∷ row_word r ∷ (row_words rs ++ rest)) (suc u) ≡ caption_freed (row_words rs ++ rest) u = freed_behind r.id.0 (row_word r) (row_words rs ++ rest) u p in
      record {
        words = marked_behind r.id.0 (row_word r) (row_words rs ++ rest) u p
            ∙ ap (λ (l : List ℕ). r.id.0 ∷ row_word r ∷ l) m.words
            ∙ ap (λ (x : Row). row_words (x ∷ mark (row_kind d) id rs) ++ rest) (sym k);
        sizes = ap₂ (λ (x : Row) (c : ℕ). record_length d x.caption_length + size (row_kind d) (mark (row_kind d) id rs) + c) k f ∙ omega arith;
      }

  pub found_marks : (rows : List Row) → Every RowFits rows → Once (row_words rows ++ rest) (length rows)
      → (u : ℕ) → 0 < u → u ≤ length rows → Live (row_words rows ++ rest) u → id_of (row_words rows ++ rest) u ≡ id → Marks d id rows rest u
  unfolding row_words
  found_marks [] all once u p h l e = absurd (omega arith)
  found_marks (r ∷ rs) all once zero p h l e = absurd (omega arith)
  found_marks (r ∷ rs) all once (suc zero) p h l e = first_marks r rs all.0 all.1 once (live_row r all.0 l) e (here (first d id r all.0))
    where
      here : First d id r all.0 → live_as (row_kind d) id r ≡ true
      here (this a b t) = t
      here (not_this n t) = absurd (n l e)
  found_marks (r ∷ rs) all once (suc (suc u)) p h l e =
      go (first d id r all.0)
      (found_marks rs all.1 (once_behind r.id.0 (row_word r) (row_words rs ++ rest) (length rs) once) (suc u) (omega arith) (omega arith)
      (behind_live r.id.0 (row_word r) (row_words rs ++ rest) (suc u) (omega arith) l) (sym (id_behind r.id.0 (row_word r) (row_words rs ++ rest) (suc u) (omega arith)) ∙ e))
    where
      go : First d id r all.0 → Marks d id rs rest (suc u) → Marks d id (r ∷ rs) rest (suc (suc u))
      go (this a b t) more = absurd (once 1 (suc (suc u)) (omega arith) (omega arith) h (row_live r all.0 a) l (b ∙ sym e))
      go (not_this n t) more = later_marks r rs (suc u) (omega arith) t more

  pub live_active : (rows : List Row) → Every RowFits rows
      → (u : ℕ) → 0 < u → u ≤ length rows → Live (row_words rows ++ rest) u → id_of (row_words rows ++ rest) u ≡ id → active (row_kind d) id rows ≡ true
  unfolding row_words active
  live_active [] all u p h l e = absurd (omega arith)
  live_active (r ∷ rs) all zero p h l e = absurd (omega arith)
  live_active (r ∷ rs) all (suc zero) p h l e = go (first d id r all.0)
    where
      go : First d id r all.0 → cond (live_as (row_kind d) id r) true (active (row_kind d) id rs) ≡ true
      go (this a b t) = ap (λ (x : Bool). cond x true (active (row_kind d) id rs)) t
      go (not_this n t) = absurd (n l e)
  live_active (r ∷ rs) all (suc (suc u)) p h l e =
      cond_true (live_as (row_kind d) id r) (active (row_kind d) id rs)
      (live_active rs all.1 (suc u) (omega arith) (omega arith)
      (behind_live r.id.0 (row_word r) (row_words rs ++ rest) (suc u) (omega arith) l) (sym (id_behind r.id.0 (row_word r) (row_words rs ++ rest) (suc u) (omega arith)) ∙ e))

-- ---- no ID is live twice

-- a list that has none live twice, with one row more
twice_parts : (d a b : Bool) → cond d b (cond a true b) ≡ false → b ≡ false
twice_parts true a b e = e
twice_parts false true b e = absurd (true≢false e)
twice_parts false false b e = e

not_again : (d a b : Bool) → cond d b (cond a true b) ≡ false → d ≡ false → a ≡ true → ⊥
not_again true a b e f g = true≢false f
not_again false true b e f g = true≢false e
not_again false false b e f g = false≢true g

pub once_rows : (rows : List Row) (rest : List ℕ) → Every RowFits rows → live_twice rows ≡ false → Once (row_words rows ++ rest) (length rows)
unfolding live_twice row_words
once_rows [] rest all t u v p q h l m e = omega arith
once_rows (r ∷ rs) rest all t zero v p q h l m e = omega arith
once_rows (r ∷ rs) rest all t (suc u) zero p q h l m e = omega arith
once_rows (r ∷ rs) rest all t (suc zero) (suc v) p q h l m e =
    let k : 0 < v = omega arith in
    not_again r.deleted (active (row_kind 0) r.id.0 rs) (live_twice rs) t (live_row r all.0 l)
    (live_active 0 r.id.0 rest rs all.1 v k (omega arith) (behind_live r.id.0 (row_word r) (row_words rs ++ rest) v k m) (sym (id_behind r.id.0 (row_word r) (row_words rs ++ rest) v k) ∙ sym e))
once_rows (r ∷ rs) rest all t (suc (suc u)) (suc v) p q h l m e =
    let k : 0 < v = omega arith in
    let j : 0 < suc u = omega arith in
    once_rows rs rest all.1 (twice_parts r.deleted (active (row_kind 0) r.id.0 rs) (live_twice rs) t) (suc u) v j (omega arith) (omega arith)
    (behind_live r.id.0 (row_word r) (row_words rs ++ rest) (suc u) j l) (behind_live r.id.0 (row_word r) (row_words rs ++ rest) v k m)
    (sym (id_behind r.id.0 (row_word r) (row_words rs ++ rest) (suc u) j) ∙ e ∙ id_behind r.id.0 (row_word r) (row_words rs ++ rest) v k)

-- and the other way round
pub rows_once : (rows : List Row) (rest : List ℕ) → Every RowFits rows → Once (row_words rows ++ rest) (length rows) → live_twice rows ≡ false
unfolding live_twice row_words
rows_once [] rest all once = refl
rows_once (r ∷ rs) rest all once =
    go r.deleted refl (rows_once rs rest all.1 (once_behind r.id.0 (row_word r) (row_words rs ++ rest) (length rs) once))
  where
    -- no row behind a live one has its ID and is live
    alone : r.deleted ≡ false → Absent (row_words rs ++ rest) (length rs) r.id.0
    alone e u p h l k =
        once 1 (suc u) (omega arith) (omega arith) (omega arith) (row_live r all.0 e) (live_behind r.id.0 (row_word r) (row_words rs ++ rest) u p l)
        (sym (id_behind r.id.0 (row_word r) (row_words rs ++ rest) u p ∙ k))

    go : (a : Bool) → r.deleted ≡ a → live_twice rs ≡ false
        → cond r.deleted (live_twice rs) (cond (active (row_kind 0) r.id.0 rs) true (live_twice rs)) ≡ false
    go true e more = ap (λ (x : Bool). cond x (live_twice rs) (cond (active (row_kind 0) r.id.0 rs) true (live_twice rs))) e ∙ more
    go false e more =
        ap (λ (x : Bool). cond x (live_twice rs) (cond (active (row_kind 0) r.id.0 rs) true (live_twice rs))) e
        ∙ ap (λ (x : Bool). cond x true (live_twice rs)) (none_active 0 r.id.0 rest rs all.1 (alone e))
        ∙ more
