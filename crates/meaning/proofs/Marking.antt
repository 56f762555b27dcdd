-- Under `LiveOnce`, where no ID is live twice, marking an ID deleted is one store at the one node where it is live.
use Prim.Native.Nat.{ℕ, zero, suc, ◌+◌, ◌≤◌, ◌<◌}
use native.Mathlib.Nat.{le_of_suc-le-suc, not-suc-le-zero}
use native.Mathlib.Omega.{arith}
use mathlib.Core.Bool.{Bool, true, false, cond, ◌||◌}
use mathlib.Core.List.{List, [], ◌∷◌, ◌++◌}
use mathlib.Core.Path.{◌≡◌, refl, sym, ap, ap₂, subst, ◌∙◌}
use lib.ListN.{length, get_or, set}
use lib.Dec.{eqb}
use borrow.Author.Tests.{eqb-true, eqb-false, eq-eqb, ne_eqb}
use Rattle.meaning.specs.Replay.{Kind, live_as, active, mark_one, mark, size}
use Rattle.meaning.specs.LiveOnce.{LiveOnce}

-- a deleted record is deleted, keeps its ID, and is no larger
pub record Deletes {A : Type 0} (K : Kind A) : Type 0 where
  pub gone : (r : A) → K.deleted (K.delete r) ≡ true
  pub ids : (r : A) → K.id_of (K.delete r) ≡ K.id_of r
  pub sizes : (r : A) → K.size_of (K.delete r) ≤ K.size_of r

module _ {A : Type 0} (K : Kind A) where
  -- the lowest node where an ID is live, or the number of records where it is nowhere
  unfoldable pub find : ℕ → List A → ℕ
  find id [] = 0
  find id (r ∷ rs) = cond (live_as K id r) 0 (suc (find id rs))

  pub live_known : (id : ℕ) (r : A) → live_as K id r ≡ true → (K.deleted r ≡ false) × (K.id_of r ≡ id)
  live_known id r h = go (K.deleted r) refl h
    where
      go : (x : Bool) → K.deleted r ≡ x → cond x false (eqb (K.id_of r) id) ≡ true → (K.deleted r ≡ false) × (K.id_of r ≡ id)
      go true d e = (let z : K.deleted r ≡ false = cc in z, let z : K.id_of r ≡ id = cc in z)
      go false d e = (d, eqb-true (K.id_of r) id e)

  pub live_self : (r : A) → K.deleted r ≡ false → live_as K (K.id_of r) r ≡ true
  live_self r d = ap (λ (x : Bool). cond x false (eqb (K.id_of r) (K.id_of r))) d ∙ eq-eqb (K.id_of r) (K.id_of r) refl

  pub live_other : (i j : ℕ) (r : A) → (j ≡ i → ⊥) → live_as K i r ≡ true → live_as K j r ≡ false
  live_other i j r ne h =
      let z : (K.deleted r ≡ false) × (K.id_of r ≡ i) = live_known i r h in
      ap (λ (x : Bool). cond x false (eqb (K.id_of r) j)) z.0 ∙ ne_eqb (K.id_of r) j (λ e. ne (sym e ∙ z.1))

  pub mark_none : (id : ℕ) (rs : List A) → active K id rs ≡ false → mark K id rs ≡ rs
  unfolding active mark
  mark_none id [] h = refl
  mark_none id (r ∷ rs) h = go (live_as K id r) h (mark_none id rs)
    where
      go : (x : Bool) → cond x true (active K id rs) ≡ false → (active K id rs ≡ false → mark K id rs ≡ rs) → cond x (K.delete r) r ∷ mark K id rs ≡ r ∷ rs
      go true e rest = cc
      go false e rest = ap {B = List A} (λ ts. r ∷ ts) (rest e)

  pub length_mark : (id : ℕ) (rs : List A) → length (mark K id rs) ≡ length rs
  unfolding mark
  length_mark id [] = refl
  length_mark id (r ∷ rs) = ap suc (length_mark id rs)

  pub mark_at : (id : ℕ) (rs : List A) (n : ℕ) (d : A) → n < length rs → get_or (mark K id rs) n d ≡ mark_one K id (get_or rs n d)
  unfolding mark
  mark_at id [] n d h = absurd (not-suc-le-zero h)
  mark_at id (r ∷ rs) zero d h = refl
  mark_at id (r ∷ rs) (suc n) d h = mark_at id rs n d (le_of_suc-le-suc h)

  pub mark_append : (id : ℕ) (rs ts : List A) → mark K id (rs ++ ts) ≡ mark K id rs ++ mark K id ts
  unfolding mark
  mark_append id [] ts = refl
  mark_append id (r ∷ rs) ts = ap {B = List A} (λ us. mark_one K id r ∷ us) (mark_append id rs ts)

  pub active_append : (id : ℕ) (rs ts : List A) → active K id (rs ++ ts) ≡ (active K id rs || active K id ts)
  unfolding active
  active_append id [] ts = refl
  active_append id (r ∷ rs) ts = ap (λ (x : Bool). cond (live_as K id r) true x) (active_append id rs ts) ∙ go (live_as K id r)
    where
      go : (x : Bool) → cond x true (active K id rs || active K id ts) ≡ (cond x true (active K id rs) || active K id ts)
      go true = refl
      go false = refl

  pub size_append : (rs ts : List A) → size K (rs ++ ts) ≡ size K rs + size K ts
  unfolding size
  size_append [] ts = omega arith
  size_append (r ∷ rs) ts = omega (arith, size_append rs ts)

  pub size_push : (rs : List A) (r : A) → size K (rs ++ (r ∷ [])) ≡ size K rs + K.size_of r
  unfolding size
  size_push rs r = omega (arith, size_append rs (r ∷ []))

  -- the node found
  pub find_live : (id : ℕ) (rs : List A) (d : A) → active K id rs ≡ true → live_as K id (get_or rs (find id rs) d) ≡ true
  unfolding active find
  find_live id [] d h = cc
  find_live id (r ∷ rs) d h = go (live_as K id r) refl h (find_live id rs d)
    where
      go : (x : Bool) → live_as K id r ≡ x → cond x true (active K id rs) ≡ true → (active K id rs ≡ true → live_as K id (get_or rs (find id rs) d) ≡ true)
          → live_as K id (get_or (r ∷ rs) (cond x 0 (suc (find id rs))) d) ≡ true
      go true e h rest = e
      go false e h rest = rest h

  pub find_below : (id : ℕ) (rs : List A) → active K id rs ≡ true → find id rs < length rs
  unfolding active find
  find_below id [] h = absurd (let z : ◌≡◌ {A = ℕ} 0 1 = cc in omega arith)
  find_below id (r ∷ rs) h = go (live_as K id r) h (find_below id rs)
    where
      go : (x : Bool) → cond x true (active K id rs) ≡ true → (active K id rs ≡ true → find id rs < length rs) → cond x 0 (suc (find id rs)) < length (r ∷ rs)
      go true h rest = omega arith
      go false h rest = omega (arith, rest h)

  pub find_none : (id : ℕ) (rs : List A) → active K id rs ≡ false → find id rs ≡ length rs
  unfolding active find
  find_none id [] h = refl
  find_none id (r ∷ rs) h = go (live_as K id r) h (find_none id rs)
    where
      go : (x : Bool) → cond x true (active K id rs) ≡ false → (active K id rs ≡ false → find id rs ≡ length rs) → cond x 0 (suc (find id rs)) ≡ length (r ∷ rs)
      go true h rest = cc
      go false h rest = ap suc (rest h)

  -- an ID is active exactly where some node bears it live
  pub live_active : (id : ℕ) (rs : List A) (n : ℕ) (d : A) → n < length rs → live_as K id (get_or rs n d) ≡ true → active K id rs ≡ true
  unfolding active
  live_active id [] n d h e = absurd (not-suc-le-zero h)
  live_active id (r ∷ rs) zero d h e = rw e refl
  live_active id (r ∷ rs) (suc n) d h e = go (live_as K id r) (live_active id rs n d (le_of_suc-le-suc h) e)
    where
      go : (x : Bool) → active K id rs ≡ true → cond x true (active K id rs) ≡ true
      go true a = refl
      go false a = a

  pub none_active : (id : ℕ) (rs : List A) (d : A) → ((n : ℕ) → n < length rs → live_as K id (get_or rs n d) ≡ false) → active K id rs ≡ false
  none_active id rs d h = go (active K id rs) refl
    where
      go : (x : Bool) → active K id rs ≡ x → x ≡ false
      go true a =
          let live : live_as K id (get_or rs (find id rs) d) ≡ true = find_live id rs d a in
          let dead : live_as K id (get_or rs (find id rs) d) ≡ false = h (find id rs) (find_below id rs a) in
          sym live ∙ dead
      go false a = refl

  -- the node found is the lowest, and a loop that met no live one before a live one has found it
  pub find_lowest : (id : ℕ) (rs : List A) (n : ℕ) (d : A) → n < find id rs → live_as K id (get_or rs n d) ≡ false
  unfolding find
  find_lowest id [] n d h = absurd (not-suc-le-zero h)
  find_lowest id (r ∷ rs) n d h = go n (live_as K id r) refl h (find_lowest id rs)
    where
      go : (m : ℕ) (x : Bool) → live_as K id r ≡ x → m < cond x 0 (suc (find id rs)) → ((n : ℕ) (d : A) → n < find id rs → live_as K id (get_or rs n d) ≡ false)
          → live_as K id (get_or (r ∷ rs) m d) ≡ false
      go m true e h rest = absurd (not-suc-le-zero h)
      go zero false e h rest = e
      go (suc m) false e h rest = rest m d (le_of_suc-le-suc h)

  pub find_first : (id : ℕ) (rs : List A) (n : ℕ) (d : A) → live_as K id (get_or rs n d) ≡ true → n < length rs
      → ((m : ℕ) → m < n → live_as K id (get_or rs m d) ≡ false) → find id rs ≡ n
  unfolding find
  find_first id [] n d e h low = absurd (not-suc-le-zero h)
  find_first id (r ∷ rs) zero d e h low = rw e refl
  find_first id (r ∷ rs) (suc n) d e h low = rw (low 0 (omega arith)) (ap suc (find_first id rs n d e (le_of_suc-le-suc h) (λ m b. low (suc m) (omega arith))))

  pub find_append : (id : ℕ) (rs ts : List A) → active K id rs ≡ true → find id (rs ++ ts) ≡ find id rs
  unfolding active find
  find_append id [] ts h = cc
  find_append id (r ∷ rs) ts h = go (live_as K id r) h (find_append id rs ts)
    where
      go : (x : Bool) → cond x true (active K id rs) ≡ true → (active K id rs ≡ true → find id (rs ++ ts) ≡ find id rs)
          → cond x 0 (suc (find id (rs ++ ts))) ≡ cond x 0 (suc (find id rs))
      go true h rest = refl
      go false h rest = ap suc (rest h)

  pub find_append_none : (id : ℕ) (rs ts : List A) → active K id rs ≡ false → find id (rs ++ ts) ≡ length rs + find id ts
  unfolding active find
  find_append_none id [] ts h = omega arith
  find_append_none id (r ∷ rs) ts h = go (live_as K id r) h (find_append_none id rs ts)
    where
      go : (x : Bool) → cond x true (active K id rs) ≡ false → (active K id rs ≡ false → find id (rs ++ ts) ≡ length rs + find id ts)
          → cond x 0 (suc (find id (rs ++ ts))) ≡ length (r ∷ rs) + find id ts
      go true h rest = cc
      go false h rest = omega (arith, rest h)

  -- under `LiveOnce` the node found is the only one
  pub find_only : (id : ℕ) (rs : List A) (n : ℕ) (d : A) → LiveOnce K rs → n < length rs → live_as K id (get_or rs n d) ≡ true → find id rs ≡ n
  unfolding find
  find_only id [] n d s h e = absurd (not-suc-le-zero h)
  find_only id (r ∷ rs) zero d s h e = rw e refl
  find_only id (r ∷ rs) (suc n) d s h e = go (live_as K id r) refl (find_only id rs n d s.1 (le_of_suc-le-suc h) e)
    where
      go : (x : Bool) → live_as K id r ≡ x → find id rs ≡ n → cond x 0 (suc (find id rs)) ≡ suc n
      go true l rest =
          let z : (K.deleted r ≡ false) × (K.id_of r ≡ id) = live_known id r l in
          let dead : active K id rs ≡ false = subst (λ (j : ℕ). active K j rs ≡ false) z.1 (s.0 z.0) in
          let alive : active K id rs ≡ true = live_active id rs n d (le_of_suc-le-suc h) e in
          absurd (let w : ◌≡◌ {A = ℕ} 0 1 = cc in omega arith)
      go false l rest = ap suc rest

  -- after a live record of an ID the rest is left as it stands
  pub mark_after : (id : ℕ) (r : A) (rs : List A) → LiveOnce K (r ∷ rs) → live_as K id r ≡ true → mark K id rs ≡ rs
  mark_after id r rs s l =
      let z : (K.deleted r ≡ false) × (K.id_of r ≡ id) = live_known id r l in
      mark_none id rs (subst (λ (j : ℕ). active K j rs ≡ false) z.1 (s.0 z.0))

  -- marking is one store
  pub mark_one_lem : (id : ℕ) (rs : List A) (d : A) → LiveOnce K rs → active K id rs ≡ true → mark K id rs ≡ set rs (find id rs) (K.delete (get_or rs (find id rs) d))
  unfolding active mark find
  mark_one_lem id [] d s h = refl
  mark_one_lem id (r ∷ rs) d s h = go (live_as K id r) refl h (mark_one_lem id rs d s.1)
    where
      go : (x : Bool) → live_as K id r ≡ x → cond x true (active K id rs) ≡ true
          → (active K id rs ≡ true → mark K id rs ≡ set rs (find id rs) (K.delete (get_or rs (find id rs) d)))
          → cond x (K.delete r) r ∷ mark K id rs ≡ set (r ∷ rs) (cond x 0 (suc (find id rs))) (K.delete (get_or (r ∷ rs) (cond x 0 (suc (find id rs))) d))
      go true l h rest = ap {B = List A} (λ ts. K.delete r ∷ ts) (mark_after id r rs s l)
      go false l h rest = ap {B = List A} (λ ts. r ∷ ts) (rest h)

  -- its size with the live record's is the old size with the deleted one's
  pub size_mark : (id : ℕ) (rs : List A) (d : A) → LiveOnce K rs → active K id rs ≡ true
      → size K (mark K id rs) + K.size_of (get_or rs (find id rs) d) ≡ size K rs + K.size_of (K.delete (get_or rs (find id rs) d))
  unfolding active mark find size
  size_mark id [] d s h = cc
  size_mark id (r ∷ rs) d s h = go (live_as K id r) refl h (size_mark id rs d s.1)
    where
      go : (x : Bool) → live_as K id r ≡ x → cond x true (active K id rs) ≡ true
          → (active K id rs ≡ true → size K (mark K id rs) + K.size_of (get_or rs (find id rs) d) ≡ size K rs + K.size_of (K.delete (get_or rs (find id rs) d)))
          → K.size_of (cond x (K.delete r) r) + size K (mark K id rs) + K.size_of (get_or (r ∷ rs) (cond x 0 (suc (find id rs))) d)
          ≡ K.size_of r + size K rs + K.size_of (K.delete (get_or (r ∷ rs) (cond x 0 (suc (find id rs))) d))
      go true l h rest = omega (arith, ap (size K) (mark_after id r rs s l))
      go false l h rest = omega (arith, rest h)

  -- an ID active nowhere may be appended live
  pub single_push : (rs : List A) (r : A) → LiveOnce K rs → (K.deleted r ≡ false → active K (K.id_of r) rs ≡ false) → LiveOnce K (rs ++ (r ∷ []))
  unfolding active
  single_push [] r s h = ((λ _. refl), tt)
  single_push (t ∷ ts) r s h = (head, single_push ts r s.1 (λ d. later (live_as K (K.id_of r) t) (h d)))
    where
      later : (x : Bool) → cond x true (active K (K.id_of r) ts) ≡ false → active K (K.id_of r) ts ≡ false
      later true e = cc
      later false e = e

      last : (x : Bool) → live_as K (K.id_of t) r ≡ x → K.deleted t ≡ false → x ≡ false
      last true l d =
          let z : (K.deleted r ≡ false) × (K.id_of r ≡ K.id_of t) = live_known (K.id_of t) r l in
          let live : live_as K (K.id_of r) t ≡ true = subst (λ (j : ℕ). live_as K j t ≡ true) (sym z.1) (live_self t d) in
          let dead : cond true true (active K (K.id_of r) ts) ≡ false = subst (λ (x : Bool). cond x true (active K (K.id_of r) ts) ≡ false) live (h z.0) in
          dead
      last false l d = refl

      head : K.deleted t ≡ false → active K (K.id_of t) (ts ++ (r ∷ [])) ≡ false
      head d = active_append (K.id_of t) ts (r ∷ []) ∙ rw (s.0 d, last (live_as K (K.id_of t) r) refl d) refl

  module _ (D : Deletes K) where
    pub deleted_dead : (id : ℕ) (r : A) → live_as K id (K.delete r) ≡ false
    deleted_dead id r = ap (λ (x : Bool). cond x false (eqb (K.id_of (K.delete r)) id)) (D.gone r)

    -- a marked record is not live under the ID, and under any other it is what it was
    pub mark_one_self : (id : ℕ) (r : A) → live_as K id (mark_one K id r) ≡ false
    mark_one_self id r = go (live_as K id r) refl
      where
        go : (x : Bool) → live_as K id r ≡ x → live_as K id (cond x (K.delete r) r) ≡ false
        go true l = deleted_dead id r
        go false l = l

    pub mark_one_other : (i j : ℕ) (r : A) → (j ≡ i → ⊥) → live_as K j (mark_one K i r) ≡ live_as K j r
    mark_one_other i j r ne = go (live_as K i r) refl
      where
        go : (x : Bool) → live_as K i r ≡ x → live_as K j (cond x (K.delete r) r) ≡ live_as K j r
        go true l = deleted_dead j r ∙ sym (live_other i j r ne l)
        go false l = refl

    pub active_mark : (id : ℕ) (rs : List A) → active K id (mark K id rs) ≡ false
    unfolding active mark
    active_mark id [] = refl
    active_mark id (r ∷ rs) = rw (mark_one_self id r) (active_mark id rs)

    pub active_mark_other : (i j : ℕ) (rs : List A) → (j ≡ i → ⊥) → active K j (mark K i rs) ≡ active K j rs
    unfolding active mark
    active_mark_other i j [] ne = refl
    active_mark_other i j (r ∷ rs) ne = ap₂ (λ (x y : Bool). cond x true y) (mark_one_other i j r ne) (active_mark_other i j rs ne)

    pub find_mark_other : (i j : ℕ) (rs : List A) → (j ≡ i → ⊥) → find j (mark K i rs) ≡ find j rs
    unfolding find mark
    find_mark_other i j [] ne = refl
    find_mark_other i j (r ∷ rs) ne = ap₂ (λ (x : Bool) (n : ℕ). cond x 0 (suc n)) (mark_one_other i j r ne) (find_mark_other i j rs ne)

    -- marking makes no ID active
    pub active_mark_keeps : (i j : ℕ) (rs : List A) → active K j rs ≡ false → active K j (mark K i rs) ≡ false
    active_mark_keeps i j rs h = go (eqb j i) refl
      where
        go : (x : Bool) → eqb j i ≡ x → active K j (mark K i rs) ≡ false
        go true e = subst (λ (n : ℕ). active K j (mark K n rs) ≡ false) (eqb-true j i e) (active_mark j rs)
        go false e = active_mark_other i j rs (eqb-false j i e) ∙ h

    pub size_mark_le : (id : ℕ) (rs : List A) → size K (mark K id rs) ≤ size K rs
    unfolding mark size
    size_mark_le id [] = omega arith
    size_mark_le id (r ∷ rs) = go (live_as K id r) (size_mark_le id rs)
      where
        go : (x : Bool) → size K (mark K id rs) ≤ size K rs → K.size_of (cond x (K.delete r) r) + size K (mark K id rs) ≤ K.size_of r + size K rs
        go true rest = omega (arith, D.sizes r)
        go false rest = omega arith

    pub single_mark : (id : ℕ) (rs : List A) → LiveOnce K rs → LiveOnce K (mark K id rs)
    unfolding mark
    single_mark id [] s = tt
    single_mark id (r ∷ rs) s = (go (live_as K id r), single_mark id rs s.1)
      where
        go : (x : Bool) → K.deleted (cond x (K.delete r) r) ≡ false → active K (K.id_of (cond x (K.delete r) r)) (mark K id rs) ≡ false
        go true e = absurd (let w : ◌≡◌ {A = ℕ} 0 1 = cc (D.gone r) in omega arith)
        go false e = active_mark_keeps id (K.id_of r) rs (s.0 e)

    -- a put leaves its ID live once, whatever stood there
    pub single_put : (rs : List A) (r : A) → LiveOnce K rs → LiveOnce K (mark K (K.id_of r) rs ++ (r ∷ []))
    single_put rs r s = single_push (mark K (K.id_of r) rs) r (single_mark (K.id_of r) rs s) (λ _. active_mark (K.id_of r) rs)

    -- after a put of a live record its ID is active at the new node, and any other is where it was
    pub active_put : (rs : List A) (r : A) → K.deleted r ≡ false → active K (K.id_of r) (mark K (K.id_of r) rs ++ (r ∷ [])) ≡ true
    unfolding active
    active_put rs r d = active_append (K.id_of r) (mark K (K.id_of r) rs) (r ∷ []) ∙ rw (active_mark (K.id_of r) rs, live_self r d) refl

    pub find_put : (rs : List A) (r : A) → K.deleted r ≡ false → find (K.id_of r) (mark K (K.id_of r) rs ++ (r ∷ [])) ≡ length rs
    unfolding find
    find_put rs r d =
        find_append_none (K.id_of r) (mark K (K.id_of r) rs) (r ∷ []) (active_mark (K.id_of r) rs) ∙ rw (live_self r d) (omega (arith, length_mark (K.id_of r) rs))

    pub active_put_other : (j : ℕ) (rs : List A) (r : A) → (j ≡ K.id_of r → ⊥) → active K j (mark K (K.id_of r) rs ++ (r ∷ [])) ≡ active K j rs
    unfolding active
    active_put_other j rs r ne =
        active_append j (mark K (K.id_of r) rs) (r ∷ []) ∙ ap₂ ◌||◌ (active_mark_other (K.id_of r) j rs ne) (last (live_as K j r) refl) ∙ none (active K j rs)
      where
        last : (x : Bool) → live_as K j r ≡ x → cond x true false ≡ false
        last true l = absurd (ne (sym (live_known j r l).1))
        last false l = refl

        none : (x : Bool) → (x || false) ≡ x
        none true = refl
        none false = refl

    pub find_put_other : (j : ℕ) (rs : List A) (r : A) → (j ≡ K.id_of r → ⊥) → active K j rs ≡ true → find j (mark K (K.id_of r) rs ++ (r ∷ [])) ≡ find j rs
    find_put_other j rs r ne h =
        find_append j (mark K (K.id_of r) rs) (r ∷ []) (active_mark_other (K.id_of r) j rs ne ∙ h) ∙ find_mark_other (K.id_of r) j rs ne
