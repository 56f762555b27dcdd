-- No ID is live twice: the same of rows and of the records seen through them, and what 18 tests.
use Prim.Native.Nat.{ℕ}
use mathlib.Core.Path.{◌≡◌, refl, sym, ap, ◌∙◌}
use mathlib.Core.Bool.{Bool, true, false, cond, true≢false}
use mathlib.Core.List.{List, [], ◌∷◌, map}
use Rattle.meaning.specs.Replay.{Kind, active, live_as}
use Rattle.meaning.specs.Records.{row_kind, record_kind, seen}
use Rattle.rows.specs.declared.Row.{Row}
use Rattle.meaning.specs.Snapshot.{live_twice}
use Rattle.meaning.specs.LiveOnce.{LiveOnce}

-- a map of records that keeps ID and state
module _ {A B : Type 0} (K : Kind A) (L : Kind B) (f : A → B) (same_id : (r : A) → L.id_of (f r) ≡ K.id_of r) (same-state : (r : A) → L.deleted (f r) ≡ K.deleted r) where
  pub active_map : (id : ℕ) (rs : List A) → active L id (map f rs) ≡ active K id rs
  unfolding active
  active_map id [] = refl
  active_map id (r ∷ rs) = rw (same_id r, same-state r) (ap (λ (b : Bool). cond (live_as K id r) true b) (active_map id rs))

  pub single_map : (rs : List A) → LiveOnce K rs → LiveOnce L (map f rs)
  single_map [] h = tt
  single_map (r ∷ rs) h = ((λ e. ap (λ (i : ℕ). active L i (map f rs)) (same_id r) ∙ active_map (K.id_of r) rs ∙ h.0 (sym (same-state r) ∙ e)), single_map rs h.1)

  pub single_of_map : (rs : List A) → LiveOnce L (map f rs) → LiveOnce K rs
  single_of_map [] h = tt
  single_of_map (r ∷ rs) h = ((λ e. sym (active_map (K.id_of r) rs) ∙ ap (λ (i : ℕ). active L i (map f rs)) (sym (same_id r)) ∙ h.0 (same-state r ∙ e)), single_of_map rs h.1)

-- the size that a kind of row gives does not matter
active_rows : (d e id : ℕ) (rows : List Row) → active (row_kind d) id rows ≡ active (row_kind e) id rows
unfolding active
active_rows d e id [] = refl
active_rows d e id (r ∷ rows) = ap (λ (b : Bool). cond (live_as (row_kind d) id r) true b) (active_rows d e id rows)

pub single_of_live_twice : (d : ℕ) (rows : List Row) → live_twice rows ≡ false → LiveOnce (row_kind d) rows
unfolding live_twice
single_of_live_twice d [] h = tt
single_of_live_twice d (r ∷ rows) h = go r.deleted refl h (active (row_kind 0) r.id.0 rows) refl (λ e. single_of_live_twice d rows e)
  where
    go : (t : Bool) → r.deleted ≡ t → cond t (live_twice rows) (cond (active (row_kind 0) r.id.0 rows) true (live_twice rows)) ≡ false
        → (b : Bool) → active (row_kind 0) r.id.0 rows ≡ b
        → (live_twice rows ≡ false → LiveOnce (row_kind d) rows) → LiveOnce (row_kind d) (r ∷ rows)
    go true q e b p rest = ((λ l. absurd (true≢false (sym q ∙ l))), rest e)
    go false q e true p rest = absurd (true≢false (rw p at e))
    go false q e false p rest = ((λ l. active_rows d 0 r.id.0 rows ∙ p), rest (rw p at e))

pub live_twice_of_single : (d : ℕ) (rows : List Row) → LiveOnce (row_kind d) rows → live_twice rows ≡ false
unfolding live_twice
live_twice_of_single d [] h = refl
live_twice_of_single d (r ∷ rows) h = go r.deleted refl (live_twice_of_single d rows h.1)
  where
    go : (t : Bool) → r.deleted ≡ t → live_twice rows ≡ false → cond t (live_twice rows) (cond (active (row_kind 0) r.id.0 rows) true (live_twice rows)) ≡ false
    go true q e = e
    go false q e = ap (λ (b : Bool). cond b true (live_twice rows)) (active_rows 0 d r.id.0 rows ∙ h.0 q) ∙ e

pub single_seen : (d e : ℕ) (s log : List ℕ) (rows : List Row) → LiveOnce (row_kind d) rows → LiveOnce (record_kind e) (map (seen d s log) rows)
single_seen d e s log rows h = single_map (row_kind d) (record_kind e) (seen d s log) (λ r. refl) (λ r. refl) rows h

pub single_of_seen : (d e : ℕ) (s log : List ℕ) (rows : List Row) → LiveOnce (record_kind e) (map (seen d s log) rows) → LiveOnce (row_kind d) rows
single_of_seen d e s log rows h = single_of_map (row_kind d) (record_kind e) (seen d s log) (λ r. refl) (λ r. refl) rows h
