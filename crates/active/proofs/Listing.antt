-- The loop that lists the live nodes: those found so far stand before those of the rows still to be seen.
use Prim.Native.Nat.{ℕ, suc, ◌+◌, ◌-◌, ◌<◌, ◌≤◌}
use native.Mathlib.Nat.{le_of_suc-le-suc}
use native.Mathlib.Numerals.{add-one}
use native.Mathlib.Omega.{arith}
use mathlib.Core.Path.{◌≡◌, refl, sym, ap, ap₂, subst, ◌∙◌}
use mathlib.Core.Bool.{Bool, true, false, cond}
use mathlib.Core.List.{List, [], ◌∷◌, ◌++◌, append_assoc, append-nil}
use lib.ListN.{length, set, drop, length-append, length-set}
use Rattle.rows.specs.Rows.{row_at}
use Rattle.rows.specs.declared.Row.{Row}
use Rattle.meaning.specs.Tables.{rows_from, rows_in, live_from, live_nodes}
use Rattle.meaning.proofs.TableSteps.{rows_next, rows_over}

set_next : (P o : List ℕ) (v : ℕ) → length P < length o → set (P ++ drop (length P) o) (length P) v ≡ P ++ (v ∷ drop (suc (length P)) o)
set_next [] [] v h = absurd (omega arith)
set_next [] (x ∷ o) v h = refl
set_next (p ∷ P) [] v h = absurd (omega arith)
set_next (p ∷ P) (x ∷ o) v h = ap (λ (l : List ℕ). p ∷ l) (set_next P o v (le_of_suc-le-suc h))

-- one entry behind those at the front of the table o
entry_next : (P o : List ℕ) (n v : ℕ) → n ≡ length P → n < length o → set (P ++ drop n o) n v ≡ P ++ (v ∷ []) ++ drop (n + 1) o
entry_next P o n v e h =
    subst (λ (m : ℕ). m < length o → set (P ++ drop m o) m v ≡ P ++ (v ∷ drop (suc m) o)) (sym e) (set_next P o v) h
    ∙ ap (λ (m : ℕ). P ++ (v ∷ drop m o)) (sym (add-one n))
    ∙ sym (append_assoc P (v ∷ []) (drop (n + 1) o))

pub record Listing (rows : List ℕ) (count : ℕ) (entries₀ entries : List ℕ) (n i : ℕ) : Type 0 where
  pub few : i ≤ count
  pub no_more : n ≤ i
  pub same_length : length entries ≡ length entries₀
  pub done : List ℕ
  pub n_is : n ≡ length done
  pub words : entries ≡ done ++ drop n entries₀
  pub whole : live_nodes (rows_in count rows) ≡ done ++ live_from i (rows_from (count - i) i rows)

module _ (rows : List ℕ) (count : ℕ) (entries₀ : List ℕ) where
  -- the live nodes from node j on
  abbrev rest : ℕ → List ℕ
  rest j = live_from j (rows_from (count - j) j rows)

  pub listing_none : Listing rows count entries₀ entries₀ 0 0
  listing_none =
      record {
        few = omega arith;
        no_more = omega arith;
        same_length = refl;
        done = [];
        n_is = refl;
        words = refl;
        whole = ap (λ (m : ℕ). live_from 0 (rows_from m 0 rows)) (omega arith);
      }

  module _ (entries : List ℕ) (n i : ℕ) (k : Listing rows count entries₀ entries n i) where
    turn : i < count → (t : Bool) → (row_at rows i).deleted ≡ t
        → live_from i (rows_from (count - i) i rows) ≡ cond t (rest (i + 1)) (i ∷ rest (i + 1))
    unfolding live_from
    turn h t e =
        ap (live_from i) (rows_next rows count i h)
        ∙ ap₂ (λ (x : Bool) (j : ℕ). cond x (live_from j (rows_from (count - (i + 1)) (i + 1) rows)) (i ∷ live_from j (rows_from (count - (i + 1)) (i + 1) rows))) e (sym (add-one i))

    -- a deleted node is passed over
    pub listing_skip : i < count → (row_at rows i).deleted ≡ true → Listing rows count entries₀ entries n (i + 1)
    listing_skip h e =
        let no_more = k.no_more in
        record {
          few = omega arith;
          no_more = omega arith;
          same_length = k.same_length;
          done = k.done;
          n_is = k.n_is;
          words = k.words;
          whole = k.whole ∙ ap (λ (l : List ℕ). k.done ++ l) (turn h true e);
        }

    -- a live node is put behind the others
    pub listing_more : i < count → count ≤ length entries₀ → (row_at rows i).deleted ≡ false → Listing rows count entries₀ (set entries n i) (n + 1) (i + 1)
    listing_more h room e =
        let no_more = k.no_more in
        record {
          few = omega arith;
          no_more = omega arith;
          same_length = length-set entries n i ∙ k.same_length;
          done = k.done ++ (i ∷ []);
          n_is = ap (λ (m : ℕ). m + 1) k.n_is ∙ sym (length-append k.done (i ∷ []));
          words = ap (λ (l : List ℕ). set l n i) k.words ∙ entry_next k.done entries₀ n i k.n_is (omega arith);
          whole =
              k.whole
              ∙ ap (λ (l : List ℕ). k.done ++ l) (turn h false e)
              ∙ sym (append_assoc k.done (i ∷ []) (rest (i + 1)));
        }

    all : count ≤ i → live_nodes (rows_in count rows) ≡ k.done
    unfolding live_from
    all h = k.whole ∙ ap (λ (l : List Row). k.done ++ live_from i l) (rows_over rows count i h) ∙ append-nil k.done

    -- at the end
    pub listing_count : count ≤ i → n ≡ length (live_nodes (rows_in count rows))
    listing_count h = k.n_is ∙ ap length (sym (all h))

    pub listing_words : count ≤ i → entries ≡ live_nodes (rows_in count rows) ++ drop n entries₀
    listing_words h = k.words ∙ ap (λ (d : List ℕ). d ++ drop n entries₀) (sym (all h))
