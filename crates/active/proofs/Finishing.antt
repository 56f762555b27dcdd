-- The last step over a table: what the entries hold once the live nodes are listed and sorted and zeros are behind, and the row words with zeros behind.
use Rattle.std.specs.Prelude.{Ok, Err}
use Prim.Native.Nat.{ℕ, suc, ◌*◌, ◌-◌, ◌≤◌}
use native.Mathlib.Omega.{arith}
use mathlib.Core.Path.{◌≡◌, refl, sym, ap, ap₂, subst, ◌∙◌}
use mathlib.Core.Bool.{Bool, true, false, not, cond}
use mathlib.Core.List.{List, [], ◌∷◌, ◌++◌}
use lib.Dec.{ltb}
use lib.ListN.{length, take, drop, replicate}
use lib.Seq.{take-append_seam}
use Rattle.sorting.specs.Sorting.{key_of, rising, insert_node, sorted_nodes, FirstInRows}
use Rattle.rows.specs.declared.Row.{Row}
use Rattle.refusal.specs.Refusal.{◌>>=◌, refuse}
use Rattle.refusal.specs.declared.Refusal.{Refusal}
use Rattle.refusal.specs.declared.Refusal.TheVariants.{ActiveTwice}
use Rattle.refusal.proofs.Results.{went, answer_injective, refused_no_answer}
use Rattle.meaning.specs.Recovery.{live_count}
use Rattle.meaning.specs.Snapshot.{live_twice}
use Rattle.meaning.specs.Tables.{row_words, rows_in, live_nodes, active_nodes, filled}
use Rattle.meaning.proofs.RowWords.{length_row_words}
use Rattle.active.specs.Active.{activated, zeros_from, left_rows, left_entries}
use Rattle.active.proofs.LiveNodes.{length_rows_from, length_live_from, live_count_few, live_in_rows, table_sorted, table_rises}

length_insert : (words : List ℕ) (v : ℕ) (xs : List ℕ) → length (insert_node words v xs) ≡ suc (length xs)
unfolding insert_node
length_insert words v [] = refl
length_insert words v (x ∷ xs) = go (ltb (key_of words v) (key_of words x)) (length_insert words v xs)
  where
    go : (t : Bool) → length (insert_node words v xs) ≡ suc (length xs) → length (cond t (v ∷ x ∷ xs) (x ∷ insert_node words v xs)) ≡ suc (suc (length xs))
    go true h = refl
    go false h = ap suc h

length_sorted : (words vs : List ℕ) → length (sorted_nodes words vs) ≡ length vs
unfolding sorted_nodes
length_sorted words [] = refl
length_sorted words (v ∷ vs) = length_insert words v (sorted_nodes words vs) ∙ ap suc (length_sorted words vs)

take_front : (n : ℕ) (P rest : List ℕ) → n ≡ length P → take n (P ++ rest) ≡ P
take_front n P rest e = ap (λ (m : ℕ). take m (P ++ rest)) e ∙ take-append_seam P rest

-- a table whose first words are P, with zeros behind them
zeros_behind : (n : ℕ) (P rest words : List ℕ) → words ≡ P ++ rest → n ≡ length P → zeros_from n words ≡ filled (length words) P
zeros_behind n P rest words is e =
    ap₂ (λ (l : List ℕ) (k : ℕ). l ++ replicate (length words - k) 0) (ap (take n) is ∙ take_front n P rest e) e

-- the rows' words stay
rows_kept : (rows : List Row) (words rest : List ℕ) (n : ℕ) → n ≡ length rows → words ≡ row_words rows ++ rest
    → zeros_from (2 * n) words ≡ filled (length words) (row_words rows)
rows_kept rows words rest n counted is =
    zeros_behind (2 * n) (row_words rows) rest words is (ap (λ (k : ℕ). 2 * k) counted ∙ sym (length_row_words rows))

-- ---- the live nodes of the first rows stand at the front of the entries
pub record Listed (words : List ℕ) (count : ℕ) (entries₀ entries : List ℕ) (n : ℕ) : Type 0 where
  pub n_is : n ≡ length (live_nodes (rows_in count words))
  pub listed : entries ≡ live_nodes (rows_in count words) ++ drop n entries₀

module _ (words : List ℕ) (count : ℕ) (entries₀ entries₁ : List ℕ) (n : ℕ) (l : Listed words count entries₀ entries₁ n) where
  abbrev live : List ℕ
  live = live_nodes (rows_in count words)

  pub entries_count : n ≡ live_count (rows_in count words)
  entries_count = l.n_is ∙ length_live_from 0 (rows_in count words)

  pub entries_few : n ≤ count
  entries_few = omega (arith, entries_count, live_count_few (rows_in count words), length_rows_from words count 0)

  front_live : take n entries₁ ≡ live
  front_live = ap (take n) l.listed ∙ take_front n live (drop n entries₀) l.n_is

  pub entries_in_rows : 2 * count ≤ length words → FirstInRows words n entries₁
  entries_in_rows h =
      subst (λ (m : ℕ). FirstInRows words m entries₁) (sym l.n_is)
      (subst (FirstInRows words (length live)) (sym l.listed) (live_in_rows words (drop n entries₀) count h))

  pub entries_rise : rising words (sorted_nodes words (take n entries₁)) ≡ not (live_twice (rows_in count words))
  entries_rise = ap (λ (l : List ℕ). rising words (sorted_nodes words l)) front_live ∙ table_rises words count

  pub entries_active : (entries₂ : List ℕ) → length entries₂ ≡ length entries₀
      → entries₂ ≡ sorted_nodes words (take n entries₁) ++ drop n entries₁
      → zeros_from n entries₂ ≡ filled (length entries₀) (active_nodes (rows_in count words))
  entries_active entries₂ kept sorted =
      let nodes = active_nodes (rows_in count words) in
      let s : sorted_nodes words (take n entries₁) ≡ nodes = ap (sorted_nodes words) front_live ∙ table_sorted words count in
      let m : n ≡ length nodes = l.n_is ∙ sym (length_sorted words live) ∙ ap length (table_sorted words count) in
      zeros_behind n nodes (drop n entries₁) entries₂ (sorted ∙ ap (λ (x : List ℕ). x ++ drop n entries₁) s) m
      ∙ ap (λ (k : ℕ). filled k nodes) kept

-- ---- what the answer says of the rows
pub record Live (rows : List Row) (n : ℕ) : Type 0 where
  pub once : live_twice rows ≡ false
  pub count_is : n ≡ live_count rows

pub activated_live : (rows : List Row) (n : ℕ) → activated rows ≡ Ok n → Live rows n
activated_live rows n e =
    let w = went ActiveTwice (live_twice rows) _ n e in
    record { once = w.test_false; count_is = sym (answer_injective _ n w.then) }

pub activated_twice : (rows : List Row) (why : Refusal) → activated rows ≡ Err why → live_twice rows ≡ true
activated_twice rows why e = go (live_twice rows) refl e
  where
    go : (t : Bool) → live_twice rows ≡ t → refuse ActiveTwice t >>= (λ _. Ok (live_count rows)) ≡ Err why → live_twice rows ≡ true
    go true q e = q
    go false q e = absurd (refused_no_answer why _ (sym e))

-- ---- what is left of a table that begins with the words of its rows, and of the entries
module _ (rows : List Row) (count : ℕ) (words entries : List ℕ) (read : rows_in count words ≡ rows) where
  pub rows_left : live_twice rows ≡ false → count ≡ length rows → (rest : List ℕ) → words ≡ row_words rows ++ rest
      → left_rows count words ≡ filled (length words) (row_words rows)
  rows_left t n rest is = rw (read, t) (rows_kept rows words rest count n is)

  pub entries_left : live_twice rows ≡ false → left_entries count words entries ≡ filled (length entries) (active_nodes rows)
  entries_left t = rw (read, t)

  pub rows_cleared : live_twice rows ≡ true → left_rows count words ≡ replicate (length words) 0
  rows_cleared t = rw (read, t)

  pub entries_cleared : live_twice rows ≡ true → left_entries count words entries ≡ replicate (length entries) 0
  entries_cleared t = rw (read, t)
