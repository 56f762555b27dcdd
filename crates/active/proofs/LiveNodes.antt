-- The live nodes of a table's first rows: how many they are, that each has its row, what their keys are, and that they rise when sorted exactly if no ID is live twice.
use Prim.Native.Nat.{ℕ, zero, suc, ◌+◌, ◌*◌, ◌<◌, ◌≤◌, zero-le}
use native.Mathlib.Nat.{le_of_suc-le-suc}
use native.Mathlib.Decide.{dec_lt, dec_le}
use native.Mathlib.Omega.{arith}
use mathlib.Core.Path.{◌≡◌, refl, sym, ap, ap₂, ◌∙◌}
use mathlib.Core.Bool.{Bool, true, false, not, cond, false≢true}
use mathlib.Core.List.{List, [], ◌∷◌, ◌++◌}
use mathlib.Core.Logic.{by_cases}
use borrow.Author.Tests.{lt-ltb, le-ltb, le-leb, lt-leb, eq-eqb, ne_eqb}
use lib.Dec.{ltb, eqb}
use lib.ListN.{length, get_or, get_or-append}
use Rattle.rows.specs.Rows.{row_from, row_of, row_at}
use Rattle.rows.specs.declared.Row.{Row}
use Rattle.sorting.specs.Sorting.{key_of, climbing, rising, occurrences, Each, insert_node, sorted_nodes, FirstInRows}
use Rattle.sorting.proofs.CountLaws.{count_cases}
use Rattle.sorting.proofs.OrderLaws.{Climbs, climbs}
use Rattle.sorting.proofs.InsertionLaws.{sorted_ordered}
use Rattle.sorting.proofs.KeyLaws.{sorted_by_keys}
use Rattle.meaning.specs.Replay.{active}
use Rattle.meaning.specs.Recovery.{live_count}
use Rattle.meaning.specs.Records.{row_kind}
use Rattle.meaning.specs.Snapshot.{live_twice}
use Rattle.meaning.specs.Tables.{row_words, rows_from, rows_in, live_from, live_nodes, active_nodes}

-- ---- rows from node k on whose IDs are the keys of their nodes
abbrev Keyed : List ℕ → ℕ → List Row → Type 0
Keyed words k [] = Unit {0}
Keyed words k (r ∷ rs) = (key_of words k ≡ r.id.0) × Keyed words (suc k) rs

-- the rows of a table
rows_keyed : (words : List ℕ) (n k : ℕ) → Keyed words k (rows_from n k words)
unfolding rows_from row_at row_of row_from
rows_keyed words zero k = tt
rows_keyed words (suc n) k = (refl, rows_keyed words n (suc k))

-- the words of rows
keyed_behind : (a b : ℕ) (words : List ℕ) (k : ℕ) (rows : List Row) → Keyed words k rows → Keyed (a ∷ b ∷ words) (suc k) rows
keyed_behind a b words k [] h = tt
keyed_behind a b words k (r ∷ rs) h =
    let e : 2 * suc k ≡ suc (suc (2 * k)) = omega arith in
    (ap (λ (i : ℕ). get_or (a ∷ b ∷ words) i 0) e ∙ h.0, keyed_behind a b words (suc k) rs h.1)

words_keyed : (rows : List Row) → Keyed (row_words rows) 0 rows
unfolding row_words
words_keyed [] = tt
words_keyed (r ∷ rs) = (refl, keyed_behind _ _ (row_words rs) 0 rs (words_keyed rs))

-- two tables have the same keys at the live nodes
live_keys : (a b : List ℕ) (k : ℕ) (rows : List Row) → Keyed a k rows → Keyed b k rows → Each (λ v. key_of a v ≡ key_of b v) (live_from k rows)
unfolding live_from occurrences
live_keys a b k [] p q v h = absurd (omega arith)
live_keys a b k (r ∷ rs) p q v h = go (live_keys a b (suc k) rs p.1 q.1 v) r.deleted h
  where
    go : (0 < occurrences v (live_from (suc k) rs) → key_of a v ≡ key_of b v)
        → (d : Bool) → 0 < occurrences v (cond d (live_from (suc k) rs) (k ∷ live_from (suc k) rs)) → key_of a v ≡ key_of b v
    go later true g = later g
    go later false g = count_cases v k (live_from (suc k) rs) g (λ e. ap (key_of a) e ∙ p.0 ∙ sym q.0 ∙ ap (key_of b) (sym e)) later

pub length_rows_from : (words : List ℕ) (n k : ℕ) → length (rows_from n k words) ≡ n
unfolding rows_from
length_rows_from words zero k = refl
length_rows_from words (suc n) k = ap suc (length_rows_from words n (suc k))

-- ---- how many, and which
length_live : (d : Bool) (k : ℕ) (l : List ℕ) → length (cond d l (k ∷ l)) ≡ cond d (length l) (suc (length l))
length_live true k l = refl
length_live false k l = refl

pub length_live_from : (k : ℕ) (rows : List Row) → length (live_from k rows) ≡ live_count rows
unfolding live_from live_count
length_live_from k [] = refl
length_live_from k (r ∷ rs) =
    length_live r.deleted k (live_from (suc k) rs)
    ∙ ap (λ (n : ℕ). cond r.deleted n (suc n)) (length_live_from (suc k) rs)

pub live_count_few : (rows : List Row) → live_count rows ≤ length rows
unfolding live_count
live_count_few [] = omega arith
live_count_few (r ∷ rs) = go r.deleted (live_count_few rs)
  where
    go : (d : Bool) → live_count rs ≤ length rs → cond d (live_count rs) (suc (live_count rs)) ≤ suc (length rs)
    go true h = omega arith
    go false h = omega arith

-- each is below the rows' end
live_below : (k : ℕ) (rows : List Row) (i : ℕ) → i < length (live_from k rows) → get_or (live_from k rows) i 0 < k + length rows
unfolding live_from
live_below k [] i h = absurd (omega arith)
live_below k (r ∷ rs) i h = go (λ j g. let b = live_below (suc k) rs j g in omega arith) r.deleted i h
  where
    go : ((j : ℕ) → j < length (live_from (suc k) rs) → get_or (live_from (suc k) rs) j 0 < k + suc (length rs))
        → (d : Bool) (j : ℕ) → j < length (cond d (live_from (suc k) rs) (k ∷ live_from (suc k) rs))
        → get_or (cond d (live_from (suc k) rs) (k ∷ live_from (suc k) rs)) j 0 < k + suc (length rs)
    go later true j g = later j g
    go later false zero g = omega arith
    go later false (suc j) g = later j (le_of_suc-le-suc g)

-- the first entries of a table that begins with the live nodes of the first rows
pub live_in_rows : (words rest : List ℕ) (count : ℕ) → 2 * count ≤ length words
    → FirstInRows words (length (live_nodes (rows_in count words))) (live_nodes (rows_in count words) ++ rest)
live_in_rows words rest count room i h =
    let live = live_nodes (rows_in count words) in
    let low : get_or live i 0 < 0 + length (rows_in count words) = live_below 0 (rows_in count words) i h in
    let n = length_rows_from words count 0 in
    let e : get_or (live ++ rest) i 0 ≡ get_or live i 0 = get_or-append live rest 0 i h in
    omega arith

-- ---- an ID among nodes
module _ (words : List ℕ) where
  unfoldable has_key : ℕ → List ℕ → Bool
  has_key id [] = false
  has_key id (v ∷ vs) = cond (eqb (key_of words v) id) true (has_key id vs)

  -- none below the first of a list in order
  no_key_below : (id low : ℕ) (xs : List ℕ) → Climbs 0 words low xs → id < low → has_key id xs ≡ false
  unfolding has_key Climbs
  no_key_below id low [] h l = refl
  no_key_below id low (x ∷ xs) h l =
      let first : low ≤ key_of words x = h.0 in
      let differs : key_of words x ≡ id → ⊥ = λ e. omega arith in
      rw (ne_eqb (key_of words x) id differs) (no_key_below id (key_of words x + 0) xs h.1 (omega arith))

  -- a key below the bound: the list does not climb from it
  key_below : (id low : ℕ) (xs : List ℕ) → has_key id xs ≡ true → id < low → climbing 1 words low xs ≡ false
  unfolding has_key climbing
  key_below id low [] e l = absurd (false≢true e)
  key_below id low (x ∷ xs) e l =
      by_cases (dec_le low (key_of words x))
      (λ g.
      let differs : key_of words x ≡ id → ⊥ = λ q. omega arith in
      let later : has_key id xs ≡ true = rw (ne_eqb (key_of words x) id differs) at e in
      rw (le-leb low (key_of words x) g) (key_below id (key_of words x + 1) xs later (omega arith)))
      (λ n. rw (lt-leb low (key_of words x) (omega arith)))

  either : (a b c : Bool) → cond a true (cond b true c) ≡ cond b true (cond a true c)
  either true true c = refl
  either true false c = refl
  either false true c = refl
  either false false c = refl

  insert_has : (id v : ℕ) (xs : List ℕ) → has_key id (insert_node words v xs) ≡ cond (eqb (key_of words v) id) true (has_key id xs)
  unfolding has_key insert_node
  insert_has id v [] = refl
  insert_has id v (x ∷ xs) = go (ltb (key_of words v) (key_of words x)) (insert_has id v xs)
    where
      go : (t : Bool) → has_key id (insert_node words v xs) ≡ cond (eqb (key_of words v) id) true (has_key id xs)
          → has_key id (cond t (v ∷ x ∷ xs) (x ∷ insert_node words v xs)) ≡ cond (eqb (key_of words v) id) true (cond (eqb (key_of words x) id) true (has_key id xs))
      go true h = refl
      go false h =
          ap (λ (b : Bool). cond (eqb (key_of words x) id) true b) h
          ∙ either (eqb (key_of words x) id) (eqb (key_of words v) id) (has_key id xs)

  nothing : (b : Bool) → cond b false false ≡ false
  nothing true = refl
  nothing false = refl

  -- a list in order rises after an insertion exactly if it rose and the key was not there
  insert_rises : (low low' v : ℕ) (xs : List ℕ) → Climbs 0 words low' xs → low ≤ key_of words v
      → climbing 1 words low (insert_node words v xs) ≡ cond (has_key (key_of words v) xs) false (climbing 1 words low xs)
  unfolding has_key climbing insert_node Climbs
  insert_rises low low' v [] h l = rw (le-leb low (key_of words v) l)
  insert_rises low low' v (x ∷ xs) h l =
      let kv = key_of words v in
      let kx = key_of words x in
      by_cases (dec_lt kv kx)
      (λ g.
      let differs : kx ≡ kv → ⊥ = λ q. omega arith in
      let none : has_key kv xs ≡ false = no_key_below kv (kx + 0) xs h.1 (omega arith) in
      rw (lt-ltb kv kx g, le-leb low kv l, le-leb (kv + 1) kx (omega arith), ne_eqb kx kv differs, none, le-leb low kx (omega arith)))
      (λ n.
      by_cases (dec_le low kx)
      (λ g.
      by_cases (dec_lt kx kv)
      (λ m.
      let differs : kx ≡ kv → ⊥ = λ q. omega arith in
      rw (le-ltb kv kx (omega arith), le-leb low kx g, ne_eqb kx kv differs) (insert_rises (kx + 1) (kx + 0) v xs h.1 (omega arith)))
      (λ m.
      let same : kx ≡ kv = omega arith in
      let here : has_key kv (insert_node words v xs) ≡ true = insert_has kv v xs ∙ rw (eq-eqb kv kv refl) in
      rw (le-ltb kv kx (omega arith), le-leb low kx g, eq-eqb kx kv same) (key_below kv (kx + 1) (insert_node words v xs) here (omega arith))))
      (λ m.
      rw (le-ltb kv kx (omega arith), lt-leb low kx (omega arith)) (sym (nothing (cond (eqb kx kv) true (has_key kv xs))))))

  -- ---- among the live nodes
  sorted_has : (id k : ℕ) (rows : List Row) → Keyed words k rows → has_key id (sorted_nodes words (live_from k rows)) ≡ active (row_kind 0) id rows
  unfolding has_key sorted_nodes live_from active
  sorted_has id k [] h = refl
  sorted_has id k (r ∷ rs) h = go r.deleted (sorted_has id (suc k) rs h.1)
    where
      go : (d : Bool) → has_key id (sorted_nodes words (live_from (suc k) rs)) ≡ active (row_kind 0) id rs
          → has_key id (sorted_nodes words (cond d (live_from (suc k) rs) (k ∷ live_from (suc k) rs))) ≡ cond (cond d false (eqb r.id.0 id)) true (active (row_kind 0) id rs)
      go true g = g
      go false g =
          insert_has id k (sorted_nodes words (live_from (suc k) rs))
          ∙ ap₂ (λ (a b : Bool). cond a true b) (ap (λ (x : ℕ). eqb x id) h.0) g

  refuted : (a b : Bool) → cond a false (not b) ≡ not (cond a true b)
  refuted true b = refl
  refuted false b = refl

  -- no ID is live twice exactly if the live nodes, sorted, rise
  sorted_rises : (k : ℕ) (rows : List Row) → Keyed words k rows → rising words (sorted_nodes words (live_from k rows)) ≡ not (live_twice rows)
  unfolding climbing sorted_nodes live_from live_twice
  sorted_rises k [] h = refl
  sorted_rises k (r ∷ rs) h = go r.deleted (sorted_rises (suc k) rs h.1)
    where
      S : List ℕ
      S = sorted_nodes words (live_from (suc k) rs)

      go : (d : Bool) → rising words S ≡ not (live_twice rs)
          → rising words (sorted_nodes words (cond d (live_from (suc k) rs) (k ∷ live_from (suc k) rs))) ≡ not (cond d (live_twice rs) (cond (active (row_kind 0) r.id.0 rs) true (live_twice rs)))
      go true g = g
      go false g =
          insert_rises 0 0 k S (climbs 0 words 0 S (sorted_ordered words (live_from (suc k) rs))) zero-le
          ∙ ap₂ (λ (a b : Bool). cond a false b) (ap (λ (x : ℕ). has_key x S) h.0 ∙ sorted_has r.id.0 (suc k) rs h.1) g
          ∙ refuted (active (row_kind 0) r.id.0 rs) (live_twice rs)

-- ---- of a table's first rows
module _ (words : List ℕ) (count : ℕ) where
  -- sorted by the table's keys or by those of the rows' own words
  pub table_sorted : sorted_nodes words (live_nodes (rows_in count words)) ≡ active_nodes (rows_in count words)
  table_sorted =
      let rows = rows_in count words in
      sorted_by_keys words (row_words rows) (live_nodes rows) (live_keys words (row_words rows) 0 rows (rows_keyed words count 0) (words_keyed rows))

  pub table_rises : rising words (sorted_nodes words (live_nodes (rows_in count words))) ≡ not (live_twice (rows_in count words))
  table_rises = sorted_rises words 0 (rows_in count words) (rows_keyed words count 0)
