-- Lent tables: rows as words, the active nodes by rising ID, and zeros after.
use Rattle.std.specs.Prelude.{ℕ, zero, suc, ◌-◌, cond, List, [], ◌∷◌, ◌++◌, length, replicate}
use Rattle.rows.specs.Rows.{row_word, row_at}
use Rattle.rows.specs.declared.Row.{Row}
use Rattle.sorting.specs.Sorting.{sorted_nodes}

-- two words a row: the ID, then the packed word
unfoldable pub row_words : List Row → List ℕ
row_words [] = []
row_words (r ∷ rs) = r.id.0 ∷ row_word r ∷ row_words rs

-- the n rows of a table that is handed in, from node k on
unfoldable pub rows_from : ℕ → ℕ → List ℕ → List Row
rows_from zero k words = []
rows_from (suc n) k words = row_at words k ∷ rows_from n (suc k) words

abbrev pub rows_in : ℕ → List ℕ → List Row
rows_in n words = rows_from n 0 words

-- the live nodes in node order, among rows that begin at node k
unfoldable pub live_from : ℕ → List Row → List ℕ
live_from k [] = []
live_from k (r ∷ rs) = cond r.deleted (live_from (suc k) rs) (k ∷ live_from (suc k) rs)

abbrev pub live_nodes : List Row → List ℕ
live_nodes rows = live_from 0 rows

-- the live nodes by rising ID
abbrev pub active_nodes : List Row → List ℕ
active_nodes rows = sorted_nodes (row_words rows) (live_nodes rows)

-- a table of n words with these first, and zeros after; an accepted reading never has more than n
abbrev pub filled : ℕ → List ℕ → List ℕ
filled n words = words ++ replicate (n - length words) 0

-- row words and active entries
pub record Tables : Type 0 where
  pub rows : List ℕ
  pub active : List ℕ

-- a row per record, the active nodes by rising ID, and zeros after; as long as what was lent
abbrev pub tables_for : List ℕ → List ℕ → List Row → Tables
tables_for words entries rows = record { rows = filled (length words) (row_words rows); active = filled (length entries) (active_nodes rows) }
