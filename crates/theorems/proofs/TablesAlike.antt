-- Two accepted snapshots that differ only in the captions of deleted records recover, with one log and equal tables lent, to the same
-- tables, row offsets excepted: whether recovery accepts or refuses.
use Rattle.std.specs.Prelude.{Ok}
use Prim.Native.Nat.{ℕ, zero, suc, ◌+◌, ◌*◌, ◌-◌}
use native.Mathlib.Omega.{arith}
use mathlib.Core.Path.{◌≡◌, refl, sym, ap, ap₂, ◌∙◌}
use mathlib.Core.List.{List, [], ◌∷◌, ◌++◌, map}
use lib.ListN.{length, get_or, replicate, length-map, length-append, length-replicate, get_or-map}
use Rattle.fields.specs.Fields.{Bytes}
use Rattle.rows.specs.Lent.{rows_lent}
use Rattle.rows.specs.Rows.{row_of, row_at, row_word, RowFits}
use Rattle.rows.proofs.RowLaws.{row_of_word}
use Rattle.rows.specs.declared.Row.{Row}
use Rattle.meaning.specs.Snapshot.{Snapshot, read_snapshot}
use Rattle.meaning.specs.Tables.{Tables, row_words, active_nodes, filled, tables_for}
use Rattle.meaning.specs.Recovery.{Recovery, recovered, refused_snapshot, refused_log, recover, rows_of}
use Rattle.meaning.specs.Calls.{recover_call, recover_tables}
use Rattle.meaning.specs.Every.{Every}
use Rattle.meaning.proofs.RowWords.{length_row_words}
use Rattle.theorems.proofs.Written.{recovered_packs}
use Rattle.theorems.specs.DeletedCaptions.{DifferInDeleted, placeless, without_places, SameButPlaces}
use Rattle.theorems.proofs.RecoverAlike.{placeless_active, deleted_captions_answer}

-- ---- the rows of a filled table, and zeros behind them
zero_there : (m k : ℕ) → ◌≡◌ {A = ℕ} (get_or (replicate m 0) k 0) 0
zero_there zero k = refl
zero_there (suc m) zero = refl
zero_there (suc m) (suc k) = zero_there m k

row_there : (rows : List Row) (m node : ℕ) → Every RowFits rows → row_at (row_words rows ++ replicate m 0) node ≡ get_or rows node (row_of 0 0)
unfolding row_at row_words
row_there [] m node p = ap₂ row_of (zero_there m (2 * node)) (zero_there m (2 * node + 1))
row_there (r ∷ rs) m zero p = row_of_word r p.0
row_there (r ∷ rs) m (suc n) p =
    let words : List ℕ = r.id.0 ∷ row_word r ∷ (row_words rs ++ replicate m 0) in
    let i : 2 * suc n ≡ suc (suc (2 * n)) = omega arith in
    let j : 2 * suc n + 1 ≡ suc (suc (2 * n + 1)) = omega arith in
    ap₂ (λ (x y : ℕ). row_of (get_or words x 0) (get_or words y 0)) i j ∙ row_there rs m n p.1

module _ (words entries : List ℕ) (rows rows' : List Row) (packs : Every RowFits rows) (packs' : Every RowFits rows') (same : map placeless rows ≡ map placeless rows') where
  tables_same : SameButPlaces (tables_for words entries rows) (tables_for words entries rows')
  tables_same =
      let n = length words in
      let blank = row_of 0 0 in
      let pad = n - length (row_words rows) in
      let pad' = n - length (row_words rows') in
      let count : length rows ≡ length rows' = sym (length-map rows placeless) ∙ ap length same ∙ length-map rows' placeless in
      record {
        same_length =
            length-append (row_words rows) (replicate pad 0)
            ∙ omega (arith, count, length_row_words rows, length_row_words rows', length-replicate {A = ℕ} pad 0, length-replicate {A = ℕ} pad' 0)
            ∙ sym (length-append (row_words rows') (replicate pad' 0));
        same_rows =
            λ node.
            ap placeless (row_there rows pad node packs)
            ∙ sym (get_or-map placeless rows node blank)
            ∙ ap (λ (l : List Row). get_or l node (placeless blank)) same
            ∙ get_or-map placeless rows' node blank
            ∙ sym (ap placeless (row_there rows' pad' node packs'));
        same_active = ap (filled (length entries)) (sym (placeless_active rows) ∙ ap active_nodes same ∙ placeless_active rows');
      }

unchanged : (t : Tables) → SameButPlaces t t
unchanged t = record { same_length = refl; same_rows = λ node. refl; same_active = refl }

rows_or : Recovery → List Row
rows_or (recovered r) = rows_of r
rows_or (refused_snapshot why) = []
rows_or (refused_log why at) = []

pub deleted_captions_tables : (words entries s s' log : List ℕ) (x y : Snapshot) → Bytes s → Bytes s' → Bytes log → DifferInDeleted s s'
    → read_snapshot (rows_lent words entries) s ≡ Ok x → read_snapshot (rows_lent words entries) s' ≡ Ok y
    → SameButPlaces (recover_tables words entries (recover_call words entries s log)) (recover_tables words entries (recover_call words entries s' log))
unfolding rows_or
deleted_captions_tables words entries s s' log x y bs bs' bl k e e' =
    go (recover lent s log) (recover lent s' log) refl refl (deleted_captions_answer lent s s' log x y k e e')
  where
    lent : ℕ
    lent = rows_lent words entries

    none : (n : ◌≡◌ {A = ℕ} 0 1) → ⊥
    none n = omega arith

    go : (o o' : Recovery) → recover lent s log ≡ o → recover lent s' log ≡ o' → without_places o ≡ without_places o'
        → SameButPlaces (recover_tables words entries o) (recover_tables words entries o')
    go (recovered r) (recovered r') a a' same =
        tables_same words entries (rows_of r) (rows_of r') (recovered_packs lent s log r bs bl a) (recovered_packs lent s' log r' bs' bl a') (ap rows_or same)
    go (recovered r) (refused_snapshot why) a a' same = absurd (none cc)
    go (recovered r) (refused_log why at) a a' same = absurd (none cc)
    go (refused_snapshot why) (recovered r) a a' same = absurd (none cc)
    go (refused_log why at) (recovered r) a a' same = absurd (none cc)
    go (refused_snapshot why) (refused_snapshot why') a a' same = unchanged (tables_for words entries [])
    go (refused_snapshot why) (refused_log why' at) a a' same = unchanged (tables_for words entries [])
    go (refused_log why at) (refused_snapshot why') a a' same = unchanged (tables_for words entries [])
    go (refused_log why at) (refused_log why' at') a a' same = unchanged (tables_for words entries [])
