-- Row words: their length, one row more, a row set behind those that are there, and the rows back from a table that has them behind a front of whole rows.
use Prim.Native.Nat.{ℕ, suc, ◌+◌, ◌*◌, ◌<◌}
use native.Mathlib.Nat.{le_of_suc-le-suc}
use native.Mathlib.Omega.{arith}
use mathlib.Core.Path.{◌≡◌, refl, sym, ap, ap₂, subst, ◌∙◌}
use mathlib.Core.List.{List, [], ◌∷◌, ◌++◌, append_assoc}
use lib.ListN.{length, get_or, set, drop, length-append}
use lib.Seq.{get_or-append-add}
use Rattle.rows.specs.Rows.{RowFits, row_word, row_of, row_at, set_row}
use Rattle.rows.proofs.RowLaws.{row_of_word}
use Rattle.rows.specs.declared.Row.{Row}
use Rattle.meaning.specs.Tables.{row_words, rows_from, rows_in}
use Rattle.meaning.specs.Every.{Every}

pub length_row_words : (rows : List Row) → length (row_words rows) ≡ 2 * length rows
unfolding row_words
length_row_words [] = refl
length_row_words (r ∷ rs) = let h = length_row_words rs in omega arith

-- what stands n places behind a front of known length
at_place : (front rest : List ℕ) (m n k : ℕ) → length front ≡ m → k ≡ m + n → get_or (front ++ rest) k 0 ≡ get_or rest n 0
at_place front rest m n k e p =
    ap (λ (i : ℕ). get_or (front ++ rest) i 0) (p ∙ ap (λ (i : ℕ). i + n) (sym e)) ∙ get_or-append-add front rest n 0

-- the row back from its two words
row_read : (front rest : List ℕ) (k : ℕ) (r : Row) → length front ≡ 2 * k → RowFits r
    → row_at (front ++ (r.id.0 ∷ row_word r ∷ rest)) k ≡ r
unfolding row_at
row_read front rest k r e p =
    let words : List ℕ = r.id.0 ∷ row_word r ∷ rest in
    let a : get_or (front ++ words) (2 * k) 0 ≡ r.id.0 = at_place front words (2 * k) 0 (2 * k) e (omega arith) in
    let b : get_or (front ++ words) (2 * k + 1) 0 ≡ row_word r = at_place front words (2 * k) 1 (2 * k + 1) e refl in
    ap₂ row_of a b ∙ row_of_word r p

-- the rows back from a table that has their words behind a front
pub rows_read : (front : List ℕ) (rows : List Row) (rest : List ℕ) (k : ℕ) → length front ≡ 2 * k → Every RowFits rows
    → rows_from (length rows) k (front ++ (row_words rows ++ rest)) ≡ rows
unfolding row_words rows_from
rows_read front [] rest k e all = refl
rows_read front (r ∷ rs) rest k e all =
    let two : List ℕ = r.id.0 ∷ row_word r ∷ [] in
    let next : length (front ++ two) ≡ 2 * suc k = length-append front two ∙ omega arith in
    let same : (front ++ two) ++ (row_words rs ++ rest) ≡ front ++ (row_words (r ∷ rs) ++ rest) = append_assoc front two (row_words rs ++ rest) in
    let more : rows_from (length rs) (suc k) (front ++ (row_words (r ∷ rs) ++ rest)) ≡ rs
    = ap (λ (l : List ℕ). rows_from (length rs) (suc k) l) (sym same) ∙ rows_read (front ++ two) rs rest (suc k) next all.1 in
    ap₂ ◌∷◌ (row_read front (row_words rs ++ rest) k r e all.0) more

-- ---- one row more
abbrev two_words : Row → List ℕ
two_words r = r.id.0 ∷ row_word r ∷ []

row_words_snoc : (rows : List Row) (r : Row) → row_words (rows ++ (r ∷ [])) ≡ row_words rows ++ two_words r
unfolding row_words
row_words_snoc [] r = refl
row_words_snoc (x ∷ xs) r = ap (λ (l : List ℕ). x.id.0 ∷ row_word x ∷ l) (row_words_snoc xs r)

-- ---- a table whose first words are P, and two words more
pair_next : (P o : List ℕ) (a b : ℕ) → suc (length P) < length o
    → set (set (P ++ drop (length P) o) (length P) a) (suc (length P)) b ≡ P ++ (a ∷ b ∷ drop (suc (suc (length P))) o)
pair_next [] [] a b h = absurd (omega arith)
pair_next [] (x ∷ []) a b h = absurd (omega arith)
pair_next [] (x ∷ y ∷ o) a b h = refl
pair_next (p ∷ P) [] a b h = absurd (omega arith)
pair_next (p ∷ P) (x ∷ o) a b h = ap (λ (l : List ℕ). p ∷ l) (pair_next P o a b (le_of_suc-le-suc h))

-- the rows before node i stand at the front of the table o; row i goes behind them
pub set_row_next : (done : List Row) (r : Row) (o : List ℕ) (i : ℕ) → length done ≡ i → 2 * i + 1 < length o
    → set_row (row_words done ++ drop (2 * i) o) i r ≡ row_words (done ++ (r ∷ [])) ++ drop (2 * (i + 1)) o
unfolding set_row
set_row_next done r o i n h =
    let P = row_words done in
    let w = row_word r in
    let e : length P ≡ 2 * i = length_row_words done ∙ ap (λ (k : ℕ). 2 * k) n in
    let k1 : suc (2 * i) ≡ 2 * i + 1 = omega arith in
    let k2 : suc (suc (2 * i)) ≡ 2 * (i + 1) = omega arith in
    let stored : set (set (P ++ drop (2 * i) o) (2 * i) r.id.0) (suc (2 * i)) w ≡ P ++ (r.id.0 ∷ w ∷ drop (suc (suc (2 * i))) o) =
    subst (λ (m : ℕ). suc m < length o → set (set (P ++ drop m o) m r.id.0) (suc m) w ≡ P ++ (r.id.0 ∷ w ∷ drop (suc (suc m)) o)) e (λ g. pair_next P o r.id.0 w g) (omega arith) in
    ap (λ (m : ℕ). set (set (P ++ drop (2 * i) o) (2 * i) r.id.0) m w) (sym k1)
    ∙ stored
    ∙ ap (λ (m : ℕ). P ++ (r.id.0 ∷ w ∷ drop m o)) k2
    ∙ sym (append_assoc P (two_words r) (drop (2 * (i + 1)) o))
    ∙ ap (λ (l : List ℕ). l ++ drop (2 * (i + 1)) o) (sym (row_words_snoc done r))

-- ---- the rows back from a table that begins with their words
pub rows_of_words : (rows : List Row) (rest : List ℕ) → Every RowFits rows → rows_in (length rows) (row_words rows ++ rest) ≡ rows
rows_of_words rows rest all = rows_read [] rows rest 0 refl all
