-- What the operations of `tree` mean for the rows that a table holds.
use Prim.Native.Nat.{ℕ, suc, ◌+◌, ◌*◌, ◌≤◌}
use native.Mathlib.Numerals.{add-one}
use native.Mathlib.Omega.{arith}
use mathlib.Core.Bool.{Bool, true, false, cond}
use mathlib.Core.List.{List, [], ◌∷◌, ◌++◌, append_assoc}
use mathlib.Core.Path.{◌≡◌, refl, sym, ap, ap₂, ◌∙◌, subst}
use lib.Dec.{ltb}
use lib.ListN.{length, set, take, drop, take-append-drop, length-append, length-set}
use lib.Seq.{take_at, take-suc-set}
use borrow.Author.Tests.{lt-ltb}
use Rattle.meaning.specs.Every.{Every}
use Rattle.meaning.specs.Replay.{active, mark, live_as, size}
use Rattle.rows.specs.Rows.{RowFits, row_word}
use Rattle.rows.specs.declared.Row.{Row}
use Rattle.meaning.specs.Records.{row_kind, delete_row}
use Rattle.meaning.specs.Snapshot.{live_twice}
use Rattle.meaning.specs.Tables.{row_words}
use Rattle.meaning.proofs.RowWords.{length_row_words}
use Rattle.links.specs.Links.{plain_rows, caption_freed, marked, put_at}
use Rattle.tree.specs.declared.Tree.{Tree}
use Rattle.tree.specs.Grown.{Finds, found, none, Once, Added, Marked}
use Rattle.links.proofs.PlainLaws.{plain_take, length_plain}
use Rattle.tree_meaning.specs.Holds.{Holds}
use Rattle.tree_meaning.proofs.RowFacts.{plain_row, delete_packs}
use Rattle.tree_meaning.specs.Spares.{Spares}
use Rattle.tree_meaning.proofs.FrontRows.{none_active, none_marked, found_marks, live_active, once_rows, rows_once}

pub length_mark : (d id : ℕ) (rows : List Row) → length (mark (row_kind d) id rows) ≡ length rows
unfolding mark
length_mark d id [] = refl
length_mark d id (r ∷ rs) = ap suc (length_mark d id rs)

pub mark_packs : (d id : ℕ) (rows : List Row) → Every RowFits rows → Every RowFits (mark (row_kind d) id rows)
unfolding mark
mark_packs d id [] all = tt
mark_packs d id (r ∷ rs) all = (go (live_as (row_kind d) id r), mark_packs d id rs all.1)
  where
    go : (b : Bool) → RowFits (cond b (delete_row r) r)
    go true = delete_packs r all.0
    go false = all.0

-- a table is its rows and the rest
pub parted : (words : List ℕ) (rows : List Row) → Holds words rows → words ≡ row_words rows ++ drop (2 * length rows) words
parted words rows h = sym (take-append-drop (2 * length rows) words) ∙ ap (λ (l : List ℕ). l ++ drop (2 * length rows) words) h

pub holds_front : (rows : List Row) (rest : List ℕ) → Holds (row_words rows ++ rest) rows
holds_front rows rest = take_at (row_words rows) rest (2 * length rows) (length_row_words rows)

-- a search that found the live row of an ID, or that there is none, said whether the ID is active
pub finds_active : (d : ℕ) (words : List ℕ) (rows : List Row) (id u : ℕ) → Every RowFits rows → Holds words rows → Finds words (length rows) id u → active (row_kind d) id rows ≡ ltb 0 u
finds_active d words rows id u all h f =
    go u (subst (λ (l : List ℕ). Finds l (length rows) id u) (parted words rows h) f)
  where
    go : (v : ℕ) → Finds (row_words rows ++ drop (2 * length rows) words) (length rows) id v → active (row_kind d) id rows ≡ ltb 0 v
    go v (found p q l e) = live_active d id (drop (2 * length rows) words) rows all v p q l e ∙ sym (lt-ltb 0 v p)
    go v (none a) = none_active d id (drop (2 * length rows) words) rows all a

-- what marking the row that a search found comes to: the rows are marked as replay marks them, and the caption's length goes off their size
pub record MarkMeans (d : ℕ) (words : List ℕ) (rows : List Row) (id u : ℕ) : Type 0 where
  pub holds : Holds (marked words u) (mark (row_kind d) id rows)
  pub sizes : size (row_kind d) (mark (row_kind d) id rows) + caption_freed words u ≡ size (row_kind d) rows

pub mark_means : (d : ℕ) (words : List ℕ) (rows : List Row) (id u : ℕ) → Every RowFits rows → Holds words rows → Once words (length rows) → Finds words (length rows) id u
    → MarkMeans d words rows id u
unfolding caption_freed marked
mark_means d words rows id u all h once f =
    subst (λ (l : List ℕ). MarkMeans d l rows id u) (sym e)
    (go u (subst (λ (l : List ℕ). Finds l (length rows) id u) e f))
  where
    e : words ≡ row_words rows ++ drop (2 * length rows) words
    e = parted words rows h

    go : (v : ℕ) → Finds (row_words rows ++ drop (2 * length rows) words) (length rows) id v → MarkMeans d (row_words rows ++ drop (2 * length rows) words) rows id v
    go v (found p q l i) =
        let rest : List ℕ = drop (2 * length rows) words in
        let m = found_marks d id rest rows all (subst (λ (x : List ℕ). Once x (length rows)) e once) v p q l i in
        record {
          holds = ap (take (2 * length (mark (row_kind d) id rows))) m.words ∙ holds_front (mark (row_kind d) id rows) rest;
          sizes = m.sizes;
        }
    go v (none a) =
        let rest : List ℕ = drop (2 * length rows) words in
        let k : mark (row_kind d) id rows ≡ rows = none_marked d id rest rows all a in
        record {
          holds = subst (λ (rs : List Row). Holds (row_words rows ++ rest) rs) (sym k) (holds_front rows rest);
          sizes = ap (λ (rs : List Row). size (row_kind d) rs + 0) k ∙ omega arith;
        }

words_append : (rows : List Row) (r : Row) → row_words (rows ++ (r ∷ [])) ≡ row_words rows ++ (r.id.0 ∷ row_word r ∷ [])
unfolding row_words
words_append [] r = refl
words_append (x ∷ xs) r = ap (λ (l : List ℕ). x.id.0 ∷ row_word x ∷ l) (words_append xs r)

take_put : (words : List ℕ) (n id word : ℕ) → 2 * n + 2 ≤ length words → take (suc (2 * n + 1)) (put_at words n id word) ≡ take (2 * n) words ++ (id ∷ word ∷ [])
unfolding put_at
take_put words n id word room =
    let l = length-set words (2 * n) id in
    take-suc-set (set words (2 * n) id) (2 * n + 1) word (omega arith)
    ∙ ap (λ (l : List ℕ). l ++ (word ∷ [])) (ap (λ (k : ℕ). take k (set words (2 * n) id)) (add-one (2 * n)) ∙ take-suc-set words (2 * n) id (omega arith))
    ∙ append_assoc (take (2 * n) words) (id ∷ []) (word ∷ [])

-- a row put at the end
pub put_means : (words : List ℕ) (rows : List Row) (r : Row) → 2 * length rows + 2 ≤ length words → Holds words rows
    → Holds (put_at words (length rows) r.id.0 (row_word r)) (rows ++ (r ∷ []))
put_means words rows r room h =
    let n : ℕ = length rows in
    let l = length-append rows (r ∷ []) in
    let e : 2 * length (rows ++ (r ∷ [])) ≡ suc (2 * length rows + 1) = omega arith in
    ap (λ (k : ℕ). take k (put_at words (length rows) r.id.0 (row_word r))) e
    ∙ take_put words (length rows) r.id.0 (row_word r) room
    ∙ ap (λ (l : List ℕ). l ++ (r.id.0 ∷ row_word r ∷ [])) h
    ∙ sym (words_append rows r)

plain_words : (rows : List Row) → Every Spares rows → plain_rows (row_words rows) ≡ row_words rows
unfolding plain_rows row_words
plain_words [] all = refl
plain_words (r ∷ rs) all = ap₂ (λ (w : ℕ) (l : List ℕ). r.id.0 ∷ w ∷ l) (plain_row r all.0) (plain_words rs all.1)

-- rows that leave the spare bits free are plain
pub holds_plain : (words : List ℕ) (rows : List Row) → Every Spares rows → Holds words rows → Holds (plain_rows words) rows
holds_plain words rows all h = sym (plain_take words (length rows)) ∙ ap plain_rows h ∙ plain_words rows all

-- a table whose rows have no ID live twice, as every snapshot that is read
pub once_means : (words : List ℕ) (rows : List Row) → Every RowFits rows → Holds words rows → live_twice rows ≡ false → Once words (length rows)
once_means words rows all h t = subst (λ (l : List ℕ). Once l (length rows)) (sym (parted words rows h)) (once_rows rows (drop (2 * length rows) words) all t)

-- and the other way round
pub means_once : (words : List ℕ) (rows : List Row) → Every RowFits rows → Holds words rows → Once words (length rows) → live_twice rows ≡ false
means_once words rows all h once = rows_once rows (drop (2 * length rows) words) all (subst (λ (l : List ℕ). Once l (length rows)) (parted words rows h) once)

-- ---- the same for what the code promises

pub marked_table : (d : ℕ) (words words' : List ℕ) (rows : List Row) (id u freed : ℕ) → Marked words words' u freed
    → Every RowFits rows → Holds (plain_rows words) rows → Once (plain_rows words) (length rows) → Finds (plain_rows words) (length rows) id u
    → Holds (plain_rows words') (mark (row_kind d) id rows) × (size (row_kind d) (mark (row_kind d) id rows) + freed ≡ size (row_kind d) rows)
marked_table d words words' rows id u freed m all h once f =
    let k = mark_means d (plain_rows words) rows id u all h once f in (
      subst (λ (l : List ℕ). Holds l (mark (row_kind d) id rows)) (sym m.rows) k.holds,
      ap (λ (n : ℕ). size (row_kind d) (mark (row_kind d) id rows) + n) m.freed ∙ k.sizes,
    )

pub added_table : (t : Tree) (words entries : List ℕ) (t' : Tree) (words' entries' : List ℕ) (rows : List Row) (r : Row)
    → Added t words entries t' words' entries' r.id.0 (row_word r) → t.count ≡ length rows → Spares r → 2 * t.count + 2 ≤ length words
    → Holds (plain_rows words) rows → Holds (plain_rows words') (rows ++ (r ∷ []))
added_table t words entries t' words' entries' rows r a n spares room h =
    let l = length_plain words in
    subst (λ (x : List ℕ). Holds x (rows ++ (r ∷ [])))
    (sym (a.rows ∙ ap₂ (λ (k w : ℕ). put_at (plain_rows words) k r.id.0 w) n (plain_row r spares)))
    (put_means (plain_rows words) rows r (omega arith) h)

pub finished_table : (n : ℕ) (words words' : List ℕ) (rows : List Row) → words' ≡ take (2 * n) (plain_rows words) ++ drop (2 * n) words → n ≡ length rows
    → Holds (plain_rows words) rows → words' ≡ row_words rows ++ drop (2 * length rows) words
finished_table n words words' rows e k h =
    e ∙ ap (λ (x : ℕ). take (2 * x) (plain_rows words) ++ drop (2 * x) words) k ∙ ap (λ (l : List ℕ). l ++ drop (2 * length rows) words) h
