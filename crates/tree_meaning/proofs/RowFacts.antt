-- A row's word, as the tree reads it: all that is said here of the widths of a row's fields.
use Prim.Native.Nat.{ℕ, ◌+◌, ◌*◌, ◌/◌, ◌%◌, ◌<◌}
use native.Mathlib.Omega.{arith}
use mathlib.Core.Bool.{Bool, true, false}
use mathlib.Core.Path.{◌≡◌, refl, sym, ap, ◌∙◌}
use Rattle.rows.specs.Rows.{bit, row_word, RowFits}
use Rattle.rows.proofs.RowLaws.{row_word_sum}
use Rattle.rows.specs.declared.Row.{Row}
use Rattle.meaning.specs.Records.{delete_row}
use Rattle.tree_meaning.specs.Spares.{Spares}
use Rattle.links.specs.Links.{spare, deleted_unit, plain_word, deleted_word, caption_length}

bit_small : (b : Bool) → bit b < 2
bit_small true = omega arith
bit_small false = omega arith

-- a word below the bit of deleted rows is a live row's
pub live_row : (r : Row) → RowFits r → row_word r < deleted_unit → r.deleted ≡ false
live_row r p h = go r.deleted refl
  where
    go : (b : Bool) → r.deleted ≡ b → r.deleted ≡ false
    go false e = e
    go true e =
        let s = row_word_sum r in
        let k : bit r.deleted ≡ 1 = ap bit e in
        absurd (omega arith)

pub row_live : (r : Row) → RowFits r → r.deleted ≡ false → row_word r < deleted_unit
row_live r p e =
    let s = row_word_sum r in
    let k : bit r.deleted ≡ 0 = ap bit e in
    let b = bit_small r.from_log in
    let c : r.caption_length < 32768 = p.caption_fits in
    let a : r.at < 140737488355328 = p.at_fits in
    omega arith

caption_of : (w h s c a : ℕ) → w ≡ h * 9223372036854775808 + s * 4611686018427387904 + c * 140737488355328 + a → s < 2 → c < 32768 → a < 140737488355328 → caption_length w ≡ c
unfolding caption_length
caption_of w h s c a e x y z = omega arith

pub caption_row : (r : Row) → RowFits r → caption_length (row_word r) ≡ r.caption_length
caption_row r p = caption_of (row_word r) (bit r.deleted) (bit r.from_log) r.caption_length r.at (row_word_sum r) (bit_small r.from_log) p.caption_fits p.at_fits

deleted_of : (w s c a : ℕ) → w ≡ s * 4611686018427387904 + c * 140737488355328 + a → s < 2 → c < 32768 → a < 140737488355328
    → deleted_word w ≡ 1 * 9223372036854775808 + s * 4611686018427387904 + 0 * 140737488355328 + a
unfolding deleted_word
deleted_of w s c a e x y z =
    let k : w / 4611686018427387904 % 2 ≡ s = omega arith in
    let l : w % 140737488355328 ≡ a = omega arith in
    omega arith

-- the word of a live row, marked, is the deleted row's
pub deleted_row : (r : Row) → RowFits r → r.deleted ≡ false → deleted_word (row_word r) ≡ row_word (delete_row r)
deleted_row r p e =
    let s = row_word_sum r in
    let k : bit r.deleted ≡ 0 = ap bit e in
    deleted_of (row_word r) (bit r.from_log) r.caption_length r.at (omega arith) (bit_small r.from_log) p.caption_fits p.at_fits
    ∙ sym (row_word_sum (delete_row r))

pub delete_packs : (r : Row) → RowFits r → RowFits (delete_row r)
delete_packs r p = record { caption_fits = omega arith; at_fits = p.at_fits }

plain_of : (w k a : ℕ) → w ≡ k * 140737488355328 + a → a < spare → plain_word w ≡ w
unfolding plain_word
plain_of w k a e h = omega arith

pub plain_row : (r : Row) → Spares r → plain_word (row_word r) ≡ row_word r
plain_row r h =
    let s = row_word_sum r in
    plain_of (row_word r) (bit r.deleted * 65536 + bit r.from_log * 32768 + r.caption_length) r.at (omega arith) h
