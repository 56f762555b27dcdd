-- Laws of what is written: row by row, its bytes, its number of records and its size; a row that fits has the length that its size says.
use Prim.Native.Nat.{ℕ, ◌+◌, ◌*◌, ◌-◌, ◌≤◌, ◌<◌}
use native.Mathlib.Nat.{zero-add}
use native.Mathlib.Omega.{arith}
use mathlib.Core.Path.{◌≡◌, refl, sym, ap, ap₂, ◌∙◌}
use mathlib.Core.Bool.{Bool, true, false, not, cond, true≢false}
use mathlib.Core.List.{List, [], ◌∷◌, ◌++◌, map}
use lib.ListN.{length, length-append}
use borrow.Author.Tests.{ltb-false}
use Rattle.fields.proofs.Parts.{length_part}
use Rattle.fields.proofs.Numbers.{length_bytes}
use Rattle.config.specs.Limits.{max_dimensions}
use Rattle.config.specs.declared.Config.{Config}
use Rattle.layout.specs.Layout.{record_length}
use Rattle.layout.specs.declared.Extent.{Extent}
use Rattle.layout.specs.declared.Extent.TheVariants.{Full, Compacted}
use Rattle.rows.specs.Rows.{row_at}
use Rattle.rows.specs.declared.Row.{Row}
use Rattle.sources.specs.Sources.{bytes_of, outside, Inside, shown_part}
use Rattle.sources.specs.declared.Shown.TheVariants.{Caption, Vector}
use Rattle.meaning.specs.Replay.{size}
use Rattle.meaning.specs.Records.{row_kind, source, caption_start, seen}
use Rattle.meaning.specs.Tables.{rows_from}
use Rattle.meaning.specs.File.{record_bytes, records_bytes}
use Rattle.meaning.specs.Writer.{misfit, any_misfit, live_rows, written}
use Rattle.meaning.proofs.TableSteps.{fits_at, rows_next, rows_over}
use Rattle.writer.specs.RowsWritten.{Copyable, keeps, row_bytes, rows_bytes}

-- ---- a row more
pub written_row : (extent : Extent) (r : Row) (rs : List Row) → written extent (r ∷ rs) ≡ cond (keeps extent r.deleted) (r ∷ written extent rs) (written extent rs)
unfolding live_rows
written_row Full r rs = refl
written_row Compacted r rs = by r.deleted
  where
    by : (t : Bool) → cond t (live_rows rs) (r ∷ live_rows rs) ≡ cond (not t) (r ∷ live_rows rs) (live_rows rs)
    by true = refl
    by false = refl

written_none : (extent : Extent) → written extent [] ≡ []
unfolding live_rows
written_none Full = refl
written_none Compacted = refl

-- what a number of rows is, counted by f, with a row more of a
added : (t : Bool) (r : Row) (rs : List Row) (f : List Row → ℕ) (a : ℕ) → f (r ∷ rs) ≡ a + f rs → f (cond t (r ∷ rs) rs) ≡ cond t a 0 + f rs
added true r rs f a e = e
added false r rs f a e = sym (zero-add (f rs))

module _ (extent : Extent) (d : ℕ) (r : Row) (rs : List Row) where
  pub length_row : length (written extent (r ∷ rs)) ≡ cond (keeps extent r.deleted) 1 0 + length (written extent rs)
  length_row = ap length (written_row extent r rs) ∙ added (keeps extent r.deleted) r (written extent rs) length 1 (omega arith)

  pub size_row : size (row_kind d) (written extent (r ∷ rs)) ≡ cond (keeps extent r.deleted) (record_length d r.caption_length) 0 + size (row_kind d) (written extent rs)
  unfolding size
  size_row =
      ap (size (row_kind d)) (written_row extent r rs)
      ∙ added (keeps extent r.deleted) r (written extent rs) (size (row_kind d)) (record_length d r.caption_length) refl

  pub bytes_row : (snapshot log : List ℕ) → rows_bytes extent d snapshot log (r ∷ rs) ≡ row_bytes extent d snapshot log r ++ rows_bytes extent d snapshot log rs
  unfolding records_bytes
  bytes_row snapshot log = ap (λ (l : List Row). records_bytes (map (seen d snapshot log) l)) (written_row extent r rs) ∙ by (keeps extent r.deleted)
    where
      by : (t : Bool) → records_bytes (map (seen d snapshot log) (cond t (r ∷ written extent rs) (written extent rs)))
          ≡ cond t (record_bytes (seen d snapshot log r)) [] ++ rows_bytes extent d snapshot log rs
      by true = refl
      by false = refl

-- ---- the row of node i, and those from i + 1 on
module _ (extent : Extent) (d : ℕ) (words : List ℕ) (count i : ℕ) (h : i < count) where
  pub length_next : length (written extent (rows_from (count - i) i words))
      ≡ cond (keeps extent (row_at words i).deleted) 1 0 + length (written extent (rows_from (count - (i + 1)) (i + 1) words))
  length_next = ap (λ (rs : List Row). length (written extent rs)) (rows_next words count i h) ∙ length_row extent d (row_at words i) _

  pub size_next : size (row_kind d) (written extent (rows_from (count - i) i words))
      ≡ cond (keeps extent (row_at words i).deleted) (record_length d (row_at words i).caption_length) 0
      + size (row_kind d) (written extent (rows_from (count - (i + 1)) (i + 1) words))
  size_next = ap (λ (rs : List Row). size (row_kind d) (written extent rs)) (rows_next words count i h) ∙ size_row extent d (row_at words i) _

-- ---- behind the last row
module _ (extent : Extent) (d : ℕ) (words : List ℕ) (count i : ℕ) (h : count ≤ i) where
  kept_none : written extent (rows_from (count - i) i words) ≡ []
  kept_none = ap (written extent) (rows_over words count i h) ∙ written_none extent

  pub length_none : length (written extent (rows_from (count - i) i words)) ≡ 0
  length_none = ap length kept_none

  pub size_none : size (row_kind d) (written extent (rows_from (count - i) i words)) ≡ 0
  unfolding size
  size_none = ap (size (row_kind d)) kept_none

  pub bytes_none : (snapshot log : List ℕ) → rows_bytes extent d snapshot log (rows_from (count - i) i words) ≡ []
  unfolding records_bytes
  bytes_none snapshot log = ap (λ (l : List Row). records_bytes (map (seen d snapshot log) l)) kept_none

-- ---- rows that fit
pub first_fits : (t rest : Bool) → cond t true rest ≡ false → t ≡ false
first_fits true rest e = e
first_fits false rest e = refl

pub rest_fits : (t rest : Bool) → cond t true rest ≡ false → rest ≡ false
rest_fits true rest e = absurd (true≢false e)
rest_fits false rest e = e

module _ (c : Config) (snapshot log : List ℕ) where
  pub any_row : (r : Row) (rs : List Row) → any_misfit c snapshot log (r ∷ rs) ≡ cond (misfit c snapshot log r) true (any_misfit c snapshot log rs)
  unfolding any_misfit
  any_row r rs = refl

  pub fit_inside : (r : Row) → misfit c snapshot log r ≡ false → Inside snapshot log (shown_part Caption c.dimensions r)
  fit_inside r e = ltb-false _ _ (first_fits (outside snapshot log (shown_part Caption c.dimensions r)) _ e)

-- the row of node i is the answer if it does not fit, and is passed over if it does; behind the last row every row fits
module _ (c : Config) (snapshot log words : List ℕ) (count i : ℕ) where
  pub first_misfits : i < count → misfit c snapshot log (row_at words i) ≡ true → any_misfit c snapshot log (rows_from (count - i) i words) ≡ true
  unfolding any_misfit
  first_misfits h e = simp (rows_next words count i h, e)

  pub first_passed : i < count → misfit c snapshot log (row_at words i) ≡ false
      → any_misfit c snapshot log (rows_from (count - i) i words) ≡ any_misfit c snapshot log (rows_from (count - (i + 1)) (i + 1) words)
  unfolding any_misfit
  first_passed h e = simp (rows_next words count i h, e)

  pub none_misfits : count ≤ i → any_misfit c snapshot log (rows_from (count - i) i words) ≡ false
  unfolding any_misfit
  none_misfits h = ap (any_misfit c snapshot log) (rows_over words count i h)

module _ (d : ℕ) (snapshot log : List ℕ) (r : Row) (h : Inside snapshot log (shown_part Caption d r)) where
  -- the vector lies before the caption
  pub vector_inside : Inside snapshot log (shown_part Vector d r)
  vector_inside = omega arith

  pub length_vector : length (bytes_of snapshot log (shown_part Vector d r)) ≡ 4 * d
  length_vector = length_part (source snapshot log r) r.at (4 * d) vector_inside

  pub length_caption : length (bytes_of snapshot log (shown_part Caption d r)) ≡ r.caption_length
  length_caption = length_part (source snapshot log r) (caption_start d r) r.caption_length h

  pub length_record : length (record_bytes (seen d snapshot log r)) ≡ record_length d r.caption_length
  length_record = simp (length-append, length_bytes, length_vector, length_caption) (omega arith)

  pub length_row_bytes : (extent : Extent) → length (row_bytes extent d snapshot log r) ≡ cond (keeps extent r.deleted) (record_length d r.caption_length) 0
  length_row_bytes extent = by (keeps extent r.deleted)
    where
      by : (t : Bool) → length (cond t (record_bytes (seen d snapshot log r)) []) ≡ cond t (record_length d r.caption_length) 0
      by true = length_record
      by false = refl

pub length_rows_bytes : (extent : Extent) (c : Config) (snapshot log : List ℕ) (rs : List Row) → any_misfit c snapshot log rs ≡ false
    → length (rows_bytes extent c.dimensions snapshot log rs) ≡ size (row_kind c.dimensions) (written extent rs)
unfolding records_bytes size
length_rows_bytes extent c snapshot log [] e =
    ap (λ (l : List Row). length (records_bytes (map (seen c.dimensions snapshot log) l))) (written_none extent)
    ∙ sym (ap (size (row_kind c.dimensions)) (written_none extent))
length_rows_bytes extent c snapshot log (r ∷ rs) e =
    let d = c.dimensions in
    let f = sym (any_row c snapshot log r rs) ∙ e in
    let i = length_rows_bytes extent c snapshot log rs (rest_fits (misfit c snapshot log r) _ f) in
    let h = fit_inside c snapshot log r (first_fits (misfit c snapshot log r) _ f) in
    ap length (bytes_row extent d r rs snapshot log) ∙ length-append (row_bytes extent d snapshot log r) (rows_bytes extent d snapshot log rs)
    ∙ ap₂ ◌+◌ (length_row_bytes d snapshot log r h extent) i ∙ sym (size_row extent d r rs)

-- ---- the rows of a table from node i on: the bytes of that of node i come first
pub record FirstRow (extent : Extent) (c : Config) (words : List ℕ) (count : ℕ) (snapshot log : List ℕ) (i : ℕ) : Type 0 where
  pub copied : Copyable c.dimensions snapshot log (row_at words i)
  pub rest_fit : any_misfit c snapshot log (rows_from (count - (i + 1)) (i + 1) words) ≡ false
  pub bytes_are : rows_bytes extent c.dimensions snapshot log (rows_from (count - i) i words)
      ≡ row_bytes extent c.dimensions snapshot log (row_at words i) ++ rows_bytes extent c.dimensions snapshot log (rows_from (count - (i + 1)) (i + 1) words)
  pub long : length (rows_bytes extent c.dimensions snapshot log (rows_from (count - i) i words))
      ≡ length (row_bytes extent c.dimensions snapshot log (row_at words i)) + length (rows_bytes extent c.dimensions snapshot log (rows_from (count - (i + 1)) (i + 1) words))

pub first_row : (extent : Extent) (c : Config) (words : List ℕ) (count : ℕ) (snapshot log : List ℕ) (i : ℕ) → c.dimensions ≤ max_dimensions → i < count
    → any_misfit c snapshot log (rows_from (count - i) i words) ≡ false → FirstRow extent c words count snapshot log i
first_row extent c words count snapshot log i small h e =
    let r = row_at words i in
    let rs = rows_from (count - (i + 1)) (i + 1) words in
    let n = rows_next words count i h in
    let f = sym (any_row c snapshot log r rs) ∙ sym (ap (any_misfit c snapshot log) n) ∙ e in
    let b = ap (rows_bytes extent c.dimensions snapshot log) n ∙ bytes_row extent c.dimensions r rs snapshot log in
    record {
      copied = record { d_small = small; row_fits = fits_at words i; inside = fit_inside c snapshot log r (first_fits (misfit c snapshot log r) _ f) };
      rest_fit = rest_fits (misfit c snapshot log r) _ f;
      bytes_are = b;
      long = ap length b ∙ length-append (row_bytes extent c.dimensions snapshot log r) (rows_bytes extent c.dimensions snapshot log rs);
    }
