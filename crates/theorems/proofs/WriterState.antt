-- The writer takes every row that lies in its sources: of rows that are sourced it refuses nothing for 30 or 31.
use Rattle.std.specs.Prelude.{Ok}
use Prim.Native.Nat.{ℕ, ◌+◌, ◌≤◌}
use native.Mathlib.Omega.{arith}
use mathlib.Core.Path.{◌≡◌, refl, sym, ap, ◌∙◌}
use mathlib.Core.Bool.{Bool, true, false, not, cond}
use mathlib.Core.List.{List, [], ◌∷◌}
use lib.ListN.{length}
use lib.Dec.{ltb, eqb}
use Rattle.fields.proofs.Parts.{length_part}
use Rattle.config.specs.Limits.{max_metadata}
use Rattle.config.specs.declared.Config.{Config}
use Rattle.config.specs.Settings.{validate}
use Rattle.rows.specs.Lent.{rows_lent_plain}
use Rattle.refusal.specs.declared.Refusal.TheVariants.{NoSuchNode, RowDoesNotFit}
use Rattle.meaning.specs.Records.{source, caption_start, seen}
use Rattle.rows.specs.Rows.{RowFits}
use Rattle.rows.specs.declared.Row.{Row}
use Rattle.meaning.specs.Tables.{row_words, rows_in, filled}
use Rattle.meaning.specs.Writer.{misfit, any_misfit, state_rows, written, file_of_rows, write_valid, write}
use Rattle.layout.specs.declared.Extent.{Extent}
use Rattle.theorems.specs.Storable.{Sourced}
use Rattle.meaning.specs.Every.{Every}
use Rattle.theorems.proofs.TableRows.{rows_of_table}
use borrow.Author.Tests.{le-ltb, eq-eqb}
use Rattle.refusal.proofs.Results.{pass, go_on}

module _ (c : Config) (snapshot log : List ℕ) where
  -- a sourced row's caption is as long as the row says
  pub caption_there : (r : Row) → Sourced c snapshot log r → length (seen c.dimensions snapshot log r).caption ≡ r.caption_length
  caption_there r p = length_part (source snapshot log r) (caption_start c.dimensions r) r.caption_length p.inside

  sourced_fits : (r : Row) → Sourced c snapshot log r → misfit c snapshot log r ≡ false
  sourced_fits r p =
      let n = caption_there r p in
      let inside : ltb (length (source snapshot log r)) (caption_start c.dimensions r + r.caption_length) ≡ false = le-ltb _ _ p.inside in
      let short : ltb max_metadata r.caption_length ≡ false = le-ltb max_metadata r.caption_length (let h = p.fit.caption_length_lem in omega arith) in
      simp (inside, short, empty r.deleted refl)
    where
      empty : (x : Bool) → r.deleted ≡ x → cond r.deleted (not (eqb r.caption_length 0)) false ≡ false
      empty true e =
          let n : r.caption_length ≡ 0 = sym (caption_there r p) ∙ ap length (p.fit.deleted_empty e) in
          ap (λ (x : Bool). cond x (not (eqb r.caption_length 0)) false) e ∙ ap not (eq-eqb r.caption_length 0 n)
      empty false e = ap (λ (x : Bool). cond x (not (eqb r.caption_length 0)) false) e

  none_misfit : (rows : List Row) → Every (Sourced c snapshot log) rows → any_misfit c snapshot log rows ≡ false
  unfolding any_misfit
  none_misfit [] all = refl
  none_misfit (r ∷ rs) all = ap (λ x. cond x true (any_misfit c snapshot log rs)) (sourced_fits r all.0) ∙ none_misfit rs all.1

  -- a table of sourced rows is taken as it is
  pub state_taken : (n : ℕ) (rows : List Row) → Every (Sourced c snapshot log) rows → Every RowFits rows
      → length rows ≤ rows_lent_plain (filled n (row_words rows))
      → state_rows c (filled n (row_words rows)) (length rows) snapshot log ≡ Ok rows
  unfolding state_rows
  state_taken n rows sourced packs lent =
      let words : List ℕ = filled n (row_words rows) in
      let e : rows_in (length rows) words ≡ rows = rows_of_table n rows packs in
      let a : ltb (rows_lent_plain words) (length rows) ≡ false = le-ltb (rows_lent_plain words) (length rows) lent in
      let b : any_misfit c snapshot log (rows_in (length rows) words) ≡ false
      = ap (any_misfit c snapshot log) e ∙ none_misfit rows sourced in
      pass NoSuchNode _ _ a ∙ pass RowDoesNotFit _ _ b ∙ ap Ok e

  -- so the writer comes to 34 and 32
  pub writer_comes : (extent : Extent) (q n room : ℕ) (rows : List Row) → validate c ≡ Ok tt → Every (Sourced c snapshot log) rows → Every RowFits rows
      → length rows ≤ rows_lent_plain (filled n (row_words rows))
      → write extent c q (filled n (row_words rows)) (length rows) snapshot log room ≡ file_of_rows c q snapshot log room (written extent rows)
  unfolding write write_valid
  writer_comes extent q n room rows valid sourced packs lent =
      go_on (validate c) _ tt valid ∙ go_on (state_rows c (filled n (row_words rows)) (length rows) snapshot log) _ rows (state_taken n rows sourced packs lent)
