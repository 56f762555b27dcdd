-- A node's line over rows that lie in their sources: it is never refused, fits the longest line, and the lines one behind the other
-- are the definition's.
use Rattle.std.specs.Prelude.{Ok}
use Prim.Native.Nat.{ℕ, zero, suc, ◌+◌, ◌≤◌, ◌<◌}
use native.Mathlib.Omega.{arith}
use mathlib.Core.Path.{◌≡◌, refl, ap, ap₂, ◌∙◌}
use mathlib.Core.Bool.{Bool, true, false}
use mathlib.Core.List.{List, ◌++◌, map}
use lib.ListN.{length, length-append}
use borrow.Author.Tests.{le-ltb, lt-leb}
use Rattle.config.specs.Limits.{min_dimensions, max_dimensions, max_records}
use Rattle.config.specs.Settings.{Bounded}
use Rattle.config.specs.declared.Config.{Config}
use Rattle.refusal.specs.Refusal.{Answer}
use Rattle.refusal.specs.declared.Refusal.TheVariants.{WrongDimensions, NoSuchNode, RowDoesNotFit, OutputTooShort}
use Rattle.refusal.proofs.Results.{pass, go_on}
use Rattle.rows.specs.Lent.{rows_lent_plain}
use Rattle.rows.specs.Rows.{row_at}
use Rattle.sources.specs.Sources.{outside, shown_part}
use Rattle.sources.specs.declared.Shown.TheVariants.{Caption}
use Rattle.meaning.specs.Every.{Every}
use Rattle.meaning.specs.Records.{Record, seen}
use Rattle.meaning.specs.Tables.{rows_from}
use Rattle.meaning.specs.Views.{row_for, part_for, view}
use Rattle.theorems.specs.Storable.{Fit, Sourced}
use Rattle.listing_text.specs.Lines.{ascii, state_text, node_line}
use Rattle.listing_text.specs.Listing.{fitted, node_lines, node_line_call}
use Rattle.listing_text.specs.Files.{longest_line}
use Rattle.listing_text.proofs.DecimalLaws.{length_within}
use Rattle.listing_text.proofs.LineLaws.{length_line}
use Rattle.listing_theorems.specs.ListingCalled.{text_of, called_from}

-- a state's text is ` live ` and a caption at most
length_state_text : (deleted : Bool) (caption : List ℕ) → length (state_text deleted caption) ≤ 6 + length caption
length_state_text true caption = omega arith
length_state_text false caption = omega (arith, length-append (ascii " live ") caption)

line_short : (c : Config) (n : ℕ) (r : Record) → n < max_records → Fit c r → length (node_line n r) ≤ longest_line
line_short c n r h f =
    omega (arith, length_line n r.id (state_text r.deleted r.caption), length_state_text r.deleted r.caption, length_within 4 n h, length_within 19 r.id (let i = f.id_fits in omega arith), f.caption_length_lem)

module _ (c : Config) (bounded : Bounded c) (words : List ℕ) (count : ℕ) (lent : count ≤ rows_lent_plain words) (snapshot log : List ℕ)
    (outs : ℕ → List ℕ) (room : (n : ℕ) → longest_line ≤ length (outs n)) where
  abbrev d : ℕ
  d = c.dimensions

  abbrev call : ℕ → Answer (List ℕ)
  call n = node_line_call d words count n snapshot log (outs n)

  viewed : (n : ℕ) → n < count → Sourced c snapshot log (row_at words n) → view Caption d words count n snapshot log ≡ Ok (shown_part Caption d (row_at words n))
  unfolding view row_for part_for
  viewed n h s =
      let row : row_for d words count n ≡ Ok (row_at words n) =
      pass WrongDimensions _ _ (le-ltb d min_dimensions bounded.d_low) ∙ pass WrongDimensions _ _ (le-ltb max_dimensions d bounded.d_high)
      ∙ pass NoSuchNode _ _ (lt-leb count n h) ∙ pass NoSuchNode _ _ (le-ltb (rows_lent_plain words) count lent) in
      go_on (row_for d words count n) _ (row_at words n) row
      ∙ pass RowDoesNotFit (outside snapshot log (shown_part Caption d (row_at words n))) _ (le-ltb _ _ s.inside)

  called : (n : ℕ) → n < count → Sourced c snapshot log (row_at words n) → call n ≡ Ok (node_line n (seen d snapshot log (row_at words n)))
  unfolding node_line_call fitted
  called n h s =
      let line = node_line n (seen d snapshot log (row_at words n)) in
      let short : length line ≤ length (outs n) = omega (arith, line_short c n (seen d snapshot log (row_at words n)) (omega arith) s.fit, room n) in
      go_on (view Caption d words count n snapshot log) _ _ (viewed n h s) ∙ pass OutputTooShort _ _ (le-ltb (length (outs n)) (length line) short)

  pub lines_called : (m k : ℕ) → k + m ≡ count → Every (Sourced c snapshot log) (rows_from m k words)
      → called_from call m k ≡ node_lines k (map (seen d snapshot log) (rows_from m k words))
  unfolding called_from node_lines rows_from
  lines_called zero k e all = refl
  lines_called (suc m) k e all =
      ap₂ ◌++◌ (ap text_of (called k (omega arith) all.0)) (lines_called m (suc k) (omega arith) all.1)
