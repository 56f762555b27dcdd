-- What a view's answer says of the row, and the line that is made of it.
use Rattle.std.specs.Prelude.{Ok, Err}
use Prim.Native.Nat.{ℕ, ◌+◌, ◌*◌, ◌≤◌, ◌<◌}
use native.Mathlib.Omega.{arith}
use mathlib.Core.Path.{◌≡◌, sym, ap, ap₂, subst, ◌∙◌}
use mathlib.Core.List.{List}
use lib.Dec.{ltb, leb}
use lib.ListN.{length}
use borrow.Author.Tests.{ltb-false, leb-false}
use Rattle.config.specs.Limits.{min_dimensions, max_dimensions}
use Rattle.refusal.specs.declared.Refusal.{Refusal}
use Rattle.refusal.specs.declared.Refusal.TheVariants.{WrongDimensions, NoSuchNode, RowDoesNotFit}
use Rattle.refusal.specs.Refusal.{Answer}
use Rattle.refusal.proofs.Inverses.{came_to}
use Rattle.refusal.proofs.Results.{go_on, give_up, passed, went, answer_injective}
use Rattle.rows.specs.Lent.{rows_lent_plain}
use Rattle.rows.specs.Rows.{row_at}
use Rattle.rows.specs.declared.Row.{Row}
use Rattle.sources.specs.Sources.{Inside, outside, shown_part, bytes_of}
use Rattle.sources.specs.declared.Shown.{Shown}
use Rattle.sources.specs.declared.Shown.TheVariants.{Caption}
use Rattle.sources.specs.declared.Part.{Part}
use Rattle.meaning.specs.Records.{seen}
use Rattle.meaning.specs.Views.{row_for, part_for, view, given}
use Rattle.views.proofs.ViewLaws.{given_inside}
use Rattle.listing_text.specs.Lines.{line_of, state_text, node_line}
use Rattle.listing_text.specs.Listing.{fitted, node_line_call}

module _ (shown : Shown) (d : ℕ) (words : List ℕ) (count n : ℕ) (snapshot log : List ℕ) where
  -- an answer's node is lent, and its part is the row's
  pub record Shows : Type 0 where
    pub lent : 2 * n + 1 < length words
    pub part_is : given (view shown d words count n snapshot log) ≡ shown_part shown d (row_at words n)

  pub shows : (p : Part) → view shown d words count n snapshot log ≡ Ok p → Shows
  unfolding view row_for part_for
  shows p e =
      let v = passed (row_for d words count n) (part_for shown d snapshot log) p e in
      let w1 = went WrongDimensions (ltb d min_dimensions) _ v.value v.first in
      let w2 = went WrongDimensions (ltb max_dimensions d) _ v.value w1.then in
      let w3 = went NoSuchNode (leb count n) _ v.value w2.then in
      let w4 = went NoSuchNode (ltb (rows_lent_plain words) count) _ v.value w3.then in
      let row : row_at words n ≡ v.value = answer_injective (row_at words n) v.value w4.then in
      let w5 = went RowDoesNotFit (outside snapshot log (shown_part shown d v.value)) _ p v.then in
      let below : n < count = leb-false count n w3.test_false in
      let few : count ≤ rows_lent_plain words = ltb-false (rows_lent_plain words) count w4.test_false in
      record {
        lent = omega arith;
        part_is = ap given e ∙ sym (answer_injective (shown_part shown d v.value) p w5.then) ∙ ap (shown_part shown d) (sym row);
      }

-- ---- the call that writes a node's line
module _ (d : ℕ) (words : List ℕ) (count n : ℕ) (snapshot log out : List ℕ) where
  pub call_refused : (why : Refusal) → view Caption d words count n snapshot log ≡ Err why → node_line_call d words count n snapshot log out ≡ Err why
  unfolding node_line_call
  call_refused why e = give_up (view Caption d words count n snapshot log) _ why e

  -- the row and the caption that are found make the line
  pub call_line : (part : Part) → view Caption d words count n snapshot log ≡ Ok part
      → (row : Row) (caption : List ℕ) → row ≡ row_at words n → caption ≡ bytes_of snapshot log part
      → fitted out (line_of n row.id.0 (state_text row.deleted caption)) ≡ node_line_call d words count n snapshot log out
  unfolding node_line_call
  call_line part e row caption is shown =
      let bytes = shown ∙ ap (bytes_of snapshot log) (sym (ap given e) ∙ (shows Caption d words count n snapshot log part e).part_is) in
      ap₂ (λ (r : Row) (l : List ℕ). fitted out (line_of n r.id.0 (state_text r.deleted l))) is bytes
      ∙ sym (go_on (view Caption d words count n snapshot log) (λ p. fitted out (node_line n (seen d snapshot log (row_at words n)))) part e)

-- ---- the same of what a view's call answers
module _ (d : ℕ) (words : List ℕ) (count n : ℕ) (snapshot log : List ℕ) {r : Answer Part} {part : Part} (e : r ≡ view Caption d words count n snapshot log) (is : r ≡ Ok part) where
  pub node_lent : 2 * n + 1 < length words
  node_lent = (shows Caption d words count n snapshot log part (came_to _ e is)).lent

  pub part_inside : Inside snapshot log part
  part_inside = subst (Inside snapshot log) (ap given (came_to _ e is)) (given_inside Caption d snapshot log words count n)

  pub part_of_row : part ≡ shown_part Caption d (row_at words n)
  part_of_row = sym (ap given (came_to _ e is)) ∙ (shows Caption d words count n snapshot log part (came_to _ e is)).part_is
