-- `answer_line` has a line for each answer.
use mathlib.Core.Path.{sym, ap, ◌∙◌}
use Rattle.listing_text.specs.Lines.{first_line, refused_line}
use Rattle.listing_text.specs.Listing.{fitted, answer_line, answer_line_call}
use Rattle.listing_text.proofs.LineLaws.{tells}
use Rattle.listing_text.proofs.answer_line.Goals as goal

pub returns-in-Ok : goal.returns-in-Ok
returns-in-Ok c =
    let a = c.args in
    let line = ap first_line c.heading_of.ensures ∙ sym (ap answer_line c.in-Ok.is) in
    record {
      value = (tells a.out.now _ (answer_line_call a.answer a.out.now) _ _ (c.first_line.ensures.value, c.first_line.ensures.out_after) (ap (fitted a.out.now) line)).0;
      out_after = (tells a.out.now _ (answer_line_call a.answer a.out.now) _ _ (c.first_line.ensures.value, c.first_line.ensures.out_after) (ap (fitted a.out.now) line)).1;
    }

pub returns-in-Err : goal.returns-in-Err
returns-in-Err c =
    let a = c.args in
    let line = ap refused_line c.from.ensures ∙ sym (ap answer_line c.in-Err.is) in
    let told = tells a.out.now _ (answer_line_call a.answer a.out.now) _ _ (c.refusal_line.ensures.value, c.refusal_line.ensures.out_after) (ap (fitted a.out.now) line) in
    record {
      value = told.0;
      out_after = told.1;
    }
