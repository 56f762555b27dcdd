-- `refusal_line` has a line for each case.
use Prim.Native.Nat.{ℕ}
use mathlib.Core.Path.{sym, ap, ◌∙◌}
use mathlib.Core.List.{◌++◌}
use Rattle.listing_text.specs.Listing.{fitted, refusal_line_call}
use Rattle.listing_text.proofs.LineLaws.{tells}
use Rattle.listing_text.specs.Lines.{ascii, newline, named, refused_line}
use Rattle.listing_text.proofs.refusal_line.Goals as goal

pub returns-in-Snapshot : goal.returns-in-Snapshot
returns-in-Snapshot c =
    let a = c.args in
    let line = ap (λ (m : ℕ). named (ascii "refused snapshot ") m ++ newline) c.number.ensures ∙ sym (ap refused_line c.in-Snapshot.is) in
    record {
      value = (tells a.out.now _ (refusal_line_call a.stopped a.out.now) _ _ (c.number_line.ensures.value, c.number_line.ensures.out_after) (ap (fitted a.out.now) line)).0;
      out_after = (tells a.out.now _ (refusal_line_call a.stopped a.out.now) _ _ (c.number_line.ensures.value, c.number_line.ensures.out_after) (ap (fitted a.out.now) line)).1;
    }

pub returns-in-Log : goal.returns-in-Log
returns-in-Log c =
    let a = c.args in
    let line = ap (λ (m : ℕ). named (ascii "refused log ") m ++ (named (ascii " at ") c.in-Log.at ++ newline)) c.number-in-Log.ensures ∙ sym (ap refused_line c.in-Log.is) in
    record {
      value = (tells a.out.now _ (refusal_line_call a.stopped a.out.now) _ _ (c.log_line.ensures.value, c.log_line.ensures.out_after) (ap (fitted a.out.now) line)).0;
      out_after = (tells a.out.now _ (refusal_line_call a.stopped a.out.now) _ _ (c.log_line.ensures.value, c.log_line.ensures.out_after) (ap (fitted a.out.now) line)).1;
    }

pub returns-in-File : goal.returns-in-File
returns-in-File c =
    let a = c.args in
    let line = ap (λ (m : ℕ). named (ascii "refused file ") m ++ newline) c.number-in-File.ensures ∙ sym (ap refused_line c.in-File.is) in
    record {
      value = (tells a.out.now _ (refusal_line_call a.stopped a.out.now) _ _ (c.number_line-in-File.ensures.value, c.number_line-in-File.ensures.out_after) (ap (fitted a.out.now) line)).0;
      out_after = (tells a.out.now _ (refusal_line_call a.stopped a.out.now) _ _ (c.number_line-in-File.ensures.value, c.number_line-in-File.ensures.out_after) (ap (fitted a.out.now) line)).1;
    }
