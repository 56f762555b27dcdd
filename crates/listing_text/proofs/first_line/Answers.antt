-- `first_line` measures its line, and puts it where it fits.
use Prim.Native.Nat.{ℕ, ◌≤◌}
use native.Mathlib.Omega.{arith}
use mathlib.Core.Path.{ap, ◌∙◌}
use mathlib.Core.List.{List, append_assoc}
use lib.ListN.{length}
use Rattle.fields.specs.Placed.{placed}
use Rattle.listing_text.specs.Lines.{newline, state_counts, log_counts, first_line}
use Rattle.listing_text.proofs.LineLaws.{length_three, too_short, stands}
use Rattle.listing_text.proofs.PutLaws.{first_put, then_put}
use Rattle.listing_text.proofs.first_line.Goals as goal

pub returns-then-out-n : goal.returns-then-out-n
returns-then-out-n c =
    let h = c.args.heading in
    record {
      value = (too_short c.args.out.now (first_line h) _ (omega (arith, length_three (state_counts h) (log_counts h) newline, c.state_length.ensures.value, c.log_length.ensures.value)) c.if-out-n.true).0;
      out_after = (too_short c.args.out.now (first_line h) _ (omega (arith, length_three (state_counts h) (log_counts h) newline, c.state_length.ensures.value, c.log_length.ensures.value)) c.if-out-n.true).1;
    }

pub returns : goal.returns
returns c =
    let h = c.args.heading in
    let o = c.args.out.now in
    let z : 0 ≤ length o = omega arith in
    let q1 = first_put (state_counts h) c.put_state-a.ensures.value c.put_state-a.ensures.out_after in
    let q2 = then_put (log_counts h) z q1 c.put_log-b.ensures.value c.put_log-b.ensures.out_after in
    let q3 = then_put newline z q2 c.put.ensures.value c.put.ensures.out_after in
    let long = length_three (state_counts h) (log_counts h) newline in
    record {
      value = (stands o (first_line h) _ _ (omega (arith, long, c.state_length.ensures.value, c.log_length.ensures.value)) c.if-out-n.false (q3.same ∙ ap (λ (l : List ℕ). placed 0 l o) (append_assoc (state_counts h) (log_counts h) newline))).0;
      out_after = (stands o (first_line h) _ _ (omega (arith, long, c.state_length.ensures.value, c.log_length.ensures.value)) c.if-out-n.false (q3.same ∙ ap (λ (l : List ℕ). placed 0 l o) (append_assoc (state_counts h) (log_counts h) newline))).1;
    }
