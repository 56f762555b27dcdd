-- `log_line` measures its line, and puts it where it fits.
use Prim.Native.Nat.{ℕ, ◌+◌, ◌≤◌}
use native.Mathlib.Omega.{arith}
use mathlib.Core.Path.{◌≡◌, ap, ◌∙◌}
use mathlib.Core.List.{List, ◌++◌, append_assoc}
use lib.ListN.{length}
use Rattle.fields.specs.Placed.{placed}
use Rattle.listing_text.specs.Lines.{ascii, newline, named}
use Rattle.listing_text.proofs.LineLaws.{length_before, length_three, too_short, stands}
use Rattle.listing_text.proofs.PutLaws.{first_put, then_put}
use Rattle.listing_text.proofs.log_line.Goals as goal

pub returns-then-out-size : goal.returns-then-out-size
returns-then-out-size c =
    let long : 17 + c.digit_count.result + c.digit_count-2.result ≡ length ((named (ascii "refused log ") c.args.number) ++ ((named (ascii " at ") c.args.at) ++ newline)) =
    omega (arith, length_before (ascii "refused log ") c.args.number ((named (ascii " at ") c.args.at) ++ newline), length_before (ascii " at ") c.args.at newline, c.digit_count.ensures.value, c.digit_count-2.ensures.value) in
    record {
      value = (too_short c.args.out.now ((named (ascii "refused log ") c.args.number) ++ ((named (ascii " at ") c.args.at) ++ newline)) _ long c.if-out-size.true).0;
      out_after = (too_short c.args.out.now ((named (ascii "refused log ") c.args.number) ++ ((named (ascii " at ") c.args.at) ++ newline)) _ long c.if-out-size.true).1;
    }

pub put_named-b-requires : goal.put_named-b-requires
put_named-b-requires c =
    let long : 17 + c.digit_count.result + c.digit_count-2.result ≡ length ((named (ascii "refused log ") c.args.number) ++ ((named (ascii " at ") c.args.at) ++ newline)) =
    omega (arith, length_before (ascii "refused log ") c.args.number ((named (ascii " at ") c.args.at) ++ newline), length_before (ascii " at ") c.args.at newline, c.digit_count.ensures.value, c.digit_count-2.ensures.value) in
    let room : length (named (ascii "refused log ") c.args.number) + (length (named (ascii " at ") c.args.at) + 1) ≤ length c.args.out.now =
    omega (arith, long, c.if-out-size.false, length_three (named (ascii "refused log ") c.args.number) (named (ascii " at ") c.args.at) newline) in
    omega (arith, room, c.put_named-a.ensures.value)

pub put-requires : goal.put-requires
put-requires c =
    let long : 17 + c.digit_count.result + c.digit_count-2.result ≡ length ((named (ascii "refused log ") c.args.number) ++ ((named (ascii " at ") c.args.at) ++ newline)) =
    omega (arith, length_before (ascii "refused log ") c.args.number ((named (ascii " at ") c.args.at) ++ newline), length_before (ascii " at ") c.args.at newline, c.digit_count.ensures.value, c.digit_count-2.ensures.value) in
    let room : length (named (ascii "refused log ") c.args.number) + (length (named (ascii " at ") c.args.at) + 1) ≤ length c.args.out.now =
    omega (arith, long, c.if-out-size.false, length_three (named (ascii "refused log ") c.args.number) (named (ascii " at ") c.args.at) newline) in
    omega (arith, room, c.put_named-a.ensures.value, c.put_named-b.ensures.value)

pub returns : goal.returns
returns c =
    let long : 17 + c.digit_count.result + c.digit_count-2.result ≡ length ((named (ascii "refused log ") c.args.number) ++ ((named (ascii " at ") c.args.at) ++ newline)) =
    omega (arith, length_before (ascii "refused log ") c.args.number ((named (ascii " at ") c.args.at) ++ newline), length_before (ascii " at ") c.args.at newline, c.digit_count.ensures.value, c.digit_count-2.ensures.value) in
    let o = c.args.out.now in
    let z : 0 ≤ length o = omega arith in
    let q1 = first_put (named (ascii "refused log ") c.args.number) c.put_named-a.ensures.value c.put_named-a.ensures.out_after in
    let q2 = then_put (named (ascii " at ") c.args.at) z q1 c.put_named-b.ensures.value c.put_named-b.ensures.out_after in
    let q3 = then_put newline z q2 c.put.ensures.value c.put.ensures.out_after in
    record {
      value = (stands o ((named (ascii "refused log ") c.args.number) ++ ((named (ascii " at ") c.args.at) ++ newline)) _ _ long c.if-out-size.false (q3.same ∙ ap (λ (l : List ℕ). placed 0 l o) (append_assoc (named (ascii "refused log ") c.args.number) (named (ascii " at ") c.args.at) newline))).0;
      out_after = (stands o ((named (ascii "refused log ") c.args.number) ++ ((named (ascii " at ") c.args.at) ++ newline)) _ _ long c.if-out-size.false (q3.same ∙ ap (λ (l : List ℕ). placed 0 l o) (append_assoc (named (ascii "refused log ") c.args.number) (named (ascii " at ") c.args.at) newline))).1;
    }
