-- `line_of` measures its line, and puts it where it fits.
use Prim.Native.Nat.{ℕ, ◌+◌, ◌≤◌}
use native.Mathlib.Omega.{arith}
use mathlib.Core.Path.{◌≡◌, ap, ◌∙◌}
use mathlib.Core.List.{List, ◌++◌}
use lib.ListN.{length, length-append}
use Rattle.fields.specs.Placed.{placed}
use Rattle.listing_text.specs.Decimal.{decimal}
use Rattle.listing_text.specs.Lines.{ascii, newline, named, line_of}
use Rattle.listing_text.proofs.LineLaws.{length_named, length_line, five, too_short, stands}
use Rattle.listing_text.proofs.PutLaws.{first_put, then_put}
use Rattle.listing_text.proofs.line_of.Goals as goal

pub returns-then-out-size : goal.returns-then-out-size
returns-then-out-size c =
    let long : c.digit_count.result + c.digit_count-2.result + length c.args.state.now + length c.args.caption.now + 2 ≡ length (line_of c.args.node c.args.id (c.args.state.now ++ c.args.caption.now)) =
    let a = c.args in
    omega (arith, length_line a.node a.id (a.state.now ++ a.caption.now), length-append a.state.now a.caption.now, c.digit_count.ensures.value, c.digit_count-2.ensures.value) in
    record {
      value = (too_short c.args.out.now (line_of c.args.node c.args.id (c.args.state.now ++ c.args.caption.now)) _ long c.if-out-size.true).0;
      out_after = (too_short c.args.out.now (line_of c.args.node c.args.id (c.args.state.now ++ c.args.caption.now)) _ long c.if-out-size.true).1;
    }

pub put_named-b-requires : goal.put_named-b-requires
put_named-b-requires c =
    let spaced : length (named (ascii " ") c.args.id) ≡ 1 + length (decimal c.args.id) =
    length_named (ascii " ") c.args.id in
    omega (arith, spaced)

pub put-c-requires : goal.put-c-requires
put-c-requires c =
    let spaced : length (named (ascii " ") c.args.id) ≡ 1 + length (decimal c.args.id) =
    length_named (ascii " ") c.args.id in
    omega (arith, spaced)

pub put-d-requires : goal.put-d-requires
put-d-requires c =
    let spaced : length (named (ascii " ") c.args.id) ≡ 1 + length (decimal c.args.id) =
    length_named (ascii " ") c.args.id in
    omega (arith, spaced)

pub put-requires : goal.put-requires
put-requires c =
    let spaced : length (named (ascii " ") c.args.id) ≡ 1 + length (decimal c.args.id) =
    length_named (ascii " ") c.args.id in
    omega (arith, spaced)

pub returns : goal.returns
returns c =
    let long : c.digit_count.result + c.digit_count-2.result + length c.args.state.now + length c.args.caption.now + 2 ≡ length (line_of c.args.node c.args.id (c.args.state.now ++ c.args.caption.now)) =
    let a = c.args in
    omega (arith, length_line a.node a.id (a.state.now ++ a.caption.now), length-append a.state.now a.caption.now, c.digit_count.ensures.value, c.digit_count-2.ensures.value) in
    let a = c.args in
    let o = a.out.now in
    let z : 0 ≤ length o = omega arith in
    let q1 = first_put (decimal a.node) c.put_decimal-a.ensures.value c.put_decimal-a.ensures.out_after in
    let q2 = then_put (named (ascii " ") a.id) z q1 c.put_named-b.ensures.value c.put_named-b.ensures.out_after in
    let q3 = then_put a.state.now z q2 c.put-c.ensures.value c.put-c.ensures.out_after in
    let q4 = then_put a.caption.now z q3 c.put-d.ensures.value c.put-d.ensures.out_after in
    let q5 = then_put newline z q4 c.put.ensures.value c.put.ensures.out_after in
    record {
      value = (stands o (line_of c.args.node c.args.id (c.args.state.now ++ c.args.caption.now)) _ _ long c.if-out-size.false (q5.same ∙ ap (λ (l : List ℕ). placed 0 l o) (five (decimal a.node) (named (ascii " ") a.id) a.state.now a.caption.now newline))).0;
      out_after = (stands o (line_of c.args.node c.args.id (c.args.state.now ++ c.args.caption.now)) _ _ long c.if-out-size.false (q5.same ∙ ap (λ (l : List ℕ). placed 0 l o) (five (decimal a.node) (named (ascii " ") a.id) a.state.now a.caption.now newline))).1;
    }
