-- `number_line` measures its line, and puts it where it fits.
use Prim.Native.Nat.{◌≤◌}
use native.Mathlib.Omega.{arith}
use mathlib.Core.List.{◌++◌}
use lib.ListN.{length}
use Rattle.listing_text.specs.Lines.{newline, named}
use Rattle.listing_text.proofs.LineLaws.{length_named, length_before, too_short, stands}
use Rattle.listing_text.proofs.PutLaws.{first_put, then_put}
use Rattle.listing_text.proofs.number_line.Goals as goal

pub returns-then-out-size : goal.returns-then-out-size
returns-then-out-size c =
    let a = c.args in
    record {
      value = (too_short a.out.now (named a.words.now a.n ++ newline) _ (omega (arith, length_before a.words.now a.n newline, c.digit_count.ensures.value)) c.if-out-size.true).0;
      out_after = (too_short a.out.now (named a.words.now a.n ++ newline) _ (omega (arith, length_before a.words.now a.n newline, c.digit_count.ensures.value)) c.if-out-size.true).1;
    }

pub put_named-end-requires : goal.put_named-end-requires
put_named-end-requires c =
    let a = c.args in
    omega (arith, length_named a.words.now a.n, c.digit_count.ensures.value, c.if-out-size.false)

pub put-requires : goal.put-requires
put-requires c =
    let a = c.args in
    omega (arith, length_named a.words.now a.n, c.digit_count.ensures.value, c.if-out-size.false, c.put_named-end.ensures.value)

pub returns : goal.returns
returns c =
    let a = c.args in
    let o = a.out.now in
    let z : 0 ≤ length o = omega arith in
    let q1 = first_put (named a.words.now a.n) c.put_named-end.ensures.value c.put_named-end.ensures.out_after in
    let q2 = then_put newline z q1 c.put.ensures.value c.put.ensures.out_after in
    record {
      value = (stands o (named a.words.now a.n ++ newline) _ _ (omega (arith, length_before a.words.now a.n newline, c.digit_count.ensures.value)) c.if-out-size.false q2.same).0;
      out_after = (stands o (named a.words.now a.n ++ newline) _ _ (omega (arith, length_before a.words.now a.n newline, c.digit_count.ensures.value)) c.if-out-size.false q2.same).1;
    }
