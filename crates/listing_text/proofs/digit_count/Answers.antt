-- `digit_count` takes a digit off at each turn. The invariant: with the digits that are left it has counted one too many.
use native.Mathlib.Omega.{arith}
use mathlib.Core.Path.{◌≡◌, refl}
use lib.ListN.{length}
use borrow.Author.Rules.{rules}
use Rattle.listing_text.specs.Decimal.{decimal}
use Rattle.listing_text.proofs.DecimalLaws.{length_one, length_more, length_within}
use Rattle.listing_text.proofs.digit_count.Goals as goal

pub loop-rest-init : goal.loop-rest-init
loop-rest-init c = (refl, omega arith)

pub loop-rest-preserved : goal.loop-rest-preserved
loop-rest-preserved c = let l = c.loop-rest in (omega (arith, length_more l.rest c.loop-rest-test.true, l.invariant.0), omega arith)

pub returns : goal.returns
returns c =
    let l = c.loop-rest in
    let n = c.args.n in
    let all : l.count ≡ length (decimal n) = omega (arith, length_one l.rest c.loop-rest-test.false, l.invariant.0) in
    record {
      value = all;
      upper_bound = omega (arith, all, length_within 19 n (search rules));
    }
