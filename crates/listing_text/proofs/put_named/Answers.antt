-- `put_named` puts the number behind the words.
use Prim.Native.Nat.{◌≤◌}
use native.Mathlib.Omega.{arith}
use lib.ListN.{length, length-append}
use Rattle.fields.proofs.PlacedLaws.{then_placed}
use Rattle.listing_text.specs.Decimal.{decimal}
use Rattle.listing_text.proofs.put_named.Goals as goal

pub put-next-requires : goal.put-next-requires
put-next-requires c = omega (arith, length-append c.args.words.now (decimal c.args.n))

pub put_decimal-requires : goal.put_decimal-requires
put_decimal-requires c = omega (arith, length-append c.args.words.now (decimal c.args.n))

pub returns : goal.returns
returns c =
    let a = c.args in
    let h : a.at ≤ length a.out.now = omega (arith, c.requires) in
    record {
      value = omega (arith, c.put_decimal.ensures.value, c.put-next.ensures.value, length-append a.words.now (decimal a.n));
      out_after = then_placed a.at a.words.now (decimal a.n) a.out.now _ _ _ h c.put-next.ensures.out_after c.put-next.ensures.value c.put_decimal.ensures.out_after;
    }
