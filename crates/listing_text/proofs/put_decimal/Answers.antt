-- `put_decimal` writes the digits from the last. The invariant: those behind the digits of `rest` stand.
use Prim.Native.Nat.{ℕ, ◌+◌}
use native.Mathlib.Omega.{arith}
use mathlib.Core.Path.{ap}
use Rattle.listing_text.proofs.Spelled.{spelled_none, spelled_more, spelled_all, behind, before_inside, first_inside}
use Rattle.listing_text.proofs.put_decimal.Goals as goal

pub loop-rest-init : goal.loop-rest-init
loop-rest-init c = let a = c.args in spelled_none a.at a.n _ a.out.now (ap (λ (k : ℕ). a.at + k) c.digit_count.ensures.value)

pub overflow_sub-i : goal.overflow_sub-i
overflow_sub-i c = omega (arith, behind c.requires c.loop-rest.invariant)

pub bounds-out-i : goal.bounds-out-i
bounds-out-i c = before_inside c.requires c.loop-rest.invariant

pub loop-rest-preserved : goal.loop-rest-preserved
loop-rest-preserved c = spelled_more c.requires c.loop-rest.invariant c.loop-rest-test.true _ c.digit_of.ensures

pub bounds-out-at : goal.bounds-out-at
bounds-out-at c = first_inside c.requires c.loop-rest.invariant

pub returns : goal.returns
returns c = record {
  value = ap (λ (k : ℕ). c.args.at + k) c.digit_count.ensures.value;
  out_after = spelled_all c.requires c.loop-rest.invariant c.loop-rest-test.false _ c.digit_of-2.ensures;
}
