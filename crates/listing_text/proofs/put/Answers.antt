-- `put` copies the words into the rest of the output.
use native.Mathlib.Omega.{arith}
use mathlib.Core.Path.{refl}
use Rattle.fields.proofs.PlacedLaws.{placed_lent}
use Rattle.listing_text.proofs.put.Goals as goal

pub returns : goal.returns
returns c = record {
  value = refl;
  out_after = placed_lent c.args.at c.args.words.now c.args.out.now _ (omega (arith, c.requires)) c.copy.ensures;
}
