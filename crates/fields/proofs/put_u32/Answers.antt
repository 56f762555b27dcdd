-- `fields::put_u32` meets its contract: four stores, by the law of n stores.
-- Assumes nothing.
use mathlib.Core.Path.{◌∙◌}
use native.Mathlib.Omega.{arith}
use lib.ListN.{length-set}
use Rattle.fields.proofs.PlacedLaws.{placed_bytes}
use Rattle.fields.proofs.Writers.{stores_bytes}
use Rattle.fields.specs.Fields.{bytes}
use Rattle.fields.proofs.put_u32.Goals as goal

pub returns : goal.returns
unfolding bytes
returns c =
    stores_bytes 4 c.args.out.now c.args.at c.args.v c.requires ∙ placed_bytes 4 c.args.v c.args.at c.args.out.now

pub bounds-out-at-2 : goal.bounds-out-at-2
bounds-out-at-2 c = simp length-set (omega arith)

pub bounds-out-at-3 : goal.bounds-out-at-3
bounds-out-at-3 c = simp length-set (omega arith)

pub bounds-out-at-4 : goal.bounds-out-at-4
bounds-out-at-4 c = simp length-set (omega arith)

pub shape_of-out : goal.shape_of-out
shape_of-out c = simp length-set
