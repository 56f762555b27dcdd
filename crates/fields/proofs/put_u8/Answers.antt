-- `fields::put_u8` meets its contract: one store, by the law of n stores.
-- Assumes nothing.
use mathlib.Core.Path.{◌≡◌, ap, ◌∙◌}
use Prim.Native.Nat.{ℕ, ◌%◌}
use native.Mathlib.Omega.{arith}
use lib.ListN.{set}
use Rattle.fields.proofs.PlacedLaws.{placed_bytes}
use Rattle.fields.proofs.Writers.{stores_bytes}
use Rattle.fields.specs.Fields.{bytes}
use Rattle.fields.proofs.put_u8.Goals as goal

pub returns : goal.returns
unfolding bytes
returns c =
    let e : c.args.v ≡ c.args.v % 256 = omega arith in
    ap (λ (b : ℕ). set c.args.out.now c.args.at b) e
    ∙ stores_bytes 1 c.args.out.now c.args.at c.args.v c.requires
    ∙ placed_bytes 1 c.args.v c.args.at c.args.out.now
