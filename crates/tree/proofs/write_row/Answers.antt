-- `tree::write_row` meets its contract.
-- Assumes nothing.
use mathlib.Core.Path.{refl}
use Rattle.links.specs.Links.{put_at}
use Rattle.tree.proofs.write_row.Goals as goal

pub returns : goal.returns
unfolding put_at
returns c = refl
