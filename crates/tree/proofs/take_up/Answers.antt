-- `tree::take_up` meets its contract.
-- Assumes nothing.
use Prim.Native.Nat.{ℕ, ◌*◌}
use mathlib.Core.Path.{subst}
use mathlib.Core.Bool.{Bool}
use lib.ListN.{get_or}
use Rattle.links.specs.Links.{plain_rows}
use Rattle.tree.specs.Grown.{Rises}
use Rattle.tree.proofs.TakeUpLaws.{absent_here, added_there}
use Rattle.tree.proofs.take_up.Goals as goal

pub returns-then-rises : goal.returns-then-rises
returns-then-rises c =
    let a = c.args in
    added_there a.tree a.words.now a.entries.now _ _ _ c.extend.ensures

pub insert-requires : goal.insert-requires
insert-requires c =
    let a = c.args in
    let w = a.words.now in
    let n : ℕ = a.tree.count in
    record {
      grown = c.requires.grown;
      room = c.requires.room;
      count_nonzero = subst (λ (b : Bool). Rises (plain_rows w) a.tree (get_or w (2 * n) 0) b) c.if-rises.false c.rises.ensures;
      cell_value = c.search-cell.ensures;
      absent = absent_here w n c.requires.once c.if-word-ge-DELETED.false;
    }

pub returns : goal.returns
returns c =
    let a = c.args in
    added_there a.tree a.words.now a.entries.now _ _ _ c.insert.ensures
