-- The loop's invariant: the way from here ends where the whole way does.
use Prim.Native.Nat.{◌≤◌}
use mathlib.Core.Path.{◌≡◌}
use Rattle.digital_tree.specs.Look.{mixed_id, look, Inside}
use Rattle.links.specs.Links.{plain_rows}
use Rattle.tree.specs.Grown.{id_of, link_of, cell_of}
use Rattle.tree.proofs.search.Given as goal

abbrev pub invariant-loop-left : goal.invariant-loop-left
invariant-loop-left l = (l.left ≤ 64) × Inside l.tree.sorted l.tree.count l.cell
    × (look mixed_id (id_of (plain_rows l.words)) (link_of l.tree l.words l.entries) l.left l.cell l.id ≡ cell_of l.tree l.words l.entries l.id)
