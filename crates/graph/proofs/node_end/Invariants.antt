-- `node_end` walks over the levels. The invariant: what is passed and the levels left are the node.
use Prim.Native.Nat.{◌+◌, ◌-◌}
use mathlib.Core.Path.{◌≡◌}
use Rattle.graph.specs.Cache.{levels_at, links_at}
use Rattle.graph.specs.Layout.{links_length, node_length}
use Rattle.graph.proofs.node_end.Given as goal

abbrev pub invariant-loop : goal.invariant-loop
invariant-loop l = l.next + links_length (levels_at (l.levels - l.counter) l.s l.next) ≡ l.at + node_length (links_at l.s l.at)
