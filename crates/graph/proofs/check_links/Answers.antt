-- `check_links` answers `linked_test`: 49, then 50.
use Prim.Native.Nat.{ℕ, ◌<◌}
use mathlib.Core.Path.{◌≡◌, refl, sym, ap, subst, ◌∙◌}
use mathlib.Core.Bool.{Bool}
use mathlib.Core.List.{List}
use lib.ListN.{length, get_or}
use lib.Dec.{ltb}
use Rattle.graph.specs.Decoded.{graph_at, height_at, Laid, EntryIn}
use Rattle.graph.specs.Graph.{levels_of, any_of, edge_lost, linked_test}
use Rattle.graph.specs.Layout.{first_node}
use Rattle.graph.proofs.Body.{laid_height, laid_edges}
use Rattle.graph.proofs.Walk.{height_is}
use Rattle.graph.proofs.check_links.Goals as goal

module _ {s starts : List ℕ} {count : ℕ} (laid : Laid s starts count) where
  -- whether an edge is lost, by the levels of the graph
  edges : {x b : Bool} → x ≡ edge_lost (height_at s starts) (graph_at count s first_node) → x ≡ b
      → edge_lost (levels_of (graph_at count s first_node)) (graph_at count s first_node) ≡ b
  edges e t = sym (laid_edges s starts count laid) ∙ sym e ∙ t

  -- whether a node is above the entry, by its levels
  above : {n h : ℕ} {x b : Bool} → n < count → h ≡ get_or s (get_or starts n 0) 0 → x ≡ any_of (λ links. ltb h (length links)) (graph_at count s first_node)
      → x ≡ b → any_of (λ links. ltb (levels_of (graph_at count s first_node) n) (length links)) (graph_at count s first_node) ≡ b
  above {n} {h} k w e t =
      let high = height_is s starts n n h refl w ∙ laid_height s starts count laid n k in
      ap (λ (j : ℕ). any_of (λ links. ltb j (length links)) (graph_at count s first_node)) (sym high) ∙ sym e ∙ t

pub returns-then-taller : goal.returns-then-taller
unfolding linked_test
returns-then-taller c =
    let pre = c.requires in
    let entered = subst (EntryIn c.args.count) c.in-Some.is pre.entry_in in
    simp (edges pre.laid c.edge_lost.ensures c.if-edge_lost.false, c.in-Some.is, above pre.laid entered c.wide.ensures.0 c.taller.ensures c.if-taller.true)

pub returns : goal.returns
unfolding linked_test
returns c =
    let pre = c.requires in
    let entered = subst (EntryIn c.args.count) c.in-Some.is pre.entry_in in
    simp (edges pre.laid c.edge_lost.ensures c.if-edge_lost.false, c.in-Some.is, above pre.laid entered c.wide.ensures.0 c.taller.ensures c.if-taller.false)
