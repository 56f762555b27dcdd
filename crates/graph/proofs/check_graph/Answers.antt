-- `check_graph` answers `read_graph`, and leaves the starts of what was read.
use Prim.Native.Nat.{ℕ, ◌+◌, ◌-◌}
use native.Mathlib.Omega.{arith}
use mathlib.Core.Path.{◌≡◌, sym, ap, ap₂, ◌∙◌}
use mathlib.Core.List.{List, ◌++◌}
use lib.ListN.{length, take, replicate}
use Rattle.refusal.proofs.Inverses.{came_to}
use Rattle.graph.specs.Cache.{read_body}
use Rattle.graph.specs.Graph.{Graph, linked_test}
use Rattle.graph.specs.Layout.{first_node, graph_length, starts_from}
use Rattle.graph.proofs.Body.{answered, body_read, graph_told, graph_read}
use Rattle.graph.proofs.Starts.{starts_of, then_zeros}
use Rattle.graph.proofs.check_graph.Goals as goal

pub fill_starts-requires-clause-first_node_in_bounds : goal.fill_starts-requires-clause-first_node_in_bounds
fill_starts-requires-clause-first_node_in_bounds c =
    let a = c.args in
    let s = a.s.now in
    let b = answered (read_body a.m a.count s) (came_to _ c.check_body.ensures c.in_ok-check_body.was) in
    let known = body_read a.m a.count s b.value b.is in
    let size = ap (λ (g : Graph). first_node + graph_length g) known.is in
    let ends = known.ends in
    omega (arith, c.requires.min_cache_bytes_in_bounds)

pub returns-clause-value : goal.returns-clause-value
returns-clause-value c =
    let a = c.args in
    let s = a.s.now in
    let b = answered (read_body a.m a.count s) (came_to _ c.check_body.ensures c.in_ok-check_body.was) in
    let known = body_read a.m a.count s b.value b.is in
    c.check_links.ensures ∙ ap (linked_test a.entry) (sym known.is) ∙ sym (graph_told a.m a.count a.entry s b.value b.is)

pub returns-clause-starts_after : goal.returns-clause-starts_after
returns-clause-starts_after c g k =
    let a = c.args in
    let s = a.s.now in
    let zeros = length a.starts.now - a.count in
    let left : c.zeros_from.new.words ≡ starts_of a.count s ++ replicate zeros 0 =
    c.zeros_from.ensures ∙ ap₂ (λ (l : List ℕ) (n : ℕ). take a.count l ++ replicate (n - a.count) 0) c.fill_starts.ensures (c.fill_starts.auto.starts ∙ c.check_body.auto.marks ∙ c.fill_zero64.auto.words) ∙ then_zeros a.count zeros s _ in
    let known = body_read a.m a.count s g (graph_read a.m a.count a.entry s g k).body in
    left ∙ ap₂ (λ (x : Graph) (n : ℕ). starts_from first_node x ++ replicate (length a.starts.now - n) 0) (sym known.is) (sym known.sized)
