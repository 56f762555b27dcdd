-- `read_whole` answers `read_cache`.
use Rattle.std.specs.Prelude.{Ok}
use Prim.Native.Nat.{ℕ}
use mathlib.Core.Path.{sym, ap, ◌∙◌}
use lib.ListN.{length}
use Rattle.refusal.proofs.Inverses.{came_to}
use Rattle.graph.specs.Cache.{read_graph}
use Rattle.graph.specs.Told.{cache_told}
use Rattle.graph.proofs.Body.{answered, body_read, graph_read, cache_good}
use Rattle.graph.proofs.read_whole.Goals as goal

pub returns-clause-value : goal.returns-clause-value
returns-clause-value c =
    let a = c.args in
    let s = a.bytes.now in
    let h = c.in_ok-header.header in
    let g = answered (read_graph a.config.m a.count h.entry s) (came_to _ c.check_graph.ensures.value c.in_ok-check_graph.was) in
    let sized = (body_read a.config.m a.count s g.value (graph_read a.config.m a.count h.entry s g.value g.is).body).sized in
    let good = cache_good a.config a.crc a.sequence a.count (length a.starts.now) s h (came_to _ c.read_header.ensures c.in_ok-header.was) g.value g.is in
    ap (λ (n : ℕ). Ok (record { nodes = n; entry = h.entry; rng_state = h.rng_state })) (sym sized) ∙ sym (ap cache_told good)
