-- `lost_above` looks at the levels above the lowest. The invariant: no level passed has a lost edge, so the rest tells.
use Prim.Native.Nat.{ℕ, ◌+◌, ◌<◌}
use native.Mathlib.Omega.{arith}
use mathlib.Core.Path.{sym, ap, subst, ◌∙◌}
use lib.ListN.{length, get_or}
use Rattle.graph.specs.Cache.{numbers_at}
use Rattle.graph.specs.Decoded.{height_at}
use Rattle.graph.specs.Graph.{lost_at}
use Rattle.graph.proofs.Lost.{lowest_room, looking_begin, looking_room, looking_near, looking_more}
use Rattle.graph.proofs.lost_above.Goals as goal

pub get_u32-requires : goal.get_u32-requires
get_u32-requires c = omega (arith, lowest_room c.args.s.now c.args.start c.requires.start_in_bounds c.requires.bound)

pub loop-level-init : goal.loop-level-init
loop-level-init c =
    let pre = c.requires in
    looking_begin c.wide-levels.ensures.0 c.get_u32.ensures pre.start_in_bounds pre.bound pre.by_index

pub lost_at-requires-clause-degree_in_bounds : goal.lost_at-requires-clause-degree_in_bounds
lost_at-requires-clause-degree_in_bounds c = omega (arith, looking_room c.loop-level.invariant c.loop-level-test.true, c.get_u32-degree.ensures)

pub lost_at-requires-clause-by_index : goal.lost_at-requires-clause-by_index
lost_at-requires-clause-by_index c i =
    subst (λ (n : ℕ). get_or (numbers_at n c.args.s.now (c.loop-level.at + 4)) i 0 < length c.args.starts.now) (sym c.get_u32-degree.ensures)
    (looking_near c.loop-level.invariant c.loop-level-test.true i)

pub loop-level-preserved : goal.loop-level-preserved
loop-level-preserved c =
    let s = c.args.s.now in
    let l = c.loop-level in
    let lost = ap (λ (n : ℕ). lost_at (height_at s c.args.starts.now) l.level (numbers_at n s (l.at + 4))) (sym c.get_u32-degree.ensures) ∙ sym c.lost_at.ensures in
    looking_more l.invariant c.loop-level-test.true c.get_u32-degree.ensures (lost ∙ c.if-lost_at.false)
