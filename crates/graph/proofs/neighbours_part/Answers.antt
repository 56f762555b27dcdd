-- `neighbours_part` answers `neighbours`: each return follows the tests that led there.
use mathlib.Core.Path.{sym, ◌∙◌}
use borrow.Author.Tests.{le-ltb, le-leb, lt-leb}
use lib.ListN.{get_or}
use Rattle.fields.proofs.Numbers.{num_one}
use Rattle.graph.specs.Neighbours.{neighbours}
use Rattle.graph.proofs.neighbours_part.Goals as goal

pub returns-then-wide-level : goal.returns-then-wide-level
unfolding neighbours
returns-then-wide-level c =
    let a = c.args in
    let levels = num_one a.cache.now (get_or a.starts.now a.node.0 0) ∙ sym c.wide.ensures.0 in
    simp (lt-leb _ _ c.if-count-n.false, le-ltb _ _ c.if-starts-count.false, lt-leb _ _ c.if-cache-start.false, levels, le-leb _ _ c.if-wide-level.true)

pub returns : goal.returns
unfolding neighbours
returns c =
    let a = c.args in
    let levels = num_one a.cache.now (get_or a.starts.now a.node.0 0) ∙ sym c.wide.ensures.0 in
    simp (lt-leb _ _ c.if-count-n.false, le-ltb _ _ c.if-starts-count.false, lt-leb _ _ c.if-cache-start.false, levels, lt-leb _ _ c.if-wide-level.false) c.level_above.ensures
