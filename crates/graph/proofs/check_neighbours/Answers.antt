-- `check_neighbours` answers the list. The invariant: those passed bear the list's mark, and no other node does.
use native.Mathlib.Omega.{arith}
use Rattle.graph.proofs.Listing.{listing_high, listing_again, listing_more}
use Rattle.graph.proofs.check_neighbours.Goals as goal

pub returns-then-count-x-clause-value : goal.returns-then-count-x-clause-value
returns-then-count-x-clause-value c =
    let l = c.loop in
    let w = l.invariant.within in
    let t = c.if-end-at-lt4.false in
    listing_high l.invariant c.loop-test.true c.get_u32-x.ensures (omega arith) c.if-count-x.true

pub returns-then-marks-x-clause-value : goal.returns-then-marks-x-clause-value
returns-then-marks-x-clause-value c =
    let l = c.loop in
    let w = l.invariant.within in
    let t = c.if-end-at-lt4.false in
    listing_again l.invariant c.loop-test.true c.get_u32-x.ensures (omega arith) c.if-count-x.false c.if-x-node.false c.if-marks-x.true

pub loop-preserved : goal.loop-preserved
loop-preserved c =
    let l = c.loop in
    let w = l.invariant.within in
    let t = c.if-end-at-lt4.false in
    listing_more l.invariant c.loop-test.true c.get_u32-x.ensures (omega arith) c.requires.count_in_bounds c.if-count-x.false c.if-x-node.false c.if-marks-x.false
