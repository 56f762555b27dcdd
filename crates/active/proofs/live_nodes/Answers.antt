-- `live_nodes` lists the live nodes: at the end those found are all of them.
use Rattle.active.proofs.Listing.{listing_count, listing_words}
use Rattle.active.proofs.live_nodes.Goals as goal

pub returns : goal.returns
returns c =
    let h = c.loop-i-test.false in
    record {
      value = listing_count _ _ _ _ _ _ c.loop-i.invariant h;
      entries_after = listing_words _ _ _ _ _ _ c.loop-i.invariant h;
    }
