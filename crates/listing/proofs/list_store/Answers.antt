-- `list_store` shows the answer of the recovery of the two files in the room, hands on what that recovery left, and tells how many nodes
-- were shown.
use Rattle.std.proofs.Common.{arith, sym, ap, ◌∙◌}
use Rattle.recovery.specs.Told.{Recovery}
use Rattle.listing.specs.Shown.{nodes_of}
use Rattle.listing.proofs.Parts.{recovers_in_room}
use Rattle.listing.proofs.list_store.Goals as goal

pub show_answer-next-requires-clause-recovers : goal.show_answer-next-requires-clause-recovers
show_answer-next-requires-clause-recovers g c =
    let a = c.args in
    let p = c.recover-answer in
    recovers_in_room a.room.now a.snapshot a.log a.rows.now a.active.now _ _ (omega arith) (omega arith) (omega arith) p.ensures.value p.ensures.rows_after

pub returns-in-Ok : goal.returns-in-Ok
returns-in-Ok g c =
    let a = c.args in
    let p = c.recover-answer in
    record {
      answer = p.result;
      words = p.new.rows;
      recovers = recovers_in_room a.room.now a.snapshot a.log a.rows.now a.active.now _ _ (omega arith) (omega arith) (omega arith) p.ensures.value p.ensures.rows_after;
      all_nodes = c.list_nodes.ensures ∙ sym (ap (λ (x : Recovery). nodes_of x p.new.rows) c.in-Ok.is);
    }

pub returns-in-Err : goal.returns-in-Err
returns-in-Err g c =
    let a = c.args in
    let p = c.recover-answer in
    record {
      answer = p.result;
      words = p.new.rows;
      recovers = recovers_in_room a.room.now a.snapshot a.log a.rows.now a.active.now _ _ (omega arith) (omega arith) (omega arith) p.ensures.value p.ensures.rows_after;
      all_nodes = c.show_answer-next.ensures ∙ sym (ap (λ (x : Recovery). nodes_of x p.new.rows) c.in-Err.is);
    }
