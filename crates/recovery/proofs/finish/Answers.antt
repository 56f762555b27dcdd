-- `finish` takes the tree out of the rows and puts the active nodes in its place.
use Rattle.recovery.proofs.Ending.{never_twice, finish_recovers}
use Rattle.recovery.proofs.finish.Goals as goal

pub returns-in-Ok : goal.returns-in-Ok
returns-in-Ok c =
    let f = c.finish in
    let s = c.args in
    λ records k.
    finish_recovers s.info s.log.now s.rows.now s.active.now s.reached records k f.new.words f.ensures
    c.in-Ok.n c.activate.result c.activate.ensures.value c.in-Ok.is
    c.recovered.result c.recovered.ensures f.auto.words
    c.activate.new.rows c.activate.new.entries c.activate.ensures.rows_after c.activate.ensures.entries_after

pub returns-in-Err : goal.returns-in-Err
returns-in-Err c =
    let f = c.finish in
    let s = c.args in
    λ records k.
    absurd (never_twice s.info s.log.now s.rows.now s.active.now s.reached records k f.new.words f.ensures
    c.activate.result c.in-Err.why c.activate.ensures.value c.in-Err.is)
