-- `follows` looks at the sequence's field, where it is there.
use borrow.Author.Tests.{le-leb, lt-leb}
use Rattle.recovery.proofs.follows.Goals as goal

pub returns-then-at-log : goal.returns-then-at-log
returns-then-at-log c = simp (le-leb _ _ c.if-at-log.true, c.get_u64.ensures)

pub returns : goal.returns
returns c = simp (lt-leb _ _ c.if-at-log.false)
