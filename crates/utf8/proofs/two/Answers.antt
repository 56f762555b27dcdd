-- `two` tests what `Shape` asks of two octets; where a test fails, no other rule has such a first octet.
use mathlib.Core.Path.{sym}
use native.Mathlib.Omega.{arith}
use Rattle.utf8.proofs.Shapes.{two, shape_at, two_not}
use Rattle.utf8.proofs.two.Goals as goal

pub returns-then-s-at-lt2 : goal.returns-then-s-at-lt2
returns-then-s-at-lt2 c = two_not c.args.s.now c.args.at c.requires.range (λ h p q. omega arith)

pub returns-then-s-at-lt194 : goal.returns-then-s-at-lt194
returns-then-s-at-lt194 c = two_not c.args.s.now c.args.at c.requires.range (λ h p q. omega arith)

pub returns-then-s-at-ne2 : goal.returns-then-s-at-ne2
returns-then-s-at-ne2 c = two_not c.args.s.now c.args.at c.requires.range (λ h p q. c.if-s-at-ne2.true q)

pub returns : goal.returns
returns c = sym (shape_at c.args.s.now c.args.at c.requires.at_in_bounds (two (omega arith) (omega arith) c.if-s-at-ne2.false))
