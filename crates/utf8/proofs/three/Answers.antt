-- `three` tests what `Shape` asks of three octets; where a test fails, no other rule has such a first octet.
use mathlib.Core.Path.{sym}
use native.Mathlib.Omega.{arith}
use Rattle.utf8.proofs.Shapes.{three, shape_at, three_not}
use Rattle.utf8.proofs.three.Goals as goal

pub returns-then-s-at-lt3 : goal.returns-then-s-at-lt3
returns-then-s-at-lt3 c = three_not c.args.s.now c.args.at c.requires.range (λ h p q r. omega arith)

pub returns-then-b-bound : goal.returns-then-b-bound
returns-then-b-bound c = three_not c.args.s.now c.args.at c.requires.range (λ h p q r. omega arith)

pub returns-then-bound-b : goal.returns-then-bound-b
returns-then-bound-b c = three_not c.args.s.now c.args.at c.requires.range (λ h p q r. omega arith)

pub returns-then-s-at-ne2 : goal.returns-then-s-at-ne2
returns-then-s-at-ne2 c = three_not c.args.s.now c.args.at c.requires.range (λ h p q r. c.if-s-at-ne2.true r)

pub returns : goal.returns
returns c = sym (shape_at c.args.s.now c.args.at c.requires.at_in_bounds (three (omega arith) c.requires.range (omega arith) c.if-s-at-ne2.false))
