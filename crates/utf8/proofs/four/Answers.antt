-- `four` tests what `Shape` asks of four octets; where a test fails, no other rule has such a first octet.
use mathlib.Core.Path.{sym}
use native.Mathlib.Omega.{arith}
use Rattle.utf8.proofs.Shapes.{four, shape_at, four_not}
use Rattle.utf8.proofs.four.Goals as goal

pub returns-then-s-at-lt4 : goal.returns-then-s-at-lt4
returns-then-s-at-lt4 c = four_not c.args.s.now c.args.at c.requires.range (λ h l p q r t. omega arith)

pub returns-then-a-gt244 : goal.returns-then-a-gt244
returns-then-a-gt244 c = four_not c.args.s.now c.args.at c.requires.range (λ h l p q r t. omega arith)

pub returns-then-b-bound : goal.returns-then-b-bound
returns-then-b-bound c = four_not c.args.s.now c.args.at c.requires.range (λ h l p q r t. omega arith)

pub returns-then-bound-b : goal.returns-then-bound-b
returns-then-bound-b c = four_not c.args.s.now c.args.at c.requires.range (λ h l p q r t. omega arith)

pub returns-then-s-at-ne2 : goal.returns-then-s-at-ne2
returns-then-s-at-ne2 c = four_not c.args.s.now c.args.at c.requires.range (λ h l p q r t. c.if-s-at-ne2.true r)

pub returns-then-s-at-ne2-2 : goal.returns-then-s-at-ne2-2
returns-then-s-at-ne2-2 c = four_not c.args.s.now c.args.at c.requires.range (λ h l p q r t. c.if-s-at-ne2-2.true t)

pub returns : goal.returns
returns c = sym (shape_at c.args.s.now c.args.at c.requires.at_in_bounds (four (omega arith) (omega arith) (omega arith) c.if-s-at-ne2.false c.if-s-at-ne2-2.false))
