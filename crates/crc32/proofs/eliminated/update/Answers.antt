-- `crc32::eliminated::update` meets its contract: what is left of the run, from the zero register on, is the run from c on.
-- Assumes nothing.
use mathlib.Core.Path.{◌∙◌}
use Rattle.crc32.proofs.Register.{eliminated}
use borrow.Author.Rules.{rules}
use Rattle.crc32.proofs.eliminated.update.Goals as goal

pub returns : goal.returns
returns c =
    c.sixteens.ensures
    ∙ eliminated c.args.c c.low.result c.low-2.result c.low-3.result c.low-4.result c.args.s.now c.eliminate.new.out (search rules) (search rules)
    c.low.ensures c.low-2.ensures c.low-3.ensures c.low-4.ensures c.eliminate.ensures.alike
