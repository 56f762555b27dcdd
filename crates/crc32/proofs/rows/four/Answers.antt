-- `crc32::rows::four` meets its contract: each byte is looked up in the row of as many bytes as follow it.
-- Assumes nothing.
use borrow.Author.Rules.{rules}
use Rattle.crc32.proofs.Slices.{four_looked}
use Rattle.crc32.proofs.rows.four.Goals as goal

pub returns : goal.returns
returns c =
    let a = c.args in
    four_looked a.row a.c a.at a.s.now (search rules) (search rules) (λ i. search rules)
    c.look.ensures c.look-2.ensures c.look-3.ensures c.look-4.ensures
