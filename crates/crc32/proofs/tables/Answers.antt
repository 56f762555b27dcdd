-- `crc32::tables` meets its contract: the rule is a test at each entry, which antt computes.
-- Assumes nothing.
use mathlib.Core.Path.{refl}
use Rattle.crc32.specs.Steps.{shift, shifts}
use Rattle.crc32.proofs.Table.{digits_rule}
use Rattle.crc32.proofs.tables.Goals as goal

pub returns : goal.returns
unfolding shifts shift
returns c = digits_rule 8 16 _ refl tt tt
