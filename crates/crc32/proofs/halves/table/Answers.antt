-- `crc32::halves::table` meets its contract: the rule is a test at each entry, which antt computes.
-- Assumes nothing.
use mathlib.Core.Path.{refl}
use Rattle.crc32.specs.Steps.{shift, shifts}
use Rattle.crc32.proofs.Table.{digits_rule}
use Rattle.crc32.proofs.halves.table.Goals as goal

pub returns : goal.returns
unfolding shifts shift
returns c = digits_rule 4 16 _ refl tt tt
