-- `after_words` passes ASCII.
use native.Mathlib.Omega.{arith}
use Rattle.utf8.proofs.Passing.{passes_on}
use Rattle.utf8.proofs.Words.{word_all_passes}
use Rattle.utf8.proofs.after_words.Goals as goal

pub loop-i-preserved : goal.loop-i-preserved
loop-i-preserved c = passes_on c.loop-i.invariant (passes_on (word_all_passes _ _ _ (omega arith) c.ascii_in_word-k.ensures c.if-k-lt8.false) c.after_blocks-i.ensures)
