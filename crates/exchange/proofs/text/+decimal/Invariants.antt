-- `decimal` ends: each call within it has a digit fewer to write.
use Rattle.exchange.proofs.text.+decimal.Given as goal

abbrev pub decreases-decimal : goal.decreases-decimal
decreases-decimal l = l.n
