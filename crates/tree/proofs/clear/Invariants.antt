-- The loop's invariant: the words passed are plain, and the rows are those that were lent.
use Prim.Native.Nat.{ℕ, ◌+◌, ◌*◌, ◌<◌}
use mathlib.Core.Path.{◌≡◌}
use lib.ListN.{get_or}
use Rattle.links.specs.Links.{plain_word, plain_rows}
use Rattle.tree.proofs.clear.Given as goal

abbrev pub invariant-loop-i : goal.invariant-loop-i
invariant-loop-i l = (plain_rows l.words ≡ plain_rows l.initial.words)
    × ((k : ℕ) → k < l.i → plain_word (get_or l.words (2 * k + 1) 0) ≡ get_or l.words (2 * k + 1) 0)
