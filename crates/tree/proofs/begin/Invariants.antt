-- The loop's invariant: the rows taken up so far have their tree, and the rows are those that were lent.
use mathlib.Core.Path.{◌≡◌}
use lib.ListN.{length}
use Rattle.links.specs.Links.{plain_rows}
use Rattle.tree.specs.Grown.{Grown}
use Rattle.tree.proofs.begin.Given as goal

abbrev pub invariant-loop : goal.invariant-loop
invariant-loop l = Grown l.tree l.words l.entries × (l.tree.count ≡ l.counter) × (plain_rows l.words ≡ plain_rows l.initial.words)
    × (length l.words ≡ length l.initial.words) × (length l.entries ≡ length l.initial.entries)
