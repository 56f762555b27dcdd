-- Each entry before this one is its own place.
use Rattle.std.proofs.Common.{ℕ, get_or, ◌<◌, ◌≡◌}
use Rattle.sorting_vectors.proofs.number.Given as goal

abbrev pub invariant-loop-i : goal.invariant-loop-i
invariant-loop-i l = (k : ℕ) → k < l.i → get_or l.active k 0 ≡ k
