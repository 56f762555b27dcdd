-- `elimination::last` meets its contract. The loop's invariant: j bytes are made.
-- Assumes nothing.
use mathlib.Core.Path.{◌≡◌}
use Prim.Native.Nat.{ℕ, ◌<◌}
use lib.Bits.{bit_xor}
use lib.ListN.{length, get_or, drop}
use Rattle.elimination.specs.Elimination.{earlier}
use Rattle.elimination.proofs.last.Given as goal

abbrev pub invariant-loop-j : goal.invariant-loop-j
invariant-loop-j l = (length l.out ≡ 2400) × ((k : ℕ) → k < l.j → get_or l.out k 0 ≡ bit_xor (get_or (drop l.at l.s) k 0) (earlier l.v k))
