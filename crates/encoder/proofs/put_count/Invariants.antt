-- The puts so far and those from k on are all of them.
use mathlib.Core.Path.{◌≡◌}
use Prim.Native.Nat.{◌+◌, ◌≤◌}
use Rattle.meaning.specs.Encoder.{asked, put_count}
use Rattle.encoder.proofs.RunLaws.{asked_past}
use Rattle.encoder.proofs.put_count.Given as goal

abbrev pub invariant-loop-k : goal.invariant-loop-k
invariant-loop-k l = (l.count ≤ l.k) × (l.count + put_count (asked_past l.operations l.k) ≡ put_count (asked l.operations))
