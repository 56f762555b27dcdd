-- Recovery begins with the log's length: a log that is too long is refused, any other lets the snapshot be read.
use Prim.Native.Nat.{ℕ, ◌<◌, ◌≤◌}
use mathlib.Core.Path.{◌≡◌, ap}
use mathlib.Core.Bool.{Bool, cond}
use mathlib.Core.List.{List}
use lib.ListN.{length}
use borrow.Author.Tests.{lt-ltb, le-ltb}
use Rattle.config.specs.Limits.{max_log_bytes}
use Rattle.refusal.specs.declared.Refusal.TheVariants.{LogTooLong}
use Rattle.meaning.specs.Snapshot.{read_snapshot}
use Rattle.meaning.specs.Recovery.{Recovery, refused_log, with_snapshot, recover}

abbrev tested : ℕ → List ℕ → List ℕ → Bool → Recovery
tested lent snapshot log t = cond t (refused_log LogTooLong 0) (with_snapshot lent log (read_snapshot lent snapshot))

pub too_long_lem : (lent : ℕ) (snapshot log : List ℕ) → max_log_bytes < length log → recover lent snapshot log ≡ refused_log LogTooLong 0
unfolding recover
too_long_lem lent snapshot log h = ap (tested lent snapshot log) (lt-ltb _ _ h)

pub short_enough : (lent : ℕ) (snapshot log : List ℕ) → length log ≤ max_log_bytes → recover lent snapshot log ≡ with_snapshot lent log (read_snapshot lent snapshot)
unfolding recover
short_enough lent snapshot log h = ap (tested lent snapshot log) (le-ltb _ _ h)
