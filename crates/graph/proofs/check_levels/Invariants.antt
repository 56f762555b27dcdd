-- `check_levels` answers the levels in order. The invariant: the run from here is the whole run, and every mark is below what comes next.
use lib.ListN.{length}
use Rattle.graph.specs.Cache.{read_level}
use Rattle.graph.proofs.Listing.{Running}
use Rattle.graph.proofs.check_levels.Given as goal

abbrev pub invariant-loop-level : goal.invariant-loop-level
invariant-loop-level l = Running (read_level l.m l.count l.s l.end l.node) l.end l.levels l.first (length l.initial.marks) l.marks l.at l.level
