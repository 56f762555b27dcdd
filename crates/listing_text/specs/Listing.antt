-- The whole text of a listing, and each call that writes a line of it into lent memory.
use Rattle.std.specs.Prelude.{ℕ, suc, List, [], ◌∷◌, ◌++◌, ltb, length, Ok, Err}
use Rattle.refusal.specs.Refusal.{Answer, ◌>>=◌, refuse}
use Rattle.refusal.specs.declared.Refusal.TheVariants.{OutputTooShort}
use Rattle.rows.specs.Rows.{row_at}
use Rattle.sources.specs.declared.Shown.TheVariants.{Caption}
use Rattle.meaning.specs.Records.{Record, seen}
use Rattle.meaning.specs.Recovery.{Recovery, recovered, refused_snapshot, refused_log, records_of}
use Rattle.meaning.specs.Calls.{RecoveryTold, recovery_told}
use Rattle.meaning.specs.Views.{view}
use Rattle.recovery.specs.Told.{Recovery as RecoveryAnswer}
use Rattle.recovery.specs.declared.NotRecovered.{NotRecovered}
use Rattle.recovery.specs.declared.NotRecovered.TheVariants as Refusals
use Rattle.recovery.specs.declared.RecoveryInfo.{RecoveryInfo}
use Rattle.listing_text.specs.Lines.{first_line, refused_line, node_line}
use Rattle.listing_text.specs.declared.Heading.{Heading}
use Rattle.listing_text.specs.declared.Stopped.{Stopped}
use Rattle.listing_text.specs.declared.Stopped.TheVariants as Stops

-- what the first line tells of an accepted recovery
abbrev pub heading_of : RecoveryTold → Heading
heading_of r =
    record {
      sequence = r.sequence;
      records = r.records;
      active = r.active;
      replayed = r.replayed;
      skipped = r.skipped;
      keep = r.keep;
      tail = r.tail;
    }

-- what it tells of an answer of `recovery::recover`
abbrev pub heading_shown : RecoveryInfo → Heading
heading_shown i =
    record {
      sequence = i.sequence;
      records = i.records;
      active = i.active;
      replayed = i.replayed;
      skipped = i.skipped;
      keep = i.keep;
      tail = i.tail;
    }

-- what is refused where no store is recovered
abbrev pub stopped_by : NotRecovered → Stopped
stopped_by (Refusals.Snapshot why) = Stops.Snapshot why
stopped_by (Refusals.Log why at) = Stops.Log why at

-- the line that an answer is told by: its first line, or the refusal's
abbrev pub answer_line : RecoveryAnswer → List ℕ
answer_line (Ok i) = first_line (heading_shown i)
answer_line (Err why) = refused_line (stopped_by why)

-- a line for each node in node order, from node n on
unfoldable pub node_lines : ℕ → List Record → List ℕ
node_lines n [] = []
node_lines n (r ∷ rs) = node_line n r ++ node_lines (suc n) rs

-- the text of a listing: the refusal's line, or the first line and each node's
abbrev pub listing_text : List ℕ → List ℕ → Recovery → List ℕ
listing_text snapshot log (recovered r) = first_line (heading_of (recovery_told log r)) ++ node_lines 0 (records_of snapshot log r)
listing_text snapshot log (refused_snapshot why) = refused_line (Stops.Snapshot why)
listing_text snapshot log (refused_log why at) = refused_line (Stops.Log why at)

-- ---- the calls: a line, or 32 where the lent output is too short for it
unfoldable pub fitted : List ℕ → List ℕ → Answer (List ℕ)
fitted out line = do
  _ ← refuse OutputTooShort (ltb (length out) (length line))
  Ok line

abbrev pub first_line_call : Heading → List ℕ → Answer (List ℕ)
first_line_call h out = fitted out (first_line h)

abbrev pub refusal_line_call : Stopped → List ℕ → Answer (List ℕ)
refusal_line_call stopped out = fitted out (refused_line stopped)

abbrev pub answer_line_call : RecoveryAnswer → List ℕ → Answer (List ℕ)
answer_line_call a out = fitted out (answer_line a)

-- 6, 30 and 31 as the caption's view has them, of a node that is gone too; then 32
unfoldable pub node_line_call : ℕ → List ℕ → ℕ → ℕ → List ℕ → List ℕ → List ℕ → Answer (List ℕ)
node_line_call d words count n snapshot log out = do
  _ ← view Caption d words count n snapshot log
  fitted out (node_line n (seen d snapshot log (row_at words n)))
