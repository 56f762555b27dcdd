-- Every line that is asked for is no longer than the longest: the first line of an accepted recovery, and a refusal's.
use Prim.Native.Nat.{ℕ, suc, ◌+◌, ◌≤◌, ◌<◌, ◌^◌}
use native.Mathlib.Omega.{arith}
use mathlib.Core.Path.{◌≡◌}
use mathlib.Core.Bool.{Bool, true, false, cond}
use mathlib.Core.List.{List, [], ◌∷◌, ◌++◌}
use lib.ListN.{length}
use Rattle.fields.specs.Fields.{Bytes}
use Rattle.config.specs.Limits.{max_log_bytes}
use Rattle.refusal.specs.Refusal.{number}
use Rattle.refusal.specs.declared.Refusal.{Refusal}
use Rattle.refusal.specs.declared.Refusal.TheVariants as Refusals
use Rattle.rows.specs.declared.Row.{Row}
use Rattle.meaning.specs.Replay.{Frame}
use Rattle.meaning.specs.Recovery.{Recovered, recovered, refused_log, recover, live_count, rows_of}
use Rattle.meaning.specs.Calls.{recovery_told}
use Rattle.theorems.specs.FrameLists.{after_frame, byte_after, BackToBack}
use Rattle.theorems.specs.RefusedAt.{RefusedAt, too_long, in_frame}
use Rattle.theorems.proofs.LogLaws.{after_most}
use Rattle.theorems.proofs.Recovering.{accepted}
use Rattle.theorems.proofs.AtTheCut.{standing}
use Rattle.theorems.proofs.TakenOnce.{taken_once}
use Rattle.theorems.proofs.RefusedThere.{refused_at}
use Rattle.listing_text.specs.Decimal.{decimal}
use Rattle.listing_text.specs.Lines.{ascii, newline, named, state_counts, log_counts, first_line, refused_line}
use Rattle.listing_text.specs.Listing.{heading_of}
use Rattle.listing_text.specs.Files.{longest_line}
use Rattle.listing_text.specs.declared.Heading.{Heading}
use Rattle.listing_text.specs.declared.Stopped.TheVariants as Stops
use Rattle.listing_text.proofs.DecimalLaws.{length_within}
use Rattle.listing_text.proofs.LineLaws.{length_before, length_three, length_state, length_log}

-- a number of 8 bytes has 20 digits at the most
digits_few : (n : ℕ) → n < 256 ^ 8 → length (decimal n) ≤ 20
digits_few n h = length_within 19 n (omega arith)

-- ---- a refusal's line
number_small : (why : Refusal) → number why < 100
number_small Refusals.LengthOutOfBounds = omega arith
number_small Refusals.WrongMagic = omega arith
number_small Refusals.WrongVersion = omega arith
number_small Refusals.PastTheEnd = omega arith
number_small Refusals.WrongMetric = omega arith
number_small Refusals.WrongDimensions = omega arith
number_small Refusals.WrongM = omega arith
number_small Refusals.WrongEf = omega arith
number_small Refusals.WrongCount = omega arith
number_small Refusals.WrongFlag = omega arith
number_small Refusals.VectorPastTheEnd = omega arith
number_small Refusals.NotFinite = omega arith
number_small Refusals.VectorAllZero = omega arith
number_small Refusals.CaptionTooLong = omega arith
number_small Refusals.NotUtf8 = omega arith
number_small Refusals.BytesLeftOver = omega arith
number_small Refusals.WrongFileCrc = omega arith
number_small Refusals.ActiveTwice = omega arith
number_small Refusals.TooFewRows = omega arith
number_small Refusals.LogTooLong = omega arith
number_small Refusals.WrongLengthCrc = omega arith
number_small Refusals.WrongLength = omega arith
number_small Refusals.WrongPayloadCrc = omega arith
number_small Refusals.WrongSequence = omega arith
number_small Refusals.WrongBatchCount = omega arith
number_small Refusals.UnknownOperation = omega arith
number_small Refusals.GapAfterSnapshot = omega arith
number_small Refusals.StorageLimits = omega arith
number_small Refusals.InactiveDelete = omega arith
number_small Refusals.NoSuchNode = omega arith
number_small Refusals.RowDoesNotFit = omega arith
number_small Refusals.OutputTooShort = omega arith
number_small Refusals.RequestMalformed = omega arith
number_small Refusals.TooLarge = omega arith
number_small Refusals.FileUnreadable = omega arith
number_small Refusals.StaleCache = omega arith
number_small Refusals.WrongNodeCount = omega arith
number_small Refusals.WrongEntry = omega arith
number_small Refusals.MissingEntry = omega arith
number_small Refusals.WrongRngState = omega arith
number_small Refusals.CountOverBytes = omega arith
number_small Refusals.WrongLevels = omega arith
number_small Refusals.WrongDegree = omega arith
number_small Refusals.WrongNeighbour = omega arith
number_small Refusals.EdgeToMissingLevel = omega arith
number_small Refusals.EntryBelowHighest = omega arith
number_small Refusals.TooFewStarts = omega arith

pub snapshot_line_short : (why : Refusal) → length (refused_line (Stops.Snapshot why)) ≤ longest_line
snapshot_line_short why =
    let n = number_small why in
    omega (arith, length_before (ascii "refused snapshot ") (number why) newline, length_within 1 (number why) n)

pub log_line_short : (why : Refusal) (at : ℕ) → at < 256 ^ 8 → length (refused_line (Stops.Log why at)) ≤ longest_line
log_line_short why at h =
    let n = number_small why in
    let place = named (ascii " at ") at ++ newline in
    omega (arith, length_before (ascii "refused log ") (number why) place, length_before (ascii " at ") at newline, length_within 1 (number why) n, digits_few at h)

pub file_line_short : length (refused_line Stops.File) ≤ longest_line
file_line_short = omega (arith, length_before (ascii "refused file ") 35 newline, length_within 1 35 (omega arith))

-- a refused log is refused inside its bound
pub refused_inside : (lent : ℕ) (snapshot log : List ℕ) (why : Refusal) (at : ℕ) → recover lent snapshot log ≡ refused_log why at → at < 256 ^ 8
refused_inside lent snapshot log why at e = by (refused_at lent snapshot log why at e)
  where
    by : RefusedAt lent snapshot log why at → at < 256 ^ 8
    by (too_long long is zero_is) = omega arith
    by (in_frame short cut place_is refused) = let s = cut.short in omega arith

-- ---- the first line
first_line_short : (h : Heading) → h.sequence < 256 ^ 8 → h.records < 256 ^ 8 → h.active < 256 ^ 8 → h.replayed < 256 ^ 8 → h.skipped < 256 ^ 8 → h.keep < 256 ^ 8
    → h.tail < 256 ^ 8 → length (first_line h) ≤ longest_line
first_line_short h a b c d e f g =
    omega (arith, length_three (state_counts h) (log_counts h) newline, length_state h, length_log h, digits_few h.sequence a, digits_few h.records b, digits_few h.active c, digits_few h.replayed d, digits_few h.skipped e, digits_few h.keep f, digits_few h.tail g)

live_few : (rows : List Row) → live_count rows ≤ length rows
unfolding live_count
live_few [] = omega arith
live_few (r ∷ rs) = by r.deleted (live_few rs)
  where
    by : (d : Bool) → live_count rs ≤ length rs → cond d (live_count rs) (suc (live_count rs)) ≤ suc (length rs)
    by true h = omega arith
    by false h = omega arith

-- every frame takes a byte at least
frames_few : (log : List ℕ) (at : ℕ) (fs : List (Frame Row)) → BackToBack log at fs → at + length fs ≤ byte_after log at fs
frames_few log at [] b = omega arith
frames_few log at (f ∷ fs) b =
    let far : at + 29 ≤ after_frame log f = b.1 in
    let more = frames_few log (after_frame log f) fs b.3 in
    omega arith

pub recovered_line_short : (lent : ℕ) (snapshot log : List ℕ) (r : Recovered) → Bytes snapshot → Bytes log → recover lent snapshot log ≡ recovered r
    → length (first_line (heading_of (recovery_told log r))) ≤ longest_line
recovered_line_short lent snapshot log r bs bl e =
    let a = accepted lent snapshot log r e in
    let s = standing lent snapshot log r bs bl a in
    let t = taken_once lent snapshot log r e in
    let short : length log ≤ max_log_bytes = a.short in
    let few = s.few in
    let live = live_few (rows_of r) in
    let keep_is = t.keep in
    let most : byte_after log 0 t.frames ≤ length log = after_most log 0 t.frames (omega arith) t.back_to_back in
    let counted = frames_few log 0 t.frames t.back_to_back in
    let both = t.together in
    first_line_short (heading_of (recovery_told log r)) s.sequence_fits (omega arith) (omega arith) (omega arith) (omega arith) (omega arith) (omega arith)
