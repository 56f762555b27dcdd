-- Document 01's example and its three refusals, to the letter.
use mathlib.Core.Path.{◌≡◌, refl}
use mathlib.Core.Bool.{true, false}
use mathlib.Core.List.{List, [], ◌∷◌, ◌++◌}
use Rattle.refusal.specs.declared.Refusal.TheVariants.{WrongFileCrc, WrongLengthCrc}
use Rattle.meaning.specs.Records.{Record}
use Rattle.listing_text.specs.Decimal.{decimal_by, decimal}
use Rattle.listing_text.specs.Lines.{ascii, first_line, refused_line, node_line}
use Rattle.listing_text.specs.Listing.{node_lines}
use Rattle.listing_text.specs.declared.Heading.{Heading}
use Rattle.listing_text.specs.declared.Stopped.TheVariants as Stops

-- the recovery's answer, and its two records
abbrev heading : Heading
heading = record { sequence = 2; records = 2; active = 1; replayed = 2; skipped = 0; keep = 78; tail = 3 }

abbrev records : List Record
records =
    record { id = 7; deleted = true; vector = []; caption = [] } ∷ record { id = 7; deleted = false; vector = []; caption = ascii "Ho" } ∷ []

pub example : first_line heading ++ node_lines 0 records ≡ ascii "seq 2 records 2 active 1 replayed 2 skipped 0 keep 78 tail 3\n0 7 gone\n1 7 live Ho\n"
unfolding decimal decimal_by node_lines
example = refl

pub snapshot_refused : refused_line (Stops.Snapshot WrongFileCrc) ≡ ascii "refused snapshot 17\n"
unfolding decimal decimal_by
snapshot_refused = refl

pub log_refused : refused_line (Stops.Log WrongLengthCrc 39) ≡ ascii "refused log 21 at 39\n"
unfolding decimal decimal_by
log_refused = refl

pub file_refused : refused_line Stops.File ≡ ascii "refused file 35\n"
unfolding decimal decimal_by
file_refused = refl

-- a live node with an empty caption ends in a space
pub empty_caption : node_line 10 (record { id = 0; deleted = false; vector = []; caption = [] }) ≡ ascii "10 0 live \n"
unfolding decimal decimal_by
empty_caption = refl
