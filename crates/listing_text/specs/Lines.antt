-- The lines of the listing, as bytes. Each ends in a newline.
use Rattle.std.specs.Prelude.{ℕ, Bool, true, false, List, [], ◌∷◌, ◌++◌}
use Prim.Native.Char.{code}
use Prim.Native.String.{String, [] as none, ◌∷◌ as ◌then◌}
use Rattle.refusal.specs.Refusal.{number}
use Rattle.refusal.specs.declared.Refusal.TheVariants.{FileUnreadable}
use Rattle.meaning.specs.Records.{Record}
use Rattle.listing_text.specs.Decimal.{decimal}
use Rattle.listing_text.specs.declared.Heading.{Heading}
use Rattle.listing_text.specs.declared.Stopped.{Stopped}
use Rattle.listing_text.specs.declared.Stopped.TheVariants as Stops

-- the bytes of a text of ASCII characters
abbrev pub ascii : String → List ℕ
ascii none = []
ascii (c then s) = code c ∷ ascii s

abbrev pub newline : List ℕ
newline = ascii "\n"

-- words and the number behind them
abbrev pub named : List ℕ → ℕ → List ℕ
named words n = words ++ decimal n

-- the state that is reached, and what there was of the log
abbrev pub state_counts : Heading → List ℕ
state_counts h = named (ascii "seq ") h.sequence ++ (named (ascii " records ") h.records ++ named (ascii " active ") h.active)

abbrev pub log_counts : Heading → List ℕ
log_counts h =
    named (ascii " replayed ") h.replayed ++ (named (ascii " skipped ") h.skipped
    ++ (named (ascii " keep ") h.keep ++ named (ascii " tail ") h.tail))

-- the first line: the recovery's answer
abbrev pub first_line : Heading → List ℕ
first_line h = state_counts h ++ (log_counts h ++ newline)

-- what is printed in place of all lines
abbrev pub refused_line : Stopped → List ℕ
refused_line (Stops.Snapshot why) = named (ascii "refused snapshot ") (number why) ++ newline
refused_line (Stops.Log why at) = named (ascii "refused log ") (number why) ++ (named (ascii " at ") at ++ newline)
refused_line Stops.File = named (ascii "refused file ") (number FileUnreadable) ++ newline

-- how a caption is written: as stored. No other definition says it
abbrev pub caption_text : List ℕ → List ℕ
caption_text caption = caption

-- a node's state; an empty caption leaves the space before it
abbrev pub state_text : Bool → List ℕ → List ℕ
state_text true caption = ascii " gone"
state_text false caption = ascii " live " ++ caption_text caption

-- node, ID, state
abbrev pub line_of : ℕ → ℕ → List ℕ → List ℕ
line_of n id state = decimal n ++ (named (ascii " ") id ++ (state ++ newline))

abbrev pub node_line : ℕ → Record → List ℕ
node_line n r = line_of n r.id (state_text r.deleted r.caption)
