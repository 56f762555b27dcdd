-- The two sources that are lent, the snapshot and the log; a part of one of them; and which part shows a row's caption or vector.
use Rattle.std.specs.Prelude.{ℕ, ◌+◌, ◌*◌, ◌≤◌, Bool, false, cond, List, length, ltb}
use Rattle.fields.specs.Fields.{part}
use Rattle.layout.specs.Layout.{caption_offset}
use Rattle.rows.specs.declared.Row.{Row}
use Rattle.sources.specs.declared.Shown.{Shown}
use Rattle.sources.specs.declared.Shown.TheVariants.{Caption, Vector}
use Rattle.sources.specs.declared.Part.{Part}

abbrev pub source_of : List ℕ → List ℕ → Bool → List ℕ
source_of snapshot log from_log = cond from_log log snapshot

-- the empty part at the snapshot's start
abbrev pub nothing : Part
nothing = record { from_log = false; at = 0; count = 0 }

-- a part's bytes
abbrev pub bytes_of : List ℕ → List ℕ → Part → List ℕ
bytes_of snapshot log p = part (source_of snapshot log p.from_log) p.at p.count

-- where a part begins, as a pointer: the block that its source lies in, and its first byte there
abbrev pub start_of : {A : Type 0} → A × ℕ → A × ℕ → Part → A × ℕ
start_of snapshot log p = (cond p.from_log log.0 snapshot.0, p.at + cond p.from_log log.1 snapshot.1)

-- whether a part passes its source's end
abbrev pub outside : List ℕ → List ℕ → Part → Bool
outside snapshot log p = ltb (length (source_of snapshot log p.from_log)) (p.at + p.count)

abbrev pub Inside : List ℕ → List ℕ → Part → Type 0
Inside snapshot log p = p.at + p.count ≤ length (source_of snapshot log p.from_log)

-- the caption begins 4 bytes after the last coordinate
abbrev pub shown_part : Shown → ℕ → Row → Part
shown_part Caption d r = record { from_log = r.from_log; at = r.at + caption_offset d; count = r.caption_length }
shown_part Vector d r = record { from_log = r.from_log; at = r.at; count = 4 * d }
