-- The frames of a log in their order: their numbers and their places.
use Rattle.std.specs.Prelude.{ℕ, ◌+◌, ◌≤◌, ◌<◌, ◌≡◌, List, [], ◌∷◌, length}
use Rattle.fields.specs.Fields.{num}
use Rattle.layout.specs.Layout.{frame_length}
use Rattle.rows.specs.declared.Row.{Row}
use Rattle.meaning.specs.Replay.{Frame}

-- each frame's sequence is one more than the one before, the first one's n + 1
abbrev pub Consecutive : {A : Type 0} → ℕ → List (Frame A) → Type 0
Consecutive n [] = Unit {0}
Consecutive n (f ∷ fs) = (f.sequence ≡ n + 1) × Consecutive f.sequence fs

-- the first sequence is any but 0, and each one more than the one before
abbrev pub Numbered : {A : Type 0} → List (Frame A) → Type 0
Numbered [] = Unit {0}
Numbered (f ∷ fs) = (0 < f.sequence) × Consecutive f.sequence fs

-- the last frame's sequence, or `previous` where there is none
abbrev pub last_sequence : {A : Type 0} → ℕ → List (Frame A) → ℕ
last_sequence previous [] = previous
last_sequence previous (f ∷ fs) = last_sequence f.sequence fs

-- the byte after a frame of this log: its length, the length's CRC, its payload and the payload's CRC
abbrev pub after_frame : List ℕ → Frame Row → ℕ
after_frame log f = f.start + frame_length (num log f.start 4)

-- the byte after frames that begin at `at`
abbrev pub byte_after : List ℕ → ℕ → List (Frame Row) → ℕ
byte_after log at [] = at
byte_after log at (f ∷ fs) = byte_after log (after_frame log f) fs

-- each frame begins where the one before it ends, and ends inside the log
abbrev pub BackToBack : List ℕ → ℕ → List (Frame Row) → Type 0
BackToBack log at [] = Unit {0}
BackToBack log at (f ∷ fs) =
    (f.start ≡ at) × (at + 29 ≤ after_frame log f) × (after_frame log f ≤ length log) × BackToBack log (after_frame log f) fs
