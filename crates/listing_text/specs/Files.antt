-- The listing of two files: document 01's bounds, 35, and the recovery that is listed.
use Rattle.std.specs.Prelude.{ℕ, ◌+◌, cond, List, ltb, length}
use Rattle.config.specs.Limits.{max_metadata}
use Rattle.meaning.specs.Recovery.{recover}
use Rattle.listing_text.specs.Lines.{refused_line}
use Rattle.listing_text.specs.Listing.{listing_text}
use Rattle.listing_text.specs.declared.Stopped.TheVariants as Stops

-- a file that exceeds so many bytes is refused
abbrev pub listing_file_limit : ℕ
listing_file_limit = 65536

-- the rows that are lent
abbrev pub listing_rows : ℕ
listing_rows = 4096

-- the longest line, a node's: a caption behind 5 digits, a space, 20 digits and ` live `, and the newline
abbrev pub longest_line : ℕ
longest_line = max_metadata + 33

-- a file as it was found: its bytes, or that it could not be opened or read
pub data File : Type 0 where
  found : List ℕ → File
  unreadable : File

-- what is made of a file's bytes, or 35
abbrev pub listed : File → (List ℕ → List ℕ) → List ℕ
listed unreadable text = refused_line Stops.File
listed (found bytes) text = cond (ltb listing_file_limit (length bytes)) (refused_line Stops.File) (text bytes)

-- the text of the listing of a snapshot and the log beside it
abbrev pub listing_of : File → File → List ℕ
listing_of snapshot log = listed snapshot (λ s. listed log (λ l. listing_text s l (recover listing_rows s l)))
