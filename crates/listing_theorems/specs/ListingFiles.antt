-- The listing of two files is what the program's calls write one after the other; where 35 is given; and document 01's example, from its
-- bytes to its text.
use Rattle.std.specs.Prelude.{ℕ, ◌*◌, ◌≤◌, ◌<◌, ◌≡◌, cond, List, [], ◌++◌, ltb, length}
use Rattle.fields.specs.Fields.{Bytes}
use Rattle.meaning.specs.Recovery.{Recovery, recovered, refused_snapshot, refused_log, recover, record_count}
use Rattle.meaning.specs.Calls.{recover_call, recover_tables}
use Rattle.recovery.specs.Told.{recovery_answer}
use Rattle.theorems.specs.Sums.{example_snapshot, example_log}
use Rattle.listing_text.specs.Lines.{ascii}
use Rattle.listing_text.specs.Listing.{listing_text, refusal_line_call, answer_line_call, node_line_call}
use Rattle.listing_text.specs.Files.{listing_file_limit, listing_rows, longest_line, File, found, unreadable, listing_of}
use Rattle.listing_text.specs.declared.Stopped.TheVariants as Stops
use Rattle.listing_theorems.specs.ListingCalled.{text_of, called_from}

-- what the program lends: the room for a file; row words and active entries; and the line, as the first call finds it and as each node's does
pub record Lent : Type 0 where
  pub room : ℕ
  pub rows : List ℕ
  pub active : List ℕ
  pub line : List ℕ
  pub lines : ℕ → List ℕ

-- as `list` of crates/listing asks for it. What tables and lines hold is left open
pub record LentAsListed (l : Lent) : Type 0 where
  pub room_is : l.room ≡ listing_file_limit
  pub rows_are : length l.rows ≡ 2 * listing_rows
  pub active_are : length l.active ≡ listing_rows
  pub line_fits : longest_line ≤ length l.line
  pub lines_fit : (n : ℕ) → longest_line ≤ length (l.lines n)

-- what `list_nodes` writes of a store: a line for each node; of a refused one it is not called
abbrev pub nodes_written : Lent → List ℕ → List ℕ → Recovery → List ℕ
nodes_written l snapshot log (recovered r) =
    called_from (λ n. node_line_call r.config.dimensions (recover_tables l.rows l.active (recovered r)).rows (record_count r) n snapshot log (l.lines n)) (record_count r) 0
nodes_written l snapshot log (refused_snapshot why) = []
nodes_written l snapshot log (refused_log why at) = []

-- what `list_store` writes: the line that recovery's answer is told by, and the nodes'
abbrev pub store_written : Lent → List ℕ → List ℕ → Recovery → List ℕ
store_written l snapshot log x = text_of (answer_line_call (recovery_answer log x) l.line) ++ nodes_written l snapshot log x

-- a file that was not read, or that its room does not hold, ends it
abbrev pub file_written : Lent → File → (List ℕ → List ℕ) → List ℕ
file_written l unreadable next = text_of (refusal_line_call Stops.File l.line)
file_written l (found bytes) next = cond (ltb l.room (length bytes)) (text_of (refusal_line_call Stops.File l.line)) (next bytes)

-- what `list` writes
abbrev pub written : Lent → File → File → List ℕ
written l snapshot log = file_written l snapshot (λ s. file_written l log (λ b. store_written l s b (recover_call l.rows l.active s b)))

-- what is found in a file are bytes
abbrev pub OfBytes : File → Type 0
OfBytes unreadable = Unit {0}
OfBytes (found bytes) = Bytes bytes

-- it was not read, or is too long
abbrev pub Unlisted : File → Type 0
Unlisted unreadable = Unit {0}
Unlisted (found bytes) = listing_file_limit < length bytes

pub record ListingFiles : Type 0 where
  pub listing_written : (l : Lent) → LentAsListed l → (snapshot log : File) → OfBytes snapshot → OfBytes log → written l snapshot log ≡ listing_of snapshot log
  -- 35 for either file, and for no other
  pub snapshot_unlisted : (snapshot log : File) → Unlisted snapshot → listing_of snapshot log ≡ ascii "refused file 35\n"
  pub log_unlisted : (snapshot log : File) → Unlisted log → listing_of snapshot log ≡ ascii "refused file 35\n"
  pub both_listed : (snapshot log : List ℕ) → length snapshot ≤ listing_file_limit → length log ≤ listing_file_limit
      → listing_of (found snapshot) (found log) ≡ listing_text snapshot log (recover listing_rows snapshot log)
  pub listing_example : listing_of (found example_snapshot) (found example_log)
      ≡ ascii "seq 2 records 2 active 1 replayed 2 skipped 0 keep 78 tail 3\n0 7 gone\n1 7 live Ho\n"
