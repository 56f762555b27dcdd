-- What the program must show before it reads a file and before it shows a line: which file stands where, whose answer it is, and that the
-- line is what the call for it made.
use Rattle.std.specs.Prelude.{ℕ, ◌≤◌, ◌≡◌, cond, List, eqb, ltb, length, take, drop, Ok, Err}
use Rattle.refusal.specs.Refusal.{Answer, written_told}
use Rattle.rows.specs.Lent.{rows_lent, rows_lent_plain}
use Rattle.meaning.specs.Calls.{recover_call, recover_tables, output_after}
use Rattle.recovery.specs.Told.{recovery_answer, Recovery}
use Rattle.listing_text.specs.Lines.{ascii}
use Rattle.listing_text.specs.Files.{listing_file_limit, listing_rows, longest_line}
use Rattle.listing.specs.declared.Found.{Found}

-- one room holds both files: the snapshot from its first byte on, the log from here on
abbrev pub log_at : ℕ
log_at = listing_file_limit

-- which file is read to which byte of the room
abbrev pub name_at : ℕ → List ℕ
name_at at = cond (eqb at log_at) (ascii "wal.bin") (ascii "snapshot.bin")

-- the bytes of a file that was found there
abbrev pub file_in : Found → List ℕ → List ℕ
file_in f room = take f.bytes (drop f.at room)

-- `recover` of these two files, lent the rows of a listing, gave this answer and left these row words
pub record Recovers (snapshot log : List ℕ) (answer : Recovery) (words : List ℕ) : Type 0 where
  pub rows : List ℕ
  pub active : List ℕ
  pub as_many : rows_lent rows active ≡ listing_rows
  pub answer_is : answer ≡ recovery_answer log (recover_call rows active snapshot log)
  pub words_are : words ≡ (recover_tables rows active (recover_call rows active snapshot log)).rows

-- the call was lent output that every line fits, said this, and left the line so
pub record Made (call : List ℕ → Answer (List ℕ)) (written : Answer ℕ) (line : List ℕ) : Type 0 where
  pub out : List ℕ
  pub room : longest_line ≤ length out
  pub result_is : written ≡ written_told (call out)
  pub line_is : line ≡ output_after out (call out)

-- how many nodes are shown, from node 0 on: all, where so many rows are lent
abbrev pub nodes_listed : ℕ → List ℕ → ℕ
nodes_listed records words = cond (ltb (rows_lent_plain words) records) 0 records

abbrev pub nodes_of : Recovery → List ℕ → ℕ
nodes_of (Ok i) words = nodes_listed i.records words
nodes_of (Err refused) words = 0

-- the answer of the recovery of these two files was shown, and so many nodes
pub record Listed (snapshot log : List ℕ) (nodes : ℕ) : Type 0 where
  pub answer : Recovery
  pub words : List ℕ
  pub recovers : Recovers snapshot log answer words
  pub all_nodes : nodes ≡ nodes_of answer words
