-- The calls that write the listing's lines, as `Store` has its calls; and what an answer of `recover` is listed as.
use Rattle.std.specs.Prelude.{ℕ, ◌≤◌, ◌≡◌, List, [], ◌++◌, length, take, drop, Ok, Err}
use Rattle.std.specs.Borrow.{Bor, MutBor}
use Rattle.refusal.specs.declared.Refusal.{Refusal}
use Rattle.refusal.specs.Refusal.{written_told, Answer}
use Rattle.fields.specs.Fields.{Bytes}
use Rattle.rows.specs.Rows.{row_at}
use Rattle.rows.specs.declared.Node.{Node}
use Rattle.meaning.specs.Records.{seen}
use Rattle.meaning.specs.Recovery.{recover}
use Rattle.meaning.specs.Calls.{output_after}
use Rattle.recovery.specs.Told.{Recovery}
use Rattle.recovery.specs.declared.NotRecovered.TheVariants as Refusals
use Rattle.listing_text.specs.Lines.{ascii, named, newline, first_line, refused_line, node_line}
use Rattle.listing_text.specs.Listing.{answer_line, node_lines, listing_text, fitted, first_line_call, refusal_line_call, answer_line_call, node_line_call}
use Rattle.listing_text.specs.Files.{listing_file_limit, listing_rows, found, listing_of}
use Rattle.listing_text.specs.declared.Heading.{Heading}
use Rattle.listing_text.specs.declared.Stopped.{Stopped}
use Rattle.listing_text.proofs.first_line.Reads as FirstLineCall
use Rattle.listing_text.proofs.refusal_line.Reads as RefusalLineCall
use Rattle.listing_text.proofs.number_line.Reads as NumberLineCall
use Rattle.listing_text.proofs.log_line.Reads as LogLineCall
use Rattle.listing_text.proofs.answer_line.Reads as AnswerLineCall
use Rattle.listing_text.proofs.node_line.Reads as NodeLineCall
use Rattle.promises.specs.OneAnswer.{OneEach}
use Rattle.promises.specs.Recover.{Recovers, records_shown}

-- first_line(heading, out): the answer and the output after
pub record FirstLineMeets (heading : Heading) (out : List ℕ) (r : Answer ℕ) (after : List ℕ) : Type 0 where
  pub result_is : r ≡ written_told (first_line_call heading out)
  pub output_is : after ≡ output_after out (first_line_call heading out)

-- refusal_line(stopped, out): as `first_line`
pub record RefusalLineMeets (stopped : Stopped) (out : List ℕ) (r : Answer ℕ) (after : List ℕ) : Type 0 where
  pub result_is : r ≡ written_told (refusal_line_call stopped out)
  pub output_is : after ≡ output_after out (refusal_line_call stopped out)

-- number_line(words, n, out): as `first_line`
pub record NumberLineMeets (words : List ℕ) (n : ℕ) (out : List ℕ) (r : Answer ℕ) (after : List ℕ) : Type 0 where
  pub result_is : r ≡ written_told (fitted out (named words n ++ newline))
  pub output_is : after ≡ output_after out (fitted out (named words n ++ newline))

-- log_line(number, at, out): as `first_line`
pub record LogLineMeets (number at : ℕ) (out : List ℕ) (r : Answer ℕ) (after : List ℕ) : Type 0 where
  pub result_is : r ≡ written_told (fitted out (named (ascii "refused log ") number ++ (named (ascii " at ") at ++ newline)))
  pub output_is : after ≡ output_after out (fitted out (named (ascii "refused log ") number ++ (named (ascii " at ") at ++ newline)))

-- node_line(snapshot, log, rows, count, node, d, out): as `first_line`
pub record NodeLineMeets (snapshot log rows : List ℕ) (count : ℕ) (node : Node) (d : ℕ) (out : List ℕ) (r : Answer ℕ) (after : List ℕ) : Type 0 where
  pub result_is : r ≡ written_told (node_line_call d rows count node.0 snapshot log out)
  pub output_is : after ≡ output_after out (node_line_call d rows count node.0 snapshot log out)

-- answer_line(answer, out): as `first_line`
pub record AnswerLineMeets (answer : Recovery) (out : List ℕ) (r : Answer ℕ) (after : List ℕ) : Type 0 where
  pub result_is : r ≡ written_told (answer_line_call answer out)
  pub output_is : after ≡ output_after out (answer_line_call answer out)

-- a line for each node of an answer, as the row words beside it have them
abbrev pub nodes_shown : List ℕ → List ℕ → Recovery → List ℕ → List ℕ
nodes_shown snapshot log (Ok i) words = node_lines 0 (records_shown snapshot log i words)
nodes_shown snapshot log (Err (Refusals.Snapshot why)) words = []
nodes_shown snapshot log (Err (Refusals.Log why at)) words = []

-- the listing of an answer with the row words beside it: the line that it is told by and each node's
abbrev pub listing_shown : List ℕ → List ℕ → Recovery → List ℕ → List ℕ
listing_shown snapshot log r words = answer_line r ++ nodes_shown snapshot log r words

-- an output of which n bytes were written: its first n bytes are the line, and the rest is untouched
pub record LineLeft (line : List ℕ) (n : ℕ) (out after : List ℕ) : Type 0 where
  pub is_line : take n after ≡ line
  pub rest_untouched : drop n after ≡ drop n out

pub record ListingCalls : Type 0 where
  pub first_line_contract : (κs : _) (heading : Heading) (out : MutBor (List ℕ)) (r : Answer ℕ) (after : MutBor (List ℕ))
      → FirstLineCall.Learnt κs (heading, (out, tt)) r (heading, (after, tt)) → FirstLineMeets heading out.now r after.now
  pub first_line_one_answer : (heading : Heading) (out : List ℕ) → OneEach (FirstLineMeets heading out)
  pub refusal_line_contract : (κs : _) (stopped : Stopped) (out : MutBor (List ℕ)) (r : Answer ℕ) (after : MutBor (List ℕ))
      → RefusalLineCall.Learnt κs (stopped, (out, tt)) r (stopped, (after, tt)) → RefusalLineMeets stopped out.now r after.now
  pub refusal_line_one_answer : (stopped : Stopped) (out : List ℕ) → OneEach (RefusalLineMeets stopped out)
  pub number_line_contract : (κs : _) (words : Bor (List ℕ)) (n : ℕ) (out : MutBor (List ℕ)) (r : Answer ℕ) (after : MutBor (List ℕ))
      → NumberLineCall.Learnt κs (words, (n, (out, tt))) r (words, (n, (after, tt))) → NumberLineMeets words.now n out.now r after.now
  pub number_line_one_answer : (words : List ℕ) (n : ℕ) (out : List ℕ) → OneEach (NumberLineMeets words n out)
  pub log_line_contract : (κs : _) (number at : ℕ) (out : MutBor (List ℕ)) (r : Answer ℕ) (after : MutBor (List ℕ))
      → LogLineCall.Learnt κs (number, (at, (out, tt))) r (number, (at, (after, tt))) → LogLineMeets number at out.now r after.now
  pub log_line_one_answer : (number at : ℕ) (out : List ℕ) → OneEach (LogLineMeets number at out)
  pub answer_line_contract : (κs : _) (answer : Recovery) (out : MutBor (List ℕ)) (r : Answer ℕ) (after : MutBor (List ℕ))
      → AnswerLineCall.Learnt κs (answer, (out, tt)) r (answer, (after, tt)) → AnswerLineMeets answer out.now r after.now
  pub answer_line_one_answer : (answer : Recovery) (out : List ℕ) → OneEach (AnswerLineMeets answer out)
  pub node_line_contract : (κs : _) (snapshot log rows : Bor (List ℕ)) (count : ℕ) (node : Node) (d : ℕ) (out : MutBor (List ℕ)) (r : Answer ℕ) (after : MutBor (List ℕ))
      → NodeLineCall.Learnt κs (snapshot, (log, (rows, (count, (node, (d, (out, tt))))))) r (snapshot, (log, (rows, (count, (node, (d, (after, tt)))))))
      → NodeLineMeets snapshot.now log.now rows.now count node d out.now r after.now
  pub node_line_one_answer : (snapshot log rows : List ℕ) (count : ℕ) (node : Node) (d : ℕ) (out : List ℕ)
      → OneEach (NodeLineMeets snapshot log rows count node d out)
  -- what stands in the output
  pub first_line_left : (heading : Heading) (n : ℕ) (out after : List ℕ) → FirstLineMeets heading out (Ok n) after
      → LineLeft (first_line heading) n out after
  pub refusal_line_left : (stopped : Stopped) (n : ℕ) (out after : List ℕ) → RefusalLineMeets stopped out (Ok n) after
      → LineLeft (refused_line stopped) n out after
  pub answer_line_left : (answer : Recovery) (n : ℕ) (out after : List ℕ) → AnswerLineMeets answer out (Ok n) after
      → LineLeft (answer_line answer) n out after
  pub node_line_left : (snapshot log rows : List ℕ) (count : ℕ) (node : Node) (d n : ℕ) (out after : List ℕ)
      → NodeLineMeets snapshot log rows count node d out (Ok n) after
      → LineLeft (node_line node.0 (seen d snapshot log (row_at rows node.0))) n out after
  -- a refused call changes no byte
  pub first_line_untouched : (heading : Heading) (out : List ℕ) (why : Refusal) (after : List ℕ) → FirstLineMeets heading out (Err why) after → after ≡ out
  pub refusal_line_untouched : (stopped : Stopped) (out : List ℕ) (why : Refusal) (after : List ℕ) → RefusalLineMeets stopped out (Err why) after → after ≡ out
  pub answer_line_untouched : (answer : Recovery) (out : List ℕ) (why : Refusal) (after : List ℕ) → AnswerLineMeets answer out (Err why) after → after ≡ out
  pub node_line_untouched : (snapshot log rows : List ℕ) (count : ℕ) (node : Node) (d : ℕ) (out : List ℕ) (why : Refusal) (after : List ℕ)
      → NodeLineMeets snapshot log rows count node d out (Err why) after → after ≡ out
  -- what an answer is listed as is the listing that is defined
  pub listing_shown_lem : (lent : ℕ) (snapshot log : List ℕ) → Bytes snapshot → Bytes log → (r : Recovery) (words : List ℕ) → Recovers lent snapshot log r words
      → listing_shown snapshot log r words ≡ listing_text snapshot log (recover lent snapshot log)
  -- lent the rows of a listing, over two files that it lists, it is the listing of the two files
  pub listing_of_files : (snapshot log : List ℕ) → Bytes snapshot → Bytes log → length snapshot ≤ listing_file_limit → length log ≤ listing_file_limit
      → (r : Recovery) (words : List ℕ) → Recovers listing_rows snapshot log r words
      → listing_shown snapshot log r words ≡ listing_of (found snapshot) (found log)
