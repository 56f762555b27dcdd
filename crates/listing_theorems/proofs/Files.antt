-- What is written of two files is their listing; 35; and the example.
use Prim.Native.Nat.{ℕ, ◌≤◌}
use native.Mathlib.Omega.{arith}
use mathlib.Core.Path.{◌≡◌, refl, ap, ◌∙◌}
use mathlib.Core.Bool.{Bool, true, false, cond}
use mathlib.Core.List.{List, [], ◌++◌, append-nil}
use lib.Dec.{ltb}
use lib.ListN.{length}
use borrow.Author.Tests.{lt-ltb}
use Rattle.fields.specs.Fields.{Bytes}
use Rattle.rows.specs.Lent.{rows_lent}
use Rattle.meaning.specs.Recovery.{Recovery, recovered, refused_snapshot, refused_log, recover, live_count}
use Rattle.meaning.specs.Calls.{recover_call, recovery_told}
use Rattle.theorems.specs.Sums.{example_snapshot, example_log, example_recovered}
use Rattle.theorems.proofs.SumsComputed.{sums}
use Rattle.listing_text.specs.Decimal.{decimal_by, decimal}
use Rattle.listing_text.specs.Lines.{ascii, first_line, refused_line}
use Rattle.listing_text.specs.Listing.{fitted, heading_of, node_lines, listing_text, refusal_line_call}
use Rattle.listing_text.specs.Files.{listing_file_limit, listing_rows, longest_line, File, found, unreadable, listed, listing_of}
use Rattle.listing_text.specs.declared.Stopped.TheVariants as Stops
use Rattle.listing_text.proofs.LineLaws.{fitted_whole}
use Rattle.listing_text.proofs.FileLaws.{both_listed}
use Rattle.listing_text.proofs.Example.{file_refused}
use Rattle.listing_theorems.specs.ListingCalled.{text_of}
use Rattle.listing_theorems.specs.ListingFiles.{Lent, LentAsListed, nodes_written, store_written, file_written, written, OfBytes, Unlisted, ListingFiles}
use Rattle.listing_theorems.proofs.Short.{snapshot_line_short, log_line_short, file_line_short, refused_inside, recovered_line_short}
use Rattle.listing_theorems.proofs.Proved.{listing_called}

-- ---- what is written
line_written : (out line : List ℕ) → length line ≤ longest_line → longest_line ≤ length out → text_of (fitted out line) ≡ line
line_written out line h g = ap text_of (fitted_whole out line (omega arith))

module _ (l : Lent) (lent : LentAsListed l) where
  rows_lent_lem : rows_lent l.rows l.active ≡ listing_rows
  rows_lent_lem = let r = lent.rows_are in let a = lent.active_are in omega arith

  file_line : text_of (refusal_line_call Stops.File l.line) ≡ refused_line Stops.File
  file_line = line_written l.line (refused_line Stops.File) file_line_short lent.line_fits

  -- a line that nothing follows
  alone_written : (line : List ℕ) → length line ≤ longest_line → text_of (fitted l.line line) ++ [] ≡ line
  alone_written line short = append-nil (text_of (fitted l.line line)) ∙ line_written l.line line short lent.line_fits

  module _ (snapshot log : List ℕ) (bs : Bytes snapshot) (bl : Bytes log) where
    answer_written : (x : Recovery) → recover_call l.rows l.active snapshot log ≡ x → store_written l snapshot log x ≡ listing_text snapshot log x
    answer_written (recovered r) e =
        let first = first_line (heading_of (recovery_told log r)) in
        let short = recovered_line_short (rows_lent l.rows l.active) snapshot log r bs bl e in
        ap (λ (line : List ℕ). line ++ nodes_written l snapshot log (recovered r)) (line_written l.line first short lent.line_fits)
        ∙ listing_called.listing_called l.rows l.active snapshot log r bs bl e l.lines lent.lines_fit
    answer_written (refused_snapshot why) e = alone_written (refused_line (Stops.Snapshot why)) (snapshot_line_short why)
    answer_written (refused_log why at) e =
        alone_written (refused_line (Stops.Log why at)) (log_line_short why at (refused_inside (rows_lent l.rows l.active) snapshot log why at e))

    store_written_lem : store_written l snapshot log (recover_call l.rows l.active snapshot log) ≡ listing_text snapshot log (recover listing_rows snapshot log)
    store_written_lem =
        answer_written (recover_call l.rows l.active snapshot log) refl
        ∙ ap (λ (n : ℕ). listing_text snapshot log (recover n snapshot log)) rows_lent_lem

  file_written_lem : (f : File) (next text : List ℕ → List ℕ) → OfBytes f → ((bytes : List ℕ) → Bytes bytes → next bytes ≡ text bytes) → file_written l f next ≡ listed f text
  file_written_lem unreadable next text b same = file_line
  file_written_lem (found bytes) next text b same =
      ap (λ (n : ℕ). cond (ltb n (length bytes)) (text_of (refusal_line_call Stops.File l.line)) (next bytes)) lent.room_is
      ∙ by (ltb listing_file_limit (length bytes))
    where
      by : (t : Bool) → cond t (text_of (refusal_line_call Stops.File l.line)) (next bytes) ≡ cond t (refused_line Stops.File) (text bytes)
      by true = file_line
      by false = same bytes b

  listing_written : (snapshot log : File) → OfBytes snapshot → OfBytes log → written l snapshot log ≡ listing_of snapshot log
  listing_written snapshot log bs bl =
      file_written_lem snapshot _ _ bs (λ s b. file_written_lem log _ _ bl (λ r c. store_written_lem s r b c))

-- ---- 35
unlisted : (f : File) (text : List ℕ → List ℕ) → Unlisted f → listed f text ≡ ascii "refused file 35\n"
unlisted unreadable text u = file_refused
unlisted (found bytes) text u =
    ap (λ (t : Bool). cond t (refused_line Stops.File) (text bytes)) (lt-ltb listing_file_limit (length bytes) u) ∙ file_refused

-- where all that is made of a file is 35, the file makes no difference
listed_refused : (f : File) (text : List ℕ → List ℕ) → ((bytes : List ℕ) → text bytes ≡ ascii "refused file 35\n") → listed f text ≡ ascii "refused file 35\n"
listed_refused unreadable text same = file_refused
listed_refused (found bytes) text same = by (ltb listing_file_limit (length bytes))
  where
    by : (t : Bool) → cond t (refused_line Stops.File) (text bytes) ≡ ascii "refused file 35\n"
    by true = file_refused
    by false = same bytes

-- ---- the example
example_text : listing_text example_snapshot example_log (recovered example_recovered)
    ≡ ascii "seq 2 records 2 active 1 replayed 2 skipped 0 keep 78 tail 3\n0 7 gone\n1 7 live Ho\n"
unfolding decimal decimal_by node_lines live_count
example_text = refl

pub listing_files : ListingFiles
listing_files =
    record {
      listing_written = listing_written;
      snapshot_unlisted = λ snapshot log u. unlisted snapshot _ u;
      log_unlisted = λ snapshot log u. listed_refused snapshot _ (λ s. unlisted log _ u);
      both_listed = both_listed;
      listing_example = ap (listing_text example_snapshot example_log) sums.example ∙ example_text;
    }
