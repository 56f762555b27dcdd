-- What `specs/Listing.antt` says of the listing's calls and of what is listed.
use Rattle.std.specs.Prelude.{Ok}
use Prim.Native.Nat.{ℕ, ◌≤◌}
use mathlib.Core.Path.{◌≡◌, sym, ap, ◌∙◌}
use mathlib.Core.List.{List, ◌++◌, append-nil}
use lib.Dec.{ltb}
use lib.ListN.{length, take}
use Rattle.refusal.specs.declared.Refusal.TheVariants.{OutputTooShort}
use Rattle.refusal.specs.Refusal.{written_told}
use Rattle.refusal.proofs.Results.{answer_injective, passed, went}
use Rattle.fields.specs.Fields.{Bytes}
use Rattle.rows.specs.Rows.{row_at}
use Rattle.rows.specs.declared.Node.{Node}
use Rattle.sources.specs.declared.Shown.TheVariants.{Caption}
use Rattle.meaning.specs.Records.{seen}
use Rattle.meaning.specs.Views.{view}
use Rattle.meaning.specs.Recovery.{recover}
use Rattle.meaning.specs.Calls.{output_after}
use Rattle.recovery.specs.Told.{Recovery}
use Rattle.recovery.specs.declared.RecoveryInfo.{RecoveryInfo}
use Rattle.listing_text.specs.Lines.{first_line, refused_line, node_line}
use Rattle.listing_text.specs.Listing.{heading_shown, answer_line, node_lines, listing_text, fitted, first_line_call, refusal_line_call, answer_line_call, node_line_call}
use Rattle.listing_text.specs.Files.{listing_file_limit, listing_rows, found, listing_of}
use Rattle.listing_text.proofs.FileLaws.{both_listed}
use Rattle.listing_text.specs.declared.Stopped.TheVariants as Stops
use Rattle.promises.specs.Recover.{Recovers, records_shown}
use Rattle.promises.specs.Listing.{listing_shown, NodeLineMeets, LineLeft, ListingCalls}
use Rattle.promises.proofs.OneAnswers.{one_answer}
use Rattle.promises.proofs.Outputs.{written_holds, untouched}
use Rattle.promises.proofs.RecoverShown.{by_answer, shows}

fits : (out line bytes : List ℕ) → fitted out line ≡ Ok bytes → line ≡ bytes
unfolding fitted
fits out line bytes e = answer_injective line bytes (went OutputTooShort (ltb (length out) (length line)) _ bytes e).then

line_left : (line : List ℕ) (n : ℕ) (out after : List ℕ) → Ok n ≡ written_told (fitted out line) → after ≡ output_after out (fitted out line)
    → LineLeft line n out after
line_left line n out after e f =
    let h = written_holds (fitted out line) n out after e f in
    record { is_line = sym (fits out line _ h.bytes_given); rest_untouched = h.rest_untouched }

node_line_left : (snapshot log rows : List ℕ) (count : ℕ) (node : Node) (d n : ℕ) (out after : List ℕ) → NodeLineMeets snapshot log rows count node d out (Ok n) after
    → LineLeft (node_line node.0 (seen d snapshot log (row_at rows node.0))) n out after
unfolding node_line_call
node_line_left snapshot log rows count node d n out after m =
    let line = node_line node.0 (seen d snapshot log (row_at rows node.0)) in
    let h = written_holds (node_line_call d rows count node.0 snapshot log out) n out after m.result_is m.output_is in
    let p = passed (view Caption d rows count node.0 snapshot log) (λ part. fitted out line) (take n after) h.bytes_given in
    record { is_line = sym (fits out line (take n after) p.then); rest_untouched = h.rest_untouched }

listing_shown_lem : (lent : ℕ) (snapshot log : List ℕ) → Bytes snapshot → Bytes log → (r : Recovery) (words : List ℕ) → Recovers lent snapshot log r words
    → listing_shown snapshot log r words ≡ listing_text snapshot log (recover lent snapshot log)
listing_shown_lem lent snapshot log bs bl r words =
    by_answer lent snapshot log bs bl words (λ x. listing_shown snapshot log x words) (listing_text snapshot log)
    (λ i call. ap (λ (x : RecoveryInfo). first_line (heading_shown x) ++ node_lines 0 (records_shown snapshot log i words)) (shows lent snapshot log i words bs bl call).told_is)
    (λ why. append-nil (refused_line (Stops.Snapshot why))) (λ why at. append-nil (refused_line (Stops.Log why at))) r

listing_of_files : (snapshot log : List ℕ) → Bytes snapshot → Bytes log → length snapshot ≤ listing_file_limit → length log ≤ listing_file_limit
    → (r : Recovery) (words : List ℕ) → Recovers listing_rows snapshot log r words → listing_shown snapshot log r words ≡ listing_of (found snapshot) (found log)
listing_of_files snapshot log bs bl hs hl r words call =
    listing_shown_lem listing_rows snapshot log bs bl r words call ∙ sym (both_listed snapshot log hs hl)

pub listing_calls : ListingCalls
listing_calls =
    record {
      first_line_contract = λ κs heading out r after p. record { result_is = p.0; output_is = p.1 };
      first_line_one_answer = λ heading out r s x y m n. (one_answer m.result_is n.result_is, one_answer m.output_is n.output_is);
      refusal_line_contract = λ κs stopped out r after p. record { result_is = p.0; output_is = p.1 };
      refusal_line_one_answer = λ stopped out r s x y m n. (one_answer m.result_is n.result_is, one_answer m.output_is n.output_is);
      number_line_contract = λ κs words n out r after p. record { result_is = p.0; output_is = p.1 };
      number_line_one_answer = λ words n out r s x y m n'. (one_answer m.result_is n'.result_is, one_answer m.output_is n'.output_is);
      log_line_contract = λ κs number at out r after p. record { result_is = p.0; output_is = p.1 };
      log_line_one_answer = λ number at out r s x y m n. (one_answer m.result_is n.result_is, one_answer m.output_is n.output_is);
      answer_line_contract = λ κs Ok out r after p. record { result_is = p.0; output_is = p.1 };
      answer_line_one_answer = λ Ok out r s x y m n. (one_answer m.result_is n.result_is, one_answer m.output_is n.output_is);
      node_line_contract = λ κs snapshot log rows count node d out r after p. record { result_is = p.0; output_is = p.1 };
      node_line_one_answer = λ snapshot log rows count node d out r s x y m n. (one_answer m.result_is n.result_is, one_answer m.output_is n.output_is);
      first_line_left = λ heading n out after m. line_left (first_line heading) n out after m.result_is m.output_is;
      refusal_line_left = λ stopped n out after m. line_left (refused_line stopped) n out after m.result_is m.output_is;
      answer_line_left = λ Ok n out after m. line_left (answer_line Ok) n out after m.result_is m.output_is;
      node_line_left = node_line_left;
      first_line_untouched = λ heading out why after m. untouched (first_line_call heading out) why out after m.result_is m.output_is;
      refusal_line_untouched = λ stopped out why after m. untouched (refusal_line_call stopped out) why out after m.result_is m.output_is;
      answer_line_untouched = λ Ok out why after m. untouched (answer_line_call Ok out) why out after m.result_is m.output_is;
      node_line_untouched = λ snapshot log rows count node d out why after m. untouched (node_line_call d rows count node.0 snapshot log out) why out after m.result_is m.output_is;
      listing_shown_lem = listing_shown_lem;
      listing_of_files = listing_of_files;
    }
