-- The calls make the listing: over the tables that recovery left, with the sources it was given, what `node_line` writes for each
-- node in turn, behind the first line, is the text of the listing.
use Rattle.std.specs.Prelude.{ℕ, zero, suc, ◌≤◌, ◌≡◌, List, [], ◌++◌, length, Ok, Err}
use Rattle.fields.specs.Fields.{Bytes}
use Rattle.refusal.specs.Refusal.{Answer}
use Rattle.meaning.specs.Recovery.{Recovered, recovered, record_count}
use Rattle.meaning.specs.Calls.{recover_call, recover_tables, recovery_told}
use Rattle.listing_text.specs.Lines.{first_line}
use Rattle.listing_text.specs.Listing.{heading_of, listing_text, node_line_call}
use Rattle.listing_text.specs.Files.{longest_line}

-- what a call wrote
abbrev pub text_of : Answer (List ℕ) → List ℕ
text_of (Ok line) = line
text_of (Err why) = []

-- what n calls wrote, from node k on
unfoldable pub called_from : (ℕ → Answer (List ℕ)) → ℕ → ℕ → List ℕ
called_from call zero k = []
called_from call (suc n) k = text_of (call k) ++ called_from call n (suc k)

-- each call may be lent an output of its own
pub record ListingCalled : Type 0 where
  pub listing_called : (words active snapshot log : List ℕ) (r : Recovered) → Bytes snapshot → Bytes log
      → recover_call words active snapshot log ≡ recovered r → (outs : ℕ → List ℕ) → ((n : ℕ) → longest_line ≤ length (outs n))
      → first_line (heading_of (recovery_told log r))
      ++ called_from (λ n. node_line_call r.config.dimensions (recover_tables words active (recovered r)).rows (record_count r) n snapshot log (outs n)) (record_count r) 0
      ≡ listing_text snapshot log (recovered r)
