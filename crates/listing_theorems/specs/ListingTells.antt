-- The text tells the store: where no live caption holds a newline, two listings with the same text show the same nodes, with the same
-- IDs, states and live captions.
use Rattle.std.specs.Prelude.{ℕ, ◌≡◌, Bool, cond, List, [], map}
use Rattle.meaning.specs.Every.{Every}
use Rattle.meaning.specs.Records.{Record}
use Rattle.meaning.specs.Recovery.{Recovered, recovered, records_of}
use Rattle.listing_text.specs.Lines.{caption_text}
use Rattle.listing_text.specs.Listing.{listing_text}

-- no element is x
abbrev pub Without : ℕ → List ℕ → Type 0
Without x l = Every (λ (y : ℕ). y ≡ x → ⊥) l

-- what a listing shows of a record
pub record Shown : Type 0 where
  pub id : ℕ
  pub deleted : Bool
  pub caption : List ℕ

abbrev pub shown : Record → Shown
shown r = record { id = r.id; deleted = r.deleted; caption = cond r.deleted [] (caption_text r.caption) }

-- a record whose line is one line
abbrev pub OneLine : Record → Type 0
OneLine r = Without 10 (shown r).caption

pub record ListingTells : Type 0 where
  pub listing_tells : (snapshot log snapshot' log' : List ℕ) (r r' : Recovered) → Every OneLine (records_of snapshot log r) → Every OneLine (records_of snapshot' log' r')
      → listing_text snapshot log (recovered r) ≡ listing_text snapshot' log' (recovered r') → map shown (records_of snapshot log r) ≡ map shown (records_of snapshot' log' r')
