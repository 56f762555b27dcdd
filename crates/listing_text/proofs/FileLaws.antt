-- Two files within the limit are listed by their bytes.
use Prim.Native.Nat.{ℕ, ◌≤◌}
use mathlib.Core.Path.{◌≡◌, ap, ◌∙◌}
use mathlib.Core.Bool.{Bool, cond}
use mathlib.Core.List.{List}
use lib.ListN.{length}
use borrow.Author.Tests.{le-ltb}
use Rattle.meaning.specs.Recovery.{recover}
use Rattle.listing_text.specs.Lines.{refused_line}
use Rattle.listing_text.specs.Listing.{listing_text}
use Rattle.listing_text.specs.Files.{listing_file_limit, listing_rows, found, listed, listing_of}
use Rattle.listing_text.specs.declared.Stopped.TheVariants as Stops

listed_whole : (bytes : List ℕ) (text : List ℕ → List ℕ) → length bytes ≤ listing_file_limit → listed (found bytes) text ≡ text bytes
listed_whole bytes text h = ap (λ (t : Bool). cond t (refused_line Stops.File) (text bytes)) (le-ltb listing_file_limit (length bytes) h)

pub both_listed : (snapshot log : List ℕ) → length snapshot ≤ listing_file_limit → length log ≤ listing_file_limit
    → listing_of (found snapshot) (found log) ≡ listing_text snapshot log (recover listing_rows snapshot log)
both_listed snapshot log hs hl =
    listed_whole snapshot (λ s. listed (found log) (λ l. listing_text s l (recover listing_rows s l))) hs
    ∙ listed_whole log (λ l. listing_text snapshot l (recover listing_rows snapshot l)) hl
