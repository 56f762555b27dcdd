-- A refusal's text is the listing's: of its number, with its source and its place.
use Prim.Native.Nat.{ℕ}
use mathlib.Core.Path.{◌≡◌, refl}
use Rattle.refusal.specs.Refusal.{number}
use Rattle.refusal.specs.declared.Refusal.{Refusal}
use Rattle.refusal.specs.declared.Refusal.TheVariants.{FileUnreadable}
use Rattle.listing_text.specs.Lines.{refused_line}
use Rattle.listing_text.specs.declared.Stopped.TheVariants as Stops
use Rattle.lambspool.specs.Lines.{refusal_text}

pub snapshot_text : (why : Refusal) (at : ℕ) → refusal_text 0 (number why) at ≡ refused_line (Stops.Snapshot why)
snapshot_text why at = refl

pub log_text : (why : Refusal) (at : ℕ) → refusal_text 1 (number why) at ≡ refused_line (Stops.Log why at)
log_text why at = refl

pub file_text : (at : ℕ) → refusal_text 2 (number FileUnreadable) at ≡ refused_line Stops.File
file_text at = refl
