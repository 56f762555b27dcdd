-- A record's coordinates and caption as they stand in a snapshot or a log: they are read back, and accepted if a reader accepts the record.
use Rattle.std.specs.Prelude.{Ok}
use Prim.Native.Nat.{ℕ, ◌+◌, ◌*◌, ◌≤◌}
use mathlib.Core.Path.{◌≡◌, refl, sym, ap, ◌∙◌}
use mathlib.Core.Bool.{true}
use mathlib.Core.List.{List, ◌++◌}
use native.Mathlib.Omega.{arith}
use lib.ListN.{length, drop}
use Rattle.utf8.specs.Utf8.{is_utf8}
use Rattle.fields.specs.Fields.{part, num, bytes}
use Rattle.config.specs.Limits.{max_metadata}
use Rattle.config.specs.declared.Config.{Config}
use Rattle.layout.specs.Layout.{caption_offset, item_length}
use Rattle.meaning.specs.Records.{Record}
use Rattle.meaning.specs.Item.{coordinates}
use Rattle.meaning.proofs.ItemRead.{ItemHere}
use Rattle.theorems.specs.AnyFile.{Shaped}
use Rattle.theorems.proofs.Here.{part_here, after_here, num_here, after_number}

-- a reader accepts the record, whatever a deleted one has for a caption
pub record Readable (c : Config) (r : Record) : Type 0 where
  pub shaped : Shaped c.dimensions r
  pub vector_good : coordinates c r.vector ≡ Ok tt
  pub caption_length_lem : length r.caption ≤ max_metadata
  pub caption_good : is_utf8 r.caption ≡ true

-- the coordinates of a record stand at `at`, and its caption behind them
pub record ItemStands (d : ℕ) (s : List ℕ) (at : ℕ) (r : Record) : Type 0 where
  pub vector_is : part s at (4 * d) ≡ r.vector
  pub length_is : num s (at + 4 * d) 4 ≡ length r.caption
  pub caption_is : part s (at + caption_offset d) (length r.caption) ≡ r.caption

pub item_stands : (d : ℕ) (s : List ℕ) (at : ℕ) (r : Record) (rest : List ℕ)
    → drop at s ≡ r.vector ++ (bytes 4 (length r.caption) ++ (r.caption ++ rest)) → Shaped d r → ItemStands d s at r
item_stands d s at r rest h k =
    let n = length r.caption in
    let h1 = after_here s at (4 * d) r.vector _ h k.vector_length in
    let h2 = after_number s (at + 4 * d) 4 n _ h1 in
    let place : at + caption_offset d ≡ at + 4 * d + 4 = omega arith in
    record {
      vector_is = part_here s at (4 * d) r.vector _ h k.vector_length;
      length_is = num_here s (at + 4 * d) 4 n _ h1 k.caption_fits;
      caption_is = ap (λ (x : ℕ). part s x n) place ∙ part_here s (at + 4 * d + 4) n r.caption rest h2 refl;
    }

pub item_back : (c : Config) (s : List ℕ) (end at : ℕ) (r : Record) → ItemStands c.dimensions s at r → Readable c r
    → at + item_length c.dimensions (length r.caption) ≤ end → ItemHere c s end at (length r.caption)
item_back c s end at r i k room =
    record {
      caption_is = sym i.length_is;
      inside = room;
      short = k.caption_length_lem;
      vector_good = ap (coordinates c) i.vector_is ∙ k.vector_good;
      caption_good = ap is_utf8 i.caption_is ∙ k.caption_good;
    }
