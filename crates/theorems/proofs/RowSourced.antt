-- A row whose coordinates and caption stand in its source as an item does: its record is fit to be written.
use Prim.Native.Nat.{ℕ, ◌+◌, ◌*◌, ◌≤◌, ◌<◌, ◌^◌}
use mathlib.Core.Path.{◌≡◌, ap, ◌∙◌}
use mathlib.Core.Bool.{Bool, true, false, cond}
use mathlib.Core.List.{List}
use native.Mathlib.Omega.{arith}
use lib.ListN.{length}
use Rattle.fields.specs.Fields.{part, Bytes}
use Rattle.fields.proofs.Parts.{length_part}
use Rattle.fields.proofs.Numbers.{Bytes-part}
use Rattle.config.specs.declared.Config.{Config}
use Rattle.meaning.specs.Records.{source, caption_start}
use Rattle.rows.specs.declared.Row.{Row}
use Rattle.theorems.specs.Storable.{Sourced}
use Rattle.utf8.proofs.Laws.{utf8_nil}
use Rattle.meaning.proofs.ItemRead.{ItemHere}
use Rattle.meaning.proofs.SnapshotRead.{caption_low}
use Rattle.utf8.specs.Utf8.{is_utf8}

pub row_sourced : (c : Config) (snapshot log : List ℕ) (r : Row) (end n : ℕ) → Bytes (source snapshot log r) → end ≤ length (source snapshot log r)
    → ItemHere c (source snapshot log r) end r.at n → r.id.0 < 256 ^ 8 → r.caption_length ≡ cond r.deleted 0 n → Sourced c snapshot log r
row_sourced c snapshot log r end n b h i small k-is =
    let d = c.dimensions in
    let k = r.caption_length in
    let room = i.inside in
    let few = i.short in
    let low = caption_low r.deleted n in
    let inside : start + k ≤ length s = omega arith in
    let k-long = length_part s start k inside in
    record {
      inside = inside;
      fit =
          record {
            id_fits = small;
            vector_length = length_part s r.at (4 * d) (omega arith);
            vector_bytes = Bytes-part s r.at (4 * d) b;
            vector_good = i.vector_good;
            caption_length_lem = omega arith;
            caption_bytes = Bytes-part s start k b;
            caption_good = ap (λ (x : ℕ). is_utf8 (part s start x)) k-is ∙ good r.deleted;
            deleted_empty = λ e. ap (part s start) (k-is ∙ ap (λ (t : Bool). cond t 0 n) e);
          };
    }
  where
    s : List ℕ
    s = source snapshot log r

    start : ℕ
    start = caption_start c.dimensions r

    good : (t : Bool) → is_utf8 (part s start (cond t 0 n)) ≡ true
    good true = utf8_nil
    good false = i.caption_good
