-- A row and the record seen through it: the record stays when the log grows behind the row or in front of it, and when the source
-- that the row does not name is another; a deleted row still fits.
use Prim.Native.Nat.{ℕ, ◌+◌, ◌*◌, ◌≤◌}
use native.Mathlib.Omega.{arith}
use mathlib.Core.Path.{◌≡◌, refl, sym, ap, subst, ◌∙◌}
use mathlib.Core.Bool.{Bool, true, false, cond, false≢true}
use mathlib.Core.List.{List, ◌++◌}
use lib.ListN.{length, length-append}
use Rattle.fields.specs.Fields.{part}
use Rattle.fields.proofs.Parts.{length_part, part_append, part_after}
use Rattle.fields.proofs.Numbers.{Bytes-nil}
use Rattle.config.specs.declared.Config.{Config}
use Rattle.meaning.specs.Records.{delete_row, source, caption_start, seen}
use Rattle.rows.specs.declared.Row.{Row}
use Rattle.theorems.specs.Storable.{Fit, Sourced}
use Rattle.utf8.proofs.Laws.{utf8_nil}
use Rattle.theorems.proofs.Moved.{later_row}

-- ---- size
pub seen_caption_length : (d : ℕ) (snapshot log : List ℕ) (r : Row) → caption_start d r + r.caption_length ≤ length (source snapshot log r)
    → length (seen d snapshot log r).caption ≡ r.caption_length
seen_caption_length d snapshot log r h = length_part (source snapshot log r) (caption_start d r) r.caption_length h

-- ---- the other source
pub seen_any_snapshot : (d : ℕ) (snapshot snapshot' log : List ℕ) (r : Row) → r.from_log ≡ true
    → seen d snapshot log r ≡ seen d snapshot' log r
seen_any_snapshot d snapshot snapshot' log r e =
    let s : source snapshot log r ≡ source snapshot' log r =
    ap (λ (b : Bool). cond b log snapshot) e ∙ sym (ap (λ (b : Bool). cond b log snapshot') e) in
    λ i. record { id = r.id.0; deleted = r.deleted; vector = part (s i) r.at (4 * d); caption = part (s i) (caption_start d r) r.caption_length }

pub delete_sourced : (c : Config) (snapshot log : List ℕ) (r : Row) → Sourced c snapshot log r → Sourced c snapshot log (delete_row r)
delete_sourced c snapshot log r p =
    let room : caption_start c.dimensions r + r.caption_length ≤ length (source snapshot log r) = p.inside in
    let fit = p.fit in
    record {
      inside = omega arith;
      fit =
          record {
            id_fits = fit.id_fits;
            vector_length = fit.vector_length;
            vector_bytes = fit.vector_bytes;
            vector_good = fit.vector_good;
            caption_length_lem = omega arith;
            caption_bytes = Bytes-nil;
            caption_good = utf8_nil;
            deleted_empty = λ e. refl;
          };
    }

-- ---- a log that grows behind
source_part : (b : Bool) (snapshot front rest : List ℕ) (at n : ℕ) → at + n ≤ length (cond b front snapshot)
    → part (cond b (front ++ rest) snapshot) at n ≡ part (cond b front snapshot) at n
source_part true snapshot front rest at n h = part_append front rest at n h
source_part false snapshot front rest at n h = refl

source_length : (b : Bool) (snapshot front rest : List ℕ) → length (cond b front snapshot) ≤ length (cond b (front ++ rest) snapshot)
source_length true snapshot front rest = omega (arith, length-append front rest)
source_length false snapshot front rest = omega arith

pub seen_front : (d : ℕ) (snapshot front rest : List ℕ) (r : Row) → caption_start d r + r.caption_length ≤ length (source snapshot front r)
    → seen d snapshot (front ++ rest) r ≡ seen d snapshot front r
seen_front d snapshot front rest r h =
    let g : r.at + 4 * d ≤ length (source snapshot front r) = omega arith in
    let v = source_part r.from_log snapshot front rest r.at (4 * d) g in
    let t = source_part r.from_log snapshot front rest (caption_start d r) r.caption_length h in
    λ i. record { id = r.id.0; deleted = r.deleted; vector = v i; caption = t i }

pub sourced_front : (c : Config) (snapshot front rest : List ℕ) (r : Row) → Sourced c snapshot front r → Sourced c snapshot (front ++ rest) r
sourced_front c snapshot front rest r p =
    let room : caption_start c.dimensions r + r.caption_length ≤ length (source snapshot front r) = p.inside in
    let longer : length (source snapshot front r) ≤ length (source snapshot (front ++ rest) r) = source_length r.from_log snapshot front rest in
    record { inside = omega arith; fit = subst (Fit c) (sym (seen_front c.dimensions snapshot front rest r room)) p.fit }

-- ---- a log that grows in front
source_after : (b : Bool) (snapshot snapshot' front rest : List ℕ) (at n : ℕ) → b ≡ true
    → part (cond b (front ++ rest) snapshot) (length front + at) n ≡ part (cond b rest snapshot') at n
source_after true snapshot snapshot' front rest at n e = part_after front rest at n
source_after false snapshot snapshot' front rest at n e = absurd (false≢true e)

source_after_length : (b : Bool) (snapshot snapshot' front rest : List ℕ) → b ≡ true
    → length (cond b (front ++ rest) snapshot) ≡ length front + length (cond b rest snapshot')
source_after_length true snapshot snapshot' front rest e = length-append front rest
source_after_length false snapshot snapshot' front rest e = absurd (false≢true e)

pub seen_later : (d : ℕ) (snapshot snapshot' front rest : List ℕ) (r : Row) → r.from_log ≡ true
    → seen d snapshot (front ++ rest) (later_row (length front) r) ≡ seen d snapshot' rest r
seen_later d snapshot snapshot' front rest r e =
    let m = length front in
    let s = cond r.from_log (front ++ rest) snapshot in
    let x : caption_start d (later_row m r) ≡ m + caption_start d r = omega arith in
    let v = source_after r.from_log snapshot snapshot' front rest r.at (4 * d) e in
    let t : part s (caption_start d (later_row m r)) r.caption_length ≡ part (cond r.from_log rest snapshot') (caption_start d r) r.caption_length =
    ap (λ (y : ℕ). part s y r.caption_length) x ∙ source_after r.from_log snapshot snapshot' front rest (caption_start d r) r.caption_length e in
    λ i. record { id = r.id.0; deleted = r.deleted; vector = v i; caption = t i }
