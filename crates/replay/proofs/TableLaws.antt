-- The rows that stand in lent memory: one of them marked, one appended.
use Rattle.std.specs.Prelude.{Ok, Err}
use Prim.Native.Nat.{ℕ, ◌+◌, ◌*◌, ◌-◌, ◌≤◌, ◌<◌}
use native.Mathlib.Omega.{arith}
use mathlib.Core.Path.{◌≡◌, refl, sym, ap, subst, ◌∙◌}
use mathlib.Core.Bool.{Bool, true, false, cond}
use mathlib.Core.List.{List, [], ◌∷◌, ◌++◌}
use borrow.Author.Tests.{lt-ltb, le-ltb, le-leb, lt-leb}
use lib.Dec.{ltb, leb}
use lib.ListN.{length, length-append}
use Rattle.refusal.specs.Refusal.{Answer, ◌>>=◌, refuse}
use Rattle.refusal.specs.declared.Refusal.{Refusal}
use Rattle.refusal.specs.declared.Refusal.TheVariants.{StorageLimits, TooFewRows}
use Rattle.refusal.proofs.Results.{stop, pass}
use Rattle.config.specs.Limits.{max_records, max_snapshot_bytes}
use Rattle.layout.specs.Layout.{record_length, snapshot_length}
use Rattle.layout.specs.declared.Shape.{Shape}
use Rattle.rows.specs.Rows.{RowFits, row_word}
use Rattle.rows.specs.declared.Row.{Row}
use Rattle.meaning.specs.Every.{Every}
use Rattle.meaning.proofs.EveryLaws.{every_append}
use Rattle.meaning.specs.Replay.{live_as, mark, size, absent, apply_put, apply_remove}
use Rattle.meaning.specs.Recovery.{bounds_for}
use Rattle.meaning.proofs.Marking.{mark_none, size_push}
use Rattle.meaning.specs.Records.{row_kind, delete_row}
use Rattle.links.specs.Links.{plain_rows}
use Rattle.tree.specs.Grown.{Finds, Once, Marked, Added, cell_of}
use Rattle.tree.specs.declared.Tree.{Tree}
use Rattle.tree_meaning.specs.Spares.{Spares}
use Rattle.tree_meaning.proofs.TreeMeans.{length_mark, mark_packs, finds_active, marked_table, added_table}
use Rattle.replay.specs.Stands.{TableStands, TakenOut, AppliedAs}
use Rattle.replay.specs.declared.Table.{Table}
use Rattle.replay.specs.declared.Outed.{Outed}

pub mark_spares : (d id : ℕ) (rows : List Row) → Every Spares rows → Every Spares (mark (row_kind d) id rows)
unfolding mark
mark_spares d id [] all = tt
mark_spares d id (r ∷ rs) all = (go (live_as (row_kind d) id r), mark_spares d id rs all.1)
  where
    go : (b : Bool) → Spares (cond b (delete_row r) r)
    go true = all.0
    go false = all.0

-- what a mark takes off the size, where these rows stand
module _ (d : ℕ) (words words' entries : List ℕ) (t : Table) (rows : List Row) (id u freed : ℕ)
    (s : TableStands d words entries t rows) (m : Marked words words' u freed) (f : Finds (plain_rows words) t.tree.count id u) where
  rows_found : Finds (plain_rows words) (length rows) id u
  rows_found = subst (λ (n : ℕ). Finds (plain_rows words) n id u) s.counted f

  rows_once : Once (plain_rows words) (length rows)
  rows_once = subst (Once (plain_rows words)) s.counted s.grown.once

  pub mark_sizes : size (row_kind d) (mark (row_kind d) id rows) + freed ≡ t.size
  mark_sizes = (marked_table d words words' rows id u freed m s.packs s.holds rows_once rows_found).1 ∙ sym s.sized

  pub taken_out : (cell : ℕ) → cell ≡ cell_of t.tree words entries id
      → TakenOut d id words' entries t (record { link = u; cell = cell; size = t.size - freed }) rows
  taken_out cell e =
      let k = marked_table d words words' rows id u freed m s.packs s.holds rows_once rows_found in
      let sizes = mark_sizes in
      let small = s.small in
      record {
        stands =
            record {
              grown = m.grown t.tree entries s.grown;
              holds = k.0;
              counted = s.counted ∙ sym (length_mark d id rows);
              packs = mark_packs d id rows s.packs;
              spares = mark_spares d id rows s.spares;
              sized = omega arith;
              small = omega arith;
            };
        told = finds_active d (plain_rows words) rows id u s.packs s.holds rows_found;
        cell_is = e ∙ sym (m.cells t.tree entries id);
        absent = m.absent t.tree.count id s.grown.once f;
      }

-- ---- what an operation leaves
pub applied_refused : (d : ℕ) (x : Answer (List Row)) (why : Refusal) (words entries : List ℕ) → x ≡ Err why → AppliedAs d x (Err why) words entries
applied_refused d x why words entries e = subst (λ (y : Answer (List Row)). AppliedAs d y (Err why) words entries) (sym e) refl

pub applied_went : (d : ℕ) (x : Answer (List Row)) (rows : List Row) (t : Table) (words entries : List ℕ) → x ≡ Ok rows → TableStands d words entries t rows
    → AppliedAs d x (Ok t) words entries
applied_went d x rows t words entries e s = subst (λ (y : Answer (List Row)). AppliedAs d y (Ok t) words entries) (sym e) s

-- ---- a delete
module _ (d id : ℕ) (words entries : List ℕ) (t : Table) (o : Outed) (rows : List Row) (k : TakenOut d id words entries t o rows) where
  pub removed : 0 < o.link → (shape : Shape) → apply_remove (row_kind d) shape id rows ≡ Ok (mark (row_kind d) id rows)
  unfolding apply_remove
  removed h shape = rw (k.told, lt-ltb 0 o.link h) refl

  pub not_there : o.link ≤ 0 → (shape : Shape) → apply_remove (row_kind d) shape id rows ≡ absent shape rows
  unfolding apply_remove
  not_there h shape = rw (k.told, le-ltb 0 o.link h) refl

  pub unmarked : o.link ≤ 0 → TableStands d words entries (record { tree = t.tree; size = o.size }) rows
  unmarked h =
      subst (TableStands d words entries (record { tree = t.tree; size = o.size })) (mark_none (row_kind d) id rows (k.told ∙ le-ltb 0 o.link h)) k.stands

-- ---- a put
module _ (d lent : ℕ) (r : Row) (words entries : List ℕ) (t : Table) (o : Outed) (rows : List Row) (k : TakenOut d r.id.0 words entries t o rows) where
  abbrev pub put_on : Answer (List Row)
  put_on = apply_put (row_kind d) (bounds_for lent) r rows

  abbrev new_size : ℕ
  new_size = o.size + record_length d r.caption_length

  count_is : t.tree.count ≡ length rows
  count_is = k.stands.counted ∙ length_mark d r.id.0 rows

  bytes_are : snapshot_length (size (row_kind d) (mark (row_kind d) r.id.0 rows) + record_length d r.caption_length) ≡ snapshot_length new_size
  bytes_are = ap (λ (n : ℕ). snapshot_length (n + record_length d r.caption_length)) (sym k.stands.sized)

  pub put_many : max_records ≤ t.tree.count → put_on ≡ Err StorageLimits
  unfolding apply_put
  put_many h = stop StorageLimits (leb max_records (length rows)) _ (le-leb _ _ (subst (λ (n : ℕ). max_records ≤ n) count_is h))

  module _ (few : t.tree.count < max_records) where
    few_rows : leb max_records (length rows) ≡ false
    few_rows = lt-leb _ _ (subst (λ (n : ℕ). n < max_records) count_is few)

    pub put_large : max_snapshot_bytes < snapshot_length new_size → put_on ≡ Err StorageLimits
    unfolding apply_put
    put_large h =
        pass StorageLimits (leb max_records (length rows)) _ few_rows
        ∙ stop StorageLimits (ltb max_snapshot_bytes (snapshot_length (size (row_kind d) (mark (row_kind d) r.id.0 rows) + record_length d r.caption_length))) _ (ap (ltb max_snapshot_bytes) bytes_are ∙ lt-ltb _ _ h)

    module _ (fits : snapshot_length new_size ≤ max_snapshot_bytes) where
      past : {B : Type 0} (next : Unit {0} → Answer B) → (refuse StorageLimits (leb max_records (length rows)) >>= λ _. refuse StorageLimits (ltb max_snapshot_bytes (snapshot_length (size (row_kind d) (mark (row_kind d) r.id.0 rows) + record_length d r.caption_length))) >>= next) ≡ next tt
      past next =
          pass StorageLimits (leb max_records (length rows)) _ few_rows
          ∙ pass StorageLimits (ltb max_snapshot_bytes (snapshot_length (size (row_kind d) (mark (row_kind d) r.id.0 rows) + record_length d r.caption_length))) next (ap (ltb max_snapshot_bytes) bytes_are ∙ le-ltb _ _ fits)

      pub put_unlent : lent ≤ t.tree.count → put_on ≡ Err TooFewRows
      unfolding apply_put
      put_unlent h = past _ ∙ stop TooFewRows (leb lent (length rows)) _ (le-leb _ _ (subst (λ (n : ℕ). lent ≤ n) count_is h))

      pub put_goes : t.tree.count < lent → put_on ≡ Ok (mark (row_kind d) r.id.0 rows ++ (r ∷ []))
      unfolding apply_put
      put_goes h = past _ ∙ pass TooFewRows (leb lent (length rows)) _ (lt-leb _ _ (subst (λ (n : ℕ). n < lent) count_is h))

      -- the row appended
      pub put_stands : (t' : Tree) (words' entries' : List ℕ) → RowFits r → Spares r → 2 * t.tree.count + 2 ≤ length words
          → Added t.tree words entries t' words' entries' r.id.0 (row_word r)
          → TableStands d words' entries' (record { tree = t'; size = new_size }) (mark (row_kind d) r.id.0 rows ++ (r ∷ []))
      put_stands t' words' entries' p s room a =
          let old : List Row = mark (row_kind d) r.id.0 rows in
          let n = length-append old (r ∷ []) in
          let counted = a.counted in
          let before = k.stands.counted in
          let sized = k.stands.sized in
          let more = size_push (row_kind d) old r in
          record {
            grown = a.grown;
            holds = added_table t.tree words entries t' words' entries' old r a before s room k.stands.holds;
            counted = omega arith;
            packs = every_append RowFits old (r ∷ []) k.stands.packs (p, tt);
            spares = every_append Spares old (r ∷ []) k.stands.spares (s, tt);
            sized = omega arith;
            small = omega arith;
          }
