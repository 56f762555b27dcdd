-- The rows that a snapshot's reading left, and that they stand once the tree is made over them.
use Prim.Native.Nat.{ℕ, ◌*◌, ◌≤◌}
use native.Mathlib.Omega.{arith}
use mathlib.Core.Path.{◌≡◌, sym, subst, ◌∙◌}
use mathlib.Core.List.{List}
use lib.ListN.{length}
use Rattle.config.specs.Limits.{max_records}
use Rattle.rows.specs.declared.Row.{Row}
use Rattle.snapshot.specs.declared.SnapshotInfo.{SnapshotInfo}
use Rattle.links.specs.Links.{plain_rows}
use Rattle.tree.specs.declared.Tree.{Tree}
use Rattle.tree.specs.Grown.{Grown, Once}
use Rattle.tree_meaning.specs.Holds.{Holds}
use Rattle.tree_meaning.proofs.TreeMeans.{holds_front, holds_plain, once_means}
use Rattle.replay.specs.Stands.{TableStands}
use Rattle.recovery.specs.Run.{Left}

module _ (info : SnapshotInfo) (words entries : List ℕ) (rows : List Row) (l : Left info words entries rows) where
  holds : Holds (plain_rows words) rows
  holds = holds_plain words rows l.spares (subst (λ (w : List ℕ). Holds w rows) (sym l.rows_are) (holds_front rows _))

  pub left_once : Once (plain_rows words) info.records
  left_once = subst (Once (plain_rows words)) (sym l.counted) (once_means (plain_rows words) rows l.packs holds l.once)

  pub room_words : 2 * info.records ≤ length words
  room_words = let n = l.counted in let e = l.enough in omega arith

  pub room_entries : info.records ≤ length entries
  room_entries = let n = l.counted in let e = l.enough in omega arith

  pub few_records : info.records ≤ max_records
  few_records = let n = l.counted in let e = l.enough in omega arith

  pub first_stands : (t : Tree) (words₁ entries₁ : List ℕ) → Grown t words₁ entries₁ → t.count ≡ info.records → plain_rows words₁ ≡ plain_rows words
      → TableStands info.config.dimensions words₁ entries₁ (record { tree = t; size = info.size }) rows
  first_stands t words₁ entries₁ g n p =
      record {
        grown = g;
        holds = subst (λ (w : List ℕ). Holds w rows) (sym p) holds;
        counted = n ∙ l.counted;
        packs = l.packs;
        spares = l.spares;
        sized = l.sized;
        small = l.small;
      }
