-- The rows of a table once its tree is taken out, and what finishing it answers and leaves.
use Rattle.refusal.specs.Refusal.{Answer}
use Rattle.std.specs.Prelude.{Ok, Err}
use Prim.Native.Nat.{ℕ, ◌*◌}
use mathlib.Core.Path.{◌≡◌, refl, sym, ap, ap₂, subst, ◌∙◌}
use mathlib.Core.Bool.{false, true≢false}
use mathlib.Core.List.{List, ◌++◌}
use lib.ListN.{length, take, drop}
use Rattle.rows.specs.declared.Row.{Row}
use Rattle.refusal.specs.declared.Refusal.{Refusal}
use Rattle.refusal.proofs.Inverses.{came_to}
use Rattle.active.specs.Active.{activated, left_rows, left_entries}
use Rattle.active.proofs.Finishing.{activated_live, activated_twice, rows_left, entries_left}
use Rattle.snapshot.specs.declared.SnapshotInfo.{SnapshotInfo}
use Rattle.meaning.specs.Recovery.{live_count}
use Rattle.meaning.specs.Snapshot.{live_twice}
use Rattle.meaning.specs.Tables.{row_words, rows_in, filled}
use Rattle.meaning.proofs.RowWords.{rows_of_words}
use Rattle.links.specs.Links.{plain_rows}
use Rattle.tree.specs.Grown.{Once}
use Rattle.tree_meaning.proofs.TreeMeans.{means_once, finished_table}
use Rattle.replay.specs.Stands.{TableStands}
use Rattle.recovery.specs.Told.{recovery_answer, recovered_told}
use Rattle.recovery.specs.Run.{state_of, ends_in, RecoversAs}
use Rattle.recovery.specs.declared.RecoveryInfo.{RecoveryInfo}
use Rattle.recovery.specs.declared.Reached.{Reached}

module _ (info : SnapshotInfo) (log words entries : List ℕ) (r : Reached) (records : List Row) (s : TableStands info.config.dimensions words entries r.table records)
    (words₁ : List ℕ) (plain : words₁ ≡ take (2 * r.table.tree.count) (plain_rows words) ++ drop (2 * r.table.tree.count) words) where
  table_is : words₁ ≡ row_words records ++ drop (2 * length records) words
  table_is = finished_table r.table.tree.count words words₁ records plain s.counted s.holds

  rows_back : rows_in r.table.tree.count words₁ ≡ records
  rows_back = ap₂ rows_in s.counted table_is ∙ rows_of_words records (drop (2 * length records) words) s.packs

  once : live_twice records ≡ false
  once = means_once (plain_rows words) records s.packs s.holds (subst (Once (plain_rows words)) s.counted s.grown.once)

  activity : (x y : Answer ℕ) → x ≡ activated (rows_in r.table.tree.count words₁) → x ≡ y → activated records ≡ y
  activity x y e k = came_to (activated records) (e ∙ ap activated rows_back) k

  -- no ID is live twice
  pub never_twice : (x : Answer ℕ) (why : Refusal) → x ≡ activated (rows_in r.table.tree.count words₁) → x ≡ Err why → ⊥
  never_twice x why e k = true≢false (sym (activated_twice records why (activity x (Err why) e k)) ∙ once)

  answers : (active : ℕ) → active ≡ live_count records → Ok (recovered_told info (length log) active r) ≡ recovery_answer log (ends_in info (state_of r records) r.keep)
  answers active e = rw (e, s.counted, s.sized) refl

  pub finish_recovers : (n : ℕ) (x : Answer ℕ) → x ≡ activated (rows_in r.table.tree.count words₁) → x ≡ Ok n
      → (y : RecoveryInfo) → y ≡ recovered_told info (length log) n r → length words₁ ≡ length words
      → (words₂ entries₂ : List ℕ) → words₂ ≡ left_rows r.table.tree.count words₁ → entries₂ ≡ left_entries r.table.tree.count words₁ entries
      → RecoversAs log words entries (ends_in info (state_of r records) r.keep) (Ok y) words₂ entries₂
  finish_recovers n x e k y told same words₂ entries₂ a b =
      let live = activated_live records n (activity x (Ok n) e k) in
      record {
        told = ap (λ (i : RecoveryInfo). Ok i) told ∙ answers n live.count_is;
        rows_left = a
            ∙ rows_left records r.table.tree.count words₁ entries rows_back once s.counted (drop (2 * length records) words) table_is
            ∙ ap (λ (k : ℕ). filled k (row_words records)) same;
        active_left = b ∙ entries_left records r.table.tree.count words₁ entries rows_back once;
      }
