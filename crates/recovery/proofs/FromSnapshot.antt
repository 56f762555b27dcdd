-- What a snapshot's reading leaves, from its answer.
use Rattle.std.specs.Prelude.{Ok, Err}
use Prim.Native.Nat.{ℕ, ◌/◌, ◌≤◌, min}
use native.Mathlib.Omega.{arith}
use mathlib.Core.Path.{◌≡◌, refl, sym, ap, ap₂, subst, ◌∙◌}
use mathlib.Core.List.{List}
use lib.ListN.{length}
use Rattle.config.specs.Limits.{max_records}
use Rattle.rows.specs.Lent.{rows_lent}
use Rattle.refusal.specs.Refusal.{Answer}
use Rattle.refusal.specs.declared.Refusal.{Refusal}
use Rattle.snapshot.specs.Told.{read_told}
use Rattle.snapshot.specs.declared.SnapshotInfo.{SnapshotInfo}
use Rattle.snapshot.proofs.BodyLaws.{InSnapshot, parts_within}
use Rattle.meaning.specs.Calls.{read_call, read_tables}
use Rattle.meaning.specs.Records.{row_kind}
use Rattle.meaning.specs.Recovery.{live_count}
use Rattle.meaning.specs.Replay.{size}
use Rattle.meaning.specs.Snapshot.{Snapshot}
use Rattle.meaning.specs.Tables.{row_words, active_nodes, filled}
use Rattle.meaning.proofs.EveryLaws.{every_map}
use Rattle.meaning.proofs.SnapshotRead.{snapshot_facts}
use Rattle.tree_meaning.specs.Spares.{Spares}
use Rattle.recovery.specs.Run.{Left, snapshot_read}

-- ---- what is told of a snapshot
abbrev info_for : Snapshot → SnapshotInfo
info_for x =
    record {
      config = x.config;
      crc = x.crc;
      sequence = x.sequence;
      records = length x.rows;
      active = live_count x.rows;
      size = size (row_kind x.config.dimensions) x.rows;
    }

pub record SnapshotFound (r : Answer Snapshot) (info : SnapshotInfo) : Type 0 where
  pub value : Snapshot
  pub is : r ≡ Ok value
  pub told : info ≡ info_for value

abbrev IsAccepted : Answer SnapshotInfo → Type 0
IsAccepted (Ok i) = Unit {0}
IsAccepted (Err why) = ⊥

abbrev info_or : SnapshotInfo → Answer SnapshotInfo → SnapshotInfo
info_or z (Ok i) = i
info_or z (Err why) = z

pub snapshot_found : (r : Answer Snapshot) (info : SnapshotInfo) → read_told r ≡ Ok info → SnapshotFound r info
snapshot_found (Ok x) info e = record { value = x; is = refl; told = sym (ap (info_or info) e) }
snapshot_found (Err why) info e = absurd (subst IsAccepted (sym e) tt)

abbrev why_or : Refusal → Answer SnapshotInfo → Refusal
why_or z (Ok i) = z
why_or z (Err why) = why

pub snapshot_refused : (r : Answer Snapshot) (why : Refusal) → read_told r ≡ Err why → r ≡ Err why
snapshot_refused (Ok x) why e = absurd (subst IsAccepted e tt)
snapshot_refused (Err w) why e = ap Err (ap (why_or why) e)

pub lent_same : (words entries words' entries' : List ℕ) → length words' ≡ length words → length entries' ≡ length entries → rows_lent words' entries' ≡ rows_lent words entries
lent_same words entries words' entries' a b = ap₂ (λ (m n : ℕ). min (min (m / 2) max_records) n) a b

module _ (words entries snapshot : List ℕ) (info : SnapshotInfo) (f : SnapshotFound (read_call words entries snapshot) info) where
  -- it is the snapshot that was read
  pub meant_is : snapshot_read info f.value.rows ≡ f.value
  meant_is = ap (λ (i : SnapshotInfo). snapshot_read i f.value.rows) f.told

  pub left_by_reading : (words₁ entries₁ : List ℕ) → length words₁ ≡ length words → length entries₁ ≡ length entries
      → words₁ ≡ (read_tables words entries (read_call words entries snapshot)).rows → entries₁ ≡ (read_tables words entries (read_call words entries snapshot)).active
      → Left info words₁ entries₁ f.value.rows
  left_by_reading words₁ entries₁ a b p q =
      let x = f.value in
      let read = snapshot_facts (rows_lent words entries) snapshot x f.is in
      let k = parts_within (rows_lent words entries) snapshot x read.parts in
      let lent = lent_same words entries words₁ entries₁ a b in
      subst (λ (i : SnapshotInfo). Left i words₁ entries₁ x.rows) (sym f.told)
      (record {
        few_dimensions = k.few_dimensions;
        counted = refl;
        live = refl;
        sized = refl;
        small = k.sized;
        enough = subst (λ (n : ℕ). length x.rows ≤ n) (sym lent) k.enough;
        packs = k.packs;
        spares = every_map InSnapshot Spares (λ r h. omega arith) x.rows k.offsets;
        once = read.once;
        rows_are = p ∙ ap (λ (r : Answer Snapshot). (read_tables words entries r).rows) f.is ∙ ap (λ (n : ℕ). filled n (row_words x.rows)) (sym a);
        active_are = q ∙ ap (λ (r : Answer Snapshot). (read_tables words entries r).active) f.is ∙ ap (λ (n : ℕ). filled n (active_nodes x.rows)) (sym b);
      })
