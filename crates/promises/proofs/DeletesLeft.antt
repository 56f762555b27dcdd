-- What `specs/DeleteFrame.antt` says of the playout host's delete.
use Rattle.std.specs.Prelude.{Ok, Option, Some, None, Err}
use Prim.Native.Nat.{ℕ, zero, suc, ◌≤◌, ◌<◌, ◌^◌}
use native.Mathlib.Omega.{arith}
use mathlib.Core.Path.{◌≡◌, refl, sym, ap, ◌∙◌, subst}
use mathlib.Core.Logic.{◌⊎◌, inl, inr}
use mathlib.Core.Bool.{Bool, true, false, cond, true≢false}
use mathlib.Core.List.{List, [], ◌∷◌, ◌++◌}
use lib.Dec.{ltb, eqb}
use lib.ListN.{length, take, length-append}
use borrow.Author.Tests.{ltb-false, eqb-false}
use Rattle.refusal.specs.Refusal.{◌>>=◌, refuse, Answer}
use Rattle.refusal.specs.declared.Refusal.TheVariants.{NoSuchNode}
use Rattle.config.specs.declared.Config.{Config}
use Rattle.layout.specs.declared.Shape.TheVariants.{Single}
use Rattle.fields.specs.Fields.{Bytes}
use Rattle.fields.specs.Placed.{placed}
use Rattle.rows.specs.Lent.{rows_lent, rows_lent_plain}
use Rattle.rows.specs.declared.Row.{Row}
use Rattle.rows.specs.declared.Node.{Node}
use Rattle.rows.specs.declared.Id.{Id}
use Rattle.meaning.specs.Replay.{Frame, remove, tail, live_as, active}
use Rattle.meaning.specs.Records.{row_kind}
use Rattle.meaning.specs.Recovery.{Recovered, recovered, recover, rows_of, record_count}
use Rattle.meaning.specs.Log.{frames_of}
use Rattle.meaning.specs.Encoder.{delete_frame}
use Rattle.meaning.specs.Tables.{rows_in}
use Rattle.meaning.specs.Views.{Lookup, find_from, lookup}
use Rattle.meaning.specs.Calls.{recover_tables, delete_refused}
use Rattle.views.specs.Told.{found_told}
use Rattle.theorems.specs.FrameLists.{last_sequence}
use Rattle.theorems.specs.FrameRows.{Follows}
use Rattle.theorems.proofs.TableRows.{rows_of_table}
use Rattle.theorems.proofs.Written.{recovered_packs}
use Rattle.theorems.proofs.DeleteBytes.{length_delete, delete_appended}
use Rattle.theorems.proofs.DeleteRecovered.{delete_recovered, deleted_by_value}
use Rattle.promises.specs.Store.{LookupMeets}
use Rattle.promises.specs.Playout.{HostDeleteMeets}
use Rattle.promises.specs.DeleteFrame.{DeleteLeft, DeleteFrame}
use Rattle.promises.proofs.Outputs.{first_bytes, rest_after}

-- by whether it was refused
by_case : (b : Bool) (whole out : List ℕ) (r : ℕ) (after : List ℕ) → r ≡ cond b 0 29 → after ≡ cond b out whole → (r ≡ 29) ⊎ ((r ≡ 0) × (after ≡ out))
by_case true whole out r after e f = inr (e, f)
by_case false whole out r after e f = inl e

twenty_nine_or_nothing : (sequence id : ℕ) (out after : List ℕ) (r : ℕ) → HostDeleteMeets sequence id out r after → (r ≡ 29) ⊎ ((r ≡ 0) × (after ≡ out))
twenty_nine_or_nothing sequence id out after r m =
    by_case (delete_refused sequence out) (placed 0 (delete_frame sequence id) out) out r after m.result_is m.output_is

not_refused : (b : Bool) (r : ℕ) → r ≡ 29 → r ≡ cond b 0 29 → b ≡ false
not_refused true r e f = absurd (omega arith)
not_refused false r e f = refl

positive : (n : ℕ) → eqb n 0 ≡ false → 0 < n
positive zero e = absurd (eqb-false 0 0 e refl)
positive (suc n) e = omega arith

-- what the two tests leave
tested : (n : ℕ) (short nothing : Bool) → eqb n 0 ≡ nothing → cond nothing true short ≡ false → (0 < n) × (short ≡ false)
tested n short true e t = absurd (true≢false t)
tested n short false e t = (positive n e, t)

module _ (sequence id : ℕ) (out after : List ℕ) (meets : HostDeleteMeets sequence id out 29 after) where
  taken : delete_refused sequence out ≡ false
  taken = not_refused (delete_refused sequence out) 29 refl meets.result_is

  passed : (0 < sequence) × (ltb (length out) 29 ≡ false)
  passed = tested sequence (ltb (length out) 29) (eqb sequence 0) refl taken

  pub sequence_positive : 0 < sequence
  sequence_positive = passed.0

  pub room_there : 29 ≤ length out
  room_there = ltb-false (length out) 29 passed.1

  pub is_frame : after ≡ placed 0 (delete_frame sequence id) out
  is_frame = meets.output_is ∙ ap (λ (b : Bool). cond b out (placed 0 (delete_frame sequence id) out)) taken

  is_delete : take 29 after ≡ delete_frame sequence id
  is_delete = first_bytes (delete_frame sequence id) out after 29 (length_delete sequence id) is_frame

  appended : (c : Config) → sequence < 256 ^ 8 → id < 256 ^ 8
      → (log : List ℕ) (fs : List (Frame Row)) → frames_of c log ≡ record { frames = fs; ended = tail (length log) } → Follows (last_sequence 0 fs) sequence
      → frames_of c (log ++ take 29 after)
      ≡ record {
        frames = fs ++ (record { start = length log; sequence = sequence; shape = Single; operations = remove id ∷ [] } ∷ []);
        ended = tail (length (log ++ take 29 after));
      }
  appended c q k log fs all follows =
      subst (λ (l : List ℕ). frames_of c (log ++ l)
      ≡ record {
        frames = fs ++ (record { start = length log; sequence = sequence; shape = Single; operations = remove id ∷ [] } ∷ []);
        ended = tail (length (log ++ l));
      }) (sym is_delete) (delete_appended c sequence id sequence_positive q k log fs all follows)

  pub delete_left : DeleteLeft sequence id out after
  delete_left =
      record {
        sequence_positive = sequence_positive;
        room_there = room_there;
        is_delete = is_delete;
        rest_untouched = rest_after (delete_frame sequence id) out after 29 (length_delete sequence id) is_frame;
        appended = appended;
        recovers = λ lent snapshot log r given S reads newer none next q k live room.
            ap (λ (l : List ℕ). recover lent snapshot (log ++ l)) is_delete
            ∙ delete_recovered lent snapshot log r given S reads newer none sequence id next q k live room;
        no_tail = λ log r none.
            let frame = ap length is_delete ∙ length_delete sequence id in omega (arith, length-append log (take 29 after));
        records_are = λ lent snapshot log r given bs bl. deleted_by_value lent snapshot log r given bs bl id (take 29 after);
      }

-- ---- an ID that `lookup` finds
abbrev IsNode : Answer (Option Node) → Type 0
IsNode (Ok (Some n)) = Unit
IsNode (Ok None) = ⊥
IsNode (Err why) = ⊥

-- of an ID that is not live, lookup finds no node
pub not_live : (d id k : ℕ) (rows : List Row) → active (row_kind d) id rows ≡ false → find_from id k rows ≡ Lookup.none
unfolding active find_from
not_live d id k [] e = refl
not_live d id k (r ∷ rows) e = go (live_as (row_kind 0) id r) e (not_live d id (suc k) rows)
  where
    go : (b : Bool) → cond b true (active (row_kind d) id rows) ≡ false → (active (row_kind d) id rows ≡ false → find_from id (suc k) rows ≡ Lookup.none)
        → cond b (Lookup.node k) (find_from id (suc k) rows) ≡ Lookup.none
    go true e rest = absurd (true≢false e)
    go false e rest = rest e

-- an ID that lookup finds is live among the rows in the words
pub lookup_live : (d : ℕ) (words : List ℕ) (count : ℕ) (id : Id) (node : Node) → LookupMeets words count id (Ok (Some node))
    → active (row_kind d) id.0 (rows_in count words) ≡ true
unfolding lookup
lookup_live d words count id node m = go (ltb (rows_lent_plain words) count) (active (row_kind d) id.0 (rows_in count words)) refl m.result_is
  where
    go : (large live : Bool) → active (row_kind d) id.0 (rows_in count words) ≡ live
        → Ok (Some node) ≡ found_told (refuse NoSuchNode large >>= λ _. Ok (find_from id.0 0 (rows_in count words)))
        → active (row_kind d) id.0 (rows_in count words) ≡ true
    go true live e h = absurd (subst IsNode h tt)
    go false true e h = e
    go false false e h = absurd (subst IsNode (h ∙ ap (λ (l : Lookup). found_told (Ok l)) (not_live d id.0 0 (rows_in count words) e)) tt)

found_is_live : (words active' snapshot log : List ℕ) (r : Recovered) → Bytes snapshot → Bytes log → recover (rows_lent words active') snapshot log ≡ recovered r
    → (id : Id) (node : Node) → LookupMeets (recover_tables words active' (recovered r)).rows (record_count r) id (Ok (Some node))
    → active (row_kind r.config.dimensions) id.0 (rows_of r) ≡ true
found_is_live words active' snapshot log r bs bl given id node m =
    subst (λ (rows : List Row). active (row_kind r.config.dimensions) id.0 rows ≡ true)
    (rows_of_table (length words) (rows_of r) (recovered_packs (rows_lent words active') snapshot log r bs bl given))
    (lookup_live r.config.dimensions (recover_tables words active' (recovered r)).rows (record_count r) id node m)

pub delete_frame_lem : DeleteFrame
delete_frame_lem = record { twenty_nine_or_nothing = twenty_nine_or_nothing; delete_left = delete_left; found_is_live = found_is_live }
