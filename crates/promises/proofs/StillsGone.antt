-- What `specs/StillGone.antt` says of the playout host's delete, recovered.
use Rattle.std.specs.Prelude.{Ok, Option, Some, None}
use Prim.Native.Nat.{ℕ, suc, ◌+◌, ◌-◌, ◌≤◌, ◌<◌, ◌^◌}
use native.Mathlib.Omega.{arith}
use mathlib.Core.Path.{◌≡◌, refl, sym, ap, ◌∙◌, subst}
use mathlib.Core.Bool.{Bool, true, false, cond, true≢false}
use mathlib.Core.List.{List, [], ◌∷◌, ◌++◌, map}
use lib.ListN.{length, take}
use borrow.Author.Tests.{le-ltb}
use Rattle.refusal.specs.Refusal.{refuse, ◌>>=◌, Answer}
use Rattle.refusal.specs.declared.Refusal.TheVariants.{NoSuchNode}
use Rattle.config.specs.Limits.{max_log_bytes}
use Rattle.config.specs.declared.Config.{Config}
use Rattle.fields.specs.Fields.{Bytes}
use Rattle.fields.proofs.Numbers.{Bytes-append}
use Rattle.rows.specs.Lent.{rows_lent_plain}
use Rattle.rows.specs.declared.Row.{Row}
use Rattle.rows.specs.declared.Node.{Node}
use Rattle.rows.specs.declared.Id.{Id}
use Rattle.meaning.specs.Replay.{live_as, active, mark}
use Rattle.meaning.specs.Records.{delete_row, row_kind, seen}
use Rattle.meaning.specs.LiveOnce.{LiveOnce}
use Rattle.meaning.specs.Snapshot.{Snapshot, read_snapshot}
use Rattle.meaning.specs.Recovery as Meant
use Rattle.meaning.specs.Recovery.{Recovered, recover, live_count, rows_of}
use Rattle.meaning.specs.Tables.{rows_in}
use Rattle.meaning.specs.Views.{Lookup, find_from, lookup}
use Rattle.meaning.specs.Calls.{recover_call, recover_tables, recovery_told}
use Rattle.meaning.proofs.Marking.{length_mark, live_known, mark_after, active_mark}
use Rattle.views.specs.Told.{found_told}
use Rattle.theorems.specs.DeleteAppended.{NotOlder, with_deleted}
use Rattle.theorems.proofs.AtTheCut.{row_deletes, standing}
use Rattle.theorems.proofs.Recovering as Recovering
use Rattle.theorems.proofs.Written.{room_there}
use Rattle.theorems.proofs.DeleteBytes.{delete_bytes}
use Rattle.theorems.proofs.DeleteRecovered as DeleteRecovered
use Rattle.recovery.specs.Told.{Recovery, info_of, recovery_answer}
use Rattle.recovery.specs.declared.RecoveryInfo.{RecoveryInfo}
use Rattle.promises.specs.Recover.{Recovers, shown}
use Rattle.promises.specs.Store.{LookupMeets}
use Rattle.promises.specs.Playout.{HostDeleteMeets}
use Rattle.promises.specs.DeleteFrame.{DeleteLeft}
use Rattle.promises.specs.StillGone.{Gone, StillGone}
use Rattle.promises.proofs.DeletesLeft.{delete_left, not_live, lookup_live}
use Rattle.promises.proofs.RecoverShown.{told, Shows, shows}

abbrev state_or : Recovered → Meant.Recovery → Recovered
state_or z (Meant.recovered r) = r
state_or z (Meant.refused_snapshot why) = z
state_or z (Meant.refused_log why at) = z

-- the words that an accepted recovery left have room for its rows
rows_fit : (lent : ℕ) (snapshot log : List ℕ) → Bytes snapshot → Bytes log
    → (i : RecoveryInfo) (words : List ℕ) → Recovers lent snapshot log (Ok i) words → i.records ≤ rows_lent_plain words
rows_fit lent snapshot log bs bl i words call =
    let t = told log (recover_call call.rows call.active snapshot log) i call.meets.result_is in
    let many : i.records ≡ length (rows_of t.state) = ap (λ x. x.records) t.info_is in
    let fit = room_there call.rows call.active snapshot log log t.state bs bl t.is in
    subst (λ (w : List ℕ). i.records ≤ rows_lent_plain w)
    (sym (call.meets.rows_are ∙ ap (λ x. (recover_tables call.rows call.active x).rows) t.is))
    (subst (λ (n : ℕ). n ≤ rows_lent_plain (recover_tables call.rows call.active (Meant.recovered t.state)).rows) (sym many) fit)

-- lookup answers none of an ID that is not live among the rows in the words
none_found : (d : ℕ) (words : List ℕ) (count : ℕ) (id : Id) → count ≤ rows_lent_plain words → active (row_kind d) id.0 (rows_in count words) ≡ false
    → (f : Answer (Option Node)) → LookupMeets words count id f → f ≡ Ok None
unfolding lookup
none_found d words count id fits dead f m =
    m.result_is
    ∙ ap (λ (b : Bool). found_told (refuse NoSuchNode b >>= λ _. Ok (find_from id.0 0 (rows_in count words)))) (le-ltb (rows_lent_plain words) count fits)
    ∙ ap (λ (l : Lookup). found_told (Ok l)) (not_live d id.0 0 (rows_in count words) dead)

-- where no ID is live twice, marking a live one leaves one record less live
live_marked : (d id : ℕ) (rows : List Row) → LiveOnce (row_kind d) rows → active (row_kind d) id rows ≡ true
    → live_count (mark (row_kind d) id rows) + 1 ≡ live_count rows
unfolding active mark live_count
live_marked d id [] once h = absurd (true≢false (sym h))
live_marked d id (r ∷ rows) once h = go (live_as (row_kind d) id r) refl h (live_marked d id rows once.1)
  where
    go : (b : Bool) → live_as (row_kind d) id r ≡ b → cond b true (active (row_kind d) id rows) ≡ true
        → (active (row_kind d) id rows ≡ true → live_count (mark (row_kind d) id rows) + 1 ≡ live_count rows)
        → cond (cond b (delete_row r) r).deleted (live_count (mark (row_kind d) id rows)) (suc (live_count (mark (row_kind d) id rows))) + 1
        ≡ cond r.deleted (live_count rows) (suc (live_count rows))
    go true l h rest =
        let same = mark_after (row_kind d) id r rows once l in
        let live = (live_known (row_kind d) id r l).0 in
        rw (same, live) (omega arith)
    go false l h rest = by_state r.deleted (rest h)
      where
        by_state : (b : Bool) → live_count (mark (row_kind d) id rows) + 1 ≡ live_count rows
            → cond b (live_count (mark (row_kind d) id rows)) (suc (live_count (mark (row_kind d) id rows))) + 1 ≡ cond b (live_count rows) (suc (live_count rows))
        by_state true e = e
        by_state false e = omega arith

-- of the rows in the words no ID is live twice
once_shown : (lent : ℕ) (snapshot log : List ℕ) (r : Recovered) → Bytes snapshot → Bytes log → recover lent snapshot log ≡ Meant.recovered r
    → LiveOnce (row_kind r.config.dimensions) (rows_of r)
once_shown lent snapshot log r bs bl given =
    let a = Recovering.accepted lent snapshot log r given in
    subst (λ (c : Config). LiveOnce (row_kind c.dimensions) (rows_of r)) (sym a.same_config) (standing lent snapshot log r bs bl a).once

module _ (lent : ℕ) (snapshot log : List ℕ) (bs : Bytes snapshot) (bl : Bytes log) (room : length log + 29 ≤ max_log_bytes)
    (i : RecoveryInfo) (words : List ℕ) (call : Recovers lent snapshot log (Ok i) words) (no_tail : i.tail ≡ 0)
    (S : Snapshot) (reads : read_snapshot lent snapshot ≡ Ok S) (newer : NotOlder S log)
    (id : Id) (node : Node) (is_found : LookupMeets words i.records id (Ok (Some node)))
    (out after : List ℕ) (wrote : HostDeleteMeets (i.sequence + 1) id.0 out 29 after) (q : i.sequence + 1 < 256 ^ 8) (k : id.0 < 256 ^ 8) where
  abbrev log' : List ℕ
  log' = log ++ take 29 after

  abbrev d : ℕ
  d = i.config.dimensions

  abbrev x : Recovered
  x = shown i words

  before : Shows lent snapshot log i words
  before = shows lent snapshot log i words bs bl call

  left : DeleteLeft (i.sequence + 1) id.0 out after
  left = delete_left (i.sequence + 1) id.0 out after wrote

  nothing_left : length log - i.keep ≡ 0
  nothing_left = sym (ap (λ y. y.tail) before.told_is) ∙ no_tail

  live : active (row_kind d) id.0 (rows_in i.records words) ≡ true
  live = lookup_live d words i.records id node is_found

  next : recover lent snapshot log' ≡ Meant.recovered (with_deleted id.0 x)
  next = left.recovers lent snapshot log x before.given S reads newer nothing_left refl q k live room

  bytes_after : Bytes log'
  bytes_after = Bytes-append log (take 29 after) bl (subst Bytes (sym left.is_delete) (delete_bytes (i.sequence + 1) id.0))

  abbrev info : RecoveryInfo
  info = info_of (recovery_told log' (with_deleted id.0 x))

  module _ (r : Recovery) (words' : List ℕ) (again : Recovers lent snapshot log' r words') where
    accepted : r ≡ Ok info
    accepted =
        again.meets.result_is
        ∙ ap (λ (n : ℕ). recovery_answer log' (recover n snapshot log')) again.as_many
        ∙ ap (recovery_answer log') next

    again_accepted : Recovers lent snapshot log' (Ok info) words'
    again_accepted = subst (λ (y : Recovery). Recovers lent snapshot log' y words') accepted again

    rows_are : rows_in info.records words' ≡ mark (row_kind d) id.0 (rows_in i.records words)
    rows_are =
        ap (λ (y : Meant.Recovery). rows_of (state_or x y)) (sym (shows lent snapshot log' info words' bs bytes_after again_accepted).given ∙ next)

    gone : Gone snapshot log log' id i words r words'
    gone =
        record {
          after = info;
          accepted = accepted;
          same_config = refl;
          same_crc = refl;
          same_records = length_mark (row_kind d) id.0 (rows_in i.records words) ∙ sym (ap (λ y. y.records) before.told_is);
          same_skipped = refl;
          sequence_is = refl;
          replayed_is = omega arith;
          keep_is = refl;
          tail_is = left.no_tail log x nothing_left;
          active_is =
              live_marked d id.0 (rows_in i.records words) (once_shown lent snapshot log x bs bl before.given) live
              ∙ sym (ap (λ y. y.active) before.told_is);
          rows_are = rows_are;
          records_are = ap (map (seen d snapshot log')) rows_are ∙ left.records_are lent snapshot log x before.given bs bl;
          not_found =
              none_found d words' info.records id (rows_fit lent snapshot log' bs bytes_after info words' again_accepted)
              (ap (active (row_kind d) id.0) rows_are ∙ active_mark (row_kind d) (row_deletes d) id.0 (rows_in i.records words));
        }

pub still_gone : StillGone
still_gone =
    record {
      still_gone = gone;
      replayed_not_older = λ lent snapshot log bs bl i words call S reads some.
          DeleteRecovered.replayed_not_older lent snapshot log (shown i words) (shows lent snapshot log i words bs bl call).given S reads some;
    }
