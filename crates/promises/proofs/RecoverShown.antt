-- What `specs/Recover.antt` says of `recover`; and what its answer shows with the row words is what the definition gives.
use Rattle.std.specs.Prelude.{Ok, Err}
use Prim.Native.Nat.{ℕ, ◌+◌, ◌-◌}
use mathlib.Core.Path.{◌≡◌, refl, sym, ap, ◌∙◌, subst}
use mathlib.Core.List.{List}
use lib.ListN.{length}
use Rattle.refusal.specs.declared.Refusal.{Refusal}
use Rattle.fields.specs.Fields.{Bytes}
use Rattle.rows.specs.Lent.{rows_lent}
use Rattle.rows.specs.declared.Row.{Row}
use Rattle.meaning.specs.Recovery as Meant
use Rattle.meaning.specs.Recovery.{Recovered, recover, rows_of, record_count}
use Rattle.meaning.specs.Tables.{rows_in}
use Rattle.meaning.specs.Calls.{recovery_told, recover_call, recover_tables}
use Rattle.theorems.specs.Compared.{accepts, compared, holds, brief}
use Rattle.theorems.proofs.TableRows.{rows_of_table}
use Rattle.theorems.proofs.Written.{recovered_packs}
use Rattle.recovery.specs.Told.{Recovery, info_of, recovery_answer}
use Rattle.recovery.specs.declared.RecoveryInfo.{RecoveryInfo}
use Rattle.recovery.specs.declared.NotRecovered.TheVariants as Refusals
use Rattle.promises.specs.Recover.{RecoverCalls, Recovers, shown, records_shown, compared_shown, brief_shown}
use Rattle.promises.proofs.OneAnswers.{one_answer}

pub recover_calls : RecoverCalls
recover_calls =
    record {
      recover_contract = λ κs snapshot log rows active r rows' active' p. record { result_is = p.0; rows_are = p.1.0; active_is = p.1.1 };
      recover_one_answer = λ snapshot log rows active r s x y z w m n. (one_answer m.result_is n.result_is, one_answer m.rows_are n.rows_are, one_answer m.active_is n.active_is);
    }

-- a recovery that is told as accepted
pub record Told (log : List ℕ) (given : Meant.Recovery) (i : RecoveryInfo) : Type 0 where
  pub state : Recovered
  pub is : given ≡ Meant.recovered state
  pub info_is : i ≡ info_of (recovery_told log state)

abbrev info_or : RecoveryInfo → Recovery → RecoveryInfo
info_or other (Ok i) = i
info_or other (Err (Refusals.Snapshot why)) = other
info_or other (Err (Refusals.Log why at)) = other

abbrev pub IsRecovered : Recovery → Type 0
IsRecovered (Ok i) = Unit
IsRecovered (Err (Refusals.Snapshot why)) = ⊥
IsRecovered (Err (Refusals.Log why at)) = ⊥

pub told : (log : List ℕ) (given : Meant.Recovery) (i : RecoveryInfo) → Ok i ≡ recovery_answer log given → Told log given i
told log (Meant.recovered r) i e = record { state = r; is = refl; info_is = ap (info_or i) e }
told log (Meant.refused_snapshot why) i e = absurd (subst IsRecovered e tt)
told log (Meant.refused_log why at) i e = absurd (subst IsRecovered e tt)

-- the rows in the words that a recovered state left are its rows
rows_left : (rows active snapshot log : List ℕ) (r : Recovered) → Bytes snapshot → Bytes log → recover (rows_lent rows active) snapshot log ≡ Meant.recovered r
    → rows_in (record_count r) (recover_tables rows active (Meant.recovered r)).rows ≡ rows_of r
rows_left rows active snapshot log r bs bl given = rows_of_table (length rows) (rows_of r) (recovered_packs (rows_lent rows active) snapshot log r bs bl given)

-- a state with these rows
abbrev with_rows : Recovered → List Row → Recovered
with_rows r rows =
    record {
      config = r.config;
      crc = r.crc;
      state = record { records = rows; sequence = r.state.sequence; replayed = r.state.replayed; skipped = r.state.skipped };
      keep = r.keep;
    }

-- an accepted answer and the row words show what was recovered
pub record Shows (lent : ℕ) (snapshot log : List ℕ) (i : RecoveryInfo) (words : List ℕ) : Type 0 where
  pub given : recover lent snapshot log ≡ Meant.recovered (shown i words)
  pub told_is : i ≡ info_of (recovery_told log (shown i words))

module _ (lent : ℕ) (snapshot log : List ℕ) (i : RecoveryInfo) (words : List ℕ) (bs : Bytes snapshot) (bl : Bytes log)
    (call : Recovers lent snapshot log (Ok i) words) where
  t : Told log (recover_call call.rows call.active snapshot log) i
  t = told log (recover_call call.rows call.active snapshot log) i call.meets.result_is

  same_rows : rows_in (record_count t.state) words ≡ rows_of t.state
  same_rows =
      ap (rows_in (record_count t.state)) (call.meets.rows_are ∙ ap (λ x. (recover_tables call.rows call.active x).rows) t.is)
      ∙ rows_left call.rows call.active snapshot log t.state bs bl t.is

  shown_is : shown i words ≡ t.state
  shown_is = ap (λ (x : RecoveryInfo). shown x words) t.info_is ∙ ap (with_rows t.state) same_rows

  pub shows : Shows lent snapshot log i words
  shows =
      record {
        given = ap (λ (n : ℕ). recover n snapshot log) (sym call.as_many) ∙ t.is ∙ ap Meant.recovered (sym shown_is);
        told_is = t.info_is ∙ ap (λ (r : Recovered). info_of (recovery_told log r)) (sym shown_is);
      }

-- what is compared of the answer and the words is what is compared of the definition
module _ (lent : ℕ) (snapshot log : List ℕ) (bs : Bytes snapshot) (bl : Bytes log) (words : List ℕ) where
  -- so it is if it is of an accepted answer, and if it goes by the refusal and its place alone
  pub by_answer : {A : Type 0} (ours : Recovery → A) (meant : Meant.Recovery → A)
      → ((i : RecoveryInfo) → Recovers lent snapshot log (Ok i) words → ours (Ok i) ≡ meant (Meant.recovered (shown i words)))
      → ((why : Refusal) → ours (Err (Refusals.Snapshot why)) ≡ meant (Meant.refused_snapshot why))
      → ((why : Refusal) (at : ℕ) → ours (Err (Refusals.Log why at)) ≡ meant (Meant.refused_log why at))
      → (r : Recovery) → Recovers lent snapshot log r words → ours r ≡ meant (recover lent snapshot log)
  by_answer {A} ours meant taken no-snapshot no-log r call =
      go (recover_call call.rows call.active snapshot log) refl r call call.meets.result_is
      ∙ ap (λ (n : ℕ). meant (recover n snapshot log)) call.as_many
    where
      go : (x : Meant.Recovery) → recover_call call.rows call.active snapshot log ≡ x → (r : Recovery) → Recovers lent snapshot log r words → r ≡ recovery_answer log x
          → ours r ≡ meant (recover_call call.rows call.active snapshot log)
      go x e (Ok i) c h =
          taken i c ∙ ap meant (sym (shows lent snapshot log i words bs bl c).given ∙ ap (λ (n : ℕ). recover n snapshot log) (sym call.as_many))
      go (Meant.recovered s) e (Err (Refusals.Snapshot why)) c h = absurd (subst IsRecovered (sym h) tt)
      go (Meant.recovered s) e (Err (Refusals.Log why at)) c h = absurd (subst IsRecovered (sym h) tt)
      go (Meant.refused_snapshot why') e (Err (Refusals.Snapshot why)) c h = ap ours h ∙ no-snapshot why' ∙ ap meant (sym e)
      go (Meant.refused_snapshot why') e (Err (Refusals.Log why at)) c h = ap ours h ∙ no-snapshot why' ∙ ap meant (sym e)
      go (Meant.refused_log why' at') e (Err (Refusals.Snapshot why)) c h = ap ours h ∙ no-log why' at' ∙ ap meant (sym e)
      go (Meant.refused_log why' at') e (Err (Refusals.Log why at)) c h = ap ours h ∙ no-log why' at' ∙ ap meant (sym e)

  tail_is : (i : RecoveryInfo) → Recovers lent snapshot log (Ok i) words → i.tail ≡ length log - i.keep
  tail_is i call = ap (λ x. x.tail) (shows lent snapshot log i words bs bl call).told_is

  pub compared_is : (r : Recovery) → Recovers lent snapshot log r words
      → compared_shown snapshot log r words ≡ compared snapshot log (recover lent snapshot log)
  compared_is =
      by_answer (λ r. compared_shown snapshot log r words) (compared snapshot log)
      (λ i call. ap (accepts i.config (records_shown snapshot log i words) i.sequence (i.replayed + i.skipped)) (tail_is i call))
      (λ why. refl) (λ why at. refl)

  pub brief_is : (r : Recovery) → Recovers lent snapshot log r words → brief_shown snapshot log r words ≡ brief snapshot log (recover lent snapshot log)
  brief_is =
      by_answer (λ r. brief_shown snapshot log r words) (brief snapshot log)
      (λ i call. ap (holds i.config (records_shown snapshot log i words) i.sequence) (tail_is i call))
      (λ why. refl) (λ why at. refl)
