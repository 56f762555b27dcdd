-- What `specs/CaptionsOfDeleted.antt` says of two snapshots that differ in the captions of deleted records.
use Rattle.std.specs.Prelude.{Ok}
use Prim.Native.Nat.{ℕ}
use mathlib.Core.Path.{◌≡◌, refl, sym, ap, ◌∙◌, subst, transport}
use mathlib.Core.List.{List}
use Rattle.fields.specs.Fields.{Bytes}
use Rattle.rows.specs.Lent.{rows_lent}
use Rattle.meaning.specs.Recovery as Meant
use Rattle.meaning.specs.Recovery.{recover}
use Rattle.meaning.specs.Snapshot.{Snapshot, read_snapshot}
use Rattle.meaning.specs.Calls.{RecoveryTold, read_call}
use Rattle.snapshot.specs.declared.SnapshotInfo.{SnapshotInfo}
use Rattle.theorems.specs.DeletedCaptions.{DifferInDeleted, without_places, SameButPlaces}
use Rattle.theorems.proofs.RecoverAlike.{deleted_captions_answer, deleted_captions_told, deleted_captions_records}
use Rattle.theorems.proofs.TablesAlike.{deleted_captions_tables}
use Rattle.recovery.specs.Told.{Recovery, info_of, recovery_answer}
use Rattle.promises.specs.Recover.{RecoverMeets, Recovers}
use Rattle.promises.specs.Store.{ReadSnapshotMeets}
use Rattle.promises.specs.CaptionsOfDeleted.{without_crc, SameButCrcAndPlaces, CaptionsOfDeleted}
use Rattle.promises.proofs.FilesRead.{accepts}
use Rattle.promises.proofs.RecoverShown.{compared_is}

abbrev IsRecovered : Meant.Recovery → Type 0
IsRecovered (Meant.recovered r) = Unit
IsRecovered (Meant.refused_snapshot why) = ⊥
IsRecovered (Meant.refused_log why at) = ⊥

module _ (lent : ℕ) (s s' log : List ℕ) (x y : Snapshot) (k : DifferInDeleted s s') (e : read_snapshot lent s ≡ Ok x) (e' : read_snapshot lent s' ≡ Ok y) where
  same_answer : without_crc (recovery_answer log (recover lent s log)) ≡ without_crc (recovery_answer log (recover lent s' log))
  same_answer = go (recover lent s log) (recover lent s' log) refl refl (deleted_captions_answer lent s s' log x y k e e')
    where
      go : (a b : Meant.Recovery) → recover lent s log ≡ a → recover lent s' log ≡ b → without_places a ≡ without_places b
          → without_crc (recovery_answer log a) ≡ without_crc (recovery_answer log b)
      go (Meant.recovered r) (Meant.recovered r') p q h =
          ap (λ (t : RecoveryTold). Ok (info_of t)) (deleted_captions_told lent s s' log x y r r' k e e' p q).0
      go (Meant.recovered r) (Meant.refused_snapshot why) p q h = absurd (subst IsRecovered h tt)
      go (Meant.recovered r) (Meant.refused_log why at) p q h = absurd (subst IsRecovered h tt)
      go (Meant.refused_snapshot why) (Meant.recovered r) p q h = absurd (subst IsRecovered (sym h) tt)
      go (Meant.refused_log why at) (Meant.recovered r) p q h = absurd (subst IsRecovered (sym h) tt)
      go (Meant.refused_snapshot why) (Meant.refused_snapshot why') p q h = ap (λ z. without_crc (recovery_answer log z)) h
      go (Meant.refused_snapshot why) (Meant.refused_log why' at) p q h = ap (λ z. without_crc (recovery_answer log z)) h
      go (Meant.refused_log why at) (Meant.refused_snapshot why') p q h = ap (λ z. without_crc (recovery_answer log z)) h
      go (Meant.refused_log why at) (Meant.refused_log why' at') p q h = ap (λ z. without_crc (recovery_answer log z)) h

-- a call with these tables lent
abbrev called : {s log words entries : List ℕ} {r : Recovery} {rows active : List ℕ} → RecoverMeets s log words entries r rows active
    → Recovers (rows_lent words entries) s log r rows
called {s} {log} {words} {entries} {r} {rows} {active} m = record { rows = words; active = entries; as_many = refl; active' = active; meets = m }

captions : (s s' log words entries : List ℕ) → Bytes s → Bytes s' → Bytes log → DifferInDeleted s s'
    → (i i' : SnapshotInfo) (x x' y y' : List ℕ)
    → ReadSnapshotMeets s words entries (Ok i) x y → ReadSnapshotMeets s' words entries (Ok i') x' y'
    → (r r' : Recovery) (rows rows' active active' : List ℕ)
    → RecoverMeets s log words entries r rows active → RecoverMeets s' log words entries r' rows' active'
    → SameButCrcAndPlaces s s' log r r' rows rows' active active'
captions s s' log words entries bs bs' bl k i i' x x' y y' read read' r r' rows rows' active active' m m' =
    let lent = rows_lent words entries in
    let a = accepts (read_call words entries s) i read.result_is in
    let a' = accepts (read_call words entries s') i' read'.result_is in
    let S = a.snapshot in
    let S' = a'.snapshot in
    let t = deleted_captions_tables words entries s s' log S S' bs bs' bl k a.is a'.is in
    let rows_are = sym m.rows_are in
    let rows-are' = sym m'.rows_are in
    let active_is = sym m.active_is in
    let active-is' = sym m'.active_is in
    record {
      same_answer = ap without_crc m.result_is ∙ same_answer lent s s' log S S' k a.is a'.is ∙ ap without_crc (sym m'.result_is);
      same_tables =
          transport (λ j. SameButPlaces (record { rows = rows_are j; active = active_is j }) (record { rows = rows-are' j; active = active-is' j })) t;
      same_records =
          compared_is lent s log bs bl rows r (called m)
          ∙ deleted_captions_records lent s s' log S S' bl k a.is a'.is
          ∙ sym (compared_is lent s' log bs' bl rows' r' (called m'));
    }

pub captions_of_deleted : CaptionsOfDeleted
captions_of_deleted = record { captions_of_deleted = captions }
