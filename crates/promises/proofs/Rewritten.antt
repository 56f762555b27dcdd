-- What `specs/RecoverWriteRecover.antt` says of recover, write, recover.
use Rattle.refusal.specs.Refusal.{Answer}
use Rattle.std.specs.Prelude.{Ok, Err}
use Prim.Native.Nat.{ℕ, ◌≤◌}
use mathlib.Core.Path.{◌≡◌, sym, ap, ◌∙◌, subst, transport}
use mathlib.Core.List.{List, [], ◌++◌, append_assoc}
use lib.ListN.{length, take, drop, take-append-drop}
use lib.Seq.{take-append-le, take-append_seam}
use Rattle.layout.specs.declared.Extent.TheVariants.{Full}
use Rattle.fields.specs.Fields.{Bytes}
use Rattle.fields.proofs.Numbers.{Bytes-take, Bytes-drop}
use Rattle.rows.specs.Lent.{rows_lent}
use Rattle.meaning.specs.Recovery.{Recovered, recovered, recover, records_of, record_count, total_size}
use Rattle.meaning.specs.Log.{frames_of}
use Rattle.meaning.specs.Calls.{recover_call, recover_tables, recovery_told, write_call}
use Rattle.theorems.specs.Compared.{brief}
use Rattle.theorems.specs.Cut.{Cut, CutTo, place, there}
use Rattle.theorems.proofs.FileBytes.{file_bytes}
use Rattle.theorems.proofs.LogCut.{front_cut}
use Rattle.theorems.proofs.Recovering.{accepted, frames_to_tail}
use Rattle.theorems.proofs.AtTheCut.{recovered_storable}
use Rattle.theorems.proofs.InWords.{front_recovers, cut_of_accepted_front}
use Rattle.recovery.specs.Told.{Recovery, info_of, recovery_answer}
use Rattle.recovery.specs.declared.RecoveryInfo.{RecoveryInfo}
use Rattle.promises.specs.Recover.{Recovers, shown}
use Rattle.promises.specs.Store.{WriteMeets}
use Rattle.promises.specs.WrittenFile.{WritesState, FileAtTheCut, answer_for}
use Rattle.promises.specs.RecoverWriteRecover.{RecoversAlike, Rewrites, RecoverWriteRecover}
use Rattle.promises.proofs.Outputs.{untouched}
use Rattle.promises.proofs.FilesWritten.{file_at_the_cut, write_answers}
use Rattle.promises.proofs.RecoverShown.{told, shows, compared_is, brief_is}

-- the cut that an accepted front has
module _ (rows active snapshot front rest : List ℕ) (bs : Bytes snapshot) (bl : Bytes (front ++ rest)) (s : Recovered)
    (given : recover (rows_lent rows active) snapshot front ≡ recovered s) where
  abbrev rows_there : ℕ
  rows_there = rows_lent rows active

  abbrev log : List ℕ
  log = front ++ rest

  bytes_front : Bytes front
  bytes_front = subst Bytes (take-append_seam front rest) (Bytes-take (length front) log bl)

  end : CutTo rows_there snapshot log s
  end = cut_of_accepted_front rows_there snapshot front rest s given

  place_is : place end.cut ≡ s.keep
  place_is = ap (λ (x : Recovered). x.keep) end.is

  keep_inside : s.keep ≤ length front
  keep_inside =
      let a = accepted rows_there snapshot front s given in
      (front_cut a.read.config front [] (frames_of a.read.config front).frames s.keep (frames_to_tail rows_there snapshot front s a)).1

  -- the log that is lent to the writer
  log_lent : (more : List ℕ) → front ++ more ≡ take (place end.cut) log ++ (drop s.keep front ++ more)
  log_lent more =
      ap (λ (l : List ℕ). l ++ more) (sym (take-append-drop s.keep front))
      ∙ append_assoc (take s.keep front) (drop s.keep front) more
      ∙ ap (λ (l : List ℕ). l ++ (drop s.keep front ++ more)) (sym (take-append-le s.keep front rest keep_inside))
      ∙ ap (λ (k : ℕ). take k log ++ (drop s.keep front ++ more)) (sym place_is)

  file : (more : List ℕ) (n : ℕ) (out after : List ℕ) → WritesState rows active s snapshot (front ++ more) out (Ok n) after
      → FileAtTheCut rows active snapshot log end.cut n out after
  file more n out after m =
      file_at_the_cut rows active snapshot log end.cut bs bl (drop s.keep front ++ more) n out after
      (let back = sym end.is in transport (λ j. WritesState rows active (back j) snapshot (log_lent more j) out (Ok n) after) m)

  alike : (n : ℕ) (out after : List ℕ) → FileAtTheCut rows active snapshot log end.cut n out after → RecoversAlike rows_there snapshot (take n after) log s.keep
  alike n out after f =
      let short = take (place end.cut) log in
      let x = there end.cut in
      let stored = recovered_storable rows_there snapshot short x bs (Bytes-take (place end.cut) log bl) (front_recovers end.cut) f.new_snapshot_short in
      let of_bytes : Bytes (take n after) = subst Bytes (sym f.is_new_snapshot) (file_bytes x.config x.state.sequence (records_of snapshot short x) stored.fit) in
      record {
        beside_the_whole_log = λ r r' words words' old new.
            compared_is rows_there (take n after) log of_bytes bl words' r' new ∙ f.beside_the_whole_log ∙ sym (compared_is rows_there snapshot log bs bl words r old);
        beside_the_rest = λ i r' words words' old new.
            let g = (shows rows_there snapshot log i words bs bl old).given in
            brief_is rows_there (take n after) (drop s.keep log) of_bytes (Bytes-drop s.keep log bl) words' r' new
            ∙ subst (λ (k : ℕ). brief (take n after) (drop k log) (recover rows_there (take n after) (drop k log)) ≡ brief snapshot log (recovered (shown i words))) place_is
            (f.without_the_front (shown i words) g)
            ∙ ap (brief snapshot log) (sym g)
            ∙ sym (brief_is rows_there snapshot log bs bl words (Ok i) old);
      }

  rewrites : (more out : List ℕ) (w : Answer ℕ) (after : List ℕ) → WritesState rows active s snapshot (front ++ more) out w after → Rewrites rows_there snapshot log s.keep out w after
  rewrites more out (Ok n) after m = alike n out after (file more n out after m)
  rewrites more out (Err why) after m =
      untouched (write_call Full s.config s.state.sequence (recover_tables rows active (recovered s)).rows (record_count s) snapshot (front ++ more) out) why out after
      m.result_is m.output_is

  answers : (more out : List ℕ) (w : Answer ℕ) (after : List ℕ) → WritesState rows active s snapshot (front ++ more) out w after → w ≡ answer_for (total_size s) out
  answers more out w after = write_answers rows active snapshot front more s bs bytes_front given out w after

pub recover_write_recover : (lent : ℕ) (snapshot front rest : List ℕ) → Bytes snapshot → Bytes (front ++ rest)
    → (i : RecoveryInfo) (words : List ℕ) → Recovers lent snapshot front (Ok i) words
    → (more out : List ℕ) (w : Answer ℕ) (after : List ℕ) → WriteMeets i.config i.sequence words i.records snapshot (front ++ more) out w after
    → (w ≡ answer_for i.size out) × Rewrites lent snapshot (front ++ rest) i.keep out w after
recover_write_recover lent snapshot front rest bs bl i words call more out w after m =
    let t = told front (recover_call call.rows call.active snapshot front) i call.meets.result_is in
    let words_are = call.meets.rows_are ∙ ap (λ x. (recover_tables call.rows call.active x).rows) t.is in
    let info_is = t.info_is in
    let told_is = sym info_is in
    let writes = transport (λ j. WriteMeets (info_is j).config (info_is j).sequence (words_are j) (info_is j).records snapshot (front ++ more) out w after) m in (
      answers call.rows call.active snapshot front rest bs bl t.state t.is more out w after writes ∙ ap (λ (x : RecoveryInfo). answer_for x.size out) told_is,
      transport (λ j. Rewrites (call.as_many j) snapshot (front ++ rest) (told_is j).keep out w after)
          (rewrites call.rows call.active snapshot front rest bs bl t.state t.is more out w after writes),
    )

pub cut_accepted : (lent : ℕ) (snapshot log : List ℕ) (cut : Cut lent snapshot log) (r : Recovery) (words : List ℕ)
    → Recovers lent snapshot (take (place cut) log) r words → r ≡ Ok (info_of (recovery_told (take (place cut) log) (there cut)))
cut_accepted lent snapshot log cut r words call =
    let front = take (place cut) log in
    call.meets.result_is
    ∙ ap (λ (n : ℕ). recovery_answer front (recover n snapshot front)) call.as_many
    ∙ ap (recovery_answer front) (front_recovers cut)

pub written_again : RecoverWriteRecover
written_again = record { recover_write_recover = recover_write_recover; cut_accepted = cut_accepted }
