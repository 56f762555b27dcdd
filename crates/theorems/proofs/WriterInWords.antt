-- Demand 3 over the answer of the writer itself: the file is what `write` gives for the tables that recovery left at the cut, lent the
-- log's front up to the cut with anything behind it, or nothing.
use Rattle.std.specs.Prelude.{Ok}
use Prim.Native.Nat.{ℕ, ◌≤◌}
use native.Mathlib.Omega.{arith}
use mathlib.Core.Path.{◌≡◌, sym, ap, ap₂, ◌∙◌, subst}
use mathlib.Core.List.{List, ◌++◌, map}
use lib.ListN.{length, take, drop, take-append-drop}
use lib.Dec.{ltb}
use Rattle.fields.specs.Fields.{Bytes}
use Rattle.fields.proofs.Numbers.{Bytes-take}
use Rattle.config.specs.Limits.{max_snapshot_bytes}
use Rattle.config.specs.declared.Config.{Config}
use Rattle.rows.specs.Lent.{rows_lent}
use Rattle.refusal.specs.declared.Refusal.TheVariants.{TooLarge, OutputTooShort}
use Rattle.meaning.specs.Records.{seen}
use Rattle.meaning.specs.File.{file_of}
use Rattle.meaning.specs.Recovery.{Recovered, recovered, recover, record_count, rows_of}
use Rattle.meaning.specs.Calls.{recover_tables}
use Rattle.meaning.specs.Writer.{file_length, write}
use Rattle.layout.specs.Layout.{snapshot_length}
use Rattle.layout.specs.declared.Extent.TheVariants.{Full}
use Rattle.theorems.proofs.RecordBack.{all_shaped, all_wide, all_readable}
use Rattle.theorems.proofs.FileBack.{length_file_of}
use Rattle.theorems.proofs.SnapshotFit.{seen_fit, size_seen}
use Rattle.theorems.proofs.Recovering.{accepted}
use Rattle.theorems.proofs.AtTheCut.{standing}
use Rattle.theorems.specs.Compared.{compared, brief}
use Rattle.theorems.specs.Cut.{full_snapshot, Cut, CutTo, place, there, new_snapshot}
use Rattle.theorems.proofs.Written.{writer_writes}
use Rattle.theorems.proofs.InWords.{cut_of_accepted, front_recovers, beside_the_whole_log, without_the_front}
use borrow.Author.Tests.{ltb-false}
use Rattle.refusal.proofs.Results.{went, answer_injective}

-- the file's length is what the writer tests
pub length_full : (lent : ℕ) (snapshot log : List ℕ) (r : Recovered) → Bytes snapshot → Bytes log → recover lent snapshot log ≡ recovered r
    → length (full_snapshot snapshot log r) ≡ file_length r.config.dimensions (rows_of r)
length_full lent snapshot log r bs bl e =
    let a = accepted lent snapshot log r e in
    subst (λ (c : Config). length (file_of c r.state.sequence (map (seen c.dimensions snapshot log) (rows_of r))) ≡ file_length c.dimensions (rows_of r)) (sym a.same_config)
    (let c = a.read.config in
    let rs = map (seen c.dimensions snapshot log) (rows_of r) in
    let sourced = (standing lent snapshot log r bs bl a).sourced in
    let wide = all_wide c.dimensions rs (all_shaped c rs (all_readable c rs (seen_fit c snapshot log (rows_of r) sourced))) in
    length_file_of c r.state.sequence rs wide ∙ ap snapshot_length (size_seen c snapshot log (rows_of r) sourced))

module _ (words active snapshot log : List ℕ) (cut : Cut (rows_lent words active) snapshot log) (bs : Bytes snapshot) (bl : Bytes log) (more : List ℕ) (room : ℕ) (file : List ℕ)
    (wrote : write Full (there cut).config (there cut).state.sequence (recover_tables words active (recovered (there cut))).rows (record_count (there cut)) snapshot (take (place cut) log ++ more) room ≡ Ok file) where
  abbrev front : List ℕ
  front = take (place cut) log

  abbrev rest : List ℕ
  rest = drop (place cut) log

  bytes_front : Bytes front
  bytes_front = Bytes-take (place cut) log bl

  pub is_new : (length (new_snapshot cut) ≤ max_snapshot_bytes) × (new_snapshot cut ≡ file)
  is_new =
      let r = there cut in
      let e = sym (writer_writes words active snapshot front more r bs bytes_front (front_recovers cut) room) ∙ wrote in
      let s1 = went TooLarge (ltb max_snapshot_bytes (file_length r.config.dimensions (rows_of r))) _ file e in
      let s2 = went OutputTooShort (ltb room (file_length r.config.dimensions (rows_of r))) _ file s1.then in
      let n = ltb-false max_snapshot_bytes (file_length r.config.dimensions (rows_of r)) s1.test_false in
      let l = length_full (rows_lent words active) snapshot front r bs bytes_front (front_recovers cut) in
      (omega arith, answer_injective (new_snapshot cut) file s2.then)

  pub written_beside_the_whole_log : compared file log (recover (rows_lent words active) file log) ≡ compared snapshot log (recover (rows_lent words active) snapshot log)
  written_beside_the_whole_log =
      subst (λ (f : List ℕ). compared f log (recover (rows_lent words active) f log) ≡ compared snapshot log (recover (rows_lent words active) snapshot log)) is_new.1
      (beside_the_whole_log cut bs bl is_new.0)

  pub written_without_the_front : (old : Recovered) → recover (rows_lent words active) snapshot log ≡ recovered old
      → brief file rest (recover (rows_lent words active) file rest) ≡ brief snapshot log (recovered old)
  written_without_the_front old e =
      subst (λ (f : List ℕ). brief f rest (recover (rows_lent words active) f rest) ≡ brief snapshot log (recovered old)) is_new.1
      (without_the_front cut bs bl is_new.0 old e)

-- Recover, then write: the file of the tables that recovery left, written with the log lent, recovers beside the log as the old snapshot
-- did, and beside the log's tail alone to the same records, settings, sequence and tail.
module _ (words active snapshot log : List ℕ) (r : Recovered) (bs : Bytes snapshot) (bl : Bytes log) (given : recover (rows_lent words active) snapshot log ≡ recovered r) (room : ℕ) (file : List ℕ)
    (wrote : write Full r.config r.state.sequence (recover_tables words active (recovered r)).rows (record_count r) snapshot log room ≡ Ok file) where
  end : CutTo (rows_lent words active) snapshot log r
  end = cut_of_accepted (rows_lent words active) snapshot log r given

  there_wrote : write Full (there end.cut).config (there end.cut).state.sequence (recover_tables words active (recovered (there end.cut))).rows (record_count (there end.cut)) snapshot (take (place end.cut) log ++ drop (place end.cut) log) room ≡ Ok file
  there_wrote =
      ap₂ (λ (x : Recovered) (l : List ℕ). write Full x.config x.state.sequence (recover_tables words active (recovered x)).rows (record_count x) snapshot l room) end.is (take-append-drop (place end.cut) log)
      ∙ wrote

  pub rewritten_beside_the_log : compared file log (recover (rows_lent words active) file log) ≡ compared snapshot log (recovered r)
  rewritten_beside_the_log =
      written_beside_the_whole_log words active snapshot log end.cut bs bl (drop (place end.cut) log) room file there_wrote ∙ ap (compared snapshot log) given

  pub rewritten_beside_the_tail : brief file (drop r.keep log) (recover (rows_lent words active) file (drop r.keep log)) ≡ brief snapshot log (recovered r)
  rewritten_beside_the_tail =
      subst (λ (k : ℕ). brief file (drop k log) (recover (rows_lent words active) file (drop k log)) ≡ brief snapshot log (recovered r)) (ap (λ (x : Recovered). x.keep) end.is)
      (written_without_the_front words active snapshot log end.cut bs bl (drop (place end.cut) log) room file there_wrote r given)
