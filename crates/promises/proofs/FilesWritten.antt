-- What `specs/WrittenFile.antt` says of a written file.
use Rattle.std.specs.Prelude.{Ok, Err}
use Prim.Native.Nat.{ℕ}
use mathlib.Core.Path.{◌≡◌, refl, sym, ap, ◌∙◌, subst}
use mathlib.Core.Logic.{inl, inr}
use mathlib.Core.Bool.{Bool, true, false, cond}
use mathlib.Core.List.{List, ◌++◌, map}
use lib.Dec.{ltb}
use lib.ListN.{length, take, drop, take-append-drop}
use Rattle.refusal.specs.declared.Refusal.TheVariants.{TooLarge, OutputTooShort}
use Rattle.refusal.specs.Refusal.{refuse, ◌>>=◌, written_told, Answer}
use Rattle.config.specs.Limits.{max_snapshot_bytes}
use Rattle.config.specs.declared.Config.{Config}
use Rattle.layout.specs.Layout.{snapshot_length}
use Rattle.layout.specs.declared.Extent.{Extent}
use Rattle.layout.specs.declared.Extent.TheVariants.{Full, Compacted}
use Rattle.fields.specs.Fields.{Bytes}
use Rattle.rows.specs.Lent.{rows_lent}
use Rattle.rows.specs.declared.Row.{Row}
use Rattle.meaning.specs.Records.{seen}
use Rattle.meaning.specs.File.{file_of}
use Rattle.meaning.specs.Recovery.{Recovered, recovered, recover, rows_of, record_count, total_size}
use Rattle.meaning.specs.Writer.{written, file_length, file_of_rows, write}
use Rattle.meaning.specs.Calls.{recover_tables}
use Rattle.theorems.specs.Cut.{full_snapshot, Cut, place, there}
use Rattle.theorems.proofs.Written.{writer_takes, writer_writes}
use Rattle.theorems.proofs.WriterInWords.{length_full, is_new, written_beside_the_whole_log, written_without_the_front}
use Rattle.promises.specs.WrittenFile.{WritesState, WritesStateCompacted, FileAtTheCut, Only34Or32, answer_for, WrittenFile}
use Rattle.promises.proofs.Outputs.{written_holds}

pub file_at_the_cut : (words active snapshot log : List ℕ) (cut : Cut (rows_lent words active) snapshot log) → Bytes snapshot → Bytes log
    → (more : List ℕ) (n : ℕ) (out after : List ℕ)
    → WritesState words active (there cut) snapshot (take (place cut) log ++ more) out (Ok n) after
    → FileAtTheCut words active snapshot log cut n out after
file_at_the_cut words active snapshot log cut bs bl more n out after meets =
    let h = written_holds _ n out after meets.result_is meets.output_is in
    let new = is_new words active snapshot log cut bs bl more (length out) (take n after) h.bytes_given in
    record {
      is_new_snapshot = sym new.1;
      rest_untouched = h.rest_untouched;
      new_snapshot_short = new.0;
      beside_the_whole_log = written_beside_the_whole_log words active snapshot log cut bs bl more (length out) (take n after) h.bytes_given;
      without_the_front = written_without_the_front words active snapshot log cut bs bl more (length out) (take n after) h.bytes_given;
    }

pub whole_log_lent : (k : ℕ) (words active : List ℕ) (s : Recovered) (snapshot log out : List ℕ) (r : Answer ℕ) (after : List ℕ)
    → WritesState words active s snapshot log out r after → WritesState words active s snapshot (take k log ++ drop k log) out r after
whole_log_lent k words active s snapshot log out r after =
    subst (λ (l : List ℕ). WritesState words active s snapshot l out r after) (sym (take-append-drop k log))

-- ---- what is left to refuse
only : (bytes : List ℕ) (large short : Bool) → Only34Or32 (written_told (refuse TooLarge large >>= λ _. refuse OutputTooShort short >>= λ _. Ok bytes))
only bytes true short = inl refl
only bytes false true = inr refl
only bytes false false = tt

rows_only : (c : Config) (sequence : ℕ) (snapshot log : List ℕ) (room : ℕ) (rows : List Row) → Only34Or32 (written_told (file_of_rows c sequence snapshot log room rows))
unfolding file_of_rows
rows_only c sequence snapshot log room rows =
    let k = file_length c.dimensions rows in
    only (file_of c sequence (map (seen c.dimensions snapshot log) rows)) (ltb max_snapshot_bytes k) (ltb room k)

answers : (bytes : List ℕ) (k : ℕ) → length bytes ≡ k → (large short : Bool)
    → written_told (refuse TooLarge large >>= λ _. refuse OutputTooShort short >>= λ _. Ok bytes)
    ≡ cond large (Err TooLarge) (cond short (Err OutputTooShort) (Ok k))
answers bytes k e true short = refl
answers bytes k e false true = refl
answers bytes k e false false = ap (λ (n : ℕ). Ok n) e

module _ (words active snapshot log more : List ℕ) (s : Recovered) (bs : Bytes snapshot) (bl : Bytes log) (given : recover (rows_lent words active) snapshot log ≡ recovered s)
    (out : List ℕ) (r : Answer ℕ) (after : List ℕ) where
  taken : (extent : Extent)
      → r ≡ written_told (write extent s.config s.state.sequence (recover_tables words active (recovered s)).rows (record_count s) snapshot (log ++ more) (length out))
      → Only34Or32 r
  taken extent e =
      subst Only34Or32 (sym (e ∙ ap written_told (writer_takes words active snapshot log more s bs bl given extent (length out))))
      (rows_only s.config s.state.sequence snapshot (log ++ more) (length out) (written extent (rows_of s)))

  pub write_refuses_only : WritesState words active s snapshot (log ++ more) out r after → Only34Or32 r
  write_refuses_only m = taken Full m.result_is

  pub write_compacted_refuses_only : WritesStateCompacted words active s snapshot (log ++ more) out r after → Only34Or32 r
  write_compacted_refuses_only m = taken Compacted m.result_is

  pub write_answers : WritesState words active s snapshot (log ++ more) out r after → r ≡ answer_for (total_size s) out
  write_answers m =
      m.result_is
      ∙ ap written_told (writer_writes words active snapshot log more s bs bl given (length out))
      ∙ answers (full_snapshot snapshot log s) (snapshot_length (total_size s)) (length_full (rows_lent words active) snapshot log s bs bl given)
      (ltb max_snapshot_bytes (snapshot_length (total_size s))) (ltb (length out) (snapshot_length (total_size s)))

pub written_file : WrittenFile
written_file =
    record {
      file_at_the_cut = file_at_the_cut;
      whole_log_lent = whole_log_lent;
      write_refuses_only = write_refuses_only;
      write_compacted_refuses_only = write_compacted_refuses_only;
      write_answers = write_answers;
    }
