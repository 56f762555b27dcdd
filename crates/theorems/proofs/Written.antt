-- Of a state that recovery gave, with the sources it was given for, the writer refuses nothing but 34 and 32, whether it is lent
-- the log that was read or a longer one; and what it writes is demand 3's file.
use Rattle.std.specs.Prelude.{Ok}
use Prim.Native.Nat.{ℕ, ◌+◌, ◌-◌, ◌≤◌}
use native.Mathlib.Omega.{arith}
use mathlib.Core.Path.{◌≡◌, sym, ap, ◌∙◌, subst}
use mathlib.Core.Bool.{Bool, true, false, cond}
use mathlib.Core.List.{List, ◌++◌, map}
use lib.ListN.{length, length-append, length-replicate, replicate}
use lib.Dec.{ltb}
use Rattle.fields.specs.Fields.{Bytes}
use Rattle.config.specs.Limits.{max_metadata, max_snapshot_bytes, max_log_bytes}
use Rattle.config.specs.declared.Config.{Config}
use Rattle.rows.specs.Lent.{rows_lent, rows_lent_plain}
use Rattle.refusal.specs.Refusal.{refuse, ◌>>=◌}
use Rattle.refusal.specs.declared.Refusal.TheVariants.{TooLarge, OutputTooShort}
use Rattle.meaning.specs.Records.{Record, seen}
use Rattle.rows.specs.Rows.{RowFits}
use Rattle.rows.specs.declared.Row.{Row}
use Rattle.meaning.specs.File.{file_of}
use Rattle.meaning.specs.Recovery.{Recovered, recovered, recover, records_of, record_count, rows_of}
use Rattle.meaning.specs.Tables.{row_words, filled}
use Rattle.meaning.specs.Calls.{recover_tables}
use Rattle.meaning.specs.Writer.{written, file_of_rows, file_length, write}
use Rattle.layout.specs.Layout.{caption_offset}
use Rattle.layout.specs.declared.Extent.{Extent}
use Rattle.layout.specs.declared.Extent.TheVariants.{Full}
use Rattle.meaning.specs.Every.{Every}
use Rattle.meaning.proofs.EveryLaws.{every_map}
use Rattle.theorems.specs.Storable.{Sourced}
use Rattle.meaning.proofs.RowWords.{length_row_words}
use Rattle.theorems.proofs.WriterState.{caption_there, writer_comes}
use Rattle.theorems.proofs.SnapshotFit.{snapshot_fits}
use Rattle.theorems.proofs.Seen.{sourced_front}
use Rattle.theorems.proofs.Recovering.{Accepted, accepted}
use Rattle.theorems.proofs.AtTheCut.{Standing, standing}
use Rattle.theorems.specs.Cut.{full_snapshot}
use Rattle.theorems.proofs.Halves.{seen_fronts}

-- a row that lies in sources of this size keeps to its widths
pub row_packs : (c : Config) (snapshot log : List ℕ) → length snapshot ≤ max_snapshot_bytes → length log ≤ max_log_bytes → (r : Row) → Sourced c snapshot log r → RowFits r
row_packs c snapshot log ls ll r p =
    let n = caption_there c snapshot log r p in
    let k : r.caption_length ≤ max_metadata = let h = p.fit.caption_length_lem in omega arith in
    let i : r.at ≤ max_log_bytes = let h = p.inside in at_most r.from_log r.at h in
    record { caption_fits = omega arith; at_fits = omega arith }
  where
    at_most : (b : Bool) (at : ℕ) → at + caption_offset c.dimensions + r.caption_length ≤ length (cond b log snapshot) → at ≤ max_log_bytes
    at_most true at h = omega arith
    at_most false at h = omega arith

-- so does every row that recovery gives
pub recovered_packs : (lent : ℕ) (snapshot log : List ℕ) (r : Recovered) → Bytes snapshot → Bytes log → recover lent snapshot log ≡ recovered r → Every RowFits (rows_of r)
recovered_packs lent snapshot log r bs bl given =
    let a = accepted lent snapshot log r given in
    let c = a.read.config in
    let f = snapshot_fits lent snapshot a.read bs a.reads in
    every_map (Sourced c snapshot log) RowFits (row_packs c snapshot log f.short a.short) (rows_of r) (standing lent snapshot log r bs bl a).sourced

-- a table that was lent is as long after as before
length_filled : (n : ℕ) (words : List ℕ) → length words ≤ n → length (filled n words) ≡ n
length_filled n words h = length-append words (replicate (n - length words) 0) ∙ omega (arith, length-replicate {A = ℕ} (n - length words) 0)

module _ (words active : List ℕ) (snapshot log more : List ℕ) (r : Recovered) (bs : Bytes snapshot) (bl : Bytes log) (given : recover (rows_lent words active) snapshot log ≡ recovered r) where
  a : Accepted (rows_lent words active) snapshot log r
  a = accepted (rows_lent words active) snapshot log r given

  stands : Standing (rows_lent words active) a.read.config snapshot log r.state
  stands = standing (rows_lent words active) snapshot log r bs bl a

  abbrev table : List ℕ
  table = (recover_tables words active (recovered r)).rows

  -- the table that was lent has room for every row
  pub room_there : length (rows_of r) ≤ rows_lent_plain table
  room_there =
      let e = stands.enough in
      let w = length_row_words (rows_of r) in
      let n = length_filled (length words) (row_words (rows_of r)) (omega arith) in
      omega arith

  -- the writer comes to 34 and 32
  pub writer_takes : (extent : Extent) (room : ℕ)
      → write extent r.config r.state.sequence table (record_count r) snapshot (log ++ more) room
      ≡ file_of_rows r.config r.state.sequence snapshot (log ++ more) room (written extent (rows_of r))
  writer_takes extent room =
      let S = a.read in
      let f = snapshot_fits (rows_lent words active) snapshot S bs a.reads in
      let sourced : Every (Sourced S.config snapshot (log ++ more)) (rows_of r)
      = every_map (Sourced S.config snapshot log) (Sourced S.config snapshot (log ++ more)) (sourced_front S.config snapshot log more) (rows_of r) stands.sourced in
      let packs = recovered_packs (rows_lent words active) snapshot log r bs bl given in
      subst (λ (c : Config). write extent c r.state.sequence table (record_count r) snapshot (log ++ more) room
      ≡ file_of_rows c r.state.sequence snapshot (log ++ more) room (written extent (rows_of r)))
      (sym a.same_config)
      (writer_comes S.config snapshot (log ++ more) extent r.state.sequence (length words) room (rows_of r) f.valid sourced packs room_there)

  -- and the full file is demand 3's
  pub writer_writes : (room : ℕ)
      → write Full r.config r.state.sequence table (record_count r) snapshot (log ++ more) room
      ≡ (refuse TooLarge (ltb max_snapshot_bytes (file_length r.config.dimensions (rows_of r)))
      >>= λ _. refuse OutputTooShort (ltb room (file_length r.config.dimensions (rows_of r)))
      >>= λ _. Ok (full_snapshot snapshot log r))
  unfolding file_of_rows
  writer_writes room =
      let e : map (seen r.config.dimensions snapshot (log ++ more)) (rows_of r) ≡ records_of snapshot log r =
      subst (λ (c : Config). map (seen c.dimensions snapshot (log ++ more)) (rows_of r) ≡ map (seen c.dimensions snapshot log) (rows_of r)) (sym a.same_config)
      (seen_fronts a.read.config snapshot log more (rows_of r) stands.sourced) in
      writer_takes Full room
      ∙ ap (λ (rs : List Record). refuse TooLarge (ltb max_snapshot_bytes (file_length r.config.dimensions (rows_of r)))
      >>= λ _. refuse OutputTooShort (ltb room (file_length r.config.dimensions (rows_of r)))
      >>= λ _. Ok (file_of r.config r.state.sequence rs)) e
