-- What `specs/ReadAndWritten.antt` says of the reader and the writer together.
use Rattle.std.specs.Prelude.{Ok, Err}
use Prim.Native.Nat.{ℕ, ◌≤◌, suc, ◌+◌}
use native.Mathlib.Omega.{arith}
use mathlib.Core.Path.{◌≡◌, refl, sym, ap, ◌∙◌, subst, transport}
use mathlib.Core.Bool.{cond}
use mathlib.Core.List.{List, [], ◌∷◌, ◌++◌, map}
use lib.ListN.{length, length-map, take}
use Rattle.refusal.specs.Refusal.{Answer}
use Rattle.crc32.specs.Crc.{crc_of}
use Rattle.fields.specs.Fields.{Bytes}
use Rattle.fields.proofs.Numbers.{Bytes-take}
use Rattle.config.specs.Limits.{max_snapshot_bytes}
use Rattle.config.specs.declared.Config.{Config}
use Rattle.layout.specs.Layout.{header_length}
use Rattle.layout.specs.declared.Version.TheVariants.{Two}
use Rattle.rows.specs.Lent.{rows_lent}
use Rattle.rows.specs.declared.Row.{Row}
use Rattle.meaning.specs.Every.{Every}
use Rattle.meaning.specs.Replay.{begins, size}
use Rattle.meaning.specs.Records.{row_kind, record_kind, seen}
use Rattle.meaning.specs.Snapshot.{Snapshot, read_snapshot}
use Rattle.meaning.specs.Log.{frames_of}
use Rattle.meaning.specs.File.{record_bytes, body_bytes, file_of}
use Rattle.meaning.specs.Recovery.{Recovered, recovered, recover, live_count, rows_of, records_of, record_count, total_size}
use Rattle.meaning.specs.Calls.{read_call, read_tables}
use Rattle.snapshot.specs.declared.SnapshotInfo.{SnapshotInfo}
use Rattle.snapshot.specs.Told.{read_told}
use Rattle.theorems.specs.Storable.{Sourced}
use Rattle.theorems.specs.FileRows.{file_rows}
use Rattle.theorems.specs.Compared.{compared}
use Rattle.theorems.specs.Cut.{full_snapshot, Cut, place, there}
use Rattle.theorems.proofs.RecordBack.{length_rows}
use Rattle.theorems.proofs.FileBack.{file_back, file_seen, file_sourced}
use Rattle.theorems.proofs.SnapshotFit.{seen_fit, size_seen}
use Rattle.theorems.proofs.Recovering.{Accepted, accepted}
use Rattle.theorems.proofs.AtTheCut.{standing, standing_storable}
use Rattle.theorems.proofs.InWords.{front_recovers}
use Rattle.promises.specs.Store.{ReadSnapshotMeets, WriteMeets}
use Rattle.promises.specs.WrittenFile.{WritesState}
use Rattle.promises.specs.ReadAndWritten.{told_of_state, ReadAndWritten}
use Rattle.promises.proofs.FilesWritten.{file_at_the_cut}

-- ---- read, then written
-- a snapshot that is accepted, and what is told of it
pub record Accepts (given : Answer Snapshot) (info : SnapshotInfo) : Type 0 where
  pub snapshot : Snapshot
  pub is : given ≡ Ok snapshot
  settings : info.config ≡ snapshot.config
  sequence : info.sequence ≡ snapshot.sequence
  records : info.records ≡ length snapshot.rows

abbrev info_or : SnapshotInfo → Answer SnapshotInfo → SnapshotInfo
info_or other (Ok info) = info
info_or other (Err why) = other

abbrev IsAccepted : Answer SnapshotInfo → Type 0
IsAccepted (Ok info) = Unit
IsAccepted (Err why) = ⊥

pub accepts : (given : Answer Snapshot) (info : SnapshotInfo) → Ok info ≡ read_told given → Accepts given info
accepts (Ok S) info e =
    let same = ap (info_or info) e in
    record { snapshot = S; is = refl; settings = ap (λ i. i.config) same; sequence = ap (λ i. i.sequence) same; records = ap (λ i. i.records) same }
accepts (Err why) info e = absurd (subst IsAccepted e tt)

-- the cut before the first frame
abbrev before_the_first : (lent : ℕ) (snapshot log : List ℕ) (S : Snapshot) → read_snapshot lent snapshot ≡ Ok S → Cut lent snapshot log
before_the_first lent snapshot log S e =
    record {
      accepted = S;
      accepts = e;
      front = [];
      behind = (frames_of S.config log).frames;
      end = (frames_of S.config log).ended;
      frames = refl;
      state = begins S.sequence S.rows;
      reads = refl;
      short = omega arith;
    }

pub read_then_written : (words active snapshot : List ℕ) → Bytes snapshot
    → (info : SnapshotInfo) (rows' active' : List ℕ) → ReadSnapshotMeets snapshot words active (Ok info) rows' active'
    → (lent_log : List ℕ) (n : ℕ) (out after : List ℕ) → WriteMeets info.config info.sequence rows' info.records snapshot lent_log out (Ok n) after
    → (log : List ℕ) → Bytes log
    → compared (take n after) log (recover (rows_lent words active) (take n after) log) ≡ compared snapshot log (recover (rows_lent words active) snapshot log)
read_then_written words active snapshot bs info rows' active' read lent_log n out after wrote log bl =
    let a = accepts (read_call words active snapshot) info read.result_is in
    (file_at_the_cut words active snapshot log (before_the_first (rows_lent words active) snapshot log a.snapshot a.is) bs bl lent_log n out after
    (transport (λ i. WriteMeets (a.settings i) (a.sequence i) ((read.rows_are ∙ ap (λ x. (read_tables words active x).rows) a.is) i) (a.records i) snapshot lent_log out (Ok n) after) wrote)
    ).beside_the_whole_log

-- ---- written, then read
-- its rows are as many, as many of them live, and as large
same_live : (d : ℕ) (snapshot log : List ℕ) (at : ℕ) (rows : List Row) → live_count (file_rows at (map (seen d snapshot log) rows)) ≡ live_count rows
unfolding live_count file_rows
same_live d snapshot log at [] = refl
same_live d snapshot log at (r ∷ rows) =
    ap (λ (k : ℕ). cond r.deleted k (suc k)) (same_live d snapshot log (at + length (record_bytes (seen d snapshot log r))) rows)

module _ (lent : ℕ) (snapshot log : List ℕ) (s : Recovered) (bs : Bytes snapshot) (bl : Bytes log) (given : recover lent snapshot log ≡ recovered s)
    (short : length (full_snapshot snapshot log s) ≤ max_snapshot_bytes) where
  a : Accepted lent snapshot log s
  a = accepted lent snapshot log s given

  sourced : Every (Sourced a.read.config snapshot log) (rows_of s)
  sourced = (standing lent snapshot log s bs bl a).sourced

  -- what is read of the file
  abbrev Read : Config → Snapshot
  Read c =
      let rs = map (seen c.dimensions snapshot log) (rows_of s) in
      record { config = c; crc = crc_of (body_bytes c s.state.sequence rs); sequence = s.state.sequence; rows = file_rows (header_length Two) rs }

  full_read_back : (lent' : ℕ) → record_count s ≤ lent' → read_snapshot lent' (full_snapshot snapshot log s) ≡ Ok (Read s.config)
  full_read_back lent' enough =
      let n = length-map (rows_of s) (seen a.read.config.dimensions snapshot log) in
      subst
      (λ (c : Config). length (file_of c s.state.sequence (map (seen c.dimensions snapshot log) (rows_of s))) ≤ max_snapshot_bytes
      → read_snapshot lent' (file_of c s.state.sequence (map (seen c.dimensions snapshot log) (rows_of s))) ≡ Ok (Read c))
      (sym a.same_config) (λ k. file_back lent' a.read.config s.state.sequence _ (standing_storable lent snapshot log s bs bl a k) (omega arith)) short

  same_size : size (row_kind s.config.dimensions) (Read s.config).rows ≡ total_size s
  same_size =
      let c = a.read.config in
      let q = s.state.sequence in
      let rs = map (seen c.dimensions snapshot log) (rows_of s) in
      let fits = seen_fit c snapshot log (rows_of s) sourced in
      subst (λ (c : Config). size (row_kind c.dimensions) (Read c).rows ≡ size (row_kind c.dimensions) (rows_of s)) (sym a.same_config)
      (sym (size_seen c (file_of c q rs) [] (file_rows (header_length Two) rs) (file_sourced c q rs [] fits))
      ∙ ap (size (record_kind c.dimensions)) (file_seen c q rs [] fits)
      ∙ size_seen c snapshot log (rows_of s) sourced)

  -- what reading it tells
  told_of_full : (lent' : ℕ) → record_count s ≤ lent' → read_told (read_snapshot lent' (full_snapshot snapshot log s)) ≡ Ok (told_of_state snapshot log s)
  told_of_full lent' enough =
      let d = s.config.dimensions in
      let rs = records_of snapshot log s in
      let many : length (file_rows (header_length Two) rs) ≡ record_count s = length_rows (header_length Two) rs ∙ length-map (rows_of s) (seen d snapshot log) in
      let live = same_live d snapshot log (header_length Two) (rows_of s) in
      let sizes = same_size in
      ap read_told (full_read_back lent' enough)
      ∙ λ i.
      Ok
      (record {
        config = s.config;
        crc = crc_of (body_bytes s.config s.state.sequence rs);
        sequence = s.state.sequence;
        records = many i;
        active = live i;
        size = sizes i;
      })

pub written_then_read : (words active snapshot log : List ℕ) (cut : Cut (rows_lent words active) snapshot log) → Bytes snapshot → Bytes log
    → (more : List ℕ) (n : ℕ) (out after : List ℕ) → WritesState words active (there cut) snapshot (take (place cut) log ++ more) out (Ok n) after
    → (lent_rows lent_active : List ℕ) → record_count (there cut) ≤ rows_lent lent_rows lent_active
    → (r : Answer SnapshotInfo) (rows' active' : List ℕ) → ReadSnapshotMeets (take n after) lent_rows lent_active r rows' active'
    → r ≡ Ok (told_of_state snapshot (take (place cut) log) (there cut))
written_then_read words active snapshot log cut bs bl more n out after wrote lent_rows lent_active enough r rows' active' read =
    let file = file_at_the_cut words active snapshot log cut bs bl more n out after wrote in
    read.result_is
    ∙ ap (λ (file : List ℕ). read_told (read_call lent_rows lent_active file)) file.is_new_snapshot
    ∙ told_of_full (rows_lent words active) snapshot (take (place cut) log) (there cut) bs (Bytes-take (place cut) log bl) (front_recovers cut)
    file.new_snapshot_short (rows_lent lent_rows lent_active) enough

pub read_and_written : ReadAndWritten
read_and_written = record { read_then_written = read_then_written; written_then_read = written_then_read }
