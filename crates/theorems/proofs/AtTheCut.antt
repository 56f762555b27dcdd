-- The state at a cut of the log: recovery of the front, all of which was read. Its records can be written and are read back.
use Prim.Native.Nat.{ℕ, ◌≤◌, ◌<◌, ◌^◌}
use native.Mathlib.Omega.{arith}
use mathlib.Core.Path.{◌≡◌, refl, subst, sym}
use mathlib.Core.List.{List, [], ◌∷◌, map}
use lib.ListN.{length, length-map}
use Rattle.fields.specs.Fields.{Bytes}
use Rattle.config.specs.Limits.{max_records, max_snapshot_bytes}
use Rattle.config.specs.declared.Config.{Config}
use Rattle.meaning.specs.Replay.{Frame, State, begins}
use Rattle.meaning.specs.Records.{row_kind, seen}
use Rattle.rows.specs.declared.Row.{Row}
use Rattle.meaning.specs.Log.{frames_of}
use Rattle.meaning.specs.File.{file_of}
use Rattle.meaning.specs.Recovery.{Recovered, bounds_for, recovered, recover, records_of}
use Rattle.meaning.specs.Every.{Every}
use Rattle.meaning.proofs.LiveOnceLaws.{single_of_live_twice, single_seen}
use Rattle.theorems.proofs.CutFrames.{Rising}
use Rattle.theorems.proofs.Counted.{consecutive_rising}
use Rattle.meaning.proofs.Marking.{Deletes}
use Rattle.theorems.proofs.Kept.{replay_all, replay_single, replay_records, replay_rows}
use Rattle.theorems.specs.Storable.{Sourced, Storable}
use Rattle.theorems.proofs.SnapshotFit.{snapshot_fits, seen_fit}
use Rattle.theorems.specs.FrameLists.{Numbered}
use Rattle.theorems.proofs.LogFit.{Logged, in_frames, frames_logged}
use Rattle.theorems.proofs.Seen.{delete_sourced}
use Rattle.theorems.proofs.Recovering.{sequence_of, sequences_fit, Accepted, replays_frames, frames_led, accepted}
use Rattle.meaning.specs.LiveOnce.{LiveOnce}
use Rattle.theorems.specs.Cut.{full_snapshot}

pub row_deletes : (d : ℕ) → Deletes (row_kind d)
row_deletes d = record { gone = λ r. refl; ids = λ r. refl; sizes = λ r. omega arith }

pub numbered_rising : (fs : List (Frame Row)) → Numbered fs → Rising fs
numbered_rising [] h = tt
numbered_rising (f ∷ fs) h = consecutive_rising f.sequence fs h.1

-- what is known of the rows of an accepted recovery, and of its sequence
pub record Standing (lent : ℕ) (c : Config) (snapshot log : List ℕ) (s : State Row) : Type 0 where
  pub sourced : Every (Sourced c snapshot log) s.records
  pub once : LiveOnce (row_kind c.dimensions) s.records
  pub few : length s.records ≤ max_records
  pub enough : length s.records ≤ lent
  pub sequence_fits : s.sequence < 256 ^ 8

module _ (lent : ℕ) (snapshot log : List ℕ) (r : Recovered) (bs : Bytes snapshot) (bl : Bytes log) (a : Accepted lent snapshot log r) where
  pub standing : Standing lent a.read.config snapshot log r.state
  standing =
      let S = a.read in
      let c = S.config in
      let K = row_kind c.dimensions in
      let L = bounds_for lent in
      let fs = (frames_of c log).frames in
      let h = replays_frames lent snapshot log r a in
      let f = snapshot_fits lent snapshot S bs a.reads in
      let puts = in_frames (Logged c snapshot log) (Sourced c snapshot log) (λ x l. l.sourced) fs (frames_logged c snapshot log bl) in
      record {
        sourced = replay_all K L S.sequence S.rows fs r.keep r.state r.keep h (Sourced c snapshot log) (delete_sourced c snapshot log) puts (f.sourced log);
        once = replay_single K L S.sequence S.rows fs r.keep r.state r.keep h (row_deletes c.dimensions) (single_of_live_twice c.dimensions S.rows f.once);
        few = replay_records K L S.sequence S.rows fs r.keep r.state r.keep h f.few;
        enough = replay_rows K L S.sequence S.rows fs r.keep r.state r.keep h f.enough;
        sequence_fits = sequence_of K L S.sequence (λ n. n < 256 ^ 8) fs (begins S.sequence S.rows) r.state (frames_led lent snapshot log r a) (sequences_fit c log bl) f.sequence_fits;
      }

  -- the records may be written, where their file is short enough
  pub standing_storable : length (file_of a.read.config r.state.sequence (map (seen a.read.config.dimensions snapshot log) r.state.records)) ≤ max_snapshot_bytes
      → Storable a.read.config r.state.sequence (map (seen a.read.config.dimensions snapshot log) r.state.records)
  standing_storable short =
      let S = a.read in
      let c = S.config in
      let f = snapshot_fits lent snapshot S bs a.reads in
      let g = standing in
      let n = length-map r.state.records (seen c.dimensions snapshot log) in
      let few = g.few in
      record {
        valid = f.valid;
        seed_fits = f.seed_fits;
        sequence_fits = g.sequence_fits;
        few = omega arith;
        short = short;
        fit = seen_fit c snapshot log r.state.records g.sourced;
        single = single_seen c.dimensions c.dimensions snapshot log r.state.records g.once;
      }

pub recovered_storable : (lent : ℕ) (snapshot log : List ℕ) (r : Recovered) → Bytes snapshot → Bytes log → recover lent snapshot log ≡ recovered r
    → length (full_snapshot snapshot log r) ≤ max_snapshot_bytes → Storable r.config r.state.sequence (records_of snapshot log r)
recovered_storable lent snapshot log r bs bl e =
    let a = accepted lent snapshot log r e in
    subst (λ (c : Config). length (file_of c r.state.sequence (map (seen c.dimensions snapshot log) r.state.records)) ≤ max_snapshot_bytes
    → Storable c r.state.sequence (map (seen c.dimensions snapshot log) r.state.records))
    (sym a.same_config) (standing_storable lent snapshot log r bs bl a)
