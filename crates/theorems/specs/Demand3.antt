-- Demand 3 in its own words: take a snapshot we accept and a log, cut the log before its first frame or after any frame that recovery
-- reads without refusal, and write the full snapshot of the state there, if it fits.
use Rattle.std.specs.Prelude.{ℕ, ◌≤◌, ◌≡◌, List, [], ◌∷◌, ◌++◌, length, take, drop, Ok}
use Rattle.fields.specs.Fields.{Bytes}
use Rattle.config.specs.Limits.{max_snapshot_bytes}
use Rattle.rows.specs.declared.Row.{Row}
use Rattle.meaning.specs.Replay.{Frame}
use Rattle.meaning.specs.Snapshot.{Snapshot, read_snapshot}
use Rattle.meaning.specs.Log.{frames_of}
use Rattle.meaning.specs.Recovery.{Recovered, recovered, recover}
use Rattle.theorems.specs.FrameLists.{after_frame}
use Rattle.theorems.specs.Cut.{Cut, place, there, new_snapshot, CutTo}
use Rattle.theorems.specs.Compared.{compared, brief}

pub record Demand3 : Type 0 where
  -- recovering it beside the whole log gives the same records, settings, sequence, tail and replayed plus skipped as the old snapshot
  -- did, or the same refusal at the same byte
  pub beside_the_whole_log : (lent : ℕ) (snapshot log : List ℕ) (cut : Cut lent snapshot log)
      → Bytes snapshot → Bytes log → length (new_snapshot cut) ≤ max_snapshot_bytes
      → compared (new_snapshot cut) log (recover lent (new_snapshot cut) log) ≡ compared snapshot log (recover lent snapshot log)
  -- if the old pair was accepted, the log without the cut-off front also gives those records, settings, sequence and tail
  pub without_the_front : (lent : ℕ) (snapshot log : List ℕ) (cut : Cut lent snapshot log)
      → Bytes snapshot → Bytes log → length (new_snapshot cut) ≤ max_snapshot_bytes
      → (old : Recovered) → recover lent snapshot log ≡ recovered old
      → brief (new_snapshot cut) (drop (place cut) log) (recover lent (new_snapshot cut) (drop (place cut) log)) ≡ brief snapshot log (recovered old)
  -- the state at a cut is what recovery of the front alone gives
  pub front_recovers : (lent : ℕ) (snapshot log : List ℕ) (cut : Cut lent snapshot log)
      → recover lent snapshot (take (place cut) log) ≡ recovered (there cut)
  -- it lies behind the last frame of the front, where the next frame begins
  pub behind_the_last : (lent : ℕ) (snapshot log : List ℕ) (cut : Cut lent snapshot log) (fs : List (Frame Row)) (f : Frame Row)
      → cut.front ≡ fs ++ (f ∷ []) → place cut ≡ after_frame log f
  pub before_the_next : (lent : ℕ) (snapshot log : List ℕ) (cut : Cut lent snapshot log) (g : Frame Row) (gs : List (Frame Row))
      → cut.behind ≡ g ∷ gs → g.start ≡ place cut
  -- every accepted recovery is such a cut: of the log behind its last frame, of any log that goes on behind it, and of every front of
  -- its frames
  pub cut_of_accepted : (lent : ℕ) (snapshot log : List ℕ) (r : Recovered) → recover lent snapshot log ≡ recovered r → CutTo lent snapshot log r
  pub cut_of_accepted_front : (lent : ℕ) (snapshot front rest : List ℕ) (r : Recovered) → recover lent snapshot front ≡ recovered r
      → CutTo lent snapshot (front ++ rest) r
  pub cut_of_accepted_frames : (lent : ℕ) (snapshot log : List ℕ) (r : Recovered) → recover lent snapshot log ≡ recovered r
      → (S : Snapshot) → read_snapshot lent snapshot ≡ Ok S → (fs gs : List (Frame Row)) → (frames_of S.config log).frames ≡ fs ++ gs
      → (cut : Cut lent snapshot log) × (cut.front ≡ fs)
