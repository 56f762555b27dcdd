-- The playout host's delete frame: 29 bytes, what the encoder writes of one delete. Of a live ID and appended to a log that recovery
-- read to its last byte, the next recovery accepts with that ID deleted and all else the same.
use Rattle.std.specs.Prelude.{ℕ, suc, ◌+◌, ◌≤◌, ◌<◌, ◌^◌, ◌≡◌, ◌⊎◌, true, List, [], ◌∷◌, ◌++◌, length, Ok}
use Rattle.config.specs.Limits.{max_log_bytes}
use Rattle.config.specs.Settings.{validate}
use Rattle.config.specs.declared.Config.{Config}
use Rattle.fields.specs.Fields.{Bytes}
use Rattle.layout.specs.declared.Shape.TheVariants.{Single}
use Rattle.rows.specs.declared.Row.{Row}
use Rattle.meaning.specs.Replay.{remove, Frame, tail, active, mark}
use Rattle.meaning.specs.Records.{row_kind, record_kind}
use Rattle.meaning.specs.Snapshot.{Snapshot, read_snapshot}
use Rattle.meaning.specs.Log.{frames_of}
use Rattle.meaning.specs.Encoder.{encode, delete_frame}
use Rattle.meaning.specs.Recovery.{Recovered, recovered, recover, rows_of, records_of, tail_length}
use Rattle.theorems.specs.FrameLists.{last_sequence}
use Rattle.theorems.specs.Requested.{requested}
use Rattle.theorems.specs.FrameRows.{Follows}

-- a log is not older than a snapshot: it is empty, or its last frame is not below the snapshot's sequence
abbrev pub NotOlder : Snapshot → List ℕ → Type 0
NotOlder S log = (log ≡ []) ⊎ (S.sequence ≤ last_sequence 0 (frames_of S.config log).frames)

-- a recovered state with the live record of an ID marked deleted (its caption empty), by one frame of 29 bytes more
abbrev pub with_deleted : ℕ → Recovered → Recovered
with_deleted id r =
    record {
      config = r.config;
      crc = r.crc;
      state = record {
        records = mark (row_kind r.config.dimensions) id (rows_of r);
        sequence = r.state.sequence + 1;
        replayed = suc r.state.replayed;
        skipped = r.state.skipped;
      };
      keep = r.keep + 29;
    }

pub record DeleteAppended : Type 0 where
  pub length_delete : (sequence id : ℕ) → length (delete_frame sequence id) ≡ 29
  pub delete_bytes : (sequence id : ℕ) → Bytes (delete_frame sequence id)
  -- it is what the encoder writes of one delete
  pub delete_encodes : (c : Config) (sequence id : ℕ) (captions : List ℕ) (room : ℕ) → validate c ≡ Ok tt → 0 < sequence → 29 ≤ room
      → encode Single c sequence (id ∷ 0 ∷ []) [] captions room ≡ Ok (delete_frame sequence id)
  pub delete_requested : (c : Config) (id : ℕ) (coords captions : List ℕ) → requested c (id ∷ 0 ∷ []) coords captions ≡ remove id ∷ []
  pub delete_appended : (c : Config) (sequence id : ℕ) → 0 < sequence → sequence < 256 ^ 8 → id < 256 ^ 8
      → (log : List ℕ) (fs : List (Frame Row)) → frames_of c log ≡ record { frames = fs; ended = tail (length log) } → Follows (last_sequence 0 fs) sequence
      → frames_of c (log ++ delete_frame sequence id)
      ≡ record {
        frames = fs ++ (record { start = length log; sequence = sequence; shape = Single; operations = remove id ∷ [] } ∷ []);
        ended = tail (length (log ++ delete_frame sequence id));
      }
  -- the next recovery
  pub delete_recovered : (lent : ℕ) (snapshot log : List ℕ) (r : Recovered) → recover lent snapshot log ≡ recovered r
      → (S : Snapshot) → read_snapshot lent snapshot ≡ Ok S → NotOlder S log → tail_length log r ≡ 0
      → (sequence id : ℕ) → sequence ≡ r.state.sequence + 1 → sequence < 256 ^ 8 → id < 256 ^ 8
      → active (row_kind r.config.dimensions) id (rows_of r) ≡ true → length log + 29 ≤ max_log_bytes
      → recover lent snapshot (log ++ delete_frame sequence id) ≡ recovered (with_deleted id r)
  -- by value: behind any bytes more, the same records with the live one of that ID deleted
  pub deleted_by_value : (lent : ℕ) (snapshot log : List ℕ) (r : Recovered) → recover lent snapshot log ≡ recovered r → Bytes snapshot → Bytes log
      → (id : ℕ) (more : List ℕ) → records_of snapshot (log ++ more) (with_deleted id r) ≡ mark (record_kind r.config.dimensions) id (records_of snapshot log r)
  -- a log of which recovery replayed a frame is not older
  pub replayed_not_older : (lent : ℕ) (snapshot log : List ℕ) (r : Recovered) → recover lent snapshot log ≡ recovered r
      → (S : Snapshot) → read_snapshot lent snapshot ≡ Ok S → 0 < r.state.replayed → NotOlder S log
