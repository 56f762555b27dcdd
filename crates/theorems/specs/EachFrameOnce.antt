-- Nothing is taken twice and nothing left out: of an accepted recovery every frame of the log is counted exactly once, skipped or
-- replayed; the skipped ones are a front of the log and the replayed ones the rest; the records are the fold of the replayed frames'
-- operations over the snapshot's, and with them every record, its node and its source.
use Rattle.std.specs.Prelude.{ℕ, ◌+◌, ◌≤◌, false, cond, ◌≡◌, List, [], ◌∷◌, ◌++◌, map, length, leb, Ok}
use Rattle.config.specs.Limits.{max_log_bytes}
use Rattle.refusal.specs.Refusal.{Answer, ◌>>=◌}
use Rattle.rows.specs.declared.Row.{Row}
use Rattle.meaning.specs.Replay.{Kind, Operation, put, remove, Frame, tail, Bounds, apply_all}
use Rattle.meaning.specs.Records.{row_kind}
use Rattle.meaning.specs.Snapshot.{Snapshot, read_snapshot}
use Rattle.meaning.specs.Log.{frames_of}
use Rattle.meaning.specs.Recovery.{Recovered, recovered, bounds_for, recover, rows_of}
use Rattle.theorems.specs.FrameLists.{Consecutive, Numbered, last_sequence, byte_after, BackToBack}

-- the frames at or below a sequence, and those above it
unfoldable pub up_to : {A : Type 0} → ℕ → List (Frame A) → List (Frame A)
up_to q [] = []
up_to q (f ∷ fs) = cond (leb f.sequence q) (f ∷ up_to q fs) (up_to q fs)

unfoldable pub above : {A : Type 0} → ℕ → List (Frame A) → List (Frame A)
above q [] = []
above q (f ∷ fs) = cond (leb f.sequence q) (above q fs) (f ∷ above q fs)

-- the operations of each frame, frame after frame
unfoldable pub apply_frames : {A : Type 0} → Kind A → Bounds → List (Frame A) → List A → Answer (List A)
apply_frames K L [] rs = Ok rs
apply_frames K L (f ∷ fs) rs = apply_all K L f.shape f.operations rs >>= apply_frames K L fs

-- a node's origin: its ID, its source and its place there; state and caption left out
abbrev pub origin : Row → Row
origin r = record { id = r.id; deleted = false; from_log = r.from_log; caption_length = 0; at = r.at }

unfoldable pub puts_of : List (Operation Row) → List Row
puts_of [] = []
puts_of (put r ∷ os) = r ∷ puts_of os
puts_of (remove id ∷ os) = puts_of os

unfoldable pub puts_in : List (Frame Row) → List Row
puts_in [] = []
puts_in (f ∷ fs) = puts_of f.operations ++ puts_in fs

pub record TakenOnce (lent : ℕ) (snapshot log : List ℕ) (r : Recovered) : Type 0 where
  pub read : Snapshot
  pub reads : read_snapshot lent snapshot ≡ Ok read
  -- the log's frames, all of them good, and where they end
  pub frames : List (Frame Row)
  pub frames_are : frames_of read.config log ≡ record { frames = frames; ended = tail r.keep }
  -- they stand back to back from the log's first byte to the tail, numbered one after the other
  pub back_to_back : BackToBack log 0 frames
  pub keep : r.keep ≡ byte_after log 0 frames
  pub numbered : Numbered frames
  -- each is skipped or replayed, and by its sequence alone
  pub together : r.state.replayed + r.state.skipped ≡ length frames
  pub skipped : r.state.skipped ≡ length (up_to read.sequence frames)
  pub replayed : r.state.replayed ≡ length (above read.sequence frames)
  pub in_order : frames ≡ up_to read.sequence frames ++ above read.sequence frames
  -- the replayed ones follow the snapshot with no gap
  pub consecutive : Consecutive read.sequence (above read.sequence frames)
  pub sequence : r.state.sequence ≡ read.sequence + r.state.replayed
  -- the rows are the fold of the replayed frames over the snapshot's
  pub rows : apply_frames (row_kind read.config.dimensions) (bounds_for lent) (above read.sequence frames) read.rows ≡ Ok (rows_of r)
  -- each node is a record of the snapshot or one put of one replayed frame, in their order, and there is no other
  pub origins : map origin (rows_of r) ≡ map origin read.rows ++ map origin (puts_in (above read.sequence frames))

-- the recovery of a snapshot whose frames above its sequence leave these rows, and whose tail begins at k
abbrev pub replayed_to : Snapshot → List (Frame Row) → ℕ → List Row → Recovered
replayed_to S frames k rows =
    record {
      config = S.config;
      crc = S.crc;
      state = record {
        records = rows;
        sequence = last_sequence S.sequence (above S.sequence frames);
        replayed = length (above S.sequence frames);
        skipped = length (up_to S.sequence frames);
      };
      keep = k;
    }

pub record EachFrameOnce : Type 0 where
  pub taken_once : (lent : ℕ) (snapshot log : List ℕ) (r : Recovered) → recover lent snapshot log ≡ recovered r → TakenOnce lent snapshot log r
  -- the other way: good frames up to a tail that follow the snapshot with no gap, and whose operations go through, are accepted
  pub taken_if : (lent : ℕ) (snapshot log : List ℕ) (S : Snapshot) (k : ℕ) (rows : List Row) → length log ≤ max_log_bytes → read_snapshot lent snapshot ≡ Ok S
      → (frames_of S.config log).ended ≡ tail k
      → Consecutive S.sequence (above S.sequence (frames_of S.config log).frames)
      → apply_frames (row_kind S.config.dimensions) (bounds_for lent) (above S.sequence (frames_of S.config log).frames) S.rows ≡ Ok rows
      → recover lent snapshot log ≡ recovered (replayed_to S (frames_of S.config log).frames k rows)
