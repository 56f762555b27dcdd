-- A refusal in the log names its frame's first byte: the log is too long (20, byte 0); or behind the frames that were read stands, at
-- that byte, a frame that is refused as it is decoded or as it is replayed.
use Rattle.std.specs.Prelude.{ℕ, ◌≤◌, ◌<◌, ◌≡◌, List, length, Err}
use Rattle.config.specs.Limits.{max_log_bytes}
use Rattle.refusal.specs.declared.Refusal.{Refusal}
use Rattle.refusal.specs.declared.Refusal.TheVariants.{LogTooLong}
use Rattle.rows.specs.declared.Row.{Row}
use Rattle.meaning.specs.Replay.{Frame, step}
use Rattle.meaning.specs.Records.{row_kind}
use Rattle.meaning.specs.Log.{ReadFrame, wrong, found, frame_at}
use Rattle.meaning.specs.Recovery.{bounds_for, refused_log, recover}
use Rattle.theorems.specs.FrameLists.{last_sequence}
use Rattle.theorems.specs.Cut.{Cut, place}

-- what stands at a cut
abbrev pub standing : {lent : ℕ} {snapshot log : List ℕ} → Cut lent snapshot log → ReadFrame
standing {lent} {snapshot} {log} cut = frame_at cut.accepted.config log (last_sequence 0 cut.front) (place cut)

-- it is refused as it is decoded, or it is a frame that is refused over the state there
pub data FrameRefused (lent : ℕ) (snapshot log : List ℕ) (cut : Cut lent snapshot log) (why : Refusal) : Type 0 where
  unread : standing cut ≡ wrong why → FrameRefused lent snapshot log cut why
  unplayed : (f : Frame Row) (next : ℕ) → standing cut ≡ found f next
      → step (row_kind cut.accepted.config.dimensions) (bounds_for lent) cut.accepted.sequence f cut.state ≡ Err why
      → FrameRefused lent snapshot log cut why

-- by this refusal, at this byte
pub data RefusedAt (lent : ℕ) (snapshot log : List ℕ) (why : Refusal) (at : ℕ) : Type 0 where
  too_long : max_log_bytes < length log → why ≡ LogTooLong → at ≡ 0 → RefusedAt lent snapshot log why at
  in_frame : length log ≤ max_log_bytes → (cut : Cut lent snapshot log) → place cut ≡ at → FrameRefused lent snapshot log cut why
      → RefusedAt lent snapshot log why at

-- recovery refuses a log so exactly if it is so
pub record RefusedLogs : Type 0 where
  pub refused_at : (lent : ℕ) (snapshot log : List ℕ) (why : Refusal) (at : ℕ) → recover lent snapshot log ≡ refused_log why at → RefusedAt lent snapshot log why at
  pub refused_if : (lent : ℕ) (snapshot log : List ℕ) (why : Refusal) (at : ℕ) → RefusedAt lent snapshot log why at → recover lent snapshot log ≡ refused_log why at
