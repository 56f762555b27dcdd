-- A frame appended to a log whose bytes are all read: its frames, then this one, and no tail; and recovery of that log.
use Rattle.std.specs.Prelude.{Ok}
use Prim.Native.Nat.{ℕ, ◌+◌, ◌≤◌, ◌<◌, ◌^◌}
use mathlib.Core.Path.{◌≡◌, sym, ap, subst, ◌∙◌}
use mathlib.Core.List.{List, [], ◌∷◌, ◌++◌, append-nil, map}
use native.Mathlib.Omega.{arith}
use lib.ListN.{length, drop, length-append}
use lib.Seq.{drop-append_seam}
use Rattle.config.specs.Limits.{max_log_bytes}
use Rattle.config.specs.declared.Config.{Config}
use Rattle.meaning.specs.Replay.{Kind, Operation, Frame, tail, reached, onward, step, run, replay, begins}
use Rattle.meaning.specs.Records.{Record, row_kind, seen}
use Rattle.rows.specs.declared.Row.{Row}
use Rattle.meaning.specs.Log.{join, frames_of}
use Rattle.meaning.specs.Encoder.{encode}
use Rattle.layout.specs.declared.Shape.{Shape}
use Rattle.meaning.specs.Recovery.{Recovered, bounds_for, ended, recover}
use Rattle.meaning.specs.Every.{Every}
use Rattle.theorems.proofs.Ran.{ran_on}
use Rattle.theorems.specs.FrameRows.{carry_operation, frame_of, frame_in, Follows}
use Rattle.theorems.proofs.LogCut.{prepend, log_joined}
use Rattle.theorems.specs.FrameLists.{last_sequence}
use Rattle.theorems.proofs.Recovering.{Accepted, frames_to_tail, frames_led, recover_read}
use Rattle.theorems.proofs.FrameBack.{Framed, frame_found, frame_seen}
use Rattle.theorems.specs.Requested.{requested}
use Rattle.theorems.proofs.EncodeBack.{encode_read}
use Rattle.meaning.proofs.FrameRead.{frame_too_little}
use Rattle.meaning.proofs.FramesAt.{frames_at_found, frames_at_tail}

-- ---- any frame that a reader accepts
module _ (shape : Shape) (c : Config) (sequence : ℕ) (os : List (Operation Record)) (k : Framed c shape sequence os) (log : List ℕ) where
  at_the_end : drop (length log) (log ++ frame_of shape sequence os) ≡ frame_of shape sequence os ++ []
  at_the_end = drop-append_seam log (frame_of shape sequence os) ∙ sym (append-nil (frame_of shape sequence os))

  pub any_frame_appended : (fs : List (Frame Row)) → frames_of c log ≡ record { frames = fs; ended = tail (length log) } → Follows (last_sequence 0 fs) sequence
      → frames_of c (log ++ frame_of shape sequence os)
      ≡ record { frames = fs ++ (frame_in shape sequence (length log) os ∷ []); ended = tail (length (log ++ frame_of shape sequence os)) }
  any_frame_appended fs e follows =
      let bs = frame_of shape sequence os in
      let whole = log ++ bs in
      let m = length log in
      let f = frame_in shape sequence m os in
      let l = length-append log bs in
      let short : length whole < m + length bs + 8 = omega arith in
      let end : m + length bs ≡ length whole = omega arith in
      log_joined c log bs fs e
      ∙ ap (prepend fs)
      (frames_at_found c whole (last_sequence 0 fs) m f (m + length bs) (frame_found shape c sequence os k whole m [] at_the_end (last_sequence 0 fs) follows)
      ∙ ap (join f) (frames_at_tail c whole sequence (m + length bs) (frame_too_little c whole sequence (m + length bs) short)))
      ∙ ap (λ (x : ℕ). record { frames = fs ++ (f ∷ []); ended = tail x }) end

  pub appended_seen : (snapshot : List ℕ)
      → map (carry_operation (seen c.dimensions snapshot (log ++ frame_of shape sequence os))) (frame_in shape sequence (length log) os).operations ≡ os
  appended_seen snapshot = frame_seen shape c sequence os k (log ++ frame_of shape sequence os) (length log) [] at_the_end snapshot

-- ---- an encoded request
module _ (shape : Shape) (c : Config) (sequence : ℕ) (words coords captions : List ℕ) (room : ℕ) (bs : List ℕ) (w : Every (λ x. x < 2 ^ 64) words) (q : sequence < 256 ^ 8) (e : encode shape c sequence words coords captions room ≡ Ok bs) (log : List ℕ) where
  abbrev os : List (Operation Record)
  os = requested c words coords captions

  pub encode_appended : (fs : List (Frame Row)) → frames_of c log ≡ record { frames = fs; ended = tail (length log) } → Follows (last_sequence 0 fs) sequence
      → frames_of c (log ++ bs)
      ≡ record { frames = fs ++ (frame_in shape sequence (length log) (requested c words coords captions) ∷ []); ended = tail (length (log ++ bs)) }
  encode_appended fs h follows =
      let x = encode_read shape c sequence words coords captions room bs w q e in
      subst (λ (l : List ℕ). frames_of c (log ++ l) ≡ record { frames = fs ++ (frame_in shape sequence (length log) os ∷ []); ended = tail (length (log ++ l)) })
      (sym x.bytes_are) (any_frame_appended shape c sequence os x.framed log fs h follows)

  pub encode_seen : (snapshot : List ℕ)
      → map (carry_operation (seen c.dimensions snapshot (log ++ bs))) (frame_in shape sequence (length log) (requested c words coords captions)).operations
      ≡ requested c words coords captions
  encode_seen snapshot =
      let x = encode_read shape c sequence words coords captions room bs w q e in
      subst (λ (l : List ℕ). map (carry_operation (seen c.dimensions snapshot (log ++ l))) (frame_in shape sequence (length log) os).operations ≡ os)
      (sym x.bytes_are) (appended_seen shape c sequence os x.framed log snapshot)

-- ---- recovery with the frame appended
module _ (lent : ℕ) (snapshot log : List ℕ) (r : Recovered) (a : Accepted lent snapshot log r) where
  abbrev settings_read : Config
  settings_read = a.read.config

  abbrev kind : Kind Row
  kind = row_kind settings_read.dimensions

  read_whole : r.keep ≡ length log
      → frames_of settings_read log ≡ record { frames = (frames_of settings_read log).frames; ended = tail (length log) }
  read_whole whole = frames_to_tail lent snapshot log r a ∙ ap (λ (k : ℕ). record { frames = (frames_of settings_read log).frames; ended = tail k }) whole

  -- where recovery read every byte of the log, it goes on from the state that it gave with the one frame
  pub recover_appended : (shape : Shape) (sequence : ℕ) (os : List (Operation Record)) → Framed a.read.config shape sequence os
      → r.keep ≡ length log → Follows (last_sequence 0 (frames_of a.read.config log).frames) sequence
      → length (log ++ frame_of shape sequence os) ≤ max_log_bytes
      → recover lent snapshot (log ++ frame_of shape sequence os)
      ≡ ended a.read
      (onward (length log) (step (row_kind a.read.config.dimensions) (bounds_for lent) a.read.sequence (frame_in shape sequence (length log) os) r.state)
      (λ t. reached t (length (log ++ frame_of shape sequence os))))
  unfolding replay run
  recover_appended shape sequence os k whole follows short =
      let S = a.read in
      let L = bounds_for lent in
      let longer = log ++ frame_of shape sequence os in
      let fs = (frames_of settings_read log).frames in
      let f = frame_in shape sequence (length log) os in
      let e = read_whole whole in
      let here = any_frame_appended shape settings_read sequence os k log fs e follows in
      let start = begins S.sequence S.rows in
      recover_read lent snapshot longer S a.reads short
      ∙ ap (ended S) (ap (replay kind L S.sequence S.rows) here ∙ ran_on kind L S.sequence fs (f ∷ []) (tail (length longer)) start r.state (frames_led lent snapshot log r a))
