-- Demand 3. Cut the log where recovery has read every byte of the front; write the full snapshot of the state there, if it fits.
-- Beside the whole log it recovers to the same as the old snapshot; beside the rest, where the old pair was accepted, to the same
-- records, settings, sequence and tail.
use Rattle.std.specs.Prelude.{Ok}
use Prim.Native.Nat.{ℕ, ◌+◌, ◌-◌, ◌≤◌}
use native.Mathlib.Omega.{arith}
use mathlib.Core.Path.{◌≡◌, refl, sym, ap, ap₂, ◌∙◌, subst}
use mathlib.Core.Bool.{true}
use mathlib.Core.List.{List, [], ◌∷◌, ◌++◌, map}
use lib.ListN.{length, length-map, length-append}
use Rattle.fields.specs.Fields.{Bytes}
use Rattle.fields.proofs.Numbers.{Bytes-left, Bytes-right}
use Rattle.config.specs.Limits.{max_snapshot_bytes, max_log_bytes}
use Rattle.config.specs.declared.Config.{Config}
use Rattle.meaning.specs.Replay.{Frame, End, tail, Frames, State, Outcome, reached, stopped, replay}
use Rattle.meaning.specs.Records.{Record, row_kind, seen}
use Rattle.rows.specs.declared.Row.{Row}
use Rattle.meaning.specs.Snapshot.{Snapshot, read_snapshot}
use Rattle.meaning.specs.Log.{frames_of, frames_at}
use Rattle.crc32.specs.Crc.{crc_of}
use Rattle.meaning.specs.File.{file_of, body_bytes}
use Rattle.meaning.specs.Recovery.{Recovered, recovered, bounds_for, ended, replay_log, recover}
use Rattle.meaning.specs.Every.{Every}
use Rattle.meaning.proofs.EveryLaws.{every_map}
use Rattle.theorems.proofs.Ran.{reached_inj, reached_at, stopped≢reached}
use Rattle.theorems.proofs.Moved.{later_row, later_frames}
use Rattle.theorems.proofs.CutFrames as CutFrames
use Rattle.theorems.proofs.Carry.{carry_state, carry_frame, carry_frames, carry_end, carry_outcome, map_append, rising_carried, replay_carried}
use Rattle.theorems.specs.Storable.{Fit, Sourced}
use Rattle.theorems.specs.FileRows.{file_rows}
use Rattle.theorems.proofs.FileBack.{file_back, file_seen, file_sourced}
use Rattle.theorems.proofs.LogLaws.{log_numbered}
use Rattle.theorems.proofs.LogCut.{prepend, log_joined, accepted_rest}
use Rattle.theorems.specs.FrameLists.{last_sequence}
use Rattle.theorems.proofs.LogFit.{Logged, in_frames, frames_logged}
use Rattle.theorems.proofs.Seen.{seen_any_snapshot, seen_front, sourced_front, seen_later}
use Rattle.theorems.proofs.Weighed.{Weighed, weighed_kind, weighed, weighed_carries, weigh, weighed_sourced, weighed_values, frames_alike, frames_composed, ends_composed}
use Rattle.theorems.proofs.Recovering.{Accepted, accepted, frames_to_tail, replays_frames, recover_read, recover_alike}
use Rattle.theorems.proofs.AtTheCut.{numbered_rising, Standing, standing, standing_storable}
use Rattle.refusal.proofs.Results.{answer_injective}
use Rattle.theorems.proofs.SnapshotFit.{seen_fit}
use Rattle.theorems.specs.Compared.{Compared, compared, brief, accepts, refuses, holds}
use Rattle.theorems.specs.Cut.{full_snapshot}

-- compared by weighed records
abbrev pub compare_weighed : Config → List ℕ → CutFrames.Summary Weighed → Compared
compare_weighed c log (CutFrames.reaches ws n m at) = accepts c (map (λ (w : Weighed). w.value) ws) n m (length log - at)
compare_weighed c log (CutFrames.stops why at) = refuses why at

pub compared_weighed : (snapshot log : List ℕ) (S : Snapshot) (o : Outcome Row)
    → compared snapshot log (ended S o) ≡ compare_weighed S.config log (CutFrames.summary (carry_outcome (weighed S.config.dimensions snapshot log) (λ n. n) o))
compared_weighed snapshot log S (reached s at) =
    ap (λ (rs : List Record). accepts S.config rs s.sequence (s.replayed + s.skipped) (length log - at)) (sym (weighed_values S.config.dimensions snapshot log s.records))
compared_weighed snapshot log S (stopped why at) = refl

rising_mapped : {A B : Type 0} (h : A → B) (fs : List (Frame A)) → CutFrames.Rising fs → CutFrames.Rising (map (carry_frame h (λ n. n)) fs)
rising_mapped h [] r = tt
rising_mapped h (f ∷ fs) r = rising_carried h (λ n. n) f.sequence fs r

pub seen_fronts : (c : Config) (snapshot front rest : List ℕ) (rows : List Row) → Every (Sourced c snapshot front) rows
    → map (seen c.dimensions snapshot (front ++ rest)) rows ≡ map (seen c.dimensions snapshot front) rows
seen_fronts c snapshot front rest [] h = refl
seen_fronts c snapshot front rest (r ∷ rs) h = ap₂ ◌∷◌ (seen_front c.dimensions snapshot front rest r h.0.inside) (seen_fronts c snapshot front rest rs h.1)

-- weighed records are the same where what is seen is
pub weighed_alike : (d : ℕ) (s t log : List ℕ) (r : Row) → r.from_log ≡ true → weighed d s log r ≡ weighed d t log r
weighed_alike d s t log r e = ap (λ (v : Record). record { value = v; caption = r.caption_length }) (seen_any_snapshot d s t log r e)

module _ (lent : ℕ) (snapshot front rest : List ℕ) (r : Recovered) (bs : Bytes snapshot) (bl : Bytes (front ++ rest)) (a : Accepted lent snapshot front r) (all : r.keep ≡ length front) where
  abbrev log : List ℕ
  log = front ++ rest

  abbrev c : Config
  c = a.read.config

  abbrev d : ℕ
  d = c.dimensions

  abbrev q : ℕ
  q = r.state.sequence

  abbrev records : List Record
  records = map (seen d snapshot front) r.state.records

  abbrev fs : List (Frame Row)
  fs = (frames_of c front).frames

  -- the file at the cut
  abbrev written : List ℕ
  written = file_of c q records

  stands : Standing lent c snapshot front r.state
  stands = standing lent snapshot front r bs (Bytes-left front rest bl) a

  fits : Every (Fit c) records
  fits = seen_fit c snapshot front r.state.records stands.sourced

  sourced_log : Every (Sourced c snapshot log) r.state.records
  sourced_log = every_map (Sourced c snapshot front) (Sourced c snapshot log) (sourced_front c snapshot front rest) r.state.records stands.sourced

  -- the rows of the written file weigh what the rows at the cut do, beside any log
  pub weighed_back : (beside : List ℕ) → map (weighed d written beside) (file_rows 52 records) ≡ map (weighed d snapshot log) r.state.records
  weighed_back beside =
      weighed_sourced c written beside (file_rows 52 records) (file_sourced c q records beside fits)
      ∙ ap (map weigh) (file_seen c q records beside fits ∙ sym (seen_fronts c snapshot front rest r.state.records stands.sourced))
      ∙ sym (weighed_sourced c snapshot log r.state.records sourced_log)

  front_frames : frames_of c front ≡ record { frames = fs; ended = tail (length front) }
  front_frames = frames_to_tail lent snapshot front r a ∙ ap (λ (k : ℕ). record { frames = fs; ended = tail k }) all

  -- what stands behind the front
  abbrev more : Frames Row
  more = frames_at c log (last_sequence 0 fs) (length front)

  log_frames : frames_of c log ≡ prepend fs more
  log_frames = log_joined c front rest fs front_frames

  abbrev h : Row → Weighed
  h = weighed d snapshot log

  abbrev same : ℕ → ℕ
  same n = n

  -- the log's frames as weighed records, whatever is known of those behind the front
  abbrev weighed_frames : Frames Row → Frames Weighed
  weighed_frames behind = record { frames = map (carry_frame h same) fs ++ map (carry_frame h same) behind.frames; ended = carry_end same behind.ended }

  carried_frames : (behind : Frames Row) → frames_of c log ≡ prepend fs behind → carry_frames h same (frames_of c log) ≡ weighed_frames behind
  carried_frames behind e =
      ap (carry_frames h same) e
      ∙ ap (λ (l : List (Frame Weighed)). record { frames = l; ended = carry_end same behind.ended }) (map_append (carry_frame h same) fs behind.frames)

  rises : (behind : Frames Row) → frames_of c log ≡ prepend fs behind → CutFrames.Rising (weighed_frames behind).frames
  rises behind e =
      subst (λ (x : Frames Weighed). CutFrames.Rising x.frames) (carried_frames behind e)
      (rising_mapped h (frames_of c log).frames (numbered_rising (frames_of c log).frames (log_numbered c log)))

  carried_front : replay (weighed_kind d) (bounds_for lent) a.read.sequence (map h a.read.rows)
      (record { frames = map (carry_frame h same) fs; ended = tail r.keep }) ≡ reached (carry_state h r.state) r.keep
  carried_front =
      replay_carried (row_kind d) (weighed_kind d) h (weighed_carries d snapshot log) (bounds_for lent) same a.read.sequence a.read.rows (record { frames = fs; ended = tail r.keep })
      ∙ ap (carry_outcome h same) (replays_frames lent snapshot front r a)

  -- the same frames, whichever snapshot stands beside the log
  frames_beside : carry_frames (weighed d written log) same (frames_of c log) ≡ carry_frames h same (frames_of c log)
  frames_beside =
      ap (λ (l : List (Frame Weighed)). record { frames = l; ended = carry_end same (frames_of c log).ended })
      (frames_alike (weighed d written log) h same (frames_of c log).frames
      (in_frames (Logged c snapshot log) (λ x. weighed d written log x ≡ h x) (λ x l. weighed_alike d written snapshot log x l.from_log) (frames_of c log).frames (frames_logged c snapshot log bl)))

  module _ (short : length written ≤ max_snapshot_bytes) where
    read_back : read_snapshot lent written ≡ Ok (record { config = c; crc = crc_of (body_bytes c q records); sequence = q; rows = file_rows 52 records })
    read_back =
        let n = length-map r.state.records (seen d snapshot front) in
        let e = stands.enough in
        file_back lent c q records (standing_storable lent snapshot front r bs (Bytes-left front rest bl) a short) (omega arith)

    abbrev W : Snapshot
    W = record { config = c; crc = crc_of (body_bytes c q records); sequence = q; rows = file_rows 52 records }

    -- the old snapshot and the written one, each beside the whole log
    same_replay : CutFrames.summary (carry_outcome (weighed d written log) same (replay (row_kind d) (bounds_for lent) q (file_rows 52 records) (frames_of c log)))
        ≡ CutFrames.summary (carry_outcome h same (replay (row_kind d) (bounds_for lent) a.read.sequence a.read.rows (frames_of c log)))
    same_replay =
        let J = weighed_kind d in
        let L = bounds_for lent in
        ap CutFrames.summary
        (sym (replay_carried (row_kind d) J (weighed d written log) (weighed_carries d written log) L same q (file_rows 52 records) (frames_of c log))
        ∙ ap₂ (replay J L q) (weighed_back log) (frames_beside ∙ carried_frames more log_frames))
        ∙ CutFrames.cut_whole J L a.read.sequence (map h a.read.rows) (map (carry_frame h same) fs) (map (carry_frame h same) more.frames) (carry_end same more.ended) r.keep r.keep (carry_state h r.state) (rises more log_frames) carried_front
        ∙ ap CutFrames.summary
        (ap (replay J L a.read.sequence (map h a.read.rows)) (sym (carried_frames more log_frames))
        ∙ replay_carried (row_kind d) J h (weighed_carries d snapshot log) L same a.read.sequence a.read.rows (frames_of c log))

    whole_log : compared written log (recover lent written log) ≡ compared snapshot log (recover lent snapshot log)
    whole_log =
        recover_alike (compared written log) (compared snapshot log) lent written snapshot log W a.read read_back a.reads refl
        (compared_weighed written log W (replay (row_kind d) (bounds_for lent) q (file_rows 52 records) (frames_of c log))
        ∙ ap (compare_weighed c log) same_replay
        ∙ sym (compared_weighed snapshot log a.read (replay (row_kind d) (bounds_for lent) a.read.sequence a.read.rows (frames_of c log))))

    -- where the old pair was accepted: the written snapshot beside the rest
    module _ (u : Recovered) (old : Accepted lent snapshot log u) where
      abbrev m : ℕ
      m = length front

      abbrev shift : ℕ → ℕ
      shift n = m + n

      abbrev g : Row → Weighed
      g = weighed d written rest

      same_read : old.read ≡ a.read
      same_read = answer_injective old.read a.read (sym old.reads ∙ a.reads)

      old_replays : replay (row_kind d) (bounds_for lent) a.read.sequence a.read.rows (frames_of c log) ≡ reached u.state u.keep
      old_replays =
          subst (λ (S : Snapshot). replay (row_kind S.config.dimensions) (bounds_for lent) S.sequence S.rows (frames_of S.config log) ≡ reached u.state u.keep)
          same_read old.replays

      old_ends : (frames_of c log).ended ≡ tail u.keep
      old_ends =
          subst (λ (S : Snapshot). (frames_of S.config log).ended ≡ tail u.keep) same_read
          (ap (λ (x : Frames Row). x.ended) (frames_to_tail lent snapshot log u old))

      abbrev later : Frames Row
      later = later_frames m (frames_of c rest)

      split : frames_of c log ≡ prepend fs later
      split = accepted_rest c front rest fs u.keep front_frames old_ends

      carried_old : replay (weighed_kind d) (bounds_for lent) a.read.sequence (map h a.read.rows)
          (weighed_frames later) ≡ reached (carry_state h u.state) u.keep
      carried_old =
          ap (replay (weighed_kind d) (bounds_for lent) a.read.sequence (map h a.read.rows)) (sym (carried_frames later split))
          ∙ replay_carried (row_kind d) (weighed_kind d) h (weighed_carries d snapshot log) (bounds_for lent) same a.read.sequence a.read.rows (frames_of c log)
          ∙ ap (carry_outcome h same) old_replays

      rest_cut : CutFrames.RestAlone (weighed_kind d) (bounds_for lent) (carry_state h r.state) (carry_state h u.state) (map (carry_frame h same) later.frames) (carry_end same later.ended) u.keep
      rest_cut =
          CutFrames.cut_rest (weighed_kind d) (bounds_for lent) a.read.sequence (map h a.read.rows) (map (carry_frame h same) fs) (map (carry_frame h same) later.frames) (carry_end same later.ended) r.keep r.keep (carry_state h r.state) (rises later split) carried_front (carry_state h u.state) u.keep carried_old

      -- a row put by the rest is seen alike from either place
      rest_alike : (x : Row) → x.from_log ≡ true → g x ≡ h (later_row m x)
      rest_alike x e = ap (λ (v : Record). record { value = v; caption = x.caption_length }) (sym (seen_later d snapshot written front rest x e))

      rest_frames : carry_frames g shift (frames_of c rest) ≡ record { frames = map (carry_frame h same) later.frames; ended = carry_end same later.ended }
      rest_frames =
          ap₂ (λ (l : List (Frame Weighed)) (x : End). record { frames = l; ended = x })
          (frames_composed g h (later_row m) shift (frames_of c rest).frames
          (in_frames (Logged c written rest) (λ x. g x ≡ h (later_row m x)) (λ x l. rest_alike x l.from_log) (frames_of c rest).frames (frames_logged c written rest (Bytes-right front rest bl))))
          (ends_composed shift (frames_of c rest).ended)

      rest_replay : carry_outcome g shift (replay (row_kind d) (bounds_for lent) q (file_rows 52 records) (frames_of c rest)) ≡ reached rest_cut.state u.keep
      rest_replay =
          sym (replay_carried (row_kind d) (weighed_kind d) g (weighed_carries d written rest) (bounds_for lent) shift q (file_rows 52 records) (frames_of c rest))
          ∙ ap₂ (replay (weighed_kind d) (bounds_for lent) q) (weighed_back rest) rest_frames
          ∙ rest_cut.comes

      rest_brief : (o : Outcome Row) → carry_outcome g shift o ≡ reached rest_cut.state u.keep → brief written rest (ended W o) ≡ brief snapshot log (recovered u)
      rest_brief (reached v k) e =
          let sv : carry_state g v ≡ rest_cut.state = reached_inj e in
          let sk : m + k ≡ u.keep = reached_at e in
          let rs : map (seen d written rest) v.records ≡ map (seen d snapshot log) u.state.records =
          sym (weighed_values d written rest v.records)
          ∙ ap (λ (x : State Weighed). map (λ (w : Weighed). w.value) x.records) sv
          ∙ ap (map (λ (w : Weighed). w.value)) rest_cut.records
          ∙ weighed_values d snapshot log u.state.records in
          let sq : v.sequence ≡ u.state.sequence = ap (λ (x : State Weighed). x.sequence) sv ∙ rest_cut.sequence in
          let tl : length rest - k ≡ length log - u.keep = omega (arith, length-append front rest) in
          let sc : u.config ≡ c = old.same_config ∙ ap (λ (S : Snapshot). S.config) same_read in
          (λ i. holds c (rs i) (sq i) (tl i))
          ∙ ap (λ (x : Config). holds x (map (seen x.dimensions snapshot log) u.state.records) u.state.sequence (length log - u.keep)) (sym sc)
      rest_brief (stopped why at) e = absurd (stopped≢reached e)

      beside_rest : brief written rest (replay_log lent rest W) ≡ brief snapshot log (recovered u)
      beside_rest = rest_brief (replay (row_kind d) (bounds_for lent) q (file_rows 52 records) (frames_of c rest)) rest_replay

-- DEMAND 3, FIRST HALF: beside the whole log
pub demand_three : (lent : ℕ) (snapshot front rest : List ℕ) (r : Recovered) → Bytes snapshot → Bytes (front ++ rest)
    → recover lent snapshot front ≡ recovered r → r.keep ≡ length front
    → length (full_snapshot snapshot front r) ≤ max_snapshot_bytes
    → compared (full_snapshot snapshot front r) (front ++ rest) (recover lent (full_snapshot snapshot front r) (front ++ rest))
    ≡ compared snapshot (front ++ rest) (recover lent snapshot (front ++ rest))
demand_three lent snapshot front rest r bs bl cut all =
    let a = accepted lent snapshot front r cut in
    subst
    (λ (c : Config). length (file_of c r.state.sequence (map (seen c.dimensions snapshot front) r.state.records)) ≤ max_snapshot_bytes
    → compared (file_of c r.state.sequence (map (seen c.dimensions snapshot front) r.state.records)) (front ++ rest) (recover lent (file_of c r.state.sequence (map (seen c.dimensions snapshot front) r.state.records)) (front ++ rest))
    ≡ compared snapshot (front ++ rest) (recover lent snapshot (front ++ rest)))
    (sym a.same_config)
    (whole_log lent snapshot front rest r bs bl a all)

-- DEMAND 3, SECOND HALF: beside the rest of the log, where the old pair was accepted
pub demand_three_rest : (lent : ℕ) (snapshot front rest : List ℕ) (r u : Recovered) → Bytes snapshot → Bytes (front ++ rest)
    → recover lent snapshot front ≡ recovered r → r.keep ≡ length front
    → recover lent snapshot (front ++ rest) ≡ recovered u
    → length (full_snapshot snapshot front r) ≤ max_snapshot_bytes
    → brief (full_snapshot snapshot front r) rest (recover lent (full_snapshot snapshot front r) rest)
    ≡ brief snapshot (front ++ rest) (recover lent snapshot (front ++ rest))
demand_three_rest lent snapshot front rest r u bs bl cut all whole =
    let a = accepted lent snapshot front r cut in
    let b = accepted lent snapshot (front ++ rest) u whole in
    let n : length rest ≤ max_log_bytes = let e = b.short in omega (arith, length-append front rest) in
    subst
    (λ (c : Config). length (file_of c r.state.sequence (map (seen c.dimensions snapshot front) r.state.records)) ≤ max_snapshot_bytes
    → brief (file_of c r.state.sequence (map (seen c.dimensions snapshot front) r.state.records)) rest (recover lent (file_of c r.state.sequence (map (seen c.dimensions snapshot front) r.state.records)) rest)
    ≡ brief snapshot (front ++ rest) (recover lent snapshot (front ++ rest)))
    (sym a.same_config)
    (λ short.
    ap (brief (written lent snapshot front rest r bs bl a all) rest) (recover_read lent (written lent snapshot front rest r bs bl a all) rest (W lent snapshot front rest r bs bl a all short) (read_back lent snapshot front rest r bs bl a all short) n)
    ∙ beside_rest lent snapshot front rest r bs bl a all short u b
    ∙ sym (ap (brief snapshot (front ++ rest)) whole))
