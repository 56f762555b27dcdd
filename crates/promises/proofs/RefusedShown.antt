-- What `specs/Refused.antt` says of refused calls.
use Rattle.std.specs.Prelude.{Ok, Err}
use Prim.Native.Nat.{ℕ, ◌-◌, ◌≤◌, ◌<◌}
use native.Mathlib.Omega.{arith}
use mathlib.Core.Path.{◌≡◌, refl, sym, ap, ap₂, ◌∙◌, subst}
use mathlib.Core.Bool.{Bool, true, false, cond}
use mathlib.Core.List.{List, []}
use lib.ListN.{length, replicate}
use lib.Dec.{ltb}
use borrow.Author.Tests.{ltb-false, le-ltb}
use Rattle.refusal.specs.declared.Refusal.{Refusal}
use Rattle.refusal.specs.declared.Refusal.TheVariants as Refusals
use Rattle.refusal.specs.Refusal.{Answer, number, written_told}
use Rattle.config.specs.Limits.{max_log_bytes}
use Rattle.config.specs.declared.Config.{Config}
use Rattle.layout.specs.declared.Extent.TheVariants.{Full, Compacted}
use Rattle.layout.specs.declared.Shape.TheVariants.{Single, Batch}
use Rattle.fields.specs.Placed.{placed}
use Rattle.sorting.specs.Sorting.{sorted_nodes}
use Rattle.meaning.specs.Encoder.{delete_frame}
use Rattle.rows.specs.declared.Row.{Row}
use Rattle.meaning.specs.Replay.{Outcome, reached, stopped, replay}
use Rattle.meaning.specs.Records.{row_kind}
use Rattle.meaning.specs.Log.{frames_of}
use Rattle.meaning.specs.Snapshot.{Snapshot, read_snapshot}
use Rattle.meaning.specs.Recovery as Meant
use Rattle.meaning.specs.Recovery.{bounds_for, with_snapshot, ended, recover}
use Rattle.meaning.specs.Tables.{row_words, live_from, active_nodes, filled}
use Rattle.meaning.specs.Calls.{read_call, read_tables, recover_call, recover_tables, write_call, encode_call, output_after, delete_refused}
use Rattle.theorems.proofs.RefusedThere.{refused_at, refused_if}
use Rattle.snapshot.specs.Told.{read_told}
use Rattle.graph.specs.Cache.{Cache, read_cache}
use Rattle.graph.specs.Told.{cache_told, starts_after}
use Rattle.graph_theorems.specs.CacheCalls.{ReadCacheMeets}
use Rattle.recovery.specs.Told.{Recovery, recovery_answer, recovery_number, recovery_byte}
use Rattle.recovery.specs.declared.RecoveryInfo.{RecoveryInfo}
use Rattle.recovery.specs.declared.NotRecovered.TheVariants as Whys
use Rattle.lambspool.proofs.RefusalText.{snapshot_text, log_text, file_text}
use Rattle.lambspool.specs.Asked.{cache_asked, write_asked, encode_asked}
use Rattle.lambspool.specs.Said.{snapshot_said, store_said, cache_said, bytes_said}
use Rattle.lambspool.specs.declared.Snapshot.{Snapshot as SnapshotSaid}
use Rattle.lambspool.specs.declared.Store.{Store}
use Rattle.lambspool.specs.declared.Cache.{Cache as CacheSaid}
use Rattle.lambspool.specs.declared.Bytes.{Bytes as BytesSaid}
use Rattle.promises.specs.Store.{ReadSnapshotMeets}
use Rattle.promises.specs.Playout.{HostDeleteMeets}
use Rattle.promises.specs.Door.{DoorReadSnapshotMeets, DoorRecoverMeets}
use Rattle.promises.specs.Recover.{RecoverMeets, Recovers}
use Rattle.promises.specs.Refused.{RefusedRightly, ZeroAfter, Refused}
use Rattle.promises.proofs.Outputs.{untouched}

-- ---- numbers
positive : (why : Refusal) → 0 < number why
positive Refusals.LengthOutOfBounds = omega arith
positive Refusals.WrongMagic = omega arith
positive Refusals.WrongVersion = omega arith
positive Refusals.PastTheEnd = omega arith
positive Refusals.WrongMetric = omega arith
positive Refusals.WrongDimensions = omega arith
positive Refusals.WrongM = omega arith
positive Refusals.WrongEf = omega arith
positive Refusals.WrongCount = omega arith
positive Refusals.WrongFlag = omega arith
positive Refusals.VectorPastTheEnd = omega arith
positive Refusals.NotFinite = omega arith
positive Refusals.VectorAllZero = omega arith
positive Refusals.CaptionTooLong = omega arith
positive Refusals.NotUtf8 = omega arith
positive Refusals.BytesLeftOver = omega arith
positive Refusals.WrongFileCrc = omega arith
positive Refusals.ActiveTwice = omega arith
positive Refusals.TooFewRows = omega arith
positive Refusals.LogTooLong = omega arith
positive Refusals.WrongLengthCrc = omega arith
positive Refusals.WrongLength = omega arith
positive Refusals.WrongPayloadCrc = omega arith
positive Refusals.WrongSequence = omega arith
positive Refusals.WrongBatchCount = omega arith
positive Refusals.UnknownOperation = omega arith
positive Refusals.GapAfterSnapshot = omega arith
positive Refusals.StorageLimits = omega arith
positive Refusals.InactiveDelete = omega arith
positive Refusals.NoSuchNode = omega arith
positive Refusals.RowDoesNotFit = omega arith
positive Refusals.OutputTooShort = omega arith
positive Refusals.RequestMalformed = omega arith
positive Refusals.TooLarge = omega arith
positive Refusals.FileUnreadable = omega arith
positive Refusals.StaleCache = omega arith
positive Refusals.WrongNodeCount = omega arith
positive Refusals.WrongEntry = omega arith
positive Refusals.MissingEntry = omega arith
positive Refusals.WrongRngState = omega arith
positive Refusals.CountOverBytes = omega arith
positive Refusals.WrongLevels = omega arith
positive Refusals.WrongDegree = omega arith
positive Refusals.WrongNeighbour = omega arith
positive Refusals.EdgeToMissingLevel = omega arith
positive Refusals.EntryBelowHighest = omega arith
positive Refusals.TooFewStarts = omega arith

accepted_by_number : (r : Recovery) → recovery_number r ≡ 0 → (i : RecoveryInfo) × (r ≡ Ok i)
accepted_by_number (Ok i) e = (i, refl)
accepted_by_number (Err (Whys.Snapshot why)) e = absurd (let h = positive why in omega arith)
accepted_by_number (Err (Whys.Log why at)) e = absurd (let h = positive why in omega arith)

-- ---- what was refused
-- a snapshot's refusal is of a log within its bound
snapshot_refused : (lent : ℕ) (snapshot log : List ℕ) (why : Refusal) → recover lent snapshot log ≡ Meant.refused_snapshot why
    → (length log ≤ max_log_bytes) × (read_snapshot lent snapshot ≡ Err why)
unfolding recover
snapshot_refused lent snapshot log why e = first (ltb max_log_bytes (length log)) refl e
  where
    third : (S : Snapshot) (o : Outcome Row) → ended S o ≡ Meant.refused_snapshot why → ⊥
    third S (reached s k) h = let z : ◌≡◌ {A = ℕ} 0 1 = cc in omega arith
    third S (stopped w k) h = let z : ◌≡◌ {A = ℕ} 0 1 = cc in omega arith

    second : (x : Answer Snapshot) → read_snapshot lent snapshot ≡ x → with_snapshot lent log x ≡ Meant.refused_snapshot why → read_snapshot lent snapshot ≡ Err why
    second (Ok S) e h = absurd (third S (replay (row_kind S.config.dimensions) (bounds_for lent) S.sequence S.rows (frames_of S.config log)) h)
    second (Err w) e h = let same : w ≡ why = cc in e ∙ ap (λ (x : Refusal). Err x) same

    first : (b : Bool) → ltb max_log_bytes (length log) ≡ b
        → cond b (Meant.refused_log Refusals.LogTooLong 0) (with_snapshot lent log (read_snapshot lent snapshot)) ≡ Meant.refused_snapshot why
        → (length log ≤ max_log_bytes) × (read_snapshot lent snapshot ≡ Err why)
    first true e h = absurd (let z : ◌≡◌ {A = ℕ} 0 1 = cc in omega arith)
    first false e h = (ltb-false max_log_bytes (length log) e, second (read_snapshot lent snapshot) refl h)

-- and the other way
snapshot_refused_if : (lent : ℕ) (snapshot log : List ℕ) (why : Refusal) → length log ≤ max_log_bytes → read_snapshot lent snapshot ≡ Err why
    → recover lent snapshot log ≡ Meant.refused_snapshot why
unfolding recover
snapshot_refused_if lent snapshot log why h e =
    ap₂ (λ (b : Bool) (x : Answer Snapshot). cond b (Meant.refused_log Refusals.LogTooLong 0) (with_snapshot lent log x)) (le-ltb max_log_bytes (length log) h) e

-- the answer of a call, by what the definition gives with as many rows lent
answer_is : (lent : ℕ) (snapshot log : List ℕ) (r : Recovery) (words : List ℕ) → Recovers lent snapshot log r words → r ≡ recovery_answer log (recover lent snapshot log)
answer_is lent snapshot log r words call = call.meets.result_is ∙ ap (λ (n : ℕ). recovery_answer log (recover n snapshot log)) call.as_many

refused_rightly : (lent : ℕ) (snapshot log : List ℕ) (r : Recovery) (words : List ℕ) → Recovers lent snapshot log r words → 0 < recovery_number r
    → RefusedRightly lent snapshot log r
refused_rightly lent snapshot log r words call h =
    let e = answer_is lent snapshot log r words call in
    subst (RefusedRightly lent snapshot log) (sym e) (go (recover lent snapshot log) refl (subst (λ (x : Recovery). 0 < recovery_number x) e h))
  where
    go : (x : Meant.Recovery) → recover lent snapshot log ≡ x → 0 < recovery_number (recovery_answer log x) → RefusedRightly lent snapshot log (recovery_answer log x)
    go (Meant.recovered s) e h = absurd (omega arith)
    go (Meant.refused_snapshot why) e h = snapshot_refused lent snapshot log why e
    go (Meant.refused_log why at) e h = refused_at lent snapshot log why at e

refused_if_so : (lent : ℕ) (snapshot log : List ℕ) (r : Recovery) (words : List ℕ) → Recovers lent snapshot log r words
    → (right : Recovery) → RefusedRightly lent snapshot log right → r ≡ right
refused_if_so lent snapshot log r words call right h = answer_is lent snapshot log r words call ∙ go right h
  where
    go : (right : Recovery) → RefusedRightly lent snapshot log right → recovery_answer log (recover lent snapshot log) ≡ right
    go (Ok i) h = absurd h
    go (Err (Whys.Snapshot why)) h = ap (recovery_answer log) (snapshot_refused_if lent snapshot log why h.0 h.1)
    go (Err (Whys.Log why at)) h = ap (recovery_answer log) (refused_if lent snapshot log why at h)

-- ---- lent tables
no_rows : (words : List ℕ) → filled (length words) (row_words []) ≡ replicate (length words) 0
unfolding row_words
no_rows words = let z : length words - 0 ≡ length words = omega arith in ap (λ (n : ℕ). replicate n 0) z

no_entries : (entries : List ℕ) → filled (length entries) (active_nodes []) ≡ replicate (length entries) 0
unfolding row_words live_from sorted_nodes
no_entries entries = let z : length entries - 0 ≡ length entries = omega arith in ap (λ (n : ℕ). replicate n 0) z

recover_zeros : (snapshot log rows active : List ℕ) (r : Recovery) (rows' active' : List ℕ) → RecoverMeets snapshot log rows active r rows' active'
    → 0 < recovery_number r → ZeroAfter rows rows' × ZeroAfter active active'
recover_zeros snapshot log rows active r rows' active' m h =
    go (recover_call rows active snapshot log) (subst (λ (x : Recovery). 0 < recovery_number x) m.result_is h) m.rows_are m.active_is
  where
    go : (x : Meant.Recovery) → 0 < recovery_number (recovery_answer log x) → rows' ≡ (recover_tables rows active x).rows → active' ≡ (recover_tables rows active x).active
        → ZeroAfter rows rows' × ZeroAfter active active'
    go (Meant.recovered s) h p q = absurd (omega arith)
    go (Meant.refused_snapshot why) h p q = (p ∙ no_rows rows, q ∙ no_entries active)
    go (Meant.refused_log why at) h p q = (p ∙ no_rows rows, q ∙ no_entries active)

read_zeros : (bytes rows active : List ℕ) (why : Refusal) (rows' active' : List ℕ)
    → ReadSnapshotMeets bytes rows active (Err why) rows' active' → ZeroAfter rows rows' × ZeroAfter active active'
read_zeros bytes rows active why rows' active' m = go (read_call rows active bytes) m.result_is m.rows_are m.active_is
  where
    go : (x : Answer Snapshot) → Err why ≡ read_told x → rows' ≡ (read_tables rows active x).rows → active' ≡ (read_tables rows active x).active
        → ZeroAfter rows rows' × ZeroAfter active active'
    go (Ok S) e p q = absurd (let z : ◌≡◌ {A = ℕ} 0 1 = cc in omega arith)
    go (Err w) e p q = (p ∙ no_rows rows, q ∙ no_entries active)

cache_zeros : (bytes : List ℕ) (config : Config) (crc sequence count : ℕ) (starts : List ℕ) (why : Refusal) (starts' : List ℕ)
    → ReadCacheMeets bytes config crc sequence count starts (Err why) starts' → ZeroAfter starts starts'
cache_zeros bytes config crc sequence count starts why starts' m = go (read_cache config crc sequence count (length starts) bytes) m.result_is m.starts_are
  where
    go : (x : Answer Cache) → Err why ≡ cache_told x → starts' ≡ starts_after (length starts) x → ZeroAfter starts starts'
    go (Ok c) e p = absurd (let z : ◌≡◌ {A = ℕ} 0 1 = cc in omega arith)
    go (Err w) e p = p

-- ---- outputs
host_delete_untouched : (sequence id : ℕ) (out after : List ℕ) → HostDeleteMeets sequence id out 0 after → after ≡ out
host_delete_untouched sequence id out after m = go (delete_refused sequence out) (placed 0 (delete_frame sequence id) out) m.result_is m.output_is
  where
    go : (b : Bool) (more : List ℕ) → ◌≡◌ {A = ℕ} 0 (cond b 0 29) → after ≡ cond b out more → after ≡ out
    go true more e p = p
    go false more e p = absurd (omega arith)

-- ---- the C entries
door_tells : (r : Recovery) → ((store_said r).number ≡ recovery_number r) × ((store_said r).at ≡ recovery_byte r)
door_tells (Ok i) = (refl, refl)
door_tells (Err (Whys.Snapshot why)) = (refl, refl)
door_tells (Err (Whys.Log why at)) = (refl, refl)

door_recover_zeros : (snapshot log rows active : List ℕ) (r : Store) (rows' active' : List ℕ) → DoorRecoverMeets snapshot log rows active r rows' active'
    → 0 < r.number → ZeroAfter rows rows' × ZeroAfter active active'
door_recover_zeros snapshot log rows active r rows' active' m h =
    go (recover_call rows active snapshot log) (subst (λ (x : Store). 0 < x.number) m.result_is h) m.rows_are m.active_is
  where
    go : (x : Meant.Recovery) → 0 < (store_said (recovery_answer log x)).number → rows' ≡ (recover_tables rows active x).rows → active' ≡ (recover_tables rows active x).active
        → ZeroAfter rows rows' × ZeroAfter active active'
    go (Meant.recovered s) h p q = absurd (omega arith)
    go (Meant.refused_snapshot why) h p q = (p ∙ no_rows rows, q ∙ no_entries active)
    go (Meant.refused_log why at) h p q = (p ∙ no_rows rows, q ∙ no_entries active)

door_read_zeros : (bytes rows active : List ℕ) (r : SnapshotSaid) (rows' active' : List ℕ) → DoorReadSnapshotMeets bytes rows active r rows' active'
    → 0 < r.number → ZeroAfter rows rows' × ZeroAfter active active'
door_read_zeros bytes rows active r rows' active' m h =
    go (read_call rows active bytes) (subst (λ (x : SnapshotSaid). 0 < x.number) m.result_is h) m.rows_are m.active_is
  where
    go : (x : Answer Snapshot) → 0 < (snapshot_said (read_told x)).number → rows' ≡ (read_tables rows active x).rows → active' ≡ (read_tables rows active x).active
        → ZeroAfter rows rows' × ZeroAfter active active'
    go (Ok S) h p q = absurd (omega arith)
    go (Err w) h p q = (p ∙ no_rows rows, q ∙ no_entries active)

starts_zero : (lent : List ℕ) (given : Answer Cache) (r : CacheSaid) (after : List ℕ) → r ≡ cache_said (cache_told given) → after ≡ starts_after (length lent) given
    → 0 < r.number → ZeroAfter lent after
starts_zero lent given r after e p h = go given (subst (λ (x : CacheSaid). 0 < x.number) e h) p
  where
    go : (x : Answer Cache) → 0 < (cache_said (cache_told x)).number → after ≡ starts_after (length lent) x → ZeroAfter lent after
    go (Ok c) h p = absurd (omega arith)
    go (Err w) h p = p

bytes_untouched : (given : Answer (List ℕ)) (r : BytesSaid) (out after : List ℕ) → r ≡ bytes_said (written_told given) → after ≡ output_after out given → 0 < r.number → after ≡ out
bytes_untouched given r out after e p h = go given (subst (λ (x : BytesSaid). 0 < x.number) e h) p
  where
    go : (x : Answer (List ℕ)) → 0 < (bytes_said (written_told x)).number → after ≡ output_after out x → after ≡ out
    go (Ok bytes) h p = absurd (omega arith)
    go (Err w) h p = p

pub refused_calls : Refused
refused_calls =
    record {
      accepted_by_number = accepted_by_number;
      refused_rightly = refused_rightly;
      refused_if_so = refused_if_so;
      recover_zeros = recover_zeros;
      read_zeros = read_zeros;
      cache_zeros = cache_zeros;
      write_untouched = λ config sequence rows count snapshot log out why after m. untouched (write_call Full config sequence rows count snapshot log out) why out after m.result_is m.output_is;
      write_compacted_untouched = λ config sequence rows count snapshot log out why after m. untouched (write_call Compacted config sequence rows count snapshot log out) why out after m.result_is m.output_is;
      encode_frame_untouched = λ config sequence operations coordinates captions out why after m. untouched (encode_call Single config sequence operations coordinates captions out) why out after m.result_is m.output_is;
      encode_batch_untouched = λ config sequence operations coordinates captions out why after m. untouched (encode_call Batch config sequence operations coordinates captions out) why out after m.result_is m.output_is;
      host_delete_untouched = host_delete_untouched;
      door_tells = door_tells;
      snapshot_text = snapshot_text;
      log_text = log_text;
      file_text = file_text;
      door_recover_zeros = door_recover_zeros;
      door_read_zeros = door_read_zeros;
      door_cache_zeros = λ bytes d m ef seed metric crc sequence count starts r after k.
          starts_zero starts (cache_asked d m ef seed metric crc sequence count starts bytes) r after k.result_is k.starts_are;
      door_write_untouched = λ d m ef seed metric sequence rows count snapshot log out r after k.
          bytes_untouched (write_asked Full d m ef seed metric sequence rows count snapshot log out) r out after k.result_is k.output_is;
      door_write_compacted_untouched = λ d m ef seed metric sequence rows count snapshot log out r after k.
          bytes_untouched (write_asked Compacted d m ef seed metric sequence rows count snapshot log out) r out after k.result_is k.output_is;
      door_encode_frame_untouched = λ d m ef seed metric sequence operations coordinates captions out r after k.
          bytes_untouched (encode_asked Single d m ef seed metric sequence operations coordinates captions out) r out after k.result_is k.output_is;
      door_encode_batch_untouched = λ d m ef seed metric sequence operations coordinates captions out r after k.
          bytes_untouched (encode_asked Batch d m ef seed metric sequence operations coordinates captions out) r out after k.result_is k.output_is;
    }
