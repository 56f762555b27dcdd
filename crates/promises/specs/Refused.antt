-- Demand 1, of the code's own answers: every refusal has a number, and one in the log names its frame's first byte; a refused reading
-- leaves its lent tables all zero; a refused writer changes no byte.
use Rattle.std.specs.Prelude.{ℕ, ◌≤◌, ◌<◌, ◌≡◌, List, length, replicate, Err, Ok}
use Rattle.refusal.specs.declared.Refusal.{Refusal}
use Rattle.refusal.specs.declared.Refusal.TheVariants.{FileUnreadable}
use Rattle.refusal.specs.Refusal.{number}
use Rattle.config.specs.Limits.{max_log_bytes}
use Rattle.config.specs.declared.Config.{Config}
use Rattle.meaning.specs.Snapshot.{read_snapshot}
use Rattle.theorems.specs.RefusedAt.{RefusedAt}
use Rattle.graph_theorems.specs.CacheCalls.{ReadCacheMeets}
use Rattle.recovery.specs.Told.{Recovery, recovery_number, recovery_byte}
use Rattle.recovery.specs.declared.RecoveryInfo.{RecoveryInfo}
use Rattle.recovery.specs.declared.NotRecovered.TheVariants as Refusals
use Rattle.listing_text.specs.Lines.{refused_line}
use Rattle.listing_text.specs.declared.Stopped.TheVariants as Stops
use Rattle.lambspool.specs.Lines.{refusal_text}
use Rattle.lambspool.specs.Said.{store_said}
use Rattle.lambspool.specs.declared.Snapshot.{Snapshot as SnapshotSaid}
use Rattle.lambspool.specs.declared.Store.{Store}
use Rattle.lambspool.specs.declared.Cache.{Cache as CacheSaid}
use Rattle.lambspool.specs.declared.Bytes.{Bytes as BytesSaid}
use Rattle.promises.specs.Store.{ReadSnapshotMeets, WriteMeets, WriteCompactedMeets, EncodeFrameMeets, EncodeBatchMeets}
use Rattle.promises.specs.Playout.{HostDeleteMeets}
use Rattle.promises.specs.Door.{DoorReadSnapshotMeets, DoorRecoverMeets, DoorReadCacheMeets, DoorWriteMeets, DoorWriteCompactedMeets, DoorEncodeFrameMeets, DoorEncodeBatchMeets}
use Rattle.promises.specs.Recover.{RecoverMeets, Recovers}

-- what `recover` refused, and with what right. `RefusedAt`: the log is too long (20, byte 0); or the byte is the first behind the frames
-- that were read, and what stands there is refused as it is decoded or as it is replayed
abbrev pub RefusedRightly : ℕ → List ℕ → List ℕ → Recovery → Type 0
RefusedRightly lent snapshot log (Ok i) = ⊥
RefusedRightly lent snapshot log (Err (Refusals.Snapshot why)) = (length log ≤ max_log_bytes) × (read_snapshot lent snapshot ≡ Err why)
RefusedRightly lent snapshot log (Err (Refusals.Log why at)) = RefusedAt lent snapshot log why (recovery_byte (Err (Refusals.Log why at)))

-- a table that was lent is all zero after
abbrev pub ZeroAfter : List ℕ → List ℕ → Type 0
ZeroAfter lent after = after ≡ replicate (length lent) 0

pub record Refused : Type 0 where
  -- `recover` is refused exactly if its number is not 0
  pub accepted_by_number : (r : Recovery) → recovery_number r ≡ 0 → (i : RecoveryInfo) × (r ≡ Ok i)
  pub refused_rightly : (lent : ℕ) (snapshot log : List ℕ) (r : Recovery) (words : List ℕ) → Recovers lent snapshot log r words → 0 < recovery_number r
      → RefusedRightly lent snapshot log r
  -- the other way: what is to be refused so, snapshot or log, is refused so
  pub refused_if_so : (lent : ℕ) (snapshot log : List ℕ) (r : Recovery) (words : List ℕ) → Recovers lent snapshot log r words
      → (right : Recovery) → RefusedRightly lent snapshot log right → r ≡ right
  -- a refused reading leaves its lent tables all zero
  pub recover_zeros : (snapshot log rows active : List ℕ) (r : Recovery) (rows' active' : List ℕ) → RecoverMeets snapshot log rows active r rows' active'
      → 0 < recovery_number r → ZeroAfter rows rows' × ZeroAfter active active'
  pub read_zeros : (bytes rows active : List ℕ) (why : Refusal) (rows' active' : List ℕ)
      → ReadSnapshotMeets bytes rows active (Err why) rows' active' → ZeroAfter rows rows' × ZeroAfter active active'
  pub cache_zeros : (bytes : List ℕ) (config : Config) (crc sequence count : ℕ) (starts : List ℕ) (why : Refusal) (starts' : List ℕ)
      → ReadCacheMeets bytes config crc sequence count starts (Err why) starts' → ZeroAfter starts starts'
  -- a refused writer changes no byte
  pub write_untouched : (config : Config) (sequence : ℕ) (rows : List ℕ) (count : ℕ) (snapshot log out : List ℕ) (why : Refusal) (after : List ℕ)
      → WriteMeets config sequence rows count snapshot log out (Err why) after → after ≡ out
  pub write_compacted_untouched : (config : Config) (sequence : ℕ) (rows : List ℕ) (count : ℕ) (snapshot log out : List ℕ) (why : Refusal) (after : List ℕ)
      → WriteCompactedMeets config sequence rows count snapshot log out (Err why) after → after ≡ out
  pub encode_frame_untouched : (config : Config) (sequence : ℕ) (operations coordinates captions out : List ℕ) (why : Refusal) (after : List ℕ)
      → EncodeFrameMeets config sequence operations coordinates captions out (Err why) after → after ≡ out
  pub encode_batch_untouched : (config : Config) (sequence : ℕ) (operations coordinates captions out : List ℕ) (why : Refusal) (after : List ℕ)
      → EncodeBatchMeets config sequence operations coordinates captions out (Err why) after → after ≡ out
  -- the playout host's delete tells its refusal by 0 bytes
  pub host_delete_untouched : (sequence id : ℕ) (out after : List ℕ) → HostDeleteMeets sequence id out 0 after → after ≡ out
  -- the same of the C entries, which tell a refusal by a number that is not 0
  pub door_tells : (r : Recovery) → ((store_said r).number ≡ recovery_number r) × ((store_said r).at ≡ recovery_byte r)
  -- and whose line for that number is the listing's
  pub snapshot_text : (why : Refusal) (at : ℕ) → refusal_text 0 (number why) at ≡ refused_line (Stops.Snapshot why)
  pub log_text : (why : Refusal) (at : ℕ) → refusal_text 1 (number why) at ≡ refused_line (Stops.Log why at)
  pub file_text : (at : ℕ) → refusal_text 2 (number FileUnreadable) at ≡ refused_line Stops.File
  pub door_recover_zeros : (snapshot log rows active : List ℕ) (r : Store) (rows' active' : List ℕ) → DoorRecoverMeets snapshot log rows active r rows' active'
      → 0 < r.number → ZeroAfter rows rows' × ZeroAfter active active'
  pub door_read_zeros : (bytes rows active : List ℕ) (r : SnapshotSaid) (rows' active' : List ℕ) → DoorReadSnapshotMeets bytes rows active r rows' active'
      → 0 < r.number → ZeroAfter rows rows' × ZeroAfter active active'
  pub door_cache_zeros : (bytes : List ℕ) (d m ef seed metric crc sequence count : ℕ) (starts : List ℕ) (r : CacheSaid) (starts' : List ℕ)
      → DoorReadCacheMeets bytes d m ef seed metric crc sequence count starts r starts' → 0 < r.number → ZeroAfter starts starts'
  pub door_write_untouched : (d m ef seed metric sequence : ℕ) (rows : List ℕ) (count : ℕ) (snapshot log out : List ℕ) (r : BytesSaid) (after : List ℕ)
      → DoorWriteMeets d m ef seed metric sequence rows count snapshot log out r after → 0 < r.number → after ≡ out
  pub door_write_compacted_untouched : (d m ef seed metric sequence : ℕ) (rows : List ℕ) (count : ℕ) (snapshot log out : List ℕ) (r : BytesSaid) (after : List ℕ)
      → DoorWriteCompactedMeets d m ef seed metric sequence rows count snapshot log out r after → 0 < r.number → after ≡ out
  pub door_encode_frame_untouched : (d m ef seed metric sequence : ℕ) (operations coordinates captions out : List ℕ) (r : BytesSaid) (after : List ℕ)
      → DoorEncodeFrameMeets d m ef seed metric sequence operations coordinates captions out r after → 0 < r.number → after ≡ out
  pub door_encode_batch_untouched : (d m ef seed metric sequence : ℕ) (operations coordinates captions out : List ℕ) (r : BytesSaid) (after : List ℕ)
      → DoorEncodeBatchMeets d m ef seed metric sequence operations coordinates captions out r after → 0 < r.number → after ≡ out
