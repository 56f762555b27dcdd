-- The C entries of the crate `lambspool`, each told as `OneAnswer` says. `Said` has the number and the values of each answer.
use Rattle.std.specs.Prelude.{ℕ, ◌≡◌, List, length}
use Rattle.std.specs.Int.Bits.{bit_xor}
use Rattle.std.specs.Borrow.{Bor, MutBor}
use Rattle.crc32.specs.Crc.{all_ones, bytes_in, crc_of}
use Rattle.refusal.specs.Refusal.{written_told}
use Rattle.layout.specs.declared.Extent.TheVariants.{Full, Compacted}
use Rattle.layout.specs.declared.Shape.TheVariants.{Single, Batch}
use Rattle.sources.specs.declared.Shown.TheVariants.{Caption, Vector}
use Rattle.meaning.specs.Views.{lookup, view}
use Rattle.meaning.specs.Calls.{read_call, read_tables, recover_call, recover_tables, output_after}
use Rattle.snapshot.specs.Told.{read_told}
use Rattle.recovery.specs.Told.{recovery_answer}
use Rattle.views.specs.Told.{found_told}
use Rattle.graph.specs.Neighbours.{neighbours}
use Rattle.graph.specs.Told.{cache_told, starts_after}
use Rattle.store_log.specs.Told.{frame_told, operation_told}
use Rattle.lambspool.specs.Asked.{frame_asked, operation_asked, cache_asked, write_asked, encode_asked}
use Rattle.listing_text.specs.Listing.{fitted, first_line_call, node_line_call}
use Rattle.lambspool.specs.Lines.{heading, refusal_text}
use Rattle.lambspool.specs.Said.{snapshot_said, store_said, frame_said, operation_said, found_said, part_said, cache_said, neighbours_said, bytes_said}
use Rattle.lambspool.specs.declared.Snapshot.{Snapshot}
use Rattle.lambspool.specs.declared.Store.{Store}
use Rattle.lambspool.specs.declared.Cache.{Cache}
use Rattle.lambspool.specs.declared.Bytes.{Bytes}
use Rattle.lambspool.proofs.lambspool_crc32_start.Reads as CrcStartCall
use Rattle.lambspool.proofs.lambspool_crc32_update.Reads as CrcUpdateCall
use Rattle.lambspool.proofs.lambspool_crc32_finish.Reads as CrcFinishCall
use Rattle.lambspool.proofs.lambspool_crc32_of.Reads as CrcOfCall
use Rattle.lambspool.proofs.lambspool_read_snapshot.Reads as ReadSnapshotCall
use Rattle.lambspool.proofs.lambspool_recover.Reads as RecoverCall
use Rattle.lambspool.proofs.lambspool_frame_at.Reads as FrameAtCall
use Rattle.lambspool.proofs.lambspool_operation_at.Reads as OperationAtCall
use Rattle.lambspool.proofs.lambspool_lookup.Reads as LookupCall
use Rattle.lambspool.proofs.lambspool_caption.Reads as CaptionCall
use Rattle.lambspool.proofs.lambspool_vector.Reads as VectorCall
use Rattle.lambspool.proofs.lambspool_read_cache.Reads as ReadCacheCall
use Rattle.lambspool.proofs.lambspool_neighbours.Reads as NeighboursCall
use Rattle.lambspool.proofs.lambspool_write_snapshot.Reads as WriteCall
use Rattle.lambspool.proofs.lambspool_write_compacted_snapshot.Reads as WriteCompactedCall
use Rattle.lambspool.proofs.lambspool_encode_frame.Reads as EncodeFrameCall
use Rattle.lambspool.proofs.lambspool_encode_batch.Reads as EncodeBatchCall
use Rattle.lambspool.proofs.lambspool_first_line.Reads as FirstLineCall
use Rattle.lambspool.proofs.lambspool_refusal_line.Reads as RefusalLineCall
use Rattle.lambspool.proofs.lambspool_node_line.Reads as NodeLineCall
use Rattle.promises.specs.OneAnswer.{OneEach, OneOfThree, Gives}

-- lambspool_read_snapshot(bytes, rows, active): the answer, the row words and the active entries after
pub record DoorReadSnapshotMeets (bytes rows active : List ℕ) (r : Snapshot) (rows' active' : List ℕ) : Type 0 where
  pub result_is : r ≡ snapshot_said (read_told (read_call rows active bytes))
  pub rows_are : rows' ≡ (read_tables rows active (read_call rows active bytes)).rows
  pub active_is : active' ≡ (read_tables rows active (read_call rows active bytes)).active

-- lambspool_recover(snapshot, log, rows, active): the answer, the row words and the active entries after
pub record DoorRecoverMeets (snapshot log rows active : List ℕ) (r : Store) (rows' active' : List ℕ) : Type 0 where
  pub result_is : r ≡ store_said (recovery_answer log (recover_call rows active snapshot log))
  pub rows_are : rows' ≡ (recover_tables rows active (recover_call rows active snapshot log)).rows
  pub active_is : active' ≡ (recover_tables rows active (recover_call rows active snapshot log)).active

-- lambspool_read_cache(bytes, d, m, ef, seed, metric, crc, sequence, count, starts): the answer, and the starts after
pub record DoorReadCacheMeets (bytes : List ℕ) (d m ef seed metric crc sequence count : ℕ) (starts : List ℕ) (r : Cache) (starts' : List ℕ) : Type 0 where
  pub result_is : r ≡ cache_said (cache_told (cache_asked d m ef seed metric crc sequence count starts bytes))
  pub starts_are : starts' ≡ starts_after (length starts) (cache_asked d m ef seed metric crc sequence count starts bytes)

-- lambspool_write_snapshot(d, m, ef, seed, metric, sequence, rows, count, snapshot, log, out): the answer and the output after
pub record DoorWriteMeets (d m ef seed metric sequence : ℕ) (rows : List ℕ) (count : ℕ) (snapshot log out : List ℕ) (r : Bytes) (after : List ℕ) : Type 0 where
  pub result_is : r ≡ bytes_said (written_told (write_asked Full d m ef seed metric sequence rows count snapshot log out))
  pub output_is : after ≡ output_after out (write_asked Full d m ef seed metric sequence rows count snapshot log out)

-- lambspool_write_compacted_snapshot(d, m, ef, seed, metric, sequence, rows, count, snapshot, log, out): as `lambspool_write_snapshot`
pub record DoorWriteCompactedMeets (d m ef seed metric sequence : ℕ) (rows : List ℕ) (count : ℕ) (snapshot log out : List ℕ) (r : Bytes) (after : List ℕ) : Type 0 where
  pub result_is : r ≡ bytes_said (written_told (write_asked Compacted d m ef seed metric sequence rows count snapshot log out))
  pub output_is : after ≡ output_after out (write_asked Compacted d m ef seed metric sequence rows count snapshot log out)

-- lambspool_encode_frame(d, m, ef, seed, metric, sequence, operations, coordinates, captions, out): the answer and the output after
pub record DoorEncodeFrameMeets (d m ef seed metric sequence : ℕ) (operations coordinates captions out : List ℕ) (r : Bytes) (after : List ℕ) : Type 0 where
  pub result_is : r ≡ bytes_said (written_told (encode_asked Single d m ef seed metric sequence operations coordinates captions out))
  pub output_is : after ≡ output_after out (encode_asked Single d m ef seed metric sequence operations coordinates captions out)

-- lambspool_encode_batch(d, m, ef, seed, metric, sequence, operations, coordinates, captions, out): as `lambspool_encode_frame`
pub record DoorEncodeBatchMeets (d m ef seed metric sequence : ℕ) (operations coordinates captions out : List ℕ) (r : Bytes) (after : List ℕ) : Type 0 where
  pub result_is : r ≡ bytes_said (written_told (encode_asked Batch d m ef seed metric sequence operations coordinates captions out))
  pub output_is : after ≡ output_after out (encode_asked Batch d m ef seed metric sequence operations coordinates captions out)

-- lambspool_first_line(sequence, records, active, replayed, skipped, keep, tail, out): the answer and the output after
pub record DoorFirstLineMeets (sequence records active replayed skipped keep tail : ℕ) (out : List ℕ) (r : Bytes) (after : List ℕ) : Type 0 where
  pub result_is : r ≡ bytes_said (written_told (first_line_call (heading sequence records active replayed skipped keep tail) out))
  pub output_is : after ≡ output_after out (first_line_call (heading sequence records active replayed skipped keep tail) out)

-- lambspool_refusal_line(source, number, at, out): as `lambspool_first_line`
pub record DoorRefusalLineMeets (source number at : ℕ) (out : List ℕ) (r : Bytes) (after : List ℕ) : Type 0 where
  pub result_is : r ≡ bytes_said (written_told (fitted out (refusal_text source number at)))
  pub output_is : after ≡ output_after out (fitted out (refusal_text source number at))

-- lambspool_node_line(snapshot, log, rows, count, node, d, out): as `lambspool_first_line`
pub record DoorNodeLineMeets (snapshot log rows : List ℕ) (count node d : ℕ) (out : List ℕ) (r : Bytes) (after : List ℕ) : Type 0 where
  pub result_is : r ≡ bytes_said (written_told (node_line_call d rows count node snapshot log out))
  pub output_is : after ≡ output_after out (node_line_call d rows count node snapshot log out)

pub record DoorCalls : Type 0 where
  -- lambspool_crc32_start()
  pub door_crc_start_one_answer : (κs : _) → Gives all_ones (λ r. CrcStartCall.Learnt κs tt r tt)
  -- lambspool_crc32_update(crc, bytes)
  pub door_crc_update_one_answer : (κs : _) (crc : ℕ) (bytes : Bor (List ℕ))
      → Gives (bytes_in crc bytes.now) (λ r. CrcUpdateCall.Learnt κs (crc, (bytes, tt)) r (crc, (bytes, tt)))
  -- lambspool_crc32_finish(crc)
  pub door_crc_finish_one_answer : (κs : _) (crc : ℕ) → Gives (bit_xor crc all_ones) (λ r. CrcFinishCall.Learnt κs (crc, tt) r (crc, tt))
  -- lambspool_crc32_of(bytes)
  pub door_crc_of_one_answer : (κs : _) (bytes : Bor (List ℕ)) → Gives (crc_of bytes.now) (λ r. CrcOfCall.Learnt κs (bytes, tt) r (bytes, tt))
  pub door_read_snapshot_contract : (κs : _) (bytes : Bor (List ℕ)) (rows active : MutBor (List ℕ)) (r : Snapshot) (rows' active' : MutBor (List ℕ))
      → ReadSnapshotCall.Learnt κs (bytes, (rows, (active, tt))) r (bytes, (rows', (active', tt)))
      → DoorReadSnapshotMeets bytes.now rows.now active.now r rows'.now active'.now
  pub door_read_snapshot_one_answer : (bytes rows active : List ℕ) → OneOfThree (DoorReadSnapshotMeets bytes rows active)
  pub door_recover_contract : (κs : _) (snapshot log : Bor (List ℕ)) (rows active : MutBor (List ℕ)) (r : Store) (rows' active' : MutBor (List ℕ))
      → RecoverCall.Learnt κs (snapshot, (log, (rows, (active, tt)))) r (snapshot, (log, (rows', (active', tt))))
      → DoorRecoverMeets snapshot.now log.now rows.now active.now r rows'.now active'.now
  pub door_recover_one_answer : (snapshot log rows active : List ℕ) → OneOfThree (DoorRecoverMeets snapshot log rows active)
  -- lambspool_frame_at(d, m, ef, seed, metric, log, previous, at)
  pub door_frame_at_one_answer : (κs : _) (d m ef seed metric : ℕ) (log : Bor (List ℕ)) (previous at : ℕ)
      → Gives (frame_said (frame_told (frame_asked d m ef seed metric log.now previous at)))
      (λ r. FrameAtCall.Learnt κs (d, (m, (ef, (seed, (metric, (log, (previous, (at, tt)))))))) r (d, (m, (ef, (seed, (metric, (log, (previous, (at, tt)))))))))
  -- lambspool_operation_at(d, m, ef, seed, metric, log, kind, end, at)
  pub door_operation_at_one_answer : (κs : _) (d m ef seed metric : ℕ) (log : Bor (List ℕ)) (kind end at : ℕ)
      → Gives (operation_said d (operation_told (operation_asked d m ef seed metric log.now kind end at)))
      (λ r. OperationAtCall.Learnt κs (d, (m, (ef, (seed, (metric, (log, (kind, (end, (at, tt))))))))) r (d, (m, (ef, (seed, (metric, (log, (kind, (end, (at, tt))))))))))
  -- lambspool_lookup(rows, count, id)
  pub door_lookup_one_answer : (κs : _) (rows : Bor (List ℕ)) (count id : ℕ)
      → Gives (found_said (found_told (lookup rows.now count id))) (λ r. LookupCall.Learnt κs (rows, (count, (id, tt))) r (rows, (count, (id, tt))))
  -- lambspool_caption(snapshot, log, rows, count, node, d)
  pub door_caption_one_answer : (κs : _) (snapshot log rows : Bor (List ℕ)) (count node d : ℕ)
      → Gives (part_said ((view Caption d rows.now count node snapshot.now log.now))) (λ r. CaptionCall.Learnt κs (snapshot, (log, (rows, (count, (node, (d, tt)))))) r (snapshot, (log, (rows, (count, (node, (d, tt)))))))
  -- lambspool_vector(snapshot, log, rows, count, node, d)
  pub door_vector_one_answer : (κs : _) (snapshot log rows : Bor (List ℕ)) (count node d : ℕ)
      → Gives (part_said ((view Vector d rows.now count node snapshot.now log.now))) (λ r. VectorCall.Learnt κs (snapshot, (log, (rows, (count, (node, (d, tt)))))) r (snapshot, (log, (rows, (count, (node, (d, tt)))))))
  pub door_read_cache_contract : (κs : _) (bytes : Bor (List ℕ)) (d m ef seed metric crc sequence count : ℕ) (starts : MutBor (List ℕ)) (r : Cache) (starts' : MutBor (List ℕ))
      → ReadCacheCall.Learnt κs (bytes, (d, (m, (ef, (seed, (metric, (crc, (sequence, (count, (starts, tt)))))))))) r
      (bytes, (d, (m, (ef, (seed, (metric, (crc, (sequence, (count, (starts', tt))))))))))
      → DoorReadCacheMeets bytes.now d m ef seed metric crc sequence count starts.now r starts'.now
  pub door_read_cache_one_answer : (bytes : List ℕ) (d m ef seed metric crc sequence count : ℕ) (starts : List ℕ)
      → OneEach (DoorReadCacheMeets bytes d m ef seed metric crc sequence count starts)
  -- lambspool_neighbours(cache, starts, count, node, level)
  pub door_neighbours_one_answer : (κs : _) (cache starts : Bor (List ℕ)) (count node level : ℕ)
      → Gives (neighbours_said (neighbours cache.now starts.now count node level)) (λ r. NeighboursCall.Learnt κs (cache, (starts, (count, (node, (level, tt))))) r (cache, (starts, (count, (node, (level, tt))))))
  pub door_write_contract : (κs : _) (d m ef seed metric sequence : ℕ) (rows : Bor (List ℕ)) (count : ℕ) (snapshot log : Bor (List ℕ)) (out : MutBor (List ℕ)) (r : Bytes) (after : MutBor (List ℕ))
      → WriteCall.Learnt κs (d, (m, (ef, (seed, (metric, (sequence, (rows, (count, (snapshot, (log, (out, tt))))))))))) r
      (d, (m, (ef, (seed, (metric, (sequence, (rows, (count, (snapshot, (log, (after, tt)))))))))))
      → DoorWriteMeets d m ef seed metric sequence rows.now count snapshot.now log.now out.now r after.now
  pub door_write_one_answer : (d m ef seed metric sequence : ℕ) (rows : List ℕ) (count : ℕ) (snapshot log out : List ℕ)
      → OneEach (DoorWriteMeets d m ef seed metric sequence rows count snapshot log out)
  pub door_write_compacted_contract : (κs : _) (d m ef seed metric sequence : ℕ) (rows : Bor (List ℕ)) (count : ℕ) (snapshot log : Bor (List ℕ)) (out : MutBor (List ℕ)) (r : Bytes) (after : MutBor (List ℕ))
      → WriteCompactedCall.Learnt κs (d, (m, (ef, (seed, (metric, (sequence, (rows, (count, (snapshot, (log, (out, tt))))))))))) r
      (d, (m, (ef, (seed, (metric, (sequence, (rows, (count, (snapshot, (log, (after, tt)))))))))))
      → DoorWriteCompactedMeets d m ef seed metric sequence rows.now count snapshot.now log.now out.now r after.now
  pub door_write_compacted_one_answer : (d m ef seed metric sequence : ℕ) (rows : List ℕ) (count : ℕ) (snapshot log out : List ℕ)
      → OneEach (DoorWriteCompactedMeets d m ef seed metric sequence rows count snapshot log out)
  pub door_encode_frame_contract : (κs : _) (d m ef seed metric sequence : ℕ) (operations coordinates captions : Bor (List ℕ)) (out : MutBor (List ℕ)) (r : Bytes) (after : MutBor (List ℕ))
      → EncodeFrameCall.Learnt κs (d, (m, (ef, (seed, (metric, (sequence, (operations, (coordinates, (captions, (out, tt)))))))))) r
      (d, (m, (ef, (seed, (metric, (sequence, (operations, (coordinates, (captions, (after, tt))))))))))
      → DoorEncodeFrameMeets d m ef seed metric sequence operations.now coordinates.now captions.now out.now r after.now
  pub door_encode_frame_one_answer : (d m ef seed metric sequence : ℕ) (operations coordinates captions out : List ℕ)
      → OneEach (DoorEncodeFrameMeets d m ef seed metric sequence operations coordinates captions out)
  pub door_encode_batch_contract : (κs : _) (d m ef seed metric sequence : ℕ) (operations coordinates captions : Bor (List ℕ)) (out : MutBor (List ℕ)) (r : Bytes) (after : MutBor (List ℕ))
      → EncodeBatchCall.Learnt κs (d, (m, (ef, (seed, (metric, (sequence, (operations, (coordinates, (captions, (out, tt)))))))))) r
      (d, (m, (ef, (seed, (metric, (sequence, (operations, (coordinates, (captions, (after, tt))))))))))
      → DoorEncodeBatchMeets d m ef seed metric sequence operations.now coordinates.now captions.now out.now r after.now
  pub door_encode_batch_one_answer : (d m ef seed metric sequence : ℕ) (operations coordinates captions out : List ℕ)
      → OneEach (DoorEncodeBatchMeets d m ef seed metric sequence operations coordinates captions out)
  pub door_first_line_contract : (κs : _) (sequence records active replayed skipped keep tail : ℕ) (out : MutBor (List ℕ)) (r : Bytes) (after : MutBor (List ℕ))
      → FirstLineCall.Learnt κs (sequence, (records, (active, (replayed, (skipped, (keep, (tail, (out, tt)))))))) r
      (sequence, (records, (active, (replayed, (skipped, (keep, (tail, (after, tt))))))))
      → DoorFirstLineMeets sequence records active replayed skipped keep tail out.now r after.now
  pub door_first_line_one_answer : (sequence records active replayed skipped keep tail : ℕ) (out : List ℕ)
      → OneEach (DoorFirstLineMeets sequence records active replayed skipped keep tail out)
  pub door_refusal_line_contract : (κs : _) (source number at : ℕ) (out : MutBor (List ℕ)) (r : Bytes) (after : MutBor (List ℕ))
      → RefusalLineCall.Learnt κs (source, (number, (at, (out, tt)))) r (source, (number, (at, (after, tt)))) → DoorRefusalLineMeets source number at out.now r after.now
  pub door_refusal_line_one_answer : (source number at : ℕ) (out : List ℕ) → OneEach (DoorRefusalLineMeets source number at out)
  pub door_node_line_contract : (κs : _) (snapshot log rows : Bor (List ℕ)) (count node d : ℕ) (out : MutBor (List ℕ)) (r : Bytes) (after : MutBor (List ℕ))
      → NodeLineCall.Learnt κs (snapshot, (log, (rows, (count, (node, (d, (out, tt))))))) r (snapshot, (log, (rows, (count, (node, (d, (after, tt)))))))
      → DoorNodeLineMeets snapshot.now log.now rows.now count node d out.now r after.now
  pub door_node_line_one_answer : (snapshot log rows : List ℕ) (count node d : ℕ) (out : List ℕ) → OneEach (DoorNodeLineMeets snapshot log rows count node d out)
