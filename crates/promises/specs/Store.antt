-- The store's calls, each told as `OneAnswer` says: reading a snapshot, lookup and views, the two writers, the two encoders, a frame of a
-- log. A view is a slice: its bytes, and the place of the first (`ref_ptr`).
use Rattle.store_log.specs.declared.Frame.{Frame}
use Rattle.snapshot.specs.declared.SnapshotInfo.{SnapshotInfo}
use Rattle.std.specs.Prelude.{ℕ, ◌≡◌, List, Option}
use Rattle.std.specs.Borrow.{Bor, MutBor}
use Rattle.refusal.specs.Refusal.{number_told, written_told, Answer}
use Rattle.config.specs.declared.Config.{Config}
use Rattle.layout.specs.declared.Extent.TheVariants.{Full, Compacted}
use Rattle.layout.specs.declared.Shape.{Shape}
use Rattle.layout.specs.declared.Shape.TheVariants.{Single, Batch}
use Rattle.rows.specs.declared.Node.{Node}
use Rattle.rows.specs.declared.Id.{Id}
use Rattle.sources.specs.declared.Shown.{Shown}
use Rattle.sources.specs.declared.Shown.TheVariants.{Caption, Vector}
use Rattle.sources.specs.Sources.{bytes_of, start_of}
use Rattle.meaning.specs.Snapshot.{read_header}
use Rattle.meaning.specs.Views.{lookup, view, given}
use Rattle.meaning.specs.Calls.{read_call, read_tables, write_call, encode_call, frame_call, operation_call, output_after}
use Rattle.snapshot.specs.Told.{header_told, read_told}
use Rattle.views.specs.Told.{found_told}
use Rattle.store_log.specs.Told.{frame_told, operation_told}
use Rattle.snapshot.proofs.read_header.Reads as ReadHeaderCall
use Rattle.snapshot.proofs.read_snapshot.Reads as ReadSnapshotCall
use Rattle.views.proofs.lookup.Reads as LookupCall
use Rattle.views.proofs.caption_number.Reads as CaptionNumberCall
use Rattle.views.proofs.vector_number.Reads as VectorNumberCall
use Rattle.writer.proofs.write_snapshot.Reads as WriteCall
use Rattle.writer.proofs.write_compacted_snapshot.Reads as WriteCompactedCall
use Rattle.encoder.proofs.encode_frame.Reads as EncodeFrameCall
use Rattle.encoder.proofs.encode_batch.Reads as EncodeBatchCall
use Rattle.store_log.proofs.frame_at.Reads as FrameAtCall
use Rattle.store_log.proofs.operation_at.Reads as OperationAtCall
use Rattle.views.proofs.view.Reads as ViewCall
use Rattle.views.proofs.caption_view.Reads as CaptionViewCall
use Rattle.views.proofs.vector_view.Reads as VectorViewCall
use Rattle.promises.specs.OneAnswer.{One, OneEach, OneOfThree, OneView, Gives}

-- ---- snapshot
-- read_snapshot(bytes, rows, active): the answer, the row words and the active entries after
pub record ReadSnapshotMeets (bytes rows active : List ℕ) (r : Answer SnapshotInfo) (rows' active' : List ℕ) : Type 0 where
  pub result_is : r ≡ read_told (read_call rows active bytes)
  pub rows_are : rows' ≡ (read_tables rows active (read_call rows active bytes)).rows
  pub active_is : active' ≡ (read_tables rows active (read_call rows active bytes)).active

pub record SnapshotCalls : Type 0 where
  -- read_header(bytes)
  pub read_header_one_answer : (κs : _) (bytes : Bor (List ℕ))
      → Gives (header_told (read_header bytes.now)) (λ r. ReadHeaderCall.Learnt κs (bytes, tt) r (bytes, tt))
  pub read_snapshot_contract : (κs : _) (bytes : Bor (List ℕ)) (rows active : MutBor (List ℕ)) (r : Answer SnapshotInfo) (rows' active' : MutBor (List ℕ))
      → ReadSnapshotCall.Learnt κs (bytes, (rows, (active, tt))) r (bytes, (rows', (active', tt)))
      → ReadSnapshotMeets bytes.now rows.now active.now r rows'.now active'.now
  pub read_snapshot_one_answer : (bytes rows active : List ℕ) → OneOfThree (ReadSnapshotMeets bytes rows active)

-- ---- views
-- lookup(rows, count, id)
pub record LookupMeets (rows : List ℕ) (count : ℕ) (id : Id) (r : Answer (Option Node)) : Type 0 where
  pub result_is : r ≡ found_told (lookup rows count id.0)

-- caption_view(snapshot, log, rows, count, node, d): the bytes of the part, and the place of the first
pub record CaptionViewMeets (snapshot log : Bor (List ℕ)) (rows : List ℕ) (count : ℕ) (node : Node) (d : ℕ) (r : Bor (List ℕ)) : Type 0 where
  pub bytes_are : r.now ≡ bytes_of snapshot.now log.now (given (view Caption d rows count node.0 snapshot.now log.now))
  pub start_is : r.ref_ptr ≡ start_of snapshot.ref_ptr log.ref_ptr (given (view Caption d rows count node.0 snapshot.now log.now))

-- vector_view(snapshot, log, rows, count, node, d): the bytes of the part, and the place of the first
pub record VectorViewMeets (snapshot log : Bor (List ℕ)) (rows : List ℕ) (count : ℕ) (node : Node) (d : ℕ) (r : Bor (List ℕ)) : Type 0 where
  pub bytes_are : r.now ≡ bytes_of snapshot.now log.now (given (view Vector d rows count node.0 snapshot.now log.now))
  pub start_is : r.ref_ptr ≡ start_of snapshot.ref_ptr log.ref_ptr (given (view Vector d rows count node.0 snapshot.now log.now))

pub record ViewsCalls : Type 0 where
  pub lookup_contract : (κs : _) (rows : Bor (List ℕ)) (count : ℕ) (id : Id) (r : Answer (Option Node))
      → LookupCall.Learnt κs (rows, (count, (id, tt))) r (rows, (count, (id, tt))) → LookupMeets rows.now count id r
  pub lookup_one_answer : (rows : List ℕ) (count : ℕ) (id : Id) → One (LookupMeets rows count id)
  -- view(shown, snapshot, log, rows, count, node, d)
  pub view_one_answer : (κs : _) (shown : Shown) (snapshot log rows : Bor (List ℕ)) (count : ℕ) (node : Node) (d : ℕ)
      → Gives ((view shown d rows.now count node.0 snapshot.now log.now)) (λ r. ViewCall.Learnt κs (shown, (snapshot, (log, (rows, (count, (node, (d, tt))))))) r (shown, (snapshot, (log, (rows, (count, (node, (d, tt))))))))
  -- caption_number(snapshot, log, rows, count, node, d)
  pub caption_number_one_answer : (κs : _) (snapshot log rows : Bor (List ℕ)) (count : ℕ) (node : Node) (d : ℕ)
      → Gives (number_told (view Caption d rows.now count node.0 snapshot.now log.now)) (λ r. CaptionNumberCall.Learnt κs (snapshot, (log, (rows, (count, (node, (d, tt)))))) r (snapshot, (log, (rows, (count, (node, (d, tt)))))))
  -- vector_number(snapshot, log, rows, count, node, d)
  pub vector_number_one_answer : (κs : _) (snapshot log rows : Bor (List ℕ)) (count : ℕ) (node : Node) (d : ℕ)
      → Gives (number_told (view Vector d rows.now count node.0 snapshot.now log.now)) (λ r. VectorNumberCall.Learnt κs (snapshot, (log, (rows, (count, (node, (d, tt)))))) r (snapshot, (log, (rows, (count, (node, (d, tt)))))))
  pub caption_view_contract : (κs : _) (snapshot log rows : Bor (List ℕ)) (count : ℕ) (node : Node) (d : ℕ) (r : Bor (List ℕ))
      → CaptionViewCall.Learnt κs (snapshot, (log, (rows, (count, (node, (d, tt)))))) r (snapshot, (log, (rows, (count, (node, (d, tt))))))
      → CaptionViewMeets snapshot log rows.now count node d r
  pub caption_view_one_answer : (snapshot log : Bor (List ℕ)) (rows : List ℕ) (count : ℕ) (node : Node) (d : ℕ)
      → OneView (CaptionViewMeets snapshot log rows count node d)
  pub vector_view_contract : (κs : _) (snapshot log rows : Bor (List ℕ)) (count : ℕ) (node : Node) (d : ℕ) (r : Bor (List ℕ))
      → VectorViewCall.Learnt κs (snapshot, (log, (rows, (count, (node, (d, tt)))))) r (snapshot, (log, (rows, (count, (node, (d, tt))))))
      → VectorViewMeets snapshot log rows.now count node d r
  pub vector_view_one_answer : (snapshot log : Bor (List ℕ)) (rows : List ℕ) (count : ℕ) (node : Node) (d : ℕ)
      → OneView (VectorViewMeets snapshot log rows count node d)

-- ---- writer
-- write_snapshot(config, sequence, rows, count, snapshot, log, out): the answer and the output after
pub record WriteMeets (config : Config) (sequence : ℕ) (rows : List ℕ) (count : ℕ) (snapshot log out : List ℕ) (r : Answer ℕ) (after : List ℕ) : Type 0 where
  pub result_is : r ≡ written_told (write_call Full config sequence rows count snapshot log out)
  pub output_is : after ≡ output_after out (write_call Full config sequence rows count snapshot log out)

-- write_compacted_snapshot(config, sequence, rows, count, snapshot, log, out): as `write_snapshot`
pub record WriteCompactedMeets (config : Config) (sequence : ℕ) (rows : List ℕ) (count : ℕ) (snapshot log out : List ℕ) (r : Answer ℕ) (after : List ℕ) : Type 0 where
  pub result_is : r ≡ written_told (write_call Compacted config sequence rows count snapshot log out)
  pub output_is : after ≡ output_after out (write_call Compacted config sequence rows count snapshot log out)

pub record WriterCalls : Type 0 where
  pub write_contract : (κs : _) (config : Config) (sequence : ℕ) (rows : Bor (List ℕ)) (count : ℕ) (snapshot log : Bor (List ℕ)) (out : MutBor (List ℕ)) (r : Answer ℕ) (after : MutBor (List ℕ))
      → WriteCall.Learnt κs (config, (sequence, (rows, (count, (snapshot, (log, (out, tt))))))) r (config, (sequence, (rows, (count, (snapshot, (log, (after, tt)))))))
      → WriteMeets config sequence rows.now count snapshot.now log.now out.now r after.now
  pub write_one_answer : (config : Config) (sequence : ℕ) (rows : List ℕ) (count : ℕ) (snapshot log out : List ℕ)
      → OneEach (WriteMeets config sequence rows count snapshot log out)
  pub write_compacted_contract : (κs : _) (config : Config) (sequence : ℕ) (rows : Bor (List ℕ)) (count : ℕ) (snapshot log : Bor (List ℕ)) (out : MutBor (List ℕ)) (r : Answer ℕ) (after : MutBor (List ℕ))
      → WriteCompactedCall.Learnt κs (config, (sequence, (rows, (count, (snapshot, (log, (out, tt))))))) r (config, (sequence, (rows, (count, (snapshot, (log, (after, tt)))))))
      → WriteCompactedMeets config sequence rows.now count snapshot.now log.now out.now r after.now
  pub write_compacted_one_answer : (config : Config) (sequence : ℕ) (rows : List ℕ) (count : ℕ) (snapshot log out : List ℕ)
      → OneEach (WriteCompactedMeets config sequence rows count snapshot log out)

-- ---- encoder
-- encode_frame(config, sequence, operations, coordinates, captions, out): the answer and the output after
pub record EncodeFrameMeets (config : Config) (sequence : ℕ) (operations coordinates captions out : List ℕ) (r : Answer ℕ) (after : List ℕ) : Type 0 where
  pub result_is : r ≡ written_told (encode_call Single config sequence operations coordinates captions out)
  pub output_is : after ≡ output_after out (encode_call Single config sequence operations coordinates captions out)

-- encode_batch(config, sequence, operations, coordinates, captions, out): as `encode_frame`
pub record EncodeBatchMeets (config : Config) (sequence : ℕ) (operations coordinates captions out : List ℕ) (r : Answer ℕ) (after : List ℕ) : Type 0 where
  pub result_is : r ≡ written_told (encode_call Batch config sequence operations coordinates captions out)
  pub output_is : after ≡ output_after out (encode_call Batch config sequence operations coordinates captions out)

pub record EncoderCalls : Type 0 where
  pub encode_frame_contract : (κs : _) (config : Config) (sequence : ℕ) (operations coordinates captions : Bor (List ℕ)) (out : MutBor (List ℕ)) (r : Answer ℕ) (after : MutBor (List ℕ))
      → EncodeFrameCall.Learnt κs (config, (sequence, (operations, (coordinates, (captions, (out, tt)))))) r (config, (sequence, (operations, (coordinates, (captions, (after, tt))))))
      → EncodeFrameMeets config sequence operations.now coordinates.now captions.now out.now r after.now
  pub encode_frame_one_answer : (config : Config) (sequence : ℕ) (operations coordinates captions out : List ℕ)
      → OneEach (EncodeFrameMeets config sequence operations coordinates captions out)
  pub encode_batch_contract : (κs : _) (config : Config) (sequence : ℕ) (operations coordinates captions : Bor (List ℕ)) (out : MutBor (List ℕ)) (r : Answer ℕ) (after : MutBor (List ℕ))
      → EncodeBatchCall.Learnt κs (config, (sequence, (operations, (coordinates, (captions, (out, tt)))))) r (config, (sequence, (operations, (coordinates, (captions, (after, tt))))))
      → EncodeBatchMeets config sequence operations.now coordinates.now captions.now out.now r after.now
  pub encode_batch_one_answer : (config : Config) (sequence : ℕ) (operations coordinates captions out : List ℕ)
      → OneEach (EncodeBatchMeets config sequence operations coordinates captions out)

-- ---- log
-- frame_at(config, log, previous, at)
pub record FrameAtMeets (config : Config) (log : List ℕ) (previous at : ℕ) (r : Answer (Option Frame)) : Type 0 where
  pub result_is : r ≡ frame_told (frame_call config log previous at)

pub record LogCalls : Type 0 where
  pub frame_at_contract : (κs : _) (config : Config) (log : Bor (List ℕ)) (previous at : ℕ) (r : Answer (Option Frame))
      → FrameAtCall.Learnt κs (config, (log, (previous, (at, tt)))) r (config, (log, (previous, (at, tt)))) → FrameAtMeets config log.now previous at r
  pub frame_at_one_answer : (config : Config) (log : List ℕ) (previous at : ℕ) → One (FrameAtMeets config log previous at)
  -- operation_at(config, log, shape, end, at)
  pub log_operation_at_one_answer : (κs : _) (config : Config) (log : Bor (List ℕ)) (shape : Shape) (end at : ℕ)
      → Gives (operation_told (operation_call config log.now shape end at)) (λ r. OperationAtCall.Learnt κs (config, (log, (shape, (end, (at, tt))))) r (config, (log, (shape, (end, (at, tt))))))
