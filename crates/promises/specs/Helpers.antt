-- The calls between our crates (`// Internal:` in the source), as `Leaves` and `Store` have those that are offered to users. What a
-- helper asks of its caller is not needed for this, `tree::find` apart: whatever it was handed, its contract gives one answer.
-- Ten are not here, since their contracts leave something open, which no call for users shows:
-- `sorting::sort_by_id`: in which order entries of one ID stand
-- `elimination::eliminate`: which bytes, of all that lead to the same register
-- `pieces::behind`, `pieces::ahead`: how many bytes have gone into a sum
-- `links::set_link`, `links::attach`: each word as such; said is what every cell holds, and the rows
-- `tree::mark`, `tree::put`, `tree::begin`: the links in the words; said are the rows, and what the tree finds
-- `replay::apply_frame`: the tree likewise; after a refusal, what the tables hold
use Rattle.refusal.specs.Refusal.{Answer}
use Rattle.std.specs.Prelude.{ℕ, ◌*◌, ◌≡◌, Bool, List, ◌∷◌, ◌++◌, length, take, drop, replicate}
use Rattle.std.specs.Borrow.{Bor, MutBor}
use Rattle.refusal.specs.declared.Refusal.{Refusal}
use Rattle.crc32.specs.Crc.{all_ones, bytes_in, crc_of}
use Rattle.config.specs.declared.Config.{Config}
use Rattle.layout.specs.Layout.{caption_offset, item_length, record_length, frame_head}
use Rattle.fields.specs.Fields.{part, num, bytes}
use Rattle.fields.specs.Placed.{placed}
use Rattle.coordinates.specs.Coordinates.{coordinates_of}
use Rattle.rows.specs.declared.Node.{Node}
use Rattle.rows.specs.declared.Row.{Row}
use Rattle.rows.specs.declared.Operation.{Operation}
use Rattle.rows.specs.Rows.{row_word, operation_word, row_at, set_row, operation_at}
use Rattle.sources.specs.declared.Shown.{Shown}
use Rattle.sources.specs.declared.Part.{Part}
use Rattle.sources.specs.Sources.{bytes_of, start_of, outside, shown_part}
use Rattle.sorting.specs.Sorting.{rising}
use Rattle.meaning.specs.Item.{caption_at, item_at}
use Rattle.meaning.specs.Tables.{rows_in}
use Rattle.meaning.specs.Encoder.{frame_bytes}
use Rattle.meaning.specs.Log.{payload_crc_holds}
use Rattle.active.specs.Active.{activated, left_rows, left_entries}
use Rattle.frames.specs.Envelope.{envelope_at}
use Rattle.meaning.specs.Log as Meant
use Rattle.store_log.specs.Told.{operation_told, frame_told}
use Rattle.links.specs.Links.{plain_word, deleted_word, caption_length, link_in, plain_rows}
use Rattle.pieces.specs.declared.Sum.{Sum}
use Rattle.tree.specs.declared.Tree.{Tree}
use Rattle.tree.specs.declared.Place.{Place}
use Rattle.tree.specs.Grown.{Finds, Grown, cell_of}
use Rattle.crc32.proofs.crc32_with.Reads as Crc32WithCall
use Rattle.crc32.proofs.update.Reads as CrcUpdateCall
use Rattle.layout.proofs.caption_offset.Reads as CaptionOffsetCall
use Rattle.layout.proofs.item_length.Reads as ItemLengthCall
use Rattle.layout.proofs.record_length.Reads as RecordLengthCall
use Rattle.fields.proofs.get_u32.Reads as GetU32Call
use Rattle.fields.proofs.get_u64.Reads as GetU64Call
use Rattle.fields.proofs.put_u8.Reads as PutU8Call
use Rattle.fields.proofs.put_u32.Reads as PutU32Call
use Rattle.fields.proofs.put_u64.Reads as PutU64Call
use Rattle.fields.proofs.copy.Reads as CopyCall
use Rattle.coordinates.proofs.check_coordinates.Reads as CheckCoordinatesCall
use Rattle.rows.proofs.Row.pack.Reads as RowPackCall
use Rattle.rows.proofs.Operation.pack.Reads as OperationPackCall
use Rattle.rows.proofs.row_at.Reads as RowAtCall
use Rattle.rows.proofs.set_row.Reads as SetRowCall
use Rattle.rows.proofs.operation_at.Reads as OperationAtCall
use Rattle.sources.proofs.shown_part.Reads as ShownPartCall
use Rattle.sources.proofs.outside.Reads as OutsideCall
use Rattle.sorting.proofs.is_rising.Reads as IsRisingCall
use Rattle.items.proofs.check_caption.Reads as CheckCaptionCall
use Rattle.items.proofs.check_item.Reads as CheckItemCall
use Rattle.active.proofs.clear.Reads as ClearCall
use Rattle.active.proofs.activate.Reads as ActivateCall
use Rattle.frames.proofs.write_opcode.Reads as WriteOpcodeCall
use Rattle.frames.proofs.write_delete.Reads as WriteDeleteCall
use Rattle.frames.proofs.seal.Reads as SealCall
use Rattle.frames.proofs.read_envelope.Reads as ReadEnvelopeCall
use Rattle.frames.proofs.payload_crc_holds.Reads as PayloadCrcHoldsCall
use Rattle.store_log.proofs.read_operation.Reads as ReadOperationCall
use Rattle.store_log.proofs.stored_operation.Reads as StoredOperationCall
use Rattle.store_log.proofs.read_frame.Reads as ReadFrameCall
use Rattle.links.proofs.plain.Reads as PlainCall
use Rattle.links.proofs.deleted_word.Reads as DeletedWordCall
use Rattle.links.proofs.caption_length.Reads as CaptionLengthCall
use Rattle.links.proofs.link_at.Reads as LinkAtCall
use Rattle.sources.proofs.cut.Reads as CutCall
use Rattle.pieces.proofs.none.Reads as PiecesNoneCall
use Rattle.pieces.proofs.finish.Reads as PiecesFinishCall
use Rattle.tree.proofs.find.Reads as FindCall
use Rattle.tree.proofs.finish.Reads as TreeFinishCall
use Rattle.promises.specs.OneAnswer.{One, OneEach, OneOfThree, OneView, Gives, GivesOk, LentAfter}

-- ---- crc32
pub record Crc32Helpers : Type 0 where
  -- crc32_with(tables, bytes)
  pub crc32_with_one_answer : (κs : _) (tables bytes : Bor (List ℕ))
      → Gives (crc_of bytes.now) (λ r. Crc32WithCall.Learnt κs (tables, (bytes, tt)) r (tables, (bytes, tt)))
  -- update(tables, c, bytes)
  pub crc_update_one_answer : (κs : _) (tables : Bor (List ℕ)) (c : ℕ) (bytes : Bor (List ℕ))
      → Gives (bytes_in c bytes.now) (λ r. CrcUpdateCall.Learnt κs (tables, (c, (bytes, tt))) r (tables, (c, (bytes, tt))))

-- ---- layout
pub record LayoutHelpers : Type 0 where
  -- caption_offset(d)
  pub caption_offset_one_answer : (κs : _) (d : ℕ) → Gives (caption_offset d) (λ r. CaptionOffsetCall.Learnt κs (d, tt) r (d, tt))
  -- item_length(d, count)
  pub item_length_one_answer : (κs : _) (d count : ℕ) → Gives (item_length d count) (λ r. ItemLengthCall.Learnt κs (d, (count, tt)) r (d, (count, tt)))
  -- record_length(d, count)
  pub record_length_one_answer : (κs : _) (d count : ℕ)
      → Gives (record_length d count) (λ r. RecordLengthCall.Learnt κs (d, (count, tt)) r (d, (count, tt)))

-- ---- fields
pub record FieldsHelpers : Type 0 where
  -- get_u32(bytes, at)
  pub get_u32_one_answer : (κs : _) (bytes : Bor (List ℕ)) (at : ℕ)
      → Gives (num bytes.now at 4) (λ r. GetU32Call.Learnt κs (bytes, (at, tt)) r (bytes, (at, tt)))
  -- get_u64(bytes, at)
  pub get_u64_one_answer : (κs : _) (bytes : Bor (List ℕ)) (at : ℕ)
      → Gives (num bytes.now at 8) (λ r. GetU64Call.Learnt κs (bytes, (at, tt)) r (bytes, (at, tt)))
  -- put_u8(out, at, v)
  pub put_u8_one_answer : (κs : _) (out : MutBor (List ℕ)) (at v : ℕ)
      → LentAfter (placed at (bytes 1 v) out.now) (λ after. PutU8Call.Learnt κs (out, (at, (v, tt))) tt (after, (at, (v, tt))))
  -- put_u32(out, at, v)
  pub put_u32_one_answer : (κs : _) (out : MutBor (List ℕ)) (at v : ℕ)
      → LentAfter (placed at (bytes 4 v) out.now) (λ after. PutU32Call.Learnt κs (out, (at, (v, tt))) tt (after, (at, (v, tt))))
  -- put_u64(out, at, v)
  pub put_u64_one_answer : (κs : _) (out : MutBor (List ℕ)) (at v : ℕ)
      → LentAfter (placed at (bytes 8 v) out.now) (λ after. PutU64Call.Learnt κs (out, (at, (v, tt))) tt (after, (at, (v, tt))))
  -- copy(out, source)
  pub copy_one_answer : (κs : _) (out : MutBor (List ℕ)) (source : Bor (List ℕ))
      → LentAfter (placed 0 source.now out.now) (λ after. CopyCall.Learnt κs (out, (source, tt)) tt (after, (source, tt)))

-- ---- coordinates
pub record CoordinatesHelpers : Type 0 where
  -- check_coordinates(bytes, at, d, cosine)
  pub check_coordinates_one_answer : (κs : _) (bytes : Bor (List ℕ)) (at d : ℕ) (cosine : Bool)
      → Gives ((coordinates_of cosine d (part bytes.now at (4 * d)))) (λ r. CheckCoordinatesCall.Learnt κs (bytes, (at, (d, (cosine, tt)))) r (bytes, (at, (d, (cosine, tt)))))

-- ---- rows
pub record RowsHelpers : Type 0 where
  -- Row::pack(self)
  pub row_pack_one_answer : (κs : _) (self : Row) → Gives (row_word self) (λ r. RowPackCall.Learnt κs (self, tt) r (self, tt))
  -- Operation::pack(self)
  pub operation_pack_one_answer : (κs : _) (self : Operation) → Gives (operation_word self) (λ r. OperationPackCall.Learnt κs (self, tt) r (self, tt))
  -- row_at(rows, node)
  pub row_at_one_answer : (κs : _) (rows : Bor (List ℕ)) (node : Node)
      → Gives (row_at rows.now node.0) (λ r. RowAtCall.Learnt κs (rows, (node, tt)) r (rows, (node, tt)))
  -- set_row(rows, node, row)
  pub set_row_one_answer : (κs : _) (rows : MutBor (List ℕ)) (node : Node) (row : Row)
      → LentAfter (set_row rows.now node.0 row) (λ after. SetRowCall.Learnt κs (rows, (node, (row, tt))) tt (after, (node, (row, tt))))
  -- operation_at(words, i)
  pub operation_at_one_answer : (κs : _) (words : Bor (List ℕ)) (i : ℕ)
      → Gives (operation_at words.now i) (λ r. OperationAtCall.Learnt κs (words, (i, tt)) r (words, (i, tt)))

-- ---- sources
-- cut(snapshot, log, part): the bytes of the part, and the place of the first
pub record CutMeets (snapshot log : Bor (List ℕ)) (place : Part) (r : Bor (List ℕ)) : Type 0 where
  pub bytes_are : r.now ≡ bytes_of snapshot.now log.now place
  pub start_is : r.ref_ptr ≡ start_of snapshot.ref_ptr log.ref_ptr place

pub record SourcesHelpers : Type 0 where
  -- shown_part(shown, d, row)
  pub shown_part_one_answer : (κs : _) (shown : Shown) (d : ℕ) (row : Row)
      → Gives (shown_part shown d row) (λ r. ShownPartCall.Learnt κs (shown, (d, (row, tt))) r (shown, (d, (row, tt))))
  -- outside(snapshot, log, part)
  pub outside_one_answer : (κs : _) (snapshot log : Bor (List ℕ)) (place : Part)
      → Gives (outside snapshot.now log.now place) (λ r. OutsideCall.Learnt κs (snapshot, (log, (place, tt))) r (snapshot, (log, (place, tt))))
  pub cut_contract : (κs : _) (snapshot log : Bor (List ℕ)) (place : Part) (r : Bor (List ℕ))
      → CutCall.Learnt κs (snapshot, (log, (place, tt))) r (snapshot, (log, (place, tt))) → CutMeets snapshot log place r
  pub cut_one_answer : (snapshot log : Bor (List ℕ)) (place : Part) → OneView (CutMeets snapshot log place)

-- ---- sorting
pub record SortingHelpers : Type 0 where
  -- is_rising(rows, active, n)
  pub is_rising_one_answer : (κs : _) (rows active : Bor (List ℕ)) (count : ℕ)
      → Gives (rising rows.now (take count active.now)) (λ r. IsRisingCall.Learnt κs (rows, (active, (count, tt))) r (rows, (active, (count, tt))))

-- ---- items
pub record ItemsHelpers : Type 0 where
  -- check_caption(config, bytes, end, at)
  pub check_caption_one_answer : (κs : _) (config : Config) (bytes : Bor (List ℕ)) (end at : ℕ)
      → Gives ((caption_at config bytes.now end at)) (λ r. CheckCaptionCall.Learnt κs (config, (bytes, (end, (at, tt)))) r (config, (bytes, (end, (at, tt)))))
  -- check_item(short, config, bytes, end, at)
  pub check_item_one_answer : (κs : _) (short : Refusal) (config : Config) (bytes : Bor (List ℕ)) (end at : ℕ)
      → Gives ((item_at short config bytes.now end at)) (λ r. CheckItemCall.Learnt κs (short, (config, (bytes, (end, (at, tt))))) r (short, (config, (bytes, (end, (at, tt))))))

-- ---- active
-- clear(rows, entries): both tables, after
pub record ClearMeets (rows entries rows' entries' : List ℕ) : Type 0 where
  pub rows_are : rows' ≡ replicate (length rows) 0
  pub entries_are : entries' ≡ replicate (length entries) 0

-- activate(rows, count, entries): the answer and both tables, after
pub record ActivateMeets (rows : List ℕ) (count : ℕ) (entries : List ℕ) (r : Answer ℕ) (rows' entries' : List ℕ) : Type 0 where
  pub result_is : r ≡ (activated (rows_in count rows))
  pub rows_are : rows' ≡ left_rows count rows
  pub entries_are : entries' ≡ left_entries count rows entries

pub record ActiveHelpers : Type 0 where
  pub clear_contract : (κs : _) (rows entries rows' entries' : MutBor (List ℕ)) → ClearCall.Learnt κs (rows, (entries, tt)) tt (rows', (entries', tt))
      → ClearMeets rows.now entries.now rows'.now entries'.now
  pub clear_one_answer : (rows entries : List ℕ) → OneEach (ClearMeets rows entries)
  pub activate_contract : (κs : _) (rows : MutBor (List ℕ)) (count : ℕ) (entries : MutBor (List ℕ)) (r : Answer ℕ) (rows' entries' : MutBor (List ℕ))
      → ActivateCall.Learnt κs (rows, (count, (entries, tt))) r (rows', (count, (entries', tt)))
      → ActivateMeets rows.now count entries.now r rows'.now entries'.now
  pub activate_one_answer : (rows : List ℕ) (count : ℕ) (entries : List ℕ) → OneOfThree (ActivateMeets rows count entries)

-- ---- frames
pub record FramesHelpers : Type 0 where
  -- write_opcode(out, opcode, sequence)
  pub write_opcode_one_answer : (κs : _) (out : MutBor (List ℕ)) (opcode sequence : ℕ)
      → LentAfter (placed 0 (opcode ∷ bytes 8 sequence) out.now) (λ after. WriteOpcodeCall.Learnt κs (out, (opcode, (sequence, tt))) tt (after, (opcode, (sequence, tt))))
  -- write_delete(out, sequence, id)
  pub write_delete_one_answer : (κs : _) (out : MutBor (List ℕ)) (sequence id : ℕ)
      → LentAfter (placed 0 (2 ∷ (bytes 8 sequence ++ bytes 8 id)) out.now) (λ after. WriteDeleteCall.Learnt κs (out, (sequence, (id, tt))) tt (after, (sequence, (id, tt))))
  -- seal(out, count)
  pub seal_one_answer : (κs : _) (out : MutBor (List ℕ)) (count : ℕ)
      → LentAfter (placed 0 (frame_bytes (part out.now frame_head count)) out.now) (λ after. SealCall.Learnt κs (out, (count, tt)) tt (after, (count, tt)))
  -- read_envelope(log, at)
  pub read_envelope_one_answer : (κs : _) (log : Bor (List ℕ)) (at : ℕ)
      → Gives (envelope_at log.now at) (λ r. ReadEnvelopeCall.Learnt κs (log, (at, tt)) r (log, (at, tt)))
  -- payload_crc_holds(tables, log, at, count)
  pub payload_crc_holds_one_answer : (κs : _) (tables log : Bor (List ℕ)) (at count : ℕ)
      → Gives (payload_crc_holds log.now at count) (λ r. PayloadCrcHoldsCall.Learnt κs (tables, (log, (at, (count, tt)))) r (tables, (log, (at, (count, tt)))))

-- ---- log
pub record LogHelpers : Type 0 where
  -- read_operation(config, log, end, tag, at)
  pub read_operation_one_answer : (κs : _) (config : Config) (log : Bor (List ℕ)) (end tag at : ℕ)
      → Gives (operation_told (Meant.operation_at config log.now end tag at)) (λ r. ReadOperationCall.Learnt κs (config, (log, (end, (tag, (at, tt))))) r (config, (log, (end, (tag, (at, tt))))))
  -- stored_operation(config, log, end, tag, at)
  pub stored_operation_one_answer : (κs : _) (config : Config) (log : Bor (List ℕ)) (end tag at : ℕ)
      → GivesOk (operation_told (Meant.operation_at config log.now end tag at)) (λ r. StoredOperationCall.Learnt κs (config, (log, (end, (tag, (at, tt))))) r (config, (log, (end, (tag, (at, tt))))))
  -- read_frame(tables, config, log, previous, at)
  pub read_frame_one_answer : (κs : _) (tables : Bor (List ℕ)) (config : Config) (log : Bor (List ℕ)) (previous at : ℕ)
      → Gives (frame_told (Meant.frame_at config log.now previous at)) (λ r. ReadFrameCall.Learnt κs (tables, (config, (log, (previous, (at, tt))))) r (tables, (config, (log, (previous, (at, tt))))))

-- ---- links
pub record LinksHelpers : Type 0 where
  -- plain(word)
  pub plain_one_answer : (κs : _) (word : ℕ) → Gives (plain_word word) (λ r. PlainCall.Learnt κs (word, tt) r (word, tt))
  -- deleted_word(word)
  pub deleted_word_one_answer : (κs : _) (word : ℕ) → Gives (deleted_word word) (λ r. DeletedWordCall.Learnt κs (word, tt) r (word, tt))
  -- caption_length(word)
  pub caption_length_one_answer : (κs : _) (word : ℕ) → Gives (caption_length word) (λ r. CaptionLengthCall.Learnt κs (word, tt) r (word, tt))
  -- link_at(words, entries, root, cell)
  pub link_at_one_answer : (κs : _) (words entries : Bor (List ℕ)) (root cell : ℕ)
      → Gives (link_in root words.now entries.now cell) (λ r. LinkAtCall.Learnt κs (words, (entries, (root, (cell, tt)))) r (words, (entries, (root, (cell, tt)))))

-- ---- pieces
pub record PiecesHelpers : Type 0 where
  -- none()
  pub pieces_none_one_answer : (κs : _) → Gives (record { register = all_ones; upto = 0 }) (λ r. PiecesNoneCall.Learnt κs tt r tt)
  -- finish(sum, bytes, end)
  pub pieces_finish_one_answer : (κs : _) (sum : Sum) (bytes : Bor (List ℕ)) (end : ℕ)
      → Gives (crc_of (take end bytes.now)) (λ r. PiecesFinishCall.Learnt κs (sum, (bytes, (end, tt))) r (sum, (bytes, (end, tt))))

-- ---- tree
-- find(words, entries, tree, id): the link of the ID's live row, and the cell where its way ends
pub record FindMeets (words entries : List ℕ) (tree : Tree) (id : ℕ) (r : Place) : Type 0 where
  pub finds : Finds (plain_rows words) tree.count id r.link
  pub cell_is : r.cell ≡ cell_of tree words entries id

pub record TreeHelpers : Type 0 where
  pub tree_find_contract : (κs : _) (words entries : Bor (List ℕ)) (tree : Tree) (id : ℕ) (r : Place)
      → FindCall.Learnt κs (words, (entries, (tree, (id, tt)))) r (words, (entries, (tree, (id, tt)))) → FindMeets words.now entries.now tree id r
  -- no ID is live twice in a tree, which is what the call asks
  pub tree_find_one_answer : (words entries : List ℕ) (tree : Tree) (id : ℕ) → Grown tree words entries → One (FindMeets words entries tree id)
  -- finish(words, tree)
  pub tree_finish_one_answer : (κs : _) (words : MutBor (List ℕ)) (tree : Tree)
      → LentAfter (take (2 * tree.count) (plain_rows words.now) ++ drop (2 * tree.count) words.now) (λ after. TreeFinishCall.Learnt κs (words, (tree, tt)) tt (after, (tree, tt)))
