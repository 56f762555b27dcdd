-- A frame that is read is the layout of what its rows show: each operation, a batch's operations, the payload, the frame.
use Rattle.std.specs.Prelude.{Ok}
use Prim.Native.Nat.{ℕ, zero, suc, ◌+◌, ◌*◌, ◌-◌, ◌%◌, ◌≤◌, ◌<◌, ◌^◌}
use mathlib.Core.Path.{◌≡◌, refl, sym, ap, ap₂, subst, ◌∙◌}
use mathlib.Core.Bool.{Bool, true, false, cond}
use mathlib.Core.List.{List, [], ◌∷◌, ◌++◌, map}
use native.Mathlib.Omega.{arith}
use lib.ListN.{length, drop, take-append-drop}
use lib.Dec.{eqb}
use Rattle.crc32.specs.Crc.{crc_of}
use Rattle.fields.specs.Fields.{part, num, bytes, Bytes}
use Rattle.fields.proofs.Parts.{length_part}
use Rattle.fields.proofs.Numbers.{num_lt, bytes_num}
use Rattle.config.specs.Limits.{min_frame, max_frame}
use Rattle.config.specs.declared.Config.{Config}
use Rattle.layout.specs.Layout.{caption_offset, frame_length}
use Rattle.layout.specs.declared.Shape.{Shape}
use Rattle.layout.specs.declared.Shape.TheVariants.{Single, Batch}
use Rattle.rows.specs.declared.Row.{Row}
use Rattle.meaning.specs.Every.{Every}
use Rattle.meaning.specs.Replay.{Operation, put, remove, Frame}
use Rattle.meaning.specs.Records.{Record, seen}
use Rattle.meaning.specs.Log.{ReadOperation, ReadOperations, put_row, operation_at, operations_at, shape_of, operations_of, found, frame_at}
use Rattle.meaning.specs.Encoder.{tagged_bytes, frame_bytes}
use Rattle.meaning.proofs.ItemRead.{ItemHere}
use Rattle.meaning.proofs.OperationRead.{OperationHere, put_here, remove_here, operation_read_lem, operations_none, operations_read_lem, batch_read, single_read}
use Rattle.meaning.proofs.FrameRead.{payload_read, length_read, frame_read_lem, FrameBounds, frame_bounds, found_frame, found_next}
use Rattle.theorems.specs.FrameRows.{carry_operation, tag_of, fields_of, CountHolds, payload_of, frame_of, frame_in}
use Rattle.theorems.specs.LogLaidOut.{OperationFits, FrameFits, FrameLaidOut, frame_shown}
use Rattle.theorems.proofs.Here.{parts_joined}
use Rattle.theorems.proofs.RecordBack.{readable_of_fit}
use Rattle.theorems.proofs.LogFit.{put_logged}
use Rattle.theorems.proofs.OperationBack.{Loggable, tagged}
use Rattle.theorems.proofs.FrameBack.{opcode_of, behind_sequence, payload_is, Framed, frame_found}
use Rattle.meaning.proofs.EveryLaws.{every_map}
use borrow.Author.Tests.{eqb-true}

-- ---- one byte
byte_raw : (s : List ℕ) (at : ℕ) → Bytes s → at + 1 ≤ length s → num s at 1 ∷ [] ≡ part s at 1
unfolding bytes
byte_raw s at b h =
    let small : num s at 1 < 256 ^ 1 = num_lt s at 1 b in
    let e : num s at 1 ≡ num s at 1 % 256 = omega arith in
    ap (λ (x : ℕ). x ∷ []) e ∙ bytes_num s at 1 b h

-- ---- a frame that fits is framed
logged : (c : Config) (o : Operation Record) → OperationFits c o → Loggable c o
logged c (put r) k = (readable_of_fit c r k.0, k.1)
logged c (remove id) k = k

pub framed : (c : Config) (f : Frame Record) → FrameFits c f → Framed c f.shape f.sequence f.operations
framed c f k =
    record {
      positive = k.sequence_some;
      sequence_fits = k.sequence_fits;
      count = k.count_holds;
      loggable = every_map (OperationFits c) (Loggable c) (logged c) f.operations k.operations_fit;
      short = k.payload_most;
    }

-- ---- what the rows of a log show; they lie in the log, so that any snapshot will do
module _ (c : Config) (snapshot log : List ℕ) (b : Bytes log) where
  abbrev d : ℕ
  d = c.dimensions

  abbrev shown : Operation Row → Operation Record
  shown = carry_operation (seen c.dimensions snapshot log)

  -- an operation with its ID at `at`: its tag, its fields, what a reader accepts
  record RawOperation (end tag at : ℕ) (o : ReadOperation) : Type 0 where
    size : ℕ
    next_is : o.next ≡ at + size
    inside : at + size ≤ end
    tag_is : tag_of (shown o.operation) ≡ tag
    fields_are : fields_of (shown o.operation) ≡ part log at size
    fits : OperationFits c (shown o.operation)

  raw_put : (end at n : ℕ) → end ≤ length log → ItemHere c log end (at + 8) n → RawOperation end 1 at (put_row c log at n)
  raw_put end at n h i =
      let inside = i.inside in
      let n_is : n ≡ num log (at + 8 + 4 * d) 4 = i.caption_is in
      let caption = part log (at + 8 + caption_offset d) n in
      let caption_length_lem : length caption ≡ n = length_part log (at + 8 + caption_offset d) n (omega arith) in
      let e4 : bytes 4 (length caption) ≡ part log (at + 8 + 4 * d) 4 = ap (bytes 4) (caption_length_lem ∙ n_is) ∙ bytes_num log (at + 8 + 4 * d) 4 b (omega arith) in
      let j3 : bytes 4 (length caption) ++ caption ≡ part log (at + 8 + 4 * d) (4 + n) =
      ap (λ (l : List ℕ). l ++ caption) e4 ∙ parts_joined log (at + 8 + 4 * d) 4 (at + 8 + caption_offset d) n (4 + n) (omega arith) refl in
      let j2 : part log (at + 8) (4 * d) ++ (bytes 4 (length caption) ++ caption) ≡ part log (at + 8) (4 * d + (4 + n)) =
      ap (λ (l : List ℕ). part log (at + 8) (4 * d) ++ l) j3 ∙ parts_joined log (at + 8) (4 * d) (at + 8 + 4 * d) (4 + n) (4 * d + (4 + n)) refl refl in
      record {
        size = 12 + 4 * d + n;
        next_is = omega arith;
        inside = omega arith;
        tag_is = refl;
        fields_are =
            ap₂ ◌++◌ (bytes_num log at 8 b (omega arith)) j2
            ∙ parts_joined log at 8 (at + 8) (4 * d + (4 + n)) (12 + 4 * d + n) refl (omega arith);
        fits = ((put_logged c snapshot log end at n b h i).sourced.fit, refl);
      }

  raw_remove : (end at : ℕ) → end ≤ length log → at + 8 ≤ end → RawOperation end 2 at (record { operation = remove (num log at 8); next = at + 8 })
  raw_remove end at h k =
      record {
        size = 8;
        next_is = refl;
        inside = k;
        tag_is = refl;
        fields_are = bytes_num log at 8 b (omega arith);
        fits = num_lt log at 8 b;
      }

  raw_operation : (end tag at : ℕ) (o : ReadOperation) → end ≤ length log → operation_at c log end tag at ≡ Ok o → RawOperation end tag at o
  raw_operation end tag at o h e = go (operation_read_lem c log end tag at o e)
    where
      go : OperationHere c log end tag at o → RawOperation end tag at o
      go (put_here n t k i is) = subst (RawOperation end tag at) (sym is) (subst (λ (x : ℕ). RawOperation end x at (put_row c log at n)) (sym t) (raw_put end at n h i))
      go (remove_here t k is) =
          subst (RawOperation end tag at) (sym is)
          (subst (λ (x : ℕ). RawOperation end x at (record { operation = remove (num log at 8); next = at + 8 })) (sym t) (raw_remove end at h k))

  -- n operations, each behind its tag
  record RawOperations (n at : ℕ) (o : ReadOperations) : Type 0 where
    total : ℕ
    next_is : o.next ≡ at + total
    bytes_are : tagged (map shown o.operations) ≡ part log at total
    counted : length (map shown o.operations) ≡ n
    fit : Every (OperationFits c) (map shown o.operations)

  raw_operations : (n end at : ℕ) (o : ReadOperations) → end ≤ length log → operations_at n c log end at ≡ Ok o → RawOperations n at o
  unfolding tagged_bytes
  raw_operations zero end at o h e =
      subst (RawOperations zero at) (sym (operations_none c log end at o e))
      (record { total = 0; next_is = omega arith; bytes_are = refl; counted = refl; fit = tt })
  raw_operations (suc n) end at o h e =
      let s = operations_read_lem n c log end at o e in
      let r = raw_operation end (num log at 1) (at + 1) s.this h s.this_read in
      let more = raw_operations n end s.this.next s.rest h s.rest_read in
      let k = r.size in
      let m = more.total in
      let this-next : s.this.next ≡ at + 1 + k = r.next_is in
      let rest-next : s.rest.next ≡ s.this.next + m = more.next_is in
      let inside : at + 1 + k ≤ end = r.inside in
      let v = shown s.this.operation in
      let vs = map shown s.rest.operations in
      let tag-raw : tag_of v ∷ [] ≡ part log at 1 = ap (λ (x : ℕ). x ∷ []) r.tag_is ∙ byte_raw log at b (omega arith) in
      let first : tag_of v ∷ fields_of v ≡ part log at (1 + k) = ap₂ ◌++◌ tag-raw r.fields_are ∙ parts_joined log at 1 (at + 1) k (1 + k) refl refl in
      let bytes_are : (tag_of v ∷ fields_of v) ++ tagged vs ≡ part log at (1 + k + m) =
      ap₂ ◌++◌ first more.bytes_are ∙ parts_joined log at (1 + k) s.this.next m (1 + k + m) (omega arith) refl in
      let all : RawOperations (suc n) at (record { operations = s.this.operation ∷ s.rest.operations; next = s.rest.next }) =
      record {
        total = 1 + k + m;
        next_is = omega arith;
        bytes_are = bytes_are;
        counted = ap suc more.counted;
        fit = (r.fits, more.fit);
      } in
      subst (RawOperations (suc n) at) (sym s.all_is) all

  -- ---- what stands behind the sequence of a frame at `at`
  record RawBody (shape : Shape) (opcode at : ℕ) (o : ReadOperations) : Type 0 where
    total : ℕ
    next_is : o.next ≡ at + 17 + total
    opcode_is : opcode_of shape (map shown o.operations) ≡ opcode
    bytes_are : behind_sequence shape (map shown o.operations) ≡ part log (at + 17) total
    count : CountHolds shape (length (map shown o.operations))
    fit : Every (OperationFits c) (map shown o.operations)

  raw_single : (end opcode at : ℕ) (o : ReadOperations) → end ≤ length log → operations_of Single c log end opcode (at + 17) ≡ Ok o → RawBody Single opcode at o
  raw_single end opcode at o h e =
      let s = single_read c log end opcode (at + 17) o e in
      let r = raw_operation end opcode (at + 17) s.this h s.this_read in
      subst (RawBody Single opcode at) (sym s.all_is)
      (record { total = r.size; next_is = r.next_is; opcode_is = r.tag_is; bytes_are = r.fields_are; count = refl; fit = (r.fits, tt) })

  raw_batch : (end at : ℕ) (o : ReadOperations) → end ≤ length log → at + 21 ≤ end → operations_of Batch c log end 3 (at + 17) ≡ Ok o → RawBody Batch 3 at o
  raw_batch end at o h room e =
      let s = batch_read c log end (at + 17) o e in
      let n = num log (at + 17) 4 in
      let r = raw_operations n end (at + 17 + 4) o h s.operations_here in
      let some = s.some in
      let most = s.most in
      let next_is = r.next_is in
      let many : length (map shown o.operations) ≡ n = r.counted in
      let count-raw : bytes 4 (length (map shown o.operations)) ≡ part log (at + 17) 4 = ap (bytes 4) many ∙ bytes_num log (at + 17) 4 b (omega arith) in
      record {
        total = 4 + r.total;
        next_is = omega arith;
        opcode_is = refl;
        bytes_are = ap₂ ◌++◌ count-raw r.bytes_are ∙ parts_joined log (at + 17) 4 (at + 17 + 4) r.total (4 + r.total) refl refl;
        count = (omega arith, omega arith);
        fit = r.fit;
      }

  raw_body : (end opcode at : ℕ) (o : ReadOperations) → end ≤ length log → at + 21 ≤ end → operations_of (shape_of opcode) c log end opcode (at + 17) ≡ Ok o
      → RawBody (shape_of opcode) opcode at o
  raw_body end opcode at o h room = go (eqb opcode 3) refl
    where
      go : (t : Bool) → eqb opcode 3 ≡ t → operations_of (cond t Batch Single) c log end opcode (at + 17) ≡ Ok o → RawBody (cond t Batch Single) opcode at o
      go true t e =
          let is : opcode ≡ 3 = eqb-true opcode 3 t in
          subst (λ (x : ℕ). RawBody Batch x at o) (sym is) (raw_batch end at o h room e)
      go false t e = raw_single end opcode at o h e

  -- ---- the frame at `at`, read as f
  module _ (previous at : ℕ) (f : Frame Row) (next : ℕ) (e : frame_at c log previous at ≡ found f next) where
    abbrev os : List (Operation Record)
    os = map shown f.operations

    bounds : FrameBounds log previous at f next
    bounds = frame_bounds c log previous at f next e

    -- the payload of the length that stands at `at`
    record RawPayload : Type 0 where
      bytes_are : payload_of f.shape f.sequence os ≡ part log (at + 8) (num log at 4)
      fits : FrameFits c (frame_shown c snapshot log f)

    raw_payload : RawPayload
    raw_payload =
        let here = frame_read_lem c log previous at f next e in
        let n = num log at 4 in
        let least : min_frame ≤ n = here.least in
        let most : n ≤ max_frame = here.most in
        let inside : at + frame_length n ≤ length log = here.inside in
        let p = payload_read c log previous at n f here.payload_answers in
        let opcode = num log (at + 8) 1 in
        let q = num log (at + 9) 8 in
        let body : RawBody (shape_of opcode) opcode at (record { operations = f.operations; next = at + 8 + n }) =
        raw_body (at + 8 + n) opcode at (record { operations = f.operations; next = at + 8 + n }) (omega arith) (omega arith) p.operations_read_lem in
        let ends : at + 8 + n ≡ at + 17 + body.total = body.next_is in
        let opcode-raw : opcode_of (shape_of opcode) os ∷ [] ≡ part log (at + 8) 1 = ap (λ (x : ℕ). x ∷ []) body.opcode_is ∙ byte_raw log (at + 8) b (omega arith) in
        let j2 : bytes 8 q ++ behind_sequence (shape_of opcode) os ≡ part log (at + 9) (8 + body.total) =
        ap₂ ◌++◌ (bytes_num log (at + 9) 8 b (omega arith)) body.bytes_are ∙ parts_joined log (at + 9) 8 (at + 17) body.total (8 + body.total) (omega arith) refl in
        let is : payload_of (shape_of opcode) q os ≡ part log (at + 8) n =
        payload_is (shape_of opcode) q os body.count
        ∙ ap₂ ◌++◌ opcode-raw j2
        ∙ parts_joined log (at + 8) 1 (at + 9) (8 + body.total) n (omega arith) (omega arith) in
        let shape_is : f.shape ≡ shape_of opcode = p.shape_is in
        let sequence_is : f.sequence ≡ q = p.sequence_is in
        let bytes_are : payload_of f.shape f.sequence os ≡ part log (at + 8) n = ap₂ (λ (x : Shape) (y : ℕ). payload_of x y os) shape_is sequence_is ∙ is in
        let long : length (payload_of f.shape f.sequence os) ≡ n = ap length bytes_are ∙ length_part log (at + 8) n (omega arith) in
        record {
          bytes_are = bytes_are;
          fits =
              record {
                sequence_some = bounds.positive;
                sequence_fits = subst (λ (x : ℕ). x < 256 ^ 8) (sym sequence_is) (num_lt log (at + 9) 8 b);
                count_holds = subst (λ (x : Shape). CountHolds x (length os)) (sym shape_is) body.count;
                operations_fit = body.fit;
                payload_least = omega arith;
                payload_most = omega arith;
              };
        }

    -- its bytes
    raw_frame : frame_of f.shape f.sequence os ≡ part log at (frame_length (num log at 4))
    unfolding frame_bytes
    raw_frame =
        let here = frame_read_lem c log previous at f next e in
        let n = num log at 4 in
        let inside : at + frame_length n ≤ length log = here.inside in
        let head = length_read log at n here.length_answers in
        let p = payload_read c log previous at n f here.payload_answers in
        let payload = payload_of f.shape f.sequence os in
        let is = raw_payload.bytes_are in
        let long : length payload ≡ n = ap length is ∙ length_part log (at + 8) n (omega arith) in
        let e1 : bytes 4 (length payload) ≡ part log at 4 = ap (bytes 4) long ∙ bytes_num log at 4 b (omega arith) in
        let e2 : bytes 4 (crc_of (bytes 4 (length payload))) ≡ part log (at + 4) 4 =
        ap (λ (l : List ℕ). bytes 4 (crc_of l)) e1 ∙ ap (bytes 4) head.crc_good ∙ bytes_num log (at + 4) 4 b (omega arith) in
        let e4 : bytes 4 (crc_of payload) ≡ part log (at + 8 + n) 4 =
        ap (λ (l : List ℕ). bytes 4 (crc_of l)) is ∙ ap (bytes 4) p.crc_good ∙ bytes_num log (at + 8 + n) 4 b (omega arith) in
        let j3 = ap₂ ◌++◌ is e4 ∙ parts_joined log (at + 8) n (at + 8 + n) 4 (n + 4) refl refl in
        let j2 = ap₂ ◌++◌ e2 j3 ∙ parts_joined log (at + 4) 4 (at + 8) (n + 4) (4 + (n + 4)) (omega arith) refl in
        ap₂ ◌++◌ e1 j2 ∙ parts_joined log at 4 (at + 4) (4 + (n + 4)) (frame_length n) refl (omega arith)

    abbrev behind : List ℕ
    behind = drop (frame_length (num log at 4)) (drop at log)

    stands : drop at log ≡ frame_of f.shape f.sequence os ++ behind
    stands = sym (take-append-drop (frame_length (num log at 4)) (drop at log)) ∙ ap (λ (l : List ℕ). l ++ behind) (sym raw_frame)

    -- so it is found with the rows that its layout has
    refound : found f next ≡ found (frame_in f.shape f.sequence at os) (at + length (frame_of f.shape f.sequence os))
    refound = sym e ∙ frame_found f.shape c f.sequence os (framed c (frame_shown c snapshot log f) raw_payload.fits) log at behind stands previous bounds.one_more

    rows_are : f ≡ frame_in f.shape f.sequence at os
    rows_are = found_frame f (frame_in f.shape f.sequence at os) next (at + length (frame_of f.shape f.sequence os)) refound

    next_is : next ≡ at + length (frame_of f.shape f.sequence os)
    next_is = found_next f (frame_in f.shape f.sequence at os) next (at + length (frame_of f.shape f.sequence os)) refound

    pub frame_is_its_layout : FrameLaidOut c snapshot log previous at f next
    frame_is_its_layout =
        let far : next - at ≡ frame_length (num log at 4) = let step = bounds.next_is in omega arith in
        record {
          is = ap (part log at) far ∙ sym raw_frame;
          next_is = next_is;
          start_is = bounds.start_is;
          follows = bounds.one_more;
          fits = raw_payload.fits;
          rows_are = rows_are ∙ ap (λ (x : ℕ). frame_in f.shape f.sequence x os) (sym bounds.start_is);
        }
