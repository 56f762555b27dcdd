-- Reading in two lists that have the same bytes, m places apart: what is read is the same, with every place m further on.
-- So a frame depends on the bytes up to its end alone, and reads alike wherever it stands.
use Rattle.std.specs.Prelude.{Ok, Err}
use Prim.Native.Nat.{ℕ, zero, suc, ◌+◌, ◌*◌, ◌-◌, ◌/◌, ◌≤◌}
use native.Mathlib.Omega.{arith}
use mathlib.Core.Path.{◌≡◌, refl, ap, ap₂, ◌∙◌}
use mathlib.Core.Bool.{true, false, not}
use mathlib.Core.List.{List, [], ◌++◌, map}
use lib.ListN.{length}
use lib.Dec.{ltb, eqb}
use Rattle.crc32.specs.Crc.{crc_of}
use Rattle.utf8.specs.Utf8.{is_utf8}
use Rattle.fields.specs.Fields.{part, num, le}
use Rattle.fields.proofs.Parts.{part_append, part_after}
use Rattle.config.specs.Limits.{max_metadata, min_frame, max_frame, max_batch_operations}
use Rattle.config.specs.declared.Config.{Config}
use Rattle.refusal.specs.Refusal.{Answer}
use Rattle.refusal.specs.declared.Refusal.{Refusal}
use Rattle.refusal.specs.declared.Refusal.TheVariants.{PastTheEnd, BytesLeftOver, CaptionTooLong, NotUtf8, WrongLengthCrc, WrongLength, WrongPayloadCrc, WrongSequence, WrongBatchCount}
use Rattle.layout.specs.Layout.{frame_length}
use Rattle.layout.specs.declared.Shape.{Shape}
use Rattle.layout.specs.declared.Shape.TheVariants.{Single, Batch}
use Rattle.meaning.specs.Replay.{Operation, put, remove, Frame, Frames}
use Rattle.rows.specs.declared.Row.{Row}
use Rattle.meaning.specs.Item.{coordinates, caption_at, item_at}
use Rattle.meaning.specs.Log.{ReadOperation, ReadOperations, operation_at, operations_at, batch_at, single_at, out_of_order, shape_of, operations_of, payload_at, ReadFrame, too_little, wrong, found, length_at}
use Rattle.theorems.specs.FrameRows.{carry_operation}
use Rattle.theorems.proofs.Carry.{carry_frame, carry_frames}
use borrow.Author.Tests.{ltb-false}
use Rattle.theorems.proofs.Alike.{same_less, same_equal, same_refuse, same_bind, on_answer, carried_refuse, carried_bind, carried_cond}

-- ---- m places further on
abbrev pub later_row : ℕ → Row → Row
later_row m r = record { id = r.id; deleted = r.deleted; from_log = r.from_log; caption_length = r.caption_length; at = m + r.at }

abbrev pub later_operation : ℕ → Operation Row → Operation Row
later_operation m o = carry_operation (later_row m) o

abbrev pub later_frame : ℕ → Frame Row → Frame Row
later_frame m f = carry_frame (later_row m) (λ at. m + at) f

abbrev pub later_frames : ℕ → Frames Row → Frames Row
later_frames m log = carry_frames (later_row m) (λ at. m + at) log

abbrev pub later_found : ℕ → ReadFrame → ReadFrame
later_found m too_little = too_little
later_found m (wrong why) = wrong why
later_found m (found f next) = found (later_frame m f) (m + next)

abbrev pub later_read_operation : ℕ → ReadOperation → ReadOperation
later_read_operation m o = record { operation = later_operation m o.operation; next = m + o.next }

abbrev pub later_read_operations : ℕ → ReadOperations → ReadOperations
later_read_operations m o = record { operations = map (later_operation m) o.operations; next = m + o.next }

-- the first `room` bytes of t stand in s, m places further on
pub record Same (m : ℕ) (s t : List ℕ) (room : ℕ) : Type 0 where
  pub same : (at n : ℕ) → at + n ≤ room → part s (m + at) n ≡ part t at n

pub same_front : (a b : List ℕ) → Same 0 (a ++ b) a (length a)
same_front a b =
    record { same = λ at n h. let e : 0 + at ≡ at = omega arith in ap (λ (x : ℕ). part (a ++ b) x n) e ∙ part_append a b at n h }

pub same_after : (a b : List ℕ) (room : ℕ) → Same (length a) (a ++ b) b room
same_after a b room = record { same = λ at n h. part_after a b at n }

module _ (m : ℕ) (s t : List ℕ) (room : ℕ) (q : Same m s t room) where
  pub same_part : (x at n k : ℕ) → x ≡ m + at → n ≡ k → at + k ≤ room → part s x n ≡ part t at k
  same_part x at n k ex en h = ap₂ (part s) ex en ∙ q.same at k h

  pub same_num : (x at n : ℕ) → x ≡ m + at → at + n ≤ room → num s x n ≡ num t at n
  same_num x at n ex h = ap le (same_part x at n n ex refl h)

  pub item_moved : (short : Refusal) (c : Config) (y end x at : ℕ) → y ≡ m + end → x ≡ m + at → end ≤ room
      → item_at short c s y x ≡ item_at short c t end at
  unfolding item_at caption_at
  item_moved short c y end x at ey ex h =
      let d = 4 * c.dimensions in
      let k = num s (x + d) 4 in
      let l = num t (at + d) 4 in
      same_refuse short (ltb y (x + d)) (ltb end (at + d)) _ _ (same_less y (x + d) end (at + d) (omega arith) (omega arith)) λ e1.
      let h1 = ltb-false end (at + d) e1 in
      let g1 : at + d ≤ room = omega arith in
      same_bind (coordinates c (part s x d)) (coordinates c (part t at d)) _ _ (ap (coordinates c) (same_part x at d d ex refl g1)) λ u e2.
      same_refuse PastTheEnd (ltb y (x + d + 4)) (ltb end (at + d + 4)) _ _ (same_less y (x + d + 4) end (at + d + 4) (omega arith) (omega arith)) λ e3.
      let h3 = ltb-false end (at + d + 4) e3 in
      let x3 : x + d ≡ m + (at + d) = omega arith in
      let g3 : at + d + 4 ≤ room = omega arith in
      let kl : k ≡ l = same_num (x + d) (at + d) 4 x3 g3 in
      same_refuse CaptionTooLong (ltb max_metadata k) (ltb max_metadata l) _ _ (ap (ltb max_metadata) kl) λ e4.
      same_refuse PastTheEnd (ltb y (x + d + 4 + k)) (ltb end (at + d + 4 + l)) _ _ (same_less y (x + d + 4 + k) end (at + d + 4 + l) (omega arith) (omega arith)) λ e5.
      let h5 = ltb-false end (at + d + 4 + l) e5 in
      let x5 : x + d + 4 ≡ m + (at + d + 4) = omega arith in
      let g5 : at + d + 4 + l ≤ room = omega arith in
      let ps : part s (x + d + 4) k ≡ part t (at + d + 4) l = same_part (x + d + 4) (at + d + 4) k l x5 kl g5 in
      same_refuse NotUtf8 (not (is_utf8 (part s (x + d + 4) k))) (not (is_utf8 (part t (at + d + 4) l))) _ _ (ap (λ (z : List ℕ). not (is_utf8 z)) ps) λ e6.
      ap (λ (z : ℕ). Ok z) kl

  pub operation_moved : (c : Config) (tag y end x at : ℕ) → y ≡ m + end → x ≡ m + at → end ≤ room
      → operation_at c s y tag x ≡ on_answer (later_read_operation m) (operation_at c t end tag at)
  unfolding operation_at
  operation_moved c tag y end x at ey ex h =
      carried_refuse (later_read_operation m) PastTheEnd (ltb y (x + 8)) (ltb end (at + 8)) _ _ (same_less y (x + 8) end (at + 8) (omega arith) (omega arith)) λ e1.
      let h1 = ltb-false end (at + 8) e1 in
      let g1 : at + 8 ≤ room = omega arith in
      let ids : num s x 8 ≡ num t at 8 = same_num x at 8 ex g1 in
      let x8 : x + 8 ≡ m + (at + 8) = omega arith in
      carried_cond (later_read_operation m) (eqb tag 1) (eqb tag 1) _ _ _ _ refl
      (carried_bind (later_read_operation m) (λ (n : ℕ). n) (item_at PastTheEnd c s y (x + 8)) (item_at PastTheEnd c t end (at + 8)) _ _
      (item_moved PastTheEnd c y end (x + 8) (at + 8) ey x8 h ∙ plain (item_at PastTheEnd c t end (at + 8)))
      (λ n e2. let xn : x + 12 + 4 * c.dimensions + n ≡ m + (at + 12 + 4 * c.dimensions + n) = omega arith in
      λ i. Ok (record { operation = put (record { id = record { 0 = ids i }; deleted = false; from_log = true; caption_length = n; at = x8 i }); next = xn i })))
      (carried_cond (later_read_operation m) (eqb tag 2) (eqb tag 2) _ _ _ _ refl
      (λ i. Ok (record { operation = remove (ids i); next = x8 i }))
      refl)
    where
      plain : (r : Answer ℕ) → r ≡ on_answer (λ (n : ℕ). n) r
      plain (Ok a) = refl
      plain (Err why) = refl

  pub operations_moved : (k : ℕ) (c : Config) (y end x at : ℕ) → y ≡ m + end → x ≡ m + at → end ≤ room
      → operations_at k c s y x ≡ on_answer (later_read_operations m) (operations_at k c t end at)
  unfolding operations_at
  operations_moved zero c y end x at ey ex h = λ i. Ok (record { operations = []; next = ex i })
  operations_moved (suc k) c y end x at ey ex h =
      carried_refuse (later_read_operations m) PastTheEnd (ltb y (x + 1)) (ltb end (at + 1)) _ _ (same_less y (x + 1) end (at + 1) (omega arith) (omega arith)) λ e1.
      let h1 = ltb-false end (at + 1) e1 in
      let g1 : at + 1 ≤ room = omega arith in
      let tags : num s x 1 ≡ num t at 1 = same_num x at 1 ex g1 in
      let x1 : x + 1 ≡ m + (at + 1) = omega arith in
      carried_bind (later_read_operations m) (later_read_operation m) (operation_at c s y (num s x 1) (x + 1)) (operation_at c t end (num t at 1) (at + 1)) _ _
      (ap (λ (z : ℕ). operation_at c s y z (x + 1)) tags ∙ operation_moved c (num t at 1) y end (x + 1) (at + 1) ey x1 h) λ this e2.
      carried_bind (later_read_operations m) (later_read_operations m) (operations_at k c s y (m + this.next)) (operations_at k c t end this.next) _ _
      (operations_moved k c y end (m + this.next) this.next ey refl h) λ rest e3.
      refl

  pub batch_moved : (c : Config) (y end x at : ℕ) → y ≡ m + end → x ≡ m + at → end ≤ room → at + 4 ≤ room
      → batch_at c s y x ≡ on_answer (later_read_operations m) (batch_at c t end at)
  unfolding batch_at
  batch_moved c y end x at ey ex h g =
      let k = num s x 4 in
      let l = num t at 4 in
      let kl : k ≡ l = same_num x at 4 ex g in
      let left : y - (x + 4) ≡ end - (at + 4) = omega arith in
      let x4 : x + 4 ≡ m + (at + 4) = omega arith in
      carried_refuse (later_read_operations m) WrongBatchCount (ltb k 1) (ltb l 1) _ _ (ap (λ (z : ℕ). ltb z 1) kl) λ e1.
      carried_refuse (later_read_operations m) WrongBatchCount (ltb max_batch_operations k) (ltb max_batch_operations l) _ _ (ap (ltb max_batch_operations) kl) λ e2.
      carried_refuse (later_read_operations m) WrongBatchCount (ltb ((y - (x + 4)) / 9) k) (ltb ((end - (at + 4)) / 9) l) _ _ (ap₂ (λ (w z : ℕ). ltb (w / 9) z) left kl) λ e3.
      ap (λ (z : ℕ). operations_at z c s y (x + 4)) kl ∙ operations_moved l c y end (x + 4) (at + 4) ey x4 h

  pub single_moved : (c : Config) (opcode y end x at : ℕ) → y ≡ m + end → x ≡ m + at → end ≤ room
      → single_at c s y opcode x ≡ on_answer (later_read_operations m) (single_at c t end opcode at)
  unfolding single_at
  single_moved c opcode y end x at ey ex h =
      carried_bind (later_read_operations m) (later_read_operation m) (operation_at c s y opcode x) (operation_at c t end opcode at) _ _
      (operation_moved c opcode y end x at ey ex h) λ this e.
      refl

  pub shape_moved : (shape : Shape) (c : Config) (opcode y end x at : ℕ) → y ≡ m + end → x ≡ m + at → end ≤ room → at + 4 ≤ room
      → operations_of shape c s y opcode x ≡ on_answer (later_read_operations m) (operations_of shape c t end opcode at)
  shape_moved Single c opcode y end x at ey ex h g = single_moved c opcode y end x at ey ex h
  shape_moved Batch c opcode y end x at ey ex h g = batch_moved c y end x at ey ex h g

  -- 13 bytes of payload hold the count of a batch
  pub payload_moved : (c : Config) (previous n x at : ℕ) → x ≡ m + at → 13 ≤ n → at + frame_length n ≤ room
      → payload_at c s previous x n ≡ on_answer (later_frame m) (payload_at c t previous at n)
  unfolding payload_at
  payload_moved c previous n x at ex h g =
      let x8 : x + 8 ≡ m + (at + 8) = omega arith in
      let x9 : x + 9 ≡ m + (at + 9) = omega arith in
      let x17 : x + 17 ≡ m + (at + 17) = omega arith in
      let xn : x + 8 + n ≡ m + (at + 8 + n) = omega arith in
      let g8 : at + 8 + 1 ≤ room = omega arith in
      let g9 : at + 9 + 8 ≤ room = omega arith in
      let g17 : at + 17 + 4 ≤ room = omega arith in
      let gn : at + 8 + n ≤ room = omega arith in
      let gc : at + 8 + n + 4 ≤ room = omega arith in
      let bodies : part s (x + 8) n ≡ part t (at + 8) n = same_part (x + 8) (at + 8) n n x8 refl gn in
      let crcs : num s (x + 8 + n) 4 ≡ num t (at + 8 + n) 4 = same_num (x + 8 + n) (at + 8 + n) 4 xn gc in
      let sequences : num s (x + 9) 8 ≡ num t (at + 9) 8 = same_num (x + 9) (at + 9) 8 x9 g9 in
      let codes : num s (x + 8) 1 ≡ num t (at + 8) 1 = same_num (x + 8) (at + 8) 1 x8 g8 in
      carried_refuse (later_frame m) WrongPayloadCrc (not (eqb (crc_of (part s (x + 8) n)) (num s (x + 8 + n) 4))) (not (eqb (crc_of (part t (at + 8) n)) (num t (at + 8 + n) 4))) _ _
      (ap₂ (λ (a : List ℕ) (b : ℕ). not (eqb (crc_of a) b)) bodies crcs) λ e1.
      carried_refuse (later_frame m) WrongSequence (out_of_order previous (num s (x + 9) 8)) (out_of_order previous (num t (at + 9) 8)) _ _ (ap (out_of_order previous) sequences) λ e2.
      carried_bind (later_frame m) (later_read_operations m)
      (operations_of (shape_of (num s (x + 8) 1)) c s (x + 8 + n) (num s (x + 8) 1) (x + 17))
      (operations_of (shape_of (num t (at + 8) 1)) c t (at + 8 + n) (num t (at + 8) 1) (at + 17)) _ _
      (ap (λ (z : ℕ). operations_of (shape_of z) c s (x + 8 + n) z (x + 17)) codes
      ∙ shape_moved (shape_of (num t (at + 8) 1)) c (num t (at + 8) 1) (x + 8 + n) (at + 8 + n) (x + 17) (at + 17) xn x17 gn g17) λ ops e3.
      carried_refuse (later_frame m) BytesLeftOver (not (eqb (m + ops.next) (x + 8 + n))) (not (eqb ops.next (at + 8 + n))) _ _
      (ap not (same_equal (m + ops.next) (x + 8 + n) ops.next (at + 8 + n) (omega arith) (omega arith))) λ e4.
      λ i. Ok (record { start = ex i; sequence = sequences i; shape = shape_of (codes i); operations = map (later_operation m) ops.operations })

  pub length_moved : (x at : ℕ) → x ≡ m + at → at + 8 ≤ room → length_at s x ≡ length_at t at
  unfolding length_at
  length_moved x at ex g =
      let x4 : x + 4 ≡ m + (at + 4) = omega arith in
      let g4 : at + 4 ≤ room = omega arith in
      let g8 : at + 4 + 4 ≤ room = omega arith in
      let k = num s x 4 in
      let l = num t at 4 in
      let kl : k ≡ l = same_num x at 4 ex g4 in
      same_refuse WrongLengthCrc (not (eqb (crc_of (part s x 4)) (num s (x + 4) 4))) (not (eqb (crc_of (part t at 4)) (num t (at + 4) 4))) _ _
      (ap₂ (λ (a : List ℕ) (b : ℕ). not (eqb (crc_of a) b)) (same_part x at 4 4 ex refl g4) (same_num (x + 4) (at + 4) 4 x4 g8)) λ e1.
      same_refuse WrongLength (ltb k min_frame) (ltb l min_frame) _ _ (ap (λ (z : ℕ). ltb z min_frame) kl) λ e2.
      same_refuse WrongLength (ltb max_frame k) (ltb max_frame l) _ _ (ap (ltb max_frame) kl) λ e3.
      ap (λ (z : ℕ). Ok z) kl
