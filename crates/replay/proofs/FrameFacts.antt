-- The operations of a frame that was read, where they lie.
use Rattle.std.specs.Prelude.{Ok, Err}
use Prim.Native.Nat.{ℕ, ◌+◌, ◌-◌, ◌≤◌}
use native.Mathlib.Omega.{arith}
use mathlib.Core.Path.{◌≡◌, refl, sym, ap, ◌∙◌}
use mathlib.Core.List.{List, [], ◌∷◌}
use lib.ListN.{length}
use Rattle.refusal.specs.Refusal.{Answer, ◌>>=◌}
use Rattle.config.specs.declared.Config.{Config}
use Rattle.fields.specs.Fields.{num}
use Rattle.layout.specs.Layout.{frame_length}
use Rattle.layout.specs.declared.Shape.{Shape}
use Rattle.layout.specs.declared.Shape.TheVariants.{Single, Batch}
use Rattle.rows.specs.declared.Row.{Row}
use Rattle.meaning.specs.Log.{ReadOperation, ReadOperations, operation_at, operations_at, shape_of, operations_of}
use Rattle.meaning.specs.Records.{row_kind}
use Rattle.meaning.specs.Recovery.{bounds_for}
use Rattle.meaning.specs.Replay.{Operation, apply_one, apply_all}
use Rattle.meaning.specs.Replay as Replays
use Rattle.meaning.proofs.FrameRead.{frame_read_lem, frame_bounds, payload_read}
use Rattle.meaning.proofs.OperationRead.{batch_read, single_read}
use Rattle.store_log.specs.declared.Frame.{Frame}
use Rattle.store_log.specs.Stored.{IsFrame}
use Rattle.store_log.proofs.OperationLaws.{as_many}

-- the operations end where the payload's CRC begins
pub record Lies (c : Config) (log : List ℕ) (frame : Frame) (f : Replays.Frame Row) : Type 0 where
  pub far : frame.start + 29 ≤ frame.next
  pub inside : frame.next ≤ length log
  pub shape_is : frame.shape ≡ f.shape
  pub many : frame.operations ≡ length f.operations
  pub read : operations_of frame.shape c log (frame.next - 4) (num log (frame.start + 8) 1) (frame.start + 17)
      ≡ Ok (record { operations = f.operations; next = frame.next - 4 })

pub lies : (c : Config) (log : List ℕ) (frame : Frame) (f : Replays.Frame Row) → IsFrame c log frame f → Lies c log frame f
lies c log frame f i =
    let at = frame.start in
    let n = num log at 4 in
    let here = frame_read_lem c log i.previous at f frame.next i.there in
    let bounds = frame_bounds c log i.previous at f frame.next i.there in
    let payload = payload_read c log i.previous at n f here.payload_answers in
    let next_is : frame.next ≡ at + frame_length n = here.next_is in
    let end : at + 8 + n ≡ frame.next - 4 = omega arith in
    let shape : frame.shape ≡ f.shape = ap (λ (g : Frame). g.shape) i.told in
    record {
      far = bounds.far;
      inside = bounds.inside;
      shape_is = shape;
      many = ap (λ (g : Frame). g.operations) i.told;
      read = ap (λ (s : Shape). operations_of s c log (frame.next - 4) (num log (at + 8) 1) (at + 17)) (shape ∙ payload.shape_is)
          ∙ ap (λ (e : ℕ). operations_of (shape_of (num log (at + 8) 1)) c log e (num log (at + 8) 1) (at + 17)) (sym end)
          ∙ payload.operations_read_lem
          ∙ ap (λ (e : ℕ). Ok (record { operations = f.operations; next = e })) end;
    }

module _ (c : Config) (log : List ℕ) (end opcode at : ℕ) (x : ReadOperations) where
  -- the one operation of a single frame
  pub record Alone : Type 0 where
    pub this : ReadOperation
    pub is : operation_at c log end opcode at ≡ Ok this
    pub alone : x.operations ≡ this.operation ∷ []

  pub single_stored : operations_of Single c log end opcode at ≡ Ok x → Alone
  single_stored e =
      let s = single_read c log end opcode at x e in
      record { this = s.this; is = s.this_read; alone = ap (λ (y : ReadOperations). y.operations) s.all_is }

  -- those of a batch, behind their count
  pub batch_stored : operations_of Batch c log end opcode at ≡ Ok x → operations_at (length x.operations) c log end (at + 4) ≡ Ok x
  batch_stored e =
      let here = (batch_read c log end at x e).operations_here in
      ap (λ (k : ℕ). operations_at k c log end (at + 4)) (as_many c log end (num log at 4) (at + 4) x here) ∙ here

-- one operation is all of them
pub apply_alone : (d lent : ℕ) (shape : Shape) (o : Operation Row) (rows : List Row)
    → apply_all (row_kind d) (bounds_for lent) shape (o ∷ []) rows ≡ apply_one (row_kind d) (bounds_for lent) shape o rows
unfolding apply_all
apply_alone d lent shape o rows = go (apply_one (row_kind d) (bounds_for lent) shape o rows)
  where
    go : (x : Answer (List Row)) → (x >>= apply_all (row_kind d) (bounds_for lent) shape []) ≡ x
    go (Ok y) = refl
    go (Err why) = refl
