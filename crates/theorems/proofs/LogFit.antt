-- What was read from a log is fit to be written: every row that a frame puts lies in the log, and its record fits a snapshot.
use Rattle.std.specs.Prelude.{Ok}
use Prim.Native.Nat.{ℕ, zero, suc, ◌+◌, ◌≤◌}
use native.Mathlib.Omega.{arith}
use mathlib.Core.Path.{◌≡◌, refl, sym, subst}
use mathlib.Core.Bool.{true, false}
use mathlib.Core.List.{List, [], ◌∷◌}
use lib.ListN.{length}
use Rattle.fields.specs.Fields.{num, Bytes}
use Rattle.fields.proofs.Numbers.{num_lt}
use Rattle.config.specs.declared.Config.{Config}
use Rattle.layout.specs.Layout.{frame_length}
use Rattle.layout.specs.declared.Shape.{Shape}
use Rattle.layout.specs.declared.Shape.TheVariants.{Single, Batch}
use Rattle.meaning.specs.Replay.{Operation, put, remove, Frame, Frames}
use Rattle.rows.specs.declared.Row.{Row}
use Rattle.meaning.specs.Log.{ReadOperation, ReadOperations, operation_at, operations_at, shape_of, operations_of, found, frame_at, frames_of, frames_at}
use Rattle.meaning.specs.Every.{Every}
use Rattle.theorems.specs.FrameRows.{Puts}
use Rattle.theorems.proofs.Kept.{EveryOperation}
use Rattle.theorems.specs.Storable.{Sourced}
use Rattle.meaning.proofs.ItemRead.{ItemHere}
use Rattle.meaning.proofs.OperationRead.{OperationHere, put_here, remove_here, operation_read_lem, operations_none, operations_read_lem, batch_read, single_read}
use Rattle.meaning.proofs.FrameRead.{operations_read, payload_read, frame_read_lem}
use Rattle.meaning.proofs.FramesAt.{frames_of_lem, frames_induction}
use Rattle.theorems.proofs.RowSourced.{row_sourced}

-- ---- every row that is put
abbrev pub EveryPut : (Row → Type 0) → List (Operation Row) → Type 0
EveryPut P os = Every (Puts P) os

abbrev pub InFrames : (Row → Type 0) → List (Frame Row) → Type 0
InFrames P fs = EveryOperation (Puts P) fs

pub every_put : (P Q : Row → Type 0) → ((r : Row) → P r → Q r) → (os : List (Operation Row)) → EveryPut P os → EveryPut Q os
every_put P Q h [] e = tt
every_put P Q h (put r ∷ os) e = (h r e.0, every_put P Q h os e.1)
every_put P Q h (remove id ∷ os) e = (tt, every_put P Q h os e.1)

pub in_frames : (P Q : Row → Type 0) → ((r : Row) → P r → Q r) → (fs : List (Frame Row)) → InFrames P fs → InFrames Q fs
in_frames P Q h [] e = tt
in_frames P Q h (f ∷ fs) e = (every_put P Q h f.operations e.0, in_frames P Q h fs e.1)

-- ---- read from a log
pub record Logged (c : Config) (snapshot log : List ℕ) (r : Row) : Type 0 where
  pub sourced : Sourced c snapshot log r
  pub live : r.deleted ≡ false
  pub from_log : r.from_log ≡ true

-- the row of a put whose ID stands at `at`
abbrev pub put_row_at : List ℕ → ℕ → ℕ → Row
put_row_at log at n = record { id = record { 0 = num log at 8 }; deleted = false; from_log = true; caption_length = n; at = at + 8 }

pub put_logged : (c : Config) (snapshot log : List ℕ) (end at n : ℕ) → Bytes log → end ≤ length log → ItemHere c log end (at + 8) n
    → Logged c snapshot log (put_row_at log at n)
put_logged c snapshot log end at n b h i =
    record { sourced = row_sourced c snapshot log (put_row_at log at n) end n b h i (num_lt log at 8 b) refl; live = refl; from_log = refl }

module _ (c : Config) (snapshot log : List ℕ) (b : Bytes log) where
  pub operation_logged : (end tag at : ℕ) (o : ReadOperation) → end ≤ length log → operation_at c log end tag at ≡ Ok o
      → Puts (Logged c snapshot log) o.operation
  operation_logged end tag at o h e = go (operation_read_lem c log end tag at o e)
    where
      go : OperationHere c log end tag at o → Puts (Logged c snapshot log) o.operation
      go (put_here n t k i is) =
          subst (λ (x : ReadOperation). Puts (Logged c snapshot log) x.operation) (sym is) (put_logged c snapshot log end at n b h i)
      go (remove_here t k is) = subst (λ (x : ReadOperation). Puts (Logged c snapshot log) x.operation) (sym is) tt

  pub operations_logged : (n end at : ℕ) (o : ReadOperations) → end ≤ length log → operations_at n c log end at ≡ Ok o
      → EveryPut (Logged c snapshot log) o.operations
  operations_logged zero end at o h e =
      subst (λ (x : ReadOperations). EveryPut (Logged c snapshot log) x.operations) (sym (operations_none c log end at o e)) tt
  operations_logged (suc n) end at o h e =
      let s = operations_read_lem n c log end at o e in
      subst (λ (x : ReadOperations). EveryPut (Logged c snapshot log) x.operations) (sym s.all_is)
      (operation_logged end (num log at 1) (at + 1) s.this h s.this_read, operations_logged n end s.this.next s.rest h s.rest_read)

  pub payload_logged : (end at : ℕ) (o : ReadOperations) → end ≤ length log → operations_read c log end at ≡ Ok o
      → EveryPut (Logged c snapshot log) o.operations
  payload_logged end at o h e = go (shape_of (num log (at + 8) 1)) e
    where
      go : (x : Shape) → operations_of x c log end (num log (at + 8) 1) (at + 17) ≡ Ok o → EveryPut (Logged c snapshot log) o.operations
      go Batch e = operations_logged (num log (at + 17) 4) end (at + 17 + 4) o h (batch_read c log end (at + 17) o e).operations_here
      go Single e =
          let s = single_read c log end (num log (at + 8) 1) (at + 17) o e in
          subst (λ (x : ReadOperations). EveryPut (Logged c snapshot log) x.operations) (sym s.all_is)
          (operation_logged end (num log (at + 8) 1) (at + 17) s.this h s.this_read, tt)

  pub frame_logged : (previous at : ℕ) (f : Frame Row) (next : ℕ) → frame_at c log previous at ≡ found f next
      → EveryPut (Logged c snapshot log) f.operations
  frame_logged previous at f next e =
      let here = frame_read_lem c log previous at f next e in
      let n = num log at 4 in
      let inside : at + frame_length n ≤ length log = here.inside in
      let h : at + 8 + n ≤ length log = omega arith in
      payload_logged (at + 8 + n) at (record { operations = f.operations; next = at + 8 + n }) h
      (payload_read c log previous at n f here.payload_answers).operations_read_lem

  pub frames_at_logged : (previous at : ℕ) → InFrames (Logged c snapshot log) (frames_at c log previous at).frames
  frames_at_logged =
      frames_induction c log (λ p a r. InFrames (Logged c snapshot log) r.frames) (λ p a e. tt) (λ p a why e. tt) λ p a f next e rest.
      (frame_logged p a f next e, rest)

  -- every row put by a frame of the log lies in the log and is fit to be written
  pub frames_logged : InFrames (Logged c snapshot log) (frames_of c log).frames
  frames_logged = subst (λ (r : Frames Row). InFrames (Logged c snapshot log) r.frames) (sym (frames_of_lem c log)) (frames_at_logged 0 0)
