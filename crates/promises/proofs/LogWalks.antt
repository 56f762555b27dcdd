-- What `specs/LogWalked.antt` says of the walk over a log.
use Rattle.std.specs.Prelude.{Ok, Err, Some}
use Prim.Native.Nat.{ℕ, zero, suc, ◌+◌, ◌-◌, ◌≤◌}
use native.Mathlib.Omega.{arith}
use mathlib.Core.Path.{◌≡◌, refl, sym, ap, subst, ◌∙◌}
use mathlib.Core.List.{List, [], ◌∷◌, map}
use borrow.Author.Tests.{le-ltb}
use lib.Dec.{ltb}
use lib.ListN.{length}
use Rattle.refusal.specs.Refusal.{Answer, told}
use Rattle.refusal.specs.declared.Refusal.TheVariants.{PastTheEnd}
use Rattle.refusal.proofs.Results.{answer_injective, pass, go_on, passed}
use Rattle.config.specs.Settings.{validate}
use Rattle.config.specs.declared.Config.{Config}
use Rattle.layout.specs.declared.Shape.{Shape}
use Rattle.layout.specs.declared.Shape.TheVariants.{Single, Batch}
use Rattle.fields.specs.Fields.{num}
use Rattle.rows.specs.declared.Row.{Row}
use Rattle.meaning.specs.Replay.{Operation, put, remove}
use Rattle.meaning.specs.Replay as Replays
use Rattle.meaning.specs.Log as Meant
use Rattle.meaning.specs.Log.{ReadOperations, operation_at, operations_at, operations_of, ReadFrame, too_little, wrong, found, go_on_reading, join, frame_at, frames_from, frames_of}
use Rattle.meaning.specs.Calls.{frame_call, first_operation, operations_end, id_offset, operation_call}
use Rattle.meaning.proofs.FrameRead.{IsFound, frame_bounds}
use Rattle.meaning.proofs.OperationRead.{operations_none, operations_read_lem, single_read}
use Rattle.store_log.specs.declared.Frame.{Frame}
use Rattle.store_log.specs.declared.ReadOperation.{ReadOperation}
use Rattle.store_log.specs.Stored.{IsFrame}
use Rattle.store_log.specs.Told.{operation_as, operation_read, operation_told, frame_found, frame_told}
use Rattle.replay.proofs.FrameFacts.{Lies, lies, batch_stored}
use Rattle.recovery.proofs.RunLaws.{told_whole}
use Rattle.lambspool.specs.declared.Frame as SaidFrame
use Rattle.lambspool.specs.declared.Operation as Said
use Rattle.lambspool.specs.Asked.{settings_of, frame_asked, operation_of, operation_asked}
use Rattle.lambspool.specs.Said.{kind_number, frame_said, operation_said}
use Rattle.promises.specs.LogWalked.{operations_walked, frames_walked, Answers, behind_all, behind, operation_in, FrameWalked, next_said, without_next, said_of, SaidWalked, LogWalked}

-- ---- one operation, where it is known to stand
module _ (c : Config) (log : List ℕ) (valid : validate c ≡ Ok tt) (end : ℕ) (inside : end ≤ length log) where
  called : (shape : Shape) (at : ℕ) → at + id_offset shape ≤ end
      → operation_call c log shape end at ≡ operation_at c log end (num log at 1) (at + id_offset shape)
  called shape at room =
      go_on (validate c) _ tt valid ∙ pass PastTheEnd (ltb (length log) end) _ (le-ltb _ _ inside) ∙ pass PastTheEnd (ltb end (at + id_offset shape)) _ (le-ltb _ _ room)

  batch_walked : (n at : ℕ) (x : ReadOperations) → operations_at n c log end at ≡ Ok x → operations_walked n c log Batch end at ≡ Ok x
  unfolding operations_walked
  batch_walked zero at x e = ap Ok (sym (operations_none c log end at x e))
  batch_walked (suc n) at x e =
      let s = operations_read_lem n c log end at x e in
      go_on (operation_call c log Batch end at) _ s.this (called Batch at s.tag_inside ∙ s.this_read)
      ∙ go_on (operations_walked n c log Batch end s.this.next) _ s.rest (batch_walked n s.this.next s.rest s.rest_read)
      ∙ ap Ok (sym s.all_is)

  single_walked : (start : ℕ) (x : ReadOperations) → start + 17 ≤ end → operations_of Single c log end (num log (start + 8) 1) (start + 17) ≡ Ok x
      → operations_walked (length x.operations) c log Single end (start + 8) ≡ Ok x
  unfolding operations_walked
  single_walked start x room e =
      let s = single_read c log end (num log (start + 8) 1) (start + 17) x e in
      let place : start + 8 + 9 ≡ start + 17 = omega arith in
      let here : start + 8 + id_offset Single ≤ end = omega arith in
      let this-called : operation_call c log Single end (start + 8) ≡ Ok s.this =
      called Single (start + 8) here ∙ ap (operation_at c log end (num log (start + 8) 1)) place ∙ s.this_read in
      ap (λ (y : ReadOperations). operations_walked (length y.operations) c log Single end (start + 8)) s.all_is
      ∙ go_on (operation_call c log Single end (start + 8)) _ s.this this-called ∙ ap Ok (sym s.all_is)

-- ---- a frame
module _ (c : Config) (log : List ℕ) (previous at : ℕ) where
  pub record Called (f : Replays.Frame Row) (next : ℕ) : Type 0 where
    pub valid : validate c ≡ Ok tt
    pub there : frame_at c log previous at ≡ found f next

  frame_called : (f : Replays.Frame Row) (next : ℕ) → frame_call c log previous at ≡ found f next → Called f next
  frame_called f next e = go (validate c) refl e
    where
      go : (x : Answer (Unit {0})) → validate c ≡ x → told (λ _. frame_at c log previous at) wrong x ≡ found f next → Called f next
      go (Ok u) v e = record { valid = v; there = e }
      go (Err why) v e = absurd (subst IsFound (sym e) tt)

  operations_walked_lem : (f : Replays.Frame Row) (next : ℕ) → frame_call c log previous at ≡ found f next
      → operations_walked (length f.operations) c log f.shape (operations_end next) (first_operation f.shape f.start)
      ≡ Ok (record { operations = f.operations; next = operations_end next })
  operations_walked_lem f next e = go f.shape l.read
    where
      k : Called f next
      k = frame_called f next e

      is_frame : IsFrame c log (frame_found f next) f
      is_frame =
          record { previous = previous; there = ap (frame_at c log previous) (frame_bounds c log previous at f next k.there).start_is ∙ k.there; told = refl }

      l : Lies c log (frame_found f next) f
      l = lies c log (frame_found f next) f is_frame

      all : ReadOperations
      all = record { operations = f.operations; next = next - 4 }

      inside : next - 4 ≤ length log
      inside = let h = l.inside in omega arith

      go : (shape : Shape) → operations_of shape c log (next - 4) (num log (f.start + 8) 1) (f.start + 17) ≡ Ok all
          → operations_walked (length f.operations) c log shape (next - 4) (first_operation shape f.start) ≡ Ok all
      go Single r = let far = l.far in single_walked c log k.valid (next - 4) inside f.start all (omega arith) r
      go Batch r =
          let place : f.start + 8 + 13 ≡ f.start + 17 + 4 = omega arith in
          ap (operations_walked (length f.operations) c log Batch (next - 4)) place
          ∙ batch_walked c log k.valid (next - 4) inside (length f.operations) (f.start + 17 + 4) all
          (batch_stored c log (next - 4) (num log (f.start + 8) 1) (f.start + 17) all r)

-- ---- the frames
frames_walked_from : (n : ℕ) (c : Config) (log : List ℕ) (previous at : ℕ) → validate c ≡ Ok tt → frames_walked n c log previous at ≡ frames_from n c log previous at
unfolding frames_walked frames_from
frames_walked_from zero c log previous at valid = refl
frames_walked_from (suc n) c log previous at valid =
    ap (λ (x : Answer (Unit {0})). go_on_reading (frames_walked n c log) at (told (λ _. frame_at c log previous at) wrong x)) valid
    ∙ go (λ p a. frames_walked_from n c log p a valid) (frame_at c log previous at)
  where
    go : ((p a : ℕ) → frames_walked n c log p a ≡ frames_from n c log p a) → (x : ReadFrame) → go_on_reading (frames_walked n c log) at x ≡ go_on_reading (frames_from n c log) at x
    go again too_little = refl
    go again (wrong why) = refl
    go again (found f next) = ap (join f) (again f.sequence next)

frames_walked_lem : (c : Config) (log : List ℕ) → validate c ≡ Ok tt → frames_walked (length log) c log 0 0 ≡ frames_of c log
unfolding frames_of
frames_walked_lem c log = frames_walked_from (length log) c log 0 0

-- ---- answers one after another: `tell` is how one tells an operation, `show` what it tells without the next place
module _ {A B : Type 0} (next : A → ℕ) (show : A → B) (meant : Operation Row → B) (tell : Meant.ReadOperation → A)
    (tells : (x : Meant.ReadOperation) → show (tell x) ≡ meant x.operation) (goes : (x : Meant.ReadOperation) → next (tell x) ≡ x.next)
    (c : Config) (log : List ℕ) (shape : Shape) (end : ℕ) (call : ℕ → A)
    (calls : (at : ℕ) (x : Meant.ReadOperation) → operation_call c log shape end at ≡ Ok x → call at ≡ tell x)
  where
    pub record AllTold (at : ℕ) (rs : List A) (x : ReadOperations) : Type 0 where
      pub operations_are : map show rs ≡ map meant x.operations
      pub ends_there : behind_all next at rs ≡ x.next

    all_told : (rs : List A) (at : ℕ) (x : ReadOperations) → operations_walked (length rs) c log shape end at ≡ Ok x → Answers next call at rs → AllTold at rs x
    unfolding operations_walked
    all_told [] at x e a =
        let is = answer_injective (record { operations = []; next = at }) x e in
        subst (AllTold at []) is (record { operations_are = refl; ends_there = refl })
    all_told (r ∷ rs) at x e a =
        let s1 = passed (operation_call c log shape end at) _ x e in
        let s2 = passed (operations_walked (length rs) c log shape end s1.value.next) _ x s1.then in
        let is = answer_injective (record { operations = s1.value.operation ∷ s2.value.operations; next = s2.value.next }) x s2.then in
        let r-is : r ≡ tell s1.value = a.0 ∙ calls at s1.value s1.first in
        let this : show r ≡ meant s1.value.operation = ap show r-is ∙ tells s1.value in
        let then : next r ≡ s1.value.next = ap next r-is ∙ goes s1.value in
        let others = all_told rs s1.value.next s2.value s2.first (subst (λ (k : ℕ). Answers next call k rs) then a.1) in
        subst (AllTold at (r ∷ rs)) is
        (record {
          operations_are = λ i. this i ∷ others.operations_are i;
          ends_there = ap (λ (k : ℕ). behind_all next k rs) then ∙ others.ends_there;
        })

-- ---- the answers of `operation_at`
told_in : (x : Meant.ReadOperation) → operation_in (Ok (operation_read x)) ≡ Ok x.operation
told_in x = go x.operation
  where
    go : (o : Operation Row) → operation_in (Ok (record { operation = operation_as o; next = x.next })) ≡ Ok o
    go (put row) = refl
    go (remove id) = refl

told_behind : (x : Meant.ReadOperation) → behind (Ok (operation_read x)) ≡ x.next
told_behind x = refl

-- a frame that `frame_at` told
whole_there : (c : Config) (log : List ℕ) (previous at : ℕ) (frame : Frame) → Ok (Some frame) ≡ frame_told (frame_call c log previous at)
    → (validate c ≡ Ok tt) × (Ok (Some frame) ≡ frame_told (frame_at c log previous at))
whole_there c log previous at frame e = go (validate c) refl e
  where
    go : (x : Answer (Unit {0})) → validate c ≡ x → Ok (Some frame) ≡ frame_told (told (λ _. frame_at c log previous at) wrong x)
        → (validate c ≡ Ok tt) × (Ok (Some frame) ≡ frame_told (frame_at c log previous at))
    go (Ok u) v e = (v, e)
    go (Err why) v e = absurd (let z : ◌≡◌ {A = ℕ} 0 1 = cc in omega arith)

frame_walked : (c : Config) (log : List ℕ) (previous at : ℕ) (frame : Frame) → Ok (Some frame) ≡ frame_told (frame_call c log previous at)
    → (rs : List (Answer ReadOperation)) → length rs ≡ frame.operations
    → Answers behind (λ k. operation_told (operation_call c log frame.shape (operations_end frame.next) k)) (first_operation frame.shape frame.start) rs
    → FrameWalked c log previous at frame rs
frame_walked c log previous at frame e rs many a =
    let w = whole_there c log previous at frame e in
    let read = told_whole c log previous at frame w.1 in
    let f = read.meant in
    let is : frame ≡ frame_found f frame.next = read.told in
    let called : frame_call c log previous at ≡ found f frame.next =
    ap (λ (x : Answer (Unit {0})). told (λ _. frame_at c log previous at) wrong x) w.0 ∙ read.there in
    let all = operations_walked_lem c log previous at f frame.next called in
    let as_many : length rs ≡ length f.operations = many ∙ ap (λ (x : Frame). x.operations) is in
    let shape_is : frame.shape ≡ f.shape = ap (λ (x : Frame). x.shape) is in
    let start_is : frame.start ≡ f.start = ap (λ (x : Frame). x.start) is in
    let here : operations_walked (length rs) c log frame.shape (operations_end frame.next) (first_operation frame.shape frame.start)
    ≡ Ok (record { operations = f.operations; next = operations_end frame.next }) =
    (λ i. operations_walked (as_many i) c log (shape_is i) (operations_end frame.next) (first_operation (shape_is i) (start_is i))) ∙ all in
    let t = all_told behind operation_in Ok (λ y. Ok (operation_read y)) told_in told_behind c log frame.shape (operations_end frame.next) _ (λ k x r. ap operation_told r) rs (first_operation frame.shape frame.start) _ here a in
    record { meant = f; there = read.there; operations_are = t.operations_are; ends_there = t.ends_there }

-- ---- those of the C entry
module _ (d : ℕ) where
  said_without : (x : Meant.ReadOperation) → without_next (operation_said d (Ok (operation_read x))) ≡ said_of d x.operation
  said_without x = go x.operation
    where
      go : (o : Operation Row) → without_next (operation_said d (Ok (record { operation = operation_as o; next = x.next }))) ≡ said_of d o
      go (put row) = refl
      go (remove id) = refl

  said_behind : (x : Meant.ReadOperation) → next_said (operation_said d (Ok (operation_read x))) ≡ x.next
  said_behind x = go x.operation
    where
      go : (o : Operation Row) → next_said (operation_said d (Ok (record { operation = operation_as o; next = x.next }))) ≡ x.next
      go (put row) = refl
      go (remove id) = refl

-- it is asked by the kind's number
module _ (d m ef seed metric : ℕ) (log : List ℕ) (c : Config) (known : settings_of d m ef seed metric ≡ Ok c) where
  asked : (shape : Shape) (end at : ℕ) → operation_asked d m ef seed metric log (kind_number shape) end at ≡ operation_call c log shape end at
  asked shape end at = go_on (settings_of d m ef seed metric) _ c known ∙ by shape
    where
      by : (s : Shape) → operation_of c log (kind_number s) end at ≡ operation_call c log s end at
      by Single = refl
      by Batch = refl

  asked_said : (shape : Shape) (end at : ℕ) (x : Meant.ReadOperation) → operation_call c log shape end at ≡ Ok x
      → operation_said d (operation_told (operation_asked d m ef seed metric log (kind_number shape) end at)) ≡ operation_said d (Ok (operation_read x))
  asked_said shape end at x e = ap (λ (y : Answer Meant.ReadOperation). operation_said d (operation_told y)) (asked shape end at ∙ e)

said_walked : (d m ef seed metric : ℕ) (log : List ℕ) (previous at : ℕ) (frame : SaidFrame.Frame)
    → frame ≡ frame_said (frame_told (frame_asked d m ef seed metric log previous at)) → (frame.kind ≡ 0 → ⊥)
    → (rs : List Said.Operation) → length rs ≡ frame.operations
    → Answers next_said (λ k. operation_said d (operation_told (operation_asked d m ef seed metric log frame.kind frame.end k))) frame.first rs
    → SaidWalked d m ef seed metric log previous at frame rs
said_walked d m ef seed metric log previous at frame e some rs many a = settled (settings_of d m ef seed metric) refl e
  where
    kind_of : SaidFrame.Frame → ℕ
    kind_of f = f.kind

    there : (c : Config) → settings_of d m ef seed metric ≡ Ok c → (x : ReadFrame) → frame_call c log previous at ≡ x → frame ≡ frame_said (frame_told x)
        → SaidWalked d m ef seed metric log previous at frame rs
    there c known too_little w e = absurd (some (ap kind_of e))
    there c known (wrong why) w e = absurd (some (ap kind_of e))
    there c known (found f next) w e =
        let end = operations_end next in
        let first = first_operation f.shape f.start in
        let as_many : length rs ≡ length f.operations = many ∙ ap (λ (x : SaidFrame.Frame). x.operations) e in
        let here = ap (λ (k : ℕ). operations_walked k c log f.shape end first) as_many ∙ operations_walked_lem c log previous at f next w in
        let answers : Answers next_said (λ k. operation_said d (operation_told (operation_asked d m ef seed metric log (kind_number f.shape) end k))) first rs =
        subst (λ (x : SaidFrame.Frame). Answers next_said (λ k. operation_said d (operation_told (operation_asked d m ef seed metric log x.kind x.end k))) x.first rs) e a in
        let t = all_told next_said without_next (said_of d) (λ x. operation_said d (Ok (operation_read x))) (said_without d) (said_behind d) c log f.shape end _ (asked_said d m ef seed metric log c known f.shape end) rs first _ here answers in
        subst (λ (x : SaidFrame.Frame). SaidWalked d m ef seed metric log previous at x rs) (sym e)
        (record {
          config = c;
          settings_are = known;
          meant = f;
          there = (frame_called c log previous at f next w).there;
          operations_are = t.operations_are;
          ends_there = t.ends_there;
        })

    settled : (x : Answer Config) → settings_of d m ef seed metric ≡ x → frame ≡ frame_said (frame_told (told (λ c. frame_call c log previous at) wrong x))
        → SaidWalked d m ef seed metric log previous at frame rs
    settled (Ok c) known e = there c known (frame_call c log previous at) refl e
    settled (Err why) known e = absurd (some (ap kind_of e))

pub log_walked : LogWalked
log_walked = record { operations_walked_lem = operations_walked_lem; frames_walked_lem = frames_walked_lem; frame_walked = frame_walked; said_walked = said_walked }
