-- What makes a log's readers answer: the converses of what an answer says of operations, a payload, a length.
use Rattle.std.specs.Prelude.{Ok, Err}
use Prim.Native.Nat.{ℕ, zero, suc, ◌+◌, ◌-◌, ◌/◌, ◌≤◌}
use mathlib.Core.Path.{◌≡◌, refl, sym, ap, ◌∙◌}
use mathlib.Core.Bool.{Bool, true, false, cond, not}
use mathlib.Core.List.{List, []}
use lib.Dec.{ltb, eqb}
use Rattle.fields.specs.Fields.{num, part}
use Rattle.config.specs.Limits.{max_batch_operations, min_frame, max_frame}
use Rattle.config.specs.declared.Config.{Config}
use Rattle.refusal.specs.Refusal.{Answer, ◌>>=◌}
use Rattle.refusal.specs.declared.Refusal.TheVariants.{PastTheEnd, WrongBatchCount, UnknownOperation, BytesLeftOver, WrongLengthCrc, WrongLength, WrongPayloadCrc, WrongSequence}
use Rattle.meaning.specs.Replay.{remove, Frame}
use Rattle.meaning.specs.Item.{item_at}
use Rattle.meaning.specs.Log.{ReadOperation, ReadOperations, put_row, operation_at, operations_at, batch_at, single_at, out_of_order, payload_at, length_at}
use Rattle.meaning.proofs.ItemRead.{item_reads}
use Rattle.meaning.proofs.OperationRead.{OperationHere, put_here, remove_here, OperationsHere, BatchHere, SingleHere}
use Rattle.meaning.proofs.FrameRead.{InOrder, operations_read, PayloadHere, LengthHere}
use borrow.Author.Tests.{eqb-true, le-ltb, eq-eqb, eqb-false}
use Rattle.refusal.proofs.Results.{pass, go_on}
use native.Mathlib.Omega.{arith}
use Rattle.crc32.specs.Crc.{crc_of}
use Rattle.rows.specs.declared.Row.{Row}

pub operation_reads : (c : Config) (log : List ℕ) (end tag at : ℕ) (o : ReadOperation)
    → OperationHere c log end tag at o → operation_at c log end tag at ≡ Ok o
unfolding operation_at
operation_reads c log end tag at o (put_here n t h i is) =
    pass PastTheEnd (ltb end (at + 8)) _ (le-ltb end (at + 8) h)
    ∙ ap (λ (b : Bool). cond b a_put an_other) (eq-eqb tag 1 t)
    ∙ go_on (item_at PastTheEnd c log end (at + 8)) _ n (item_reads PastTheEnd c log end (at + 8) n i)
    ∙ ap Ok (sym is)
  where
    a_put : Answer ReadOperation
    a_put = item_at PastTheEnd c log end (at + 8) >>= λ n. Ok (put_row c log at n)

    an_other : Answer ReadOperation
    an_other = cond (eqb tag 2) (Ok (record { operation = remove (num log at 8); next = at + 8 })) (Err UnknownOperation)
operation_reads c log end tag at o (remove_here t h is) =
    let no : eqb tag 1 ≡ false = ap (λ (x : ℕ). eqb x 1) t in
    pass PastTheEnd (ltb end (at + 8)) _ (le-ltb end (at + 8) h)
    ∙ ap (λ (b : Bool). cond b a_put an_other) no
    ∙ ap (λ (b : Bool). cond b (Ok a_remove) (Err UnknownOperation)) (eq-eqb tag 2 t)
    ∙ ap Ok (sym is)
  where
    a_remove : ReadOperation
    a_remove = record { operation = remove (num log at 8); next = at + 8 }

    a_put : Answer ReadOperation
    a_put = item_at PastTheEnd c log end (at + 8) >>= λ n. Ok (put_row c log at n)

    an_other : Answer ReadOperation
    an_other = cond (eqb tag 2) (Ok a_remove) (Err UnknownOperation)

pub operations_reads_none : (c : Config) (log : List ℕ) (end at : ℕ) → operations_at zero c log end at ≡ Ok (record { operations = []; next = at })
unfolding operations_at
operations_reads_none c log end at = refl

pub operations_reads : (n : ℕ) (c : Config) (log : List ℕ) (end at : ℕ) (o : ReadOperations)
    → OperationsHere n c log end at o → operations_at (suc n) c log end at ≡ Ok o
unfolding operations_at
operations_reads n c log end at o here =
    pass PastTheEnd (ltb end (at + 1)) _ (le-ltb end (at + 1) here.tag_inside)
    ∙ go_on (operation_at c log end (num log at 1) (at + 1)) _ here.this here.this_read
    ∙ go_on (operations_at n c log end here.this.next) _ here.rest here.rest_read
    ∙ ap Ok (sym here.all_is)

pub batch_reads : (c : Config) (log : List ℕ) (end at : ℕ) (o : ReadOperations) → BatchHere c log end at o → batch_at c log end at ≡ Ok o
unfolding batch_at
batch_reads c log end at o here =
    let k = num log at 4 in
    pass WrongBatchCount (ltb k 1) _ (le-ltb k 1 here.some)
    ∙ pass WrongBatchCount (ltb max_batch_operations k) _ (le-ltb max_batch_operations k here.most)
    ∙ pass WrongBatchCount (ltb ((end - (at + 4)) / 9) k) _ (le-ltb ((end - (at + 4)) / 9) k here.fits)
    ∙ here.operations_here

pub single_reads : (c : Config) (log : List ℕ) (end opcode at : ℕ) (o : ReadOperations)
    → SingleHere c log end opcode at o → single_at c log end opcode at ≡ Ok o
unfolding single_at
single_reads c log end opcode at o here =
    go_on (operation_at c log end opcode at) _ here.this here.this_read ∙ ap Ok (sym here.all_is)

pub order_reads : (previous sequence : ℕ) → InOrder previous sequence → out_of_order previous sequence ≡ false
order_reads previous sequence order = go (eqb previous 0) refl (eqb sequence 0) refl
  where
    go : (b : Bool) → eqb previous 0 ≡ b → (a : Bool) → eqb sequence 0 ≡ a → cond a true (cond b false (not (eqb sequence (previous + 1)))) ≡ false
    go b q true p = absurd (let z = eqb-true sequence 0 p in let h = order.positive in omega arith)
    go true q false p = refl
    go false q false p =
        let n = eqb-false previous 0 q in
        ap not (eq-eqb sequence (previous + 1) (order.one_more (omega arith)))

pub payload_reads : (c : Config) (log : List ℕ) (previous at n : ℕ) (f : Frame Row)
    → PayloadHere c log previous at n f → payload_at c log previous at n ≡ Ok f
unfolding payload_at
payload_reads c log previous at n f here =
    let crc = crc_of (part log (at + 8) n) in
    let end = at + 8 + n in
    let start_is = here.start_is in
    let sequence_is = here.sequence_is in
    let shape_is = here.shape_is in
    pass WrongPayloadCrc (not (eqb crc (num log end 4))) _ (ap not (eq-eqb crc (num log end 4) here.crc_good))
    ∙ pass WrongSequence (out_of_order previous (num log (at + 9) 8)) _ here.in_order
    ∙ go_on (operations_read c log end at) _ (record { operations = f.operations; next = end }) here.operations_read_lem
    ∙ pass BytesLeftOver (not (eqb end end)) _ (ap not (eq-eqb end end refl))
    ∙ (λ i. Ok (record { start = sym start_is i; sequence = sym sequence_is i; shape = sym shape_is i; operations = f.operations }))

pub length_reads : (log : List ℕ) (at n : ℕ) → LengthHere log at n → length_at log at ≡ Ok n
unfolding length_at
length_reads log at n here =
    let crc = crc_of (part log at 4) in
    let k = num log at 4 in
    let is : n ≡ k = here.length_is in
    let least : min_frame ≤ n = here.least in
    let most : n ≤ max_frame = here.most in
    let low : min_frame ≤ k = omega arith in
    let high : k ≤ max_frame = omega arith in
    pass WrongLengthCrc (not (eqb crc (num log (at + 4) 4))) _ (ap not (eq-eqb crc (num log (at + 4) 4) here.crc_good))
    ∙ pass WrongLength (ltb k min_frame) _ (le-ltb k min_frame low)
    ∙ pass WrongLength (ltb max_frame k) _ (le-ltb max_frame k high)
    ∙ ap (λ (x : ℕ). Ok x) (sym is)
