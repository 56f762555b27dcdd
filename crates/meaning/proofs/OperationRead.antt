-- What an answer says of the operations of a payload: one by its tag, a batch's, a single frame's.
use Rattle.std.specs.Prelude.{Ok, Err}
use Prim.Native.Nat.{ℕ, zero, suc, ◌+◌, ◌-◌, ◌/◌, ◌≤◌}
use mathlib.Core.Path.{◌≡◌, refl, sym}
use mathlib.Core.Bool.{Bool, true, false, cond}
use mathlib.Core.List.{List, [], ◌∷◌}
use lib.Dec.{ltb, eqb}
use Rattle.fields.specs.Fields.{num}
use Rattle.config.specs.Limits.{max_batch_operations}
use Rattle.config.specs.declared.Config.{Config}
use Rattle.refusal.specs.Refusal.{Answer, ◌>>=◌}
use Rattle.refusal.specs.declared.Refusal.TheVariants.{PastTheEnd, WrongBatchCount, UnknownOperation}
use Rattle.meaning.specs.Replay.{remove}
use Rattle.meaning.specs.Item.{item_at}
use Rattle.meaning.specs.Log.{ReadOperation, ReadOperations, put_row, operation_at, operations_at, batch_at, single_at}
use Rattle.meaning.proofs.ItemRead.{ItemHere, item_read}
use borrow.Author.Tests.{ltb-false, eqb-true}
use Rattle.refusal.proofs.Results.{answer_injective, refused_no_answer, passed, went}

-- a put or a delete by its tag, with its ID at `at`
pub data OperationHere (c : Config) (log : List ℕ) (end tag at : ℕ) (o : ReadOperation) : Type 0 where
  put_here : (n : ℕ) → tag ≡ 1 → at + 8 ≤ end → ItemHere c log end (at + 8) n → o ≡ put_row c log at n → OperationHere c log end tag at o
  remove_here : tag ≡ 2 → at + 8 ≤ end → o ≡ record { operation = remove (num log at 8); next = at + 8 } → OperationHere c log end tag at o

pub operation_read_lem : (c : Config) (log : List ℕ) (end tag at : ℕ) (o : ReadOperation)
    → operation_at c log end tag at ≡ Ok o → OperationHere c log end tag at o
unfolding operation_at
operation_read_lem c log end tag at o e =
    let s1 = went PastTheEnd (ltb end (at + 8)) _ o e in
    one (eqb tag 1) refl (ltb-false end (at + 8) s1.test_false) s1.then
  where
    a_remove : ReadOperation
    a_remove = record { operation = remove (num log at 8); next = at + 8 }

    a_put : Answer ReadOperation
    a_put = item_at PastTheEnd c log end (at + 8) >>= λ n. Ok (put_row c log at n)

    two : (b : Bool) → eqb tag 2 ≡ b → at + 8 ≤ end → cond b (Ok a_remove) (Err UnknownOperation) ≡ Ok o → OperationHere c log end tag at o
    two true t h e = remove_here (eqb-true tag 2 t) h (sym (answer_injective a_remove o e))
    two false t h e = absurd (refused_no_answer UnknownOperation o e)

    one : (b : Bool) → eqb tag 1 ≡ b → at + 8 ≤ end → cond b a_put (cond (eqb tag 2) (Ok a_remove) (Err UnknownOperation)) ≡ Ok o
        → OperationHere c log end tag at o
    one true t h e =
        let s2 = passed (item_at PastTheEnd c log end (at + 8)) _ o e in
        put_here s2.value (eqb-true tag 1 t) h (item_read PastTheEnd c log end (at + 8) s2.value s2.first)
        (sym (answer_injective (put_row c log at s2.value) o s2.then))
    one false t h e = two (eqb tag 2) refl h e

-- the first of a batch's operations, and the others
pub record OperationsHere (n : ℕ) (c : Config) (log : List ℕ) (end at : ℕ) (o : ReadOperations) : Type 0 where
  pub tag_inside : at + 1 ≤ end
  pub this : ReadOperation
  pub this_read : operation_at c log end (num log at 1) (at + 1) ≡ Ok this
  pub rest : ReadOperations
  pub rest_read : operations_at n c log end this.next ≡ Ok rest
  pub all_is : o ≡ record { operations = this.operation ∷ rest.operations; next = rest.next }

pub operations_none : (c : Config) (log : List ℕ) (end at : ℕ) (o : ReadOperations)
    → operations_at zero c log end at ≡ Ok o → o ≡ record { operations = []; next = at }
unfolding operations_at
operations_none c log end at o e = sym (answer_injective (record { operations = []; next = at }) o e)

pub operations_read_lem : (n : ℕ) (c : Config) (log : List ℕ) (end at : ℕ) (o : ReadOperations)
    → operations_at (suc n) c log end at ≡ Ok o → OperationsHere n c log end at o
unfolding operations_at
operations_read_lem n c log end at o e =
    let s1 = went PastTheEnd (ltb end (at + 1)) _ o e in
    let s2 = passed (operation_at c log end (num log at 1) (at + 1)) _ o s1.then in
    let s3 = passed (operations_at n c log end s2.value.next) _ o s2.then in
    record {
      tag_inside = ltb-false end (at + 1) s1.test_false;
      this = s2.value;
      this_read = s2.first;
      rest = s3.value;
      rest_read = s3.first;
      all_is = sym (answer_injective (record { operations = s2.value.operation ∷ s3.value.operations; next = s3.value.next }) o s3.then);
    }

pub record BatchHere (c : Config) (log : List ℕ) (end at : ℕ) (o : ReadOperations) : Type 0 where
  pub some : 1 ≤ num log at 4
  pub most : num log at 4 ≤ max_batch_operations
  pub fits : num log at 4 ≤ (end - (at + 4)) / 9
  pub operations_here : operations_at (num log at 4) c log end (at + 4) ≡ Ok o

pub batch_read : (c : Config) (log : List ℕ) (end at : ℕ) (o : ReadOperations) → batch_at c log end at ≡ Ok o → BatchHere c log end at o
unfolding batch_at
batch_read c log end at o e =
    let k = num log at 4 in
    let s1 = went WrongBatchCount (ltb k 1) _ o e in
    let s2 = went WrongBatchCount (ltb max_batch_operations k) _ o s1.then in
    let s3 = went WrongBatchCount (ltb ((end - (at + 4)) / 9) k) _ o s2.then in
    record {
      some = ltb-false k 1 s1.test_false;
      most = ltb-false max_batch_operations k s2.test_false;
      fits = ltb-false ((end - (at + 4)) / 9) k s3.test_false;
      operations_here = s3.then;
    }

pub record SingleHere (c : Config) (log : List ℕ) (end opcode at : ℕ) (o : ReadOperations) : Type 0 where
  pub this : ReadOperation
  pub this_read : operation_at c log end opcode at ≡ Ok this
  pub all_is : o ≡ record { operations = this.operation ∷ []; next = this.next }

pub single_read : (c : Config) (log : List ℕ) (end opcode at : ℕ) (o : ReadOperations)
    → single_at c log end opcode at ≡ Ok o → SingleHere c log end opcode at o
unfolding single_at
single_read c log end opcode at o e =
    let s1 = passed (operation_at c log end opcode at) _ o e in
    record {
      this = s1.value;
      this_read = s1.first;
      all_is = sym (answer_injective (record { operations = s1.value.operation ∷ []; next = s1.value.next }) o s1.then);
    }
