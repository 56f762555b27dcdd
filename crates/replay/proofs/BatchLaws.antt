-- Accepted operations one by one, and what has been applied of them.
use Rattle.std.specs.Prelude.{Ok, Err}
use Prim.Native.Nat.{ℕ, ◌+◌, ◌-◌, ◌≤◌, ◌<◌}
use native.Mathlib.Omega.{arith}
use mathlib.Core.Path.{◌≡◌, refl, sym, ap, subst, ◌∙◌}
use mathlib.Core.List.{List, [], ◌∷◌}
use borrow.Author.Tests.{ltb-false}
use lib.Dec.{ltb}
use lib.ListN.{length}
use Rattle.refusal.specs.Refusal.{Answer}
use Rattle.refusal.specs.declared.Refusal.{Refusal}
use Rattle.refusal.specs.declared.Refusal.TheVariants.{PastTheEnd}
use Rattle.refusal.proofs.Results.{passed, went, go_on, give_up, answer_injective}
use Rattle.config.specs.Limits.{max_log_bytes}
use Rattle.config.specs.declared.Config.{Config}
use Rattle.fields.specs.Fields.{num}
use Rattle.layout.specs.declared.Shape.{Shape}
use Rattle.layout.specs.declared.Shape.TheVariants.{Batch}
use Rattle.rows.specs.declared.Row.{Row}
use Rattle.meaning.specs.Log.{ReadOperation, ReadOperations, operation_at, operations_at}
use Rattle.meaning.specs.Records.{row_kind}
use Rattle.meaning.specs.Recovery.{bounds_for}
use Rattle.meaning.specs.Replay.{Operation, apply_one, apply_all}
use Rattle.meaning.proofs.OperationRead.{OperationHere, put_here, remove_here, operation_read_lem}
use Rattle.store_log.specs.Told.{operation_as}
use Rattle.store_log.proofs.OperationLaws.{no_more, one_more, and_then}
use Rattle.replay.specs.Stands.{TableStands, Kept, Applicable, AppliedAs}
use Rattle.replay.specs.declared.Table.{Table}

-- ---- an operation that was accepted may be applied
pub operation_accepted : (c : Config) (log : List ℕ) (end tag at : ℕ) (x : ReadOperation) → end ≤ max_log_bytes
    → operation_at c log end tag at ≡ Ok x → Applicable (operation_as x.operation)
operation_accepted c log end tag at x few e = go (operation_read_lem c log end tag at x e)
  where
    go : OperationHere c log end tag at x → Applicable (operation_as x.operation)
    go (put_here n t h i is) =
        let inside = i.inside in
        let short = i.short in
        subst (λ (y : ReadOperation). Applicable (operation_as y.operation)) (sym is) (record { caption_fits = omega arith; at_fits = omega arith }, omega arith)
    go (remove_here t h is) = subst (λ (y : ReadOperation). Applicable (operation_as y.operation)) (sym is) tt

-- ---- the first of several
pub record First (c : Config) (log : List ℕ) (end n at : ℕ) (all : ReadOperations) : Type 0 where
  pub inside : at + 1 ≤ end
  pub this : ReadOperation
  pub is : operation_at c log end (num log at 1) (at + 1) ≡ Ok this
  pub rest : ReadOperations
  pub rest_is : operations_at (n - 1) c log end this.next ≡ Ok rest
  pub operations_are : all.operations ≡ this.operation ∷ rest.operations

pub first_of : (c : Config) (log : List ℕ) (end n at : ℕ) (all : ReadOperations) → 0 < n → operations_at n c log end at ≡ Ok all → First c log end n at all
first_of c log end n at all h e =
    let s0 = went PastTheEnd (ltb end (at + 1)) _ all (sym (one_more c log end n at h) ∙ e) in
    let s1 = passed (operation_at c log end (num log at 1) (at + 1)) (and_then (n - 1) c log end) all s0.then in
    let s2 = passed (operations_at (n - 1) c log end s1.value.next) _ all s1.then in
    record {
      inside = ltb-false _ _ s0.test_false;
      this = s1.value;
      is = s1.first;
      rest = s2.value;
      rest_is = s2.first;
      operations_are = sym (ap (λ (y : ReadOperations). y.operations) (answer_injective _ all s2.then));
    }

-- ---- what an operation left
pub record Gone (d : ℕ) (x : Answer (List Row)) (t : Table) (words entries : List ℕ) : Type 0 where
  pub rows : List Row
  pub is : x ≡ Ok rows
  pub stands : TableStands d words entries t rows

pub went_on : (d : ℕ) (x : Answer (List Row)) (t : Table) (words entries : List ℕ) → AppliedAs d x (Ok t) words entries → Gone d x t words entries
went_on d (Ok rows) t words entries s = record { rows = rows; is = refl; stands = s }
went_on d (Err why) t words entries s = absurd s

pub kept_went : (d : ℕ) (x : Answer (List Row)) (t : Table) (words entries : List ℕ) → AppliedAs d x (Ok t) words entries → Kept d words entries t
kept_went d x t words entries f = let g = went_on d x t words entries f in record { rows = g.rows; stands = g.stands }

pub refused_on : (d : ℕ) (x : Answer (List Row)) (why : Refusal) (words entries : List ℕ) → AppliedAs d x (Err why) words entries → x ≡ Err why
refused_on d (Ok rows) why words entries s = absurd s
refused_on d (Err w) why words entries s = ap Err (sym s)

-- ---- operations in order
module _ (d lent : ℕ) (shape : Shape) (o : Operation Row) (os : List (Operation Row)) (rows : List Row) where
  abbrev one : Answer (List Row)
  one = apply_one (row_kind d) (bounds_for lent) shape o rows

  pub apply_on : (after : List Row) → one ≡ Ok after
      → apply_all (row_kind d) (bounds_for lent) shape (o ∷ os) rows ≡ apply_all (row_kind d) (bounds_for lent) shape os after
  unfolding apply_all
  apply_on after e = go_on one (apply_all (row_kind d) (bounds_for lent) shape os) after e

  pub apply_stops : (why : Refusal) → one ≡ Err why → apply_all (row_kind d) (bounds_for lent) shape (o ∷ os) rows ≡ Err why
  unfolding apply_all
  apply_stops why e = give_up one (apply_all (row_kind d) (bounds_for lent) shape os) why e

pub apply_none : (d lent : ℕ) (shape : Shape) (rows : List Row) → apply_all (row_kind d) (bounds_for lent) shape [] rows ≡ Ok rows
unfolding apply_all
apply_none d lent shape rows = refl

pub none_left : (c : Config) (log : List ℕ) (end n at : ℕ) (all : ReadOperations) → n ≤ 0 → operations_at n c log end at ≡ Ok all → all.operations ≡ []
none_left c log end n at all h e = sym (ap (λ (y : ReadOperations). y.operations) (answer_injective _ all (sym (no_more c log end n at h) ∙ e)))

-- ---- where a batch stands: what is left of it, applied to the rows that stand now, is all of it applied to those that stood
pub record On (d lent : ℕ) (shape : Shape) (words entries : List ℕ) (t : Table) (left all : List (Operation Row)) (rows₀ : List Row) : Type 0 where
  pub rows : List Row
  pub stands : TableStands d words entries t rows
  pub same : apply_all (row_kind d) (bounds_for lent) shape left rows ≡ apply_all (row_kind d) (bounds_for lent) shape all rows₀

pub record Turning (c : Config) (log : List ℕ) (end n at lent : ℕ) (words₀ entries₀ : List ℕ) (t₀ : Table) (words entries : List ℕ) (t : Table) (next left : ℕ) : Type 0 where
  pub words_kept : length words ≡ length words₀
  pub entries_kept : length entries ≡ length entries₀
  pub rest : ReadOperations
  pub rest_is : operations_at left c log end next ≡ Ok rest
  pub kept : Kept c.dimensions words entries t
  pub on : (x : ReadOperations) (rows₀ : List Row) → operations_at n c log end at ≡ Ok x → TableStands c.dimensions words₀ entries₀ t₀ rows₀
      → On c.dimensions lent Batch words entries t rest.operations x.operations rows₀

-- one of them applied
module _ (d lent : ℕ) (words entries : List ℕ) (t : Table) (o : Operation Row) (left all : List (Operation Row)) (rows₀ : List Row) where
  pub on_went : (words' entries' : List ℕ) (t' : Table) (b : On d lent Batch words entries t (o ∷ left) all rows₀)
      → AppliedAs d (apply_one (row_kind d) (bounds_for lent) Batch o b.rows) (Ok t') words' entries' → On d lent Batch words' entries' t' left all rows₀
  on_went words' entries' t' b f =
      let g = went_on d (apply_one (row_kind d) (bounds_for lent) Batch o b.rows) t' words' entries' f in
      record { rows = g.rows; stands = g.stands; same = sym (apply_on d lent Batch o left b.rows g.rows g.is) ∙ b.same }

  pub on_stops : (words' entries' : List ℕ) (why : Refusal) (b : On d lent Batch words entries t (o ∷ left) all rows₀)
      → AppliedAs d (apply_one (row_kind d) (bounds_for lent) Batch o b.rows) (Err why) words' entries'
      → apply_all (row_kind d) (bounds_for lent) Batch all rows₀ ≡ Err why
  on_stops words' entries' why b f =
      sym b.same ∙ apply_stops d lent Batch o left b.rows why (refused_on d (apply_one (row_kind d) (bounds_for lent) Batch o b.rows) why words' entries' f)
