-- The operations one by one, that what is accepted ends before `end`, and what an accepted operation is.
use Rattle.std.specs.Prelude.{Ok, Err}
use Prim.Native.Nat.{ℕ, zero, suc, ◌+◌, ◌*◌, ◌-◌, ◌≤◌, ◌<◌}
use native.Mathlib.Omega.{arith}
use mathlib.Core.Path.{◌≡◌, refl, sym, ap, subst, ◌∙◌}
use mathlib.Core.List.{List, [], ◌∷◌}
use borrow.Author.Tests.{lt-ltb, le-ltb}
use lib.Dec.{ltb}
use lib.ListN.{length}
use Rattle.refusal.specs.Refusal.{Answer, ◌>>=◌, refuse}
use Rattle.refusal.specs.declared.Refusal.TheVariants.{PastTheEnd}
use Rattle.refusal.proofs.Results.{stop, pass}
use Rattle.config.specs.Settings.{caption_limit}
use Rattle.config.specs.declared.Config.{Config}
use Rattle.layout.specs.Layout.{item_length}
use Rattle.fields.specs.Fields.{num}
use Rattle.meaning.specs.Replay.{remove}
use Rattle.meaning.specs.Log as Meant
use Rattle.meaning.specs.Log.{put_row, operation_at, operations_at}
use Rattle.meaning.proofs.OperationRead.{OperationHere, put_here, remove_here, operation_read_lem, operations_none, operations_read_lem}
use Rattle.store_log.specs.Told.{next_told, nexts_told}

-- ---- an operation that is accepted ends before `end`
pub operation_within_lem : (c : Config) (log : List ℕ) (end tag at : ℕ) (x : Meant.ReadOperation) → operation_at c log end tag at ≡ Ok x → x.next ≤ end
operation_within_lem c log end tag at x e = go (operation_read_lem c log end tag at x e)
  where
    go : OperationHere c log end tag at x → x.next ≤ end
    go (put_here n t h i is) = let inside = i.inside in subst (λ (y : Meant.ReadOperation). y.next ≤ end) (sym is) (omega arith)
    go (remove_here t h is) = subst (λ (y : Meant.ReadOperation). y.next ≤ end) (sym is) h

abbrev length_of : Answer ℕ → ℕ
length_of (Ok n) = n
length_of (Err why) = 0

pub next_within : (c : Config) (log : List ℕ) (end tag at n : ℕ) → next_told (operation_at c log end tag at) ≡ Ok n → n ≤ end
next_within c log end tag at n e = go (operation_at c log end tag at) refl e
  where
    go : (x : Answer Meant.ReadOperation) → operation_at c log end tag at ≡ x → next_told x ≡ Ok n → n ≤ end
    go (Ok y) h g = subst (λ (k : ℕ). k ≤ end) (ap length_of g) (operation_within_lem c log end tag at y h)
    go (Err why) h g = absurd (let z : ◌≡◌ {A = ℕ} 0 1 = cc in omega arith)

-- ---- an operation that is accepted, by its tag
-- a put whose ID stands at `at`: its caption's length stands behind the coordinates
pub record PutStored (c : Config) (log : List ℕ) (end at n : ℕ) (x : Meant.ReadOperation) : Type 0 where
  pub inside : at + 8 + item_length c.dimensions n ≤ end
  pub few : n ≤ caption_limit c
  pub is : x ≡ put_row c log at n

module _ (c : Config) (log : List ℕ) (end tag at : ℕ) (x : Meant.ReadOperation) (e : operation_at c log end tag at ≡ Ok x) where
  pub stored_id : at + 8 ≤ end
  stored_id = go (operation_read_lem c log end tag at x e)
    where
      go : OperationHere c log end tag at x → at + 8 ≤ end
      go (put_here n t h i is) = h
      go (remove_here t h is) = h

  pub stored_put : tag ≡ 1 → PutStored c log end at (num log (at + 8 + 4 * c.dimensions) 4) x
  stored_put one = go (operation_read_lem c log end tag at x e)
    where
      go : OperationHere c log end tag at x → PutStored c log end at (num log (at + 8 + 4 * c.dimensions) 4) x
      go (put_here n t h i is) = subst (λ (k : ℕ). PutStored c log end at k x) i.caption_is (record { inside = i.inside; few = i.short; is = is })
      go (remove_here t h is) = absurd (omega arith)

  pub stored_remove : (tag ≡ 1 → ⊥) → x ≡ record { operation = remove (num log at 8); next = at + 8 }
  stored_remove other = go (operation_read_lem c log end tag at x e)
    where
      go : OperationHere c log end tag at x → x ≡ record { operation = remove (num log at 8); next = at + 8 }
      go (put_here n t h i is) = absurd (other t)
      go (remove_here t h is) = is

-- ---- operations one by one
-- what follows one that is accepted
abbrev pub and_then : ℕ → Config → List ℕ → ℕ → Meant.ReadOperation → Answer Meant.ReadOperations
and_then n c log end this =
    operations_at n c log end this.next >>= (λ rest. Ok (record { operations = this.operation ∷ rest.operations; next = rest.next }))

module _ (c : Config) (log : List ℕ) (end : ℕ) where
  pub no_more : (n at : ℕ) → n ≤ 0 → operations_at n c log end at ≡ Ok (record { operations = []; next = at })
  unfolding operations_at
  no_more zero at h = refl
  no_more (suc n) at h = absurd (omega arith)

  -- a turn: the tag, the operation behind it, the rest
  pub one_more : (n at : ℕ) → 0 < n
      → operations_at n c log end at
      ≡ (refuse PastTheEnd (ltb end (at + 1)) >>= λ _. operation_at c log end (num log at 1) (at + 1) >>= and_then (n - 1) c log end)
  unfolding operations_at
  one_more zero at h = absurd (omega arith)
  one_more (suc n) at h =
      let k : n ≡ suc n - 1 = omega arith in
      ap (λ (m : ℕ). refuse PastTheEnd (ltb end (at + 1)) >>= λ _. operation_at c log end (num log at 1) (at + 1) >>= and_then m c log end) k

  -- where what follows an operation ends, by where the operation ends
  abbrev pub after_one : ℕ → Answer ℕ → Answer ℕ
  after_one n (Ok next) = nexts_told (operations_at n c log end next)
  after_one n (Err why) = Err why

  pub turn_past : (n at : ℕ) → 0 < n → end < at + 1 → nexts_told (operations_at n c log end at) ≡ Err PastTheEnd
  turn_past n at h g = ap nexts_told (one_more n at h ∙ stop PastTheEnd (ltb end (at + 1)) _ (lt-ltb _ _ g))

  -- where the rest ends is where all end
  pub rest_ends : (n : ℕ) (this : Meant.ReadOperation) → nexts_told (and_then n c log end this) ≡ nexts_told (operations_at n c log end this.next)
  rest_ends n this = go (operations_at n c log end this.next)
    where
      go : (x : Answer Meant.ReadOperations)
          → nexts_told (x >>= (λ rest. Ok (record { operations = this.operation ∷ rest.operations; next = rest.next }))) ≡ nexts_told x
      go (Ok y) = refl
      go (Err why) = refl

  pub turn_on : (n at tag : ℕ) → 0 < n → at + 1 ≤ end → tag ≡ num log at 1
      → nexts_told (operations_at n c log end at) ≡ after_one (n - 1) (next_told (operation_at c log end tag (at + 1)))
  turn_on n at tag h g e =
      ap nexts_told (one_more n at h ∙ pass PastTheEnd (ltb end (at + 1)) _ (le-ltb _ _ g))
      ∙ go (operation_at c log end (num log at 1) (at + 1))
      ∙ ap (λ (k : ℕ). after_one (n - 1) (next_told (operation_at c log end k (at + 1)))) (sym e)
    where
      go : (x : Answer Meant.ReadOperation) → nexts_told (x >>= and_then (n - 1) c log end) ≡ after_one (n - 1) (next_told x)
      go (Ok y) = rest_ends (n - 1) y
      go (Err why) = refl

  pub as_many : (n at : ℕ) (x : Meant.ReadOperations) → operations_at n c log end at ≡ Ok x → length x.operations ≡ n
  as_many zero at x e = ap (λ (y : Meant.ReadOperations). length y.operations) (operations_none c log end at x e)
  as_many (suc n) at x e =
      let s = operations_read_lem n c log end at x e in
      ap (λ (y : Meant.ReadOperations). length y.operations) s.all_is ∙ ap suc (as_many n s.this.next s.rest s.rest_read)
