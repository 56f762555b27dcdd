-- What each operation keeps, replay keeps: facts of each record, no ID live twice, the bounds on number.
use Rattle.std.specs.Prelude.{Ok}
use Prim.Native.Nat.{ℕ, suc, ◌+◌, ◌≤◌, ◌<◌}
use native.Mathlib.Omega.{arith}
use mathlib.Core.Bool.{Bool, true, false, cond}
use mathlib.Core.List.{List, [], ◌∷◌, ◌++◌}
use mathlib.Core.Path.{◌≡◌, refl, sym, ap, subst, ◌∙◌}
use lib.ListN.{length, length-append}
use lib.Dec.{leb, ltb}
use borrow.Author.Tests.{leb-false, ltb-false}
use Rattle.refusal.specs.declared.Refusal.TheVariants.{StorageLimits, TooFewRows}
use Rattle.layout.specs.Layout.{snapshot_length}
use Rattle.layout.specs.declared.Shape.{Shape}
use Rattle.layout.specs.declared.Shape.TheVariants.{Single, Batch}
use Rattle.meaning.specs.Replay.{begins, Kind, Operation, put, remove, Frame, tail, State, reached, Bounds, live_as, active, mark, size, absent, apply_put, apply_remove, apply_one, apply_all, replay}
use Rattle.theorems.proofs.Ran.{Did, skips, plays, did, ran}
use Rattle.theorems.specs.Cut.{Ran}
use Rattle.meaning.specs.Every.{Every}
use Rattle.meaning.proofs.EveryLaws.{every_append}
use Rattle.meaning.proofs.Marking.{Deletes, length_mark, single_mark, single_put}
use Rattle.refusal.proofs.Results.{answer_injective, refused_no_answer, passed, went}
use Rattle.meaning.specs.LiveOnce.{LiveOnce}
use Rattle.theorems.specs.FrameRows.{Puts}

-- every operation of every frame has Q
abbrev pub EveryOperation : {A : Type 0} → (Operation A → Type 0) → List (Frame A) → Type 0
EveryOperation Q fs = Every (λ f. Every Q f.operations) fs

-- leaves is asked of an operation
abbrev pub Any : {A : Type 0} → Operation A → Type 0
Any o = Unit {0}

pub any_all : {A : Type 0} (os : List (Operation A)) → Every Any os
any_all [] = tt
any_all (o ∷ os) = (tt, any_all os)

pub any_operations : {A : Type 0} (fs : List (Frame A)) → EveryOperation Any fs
any_operations [] = tt
any_operations (f ∷ fs) = (any_all f.operations, any_operations fs)

-- what a put that went through did, and what it met
pub record PutDone {A : Type 0} (K : Kind A) (L : Bounds) (r : A) (rs ts : List A) : Type 0 where
  pub result : ts ≡ mark K (K.id_of r) rs ++ (r ∷ [])
  pub fewer : length rs < L.max_records
  pub lent : length rs < L.rows_lent
  pub fits : snapshot_length (size K (mark K (K.id_of r) rs) + K.size_of r) ≤ L.max_bytes

-- what a delete that went through did
pub data RemoveDone {A : Type 0} (K : Kind A) (shape : Shape) (id : ℕ) (rs ts : List A) : Type 0 where
  marks : active K id rs ≡ true → ts ≡ mark K id rs → RemoveDone K shape id rs ts
  leaves : active K id rs ≡ false → shape ≡ Batch → ts ≡ rs → RemoveDone K shape id rs ts

module _ {A : Type 0} (K : Kind A) where
  pub put_done : (L : Bounds) (r : A) (rs ts : List A) → apply_put K L r rs ≡ Ok ts → PutDone K L r rs ts
  unfolding apply_put
  put_done L r rs ts h =
      let s1 = went StorageLimits (leb L.max_records (length rs)) _ ts h in
      let s2 = went StorageLimits (ltb L.max_bytes (snapshot_length (size K (mark K (K.id_of r) rs) + K.size_of r))) _ ts s1.then in
      let s3 = went TooFewRows (leb L.rows_lent (length rs)) _ ts s2.then in
      record {
        result = sym (answer_injective (mark K (K.id_of r) rs ++ (r ∷ [])) ts s3.then);
        fewer = leb-false _ _ s1.test_false;
        lent = leb-false _ _ s3.test_false;
        fits = ltb-false _ _ s2.test_false;
      }

  pub remove_done : (shape : Shape) (id : ℕ) (rs ts : List A) → apply_remove K shape id rs ≡ Ok ts → RemoveDone K shape id rs ts
  unfolding apply_remove
  remove_done shape id rs ts h = go (active K id rs) shape refl refl h
    where
      go : (x : Bool) (y : Shape) → active K id rs ≡ x → shape ≡ y → cond x (Ok (mark K id rs)) (absent y rs) ≡ Ok ts
          → RemoveDone K shape id rs ts
      go true y a b h = marks a (sym (answer_injective _ ts h))
      go false Batch a b h = leaves a b (sym (answer_injective _ ts h))
      go false Single a b h = absurd (refused_no_answer _ ts h)

  module _ (L : Bounds) (Q : Operation A → Type 0) (I : List A → Type 0) where
    -- each operation that has Q keeps I
    abbrev pub Keeps : Type 0
    Keeps = (shape : Shape) (o : Operation A) (rs ts : List A) → Q o → apply_one K L shape o rs ≡ Ok ts → I rs → I ts

    pub apply_all_keeps : Keeps → (shape : Shape) (os : List (Operation A)) (rs ts : List A) → Every Q os → apply_all K L shape os rs ≡ Ok ts → I rs → I ts
    unfolding apply_all
    apply_all_keeps keeps shape [] rs ts a h i = subst I (answer_injective _ ts h) i
    apply_all_keeps keeps shape (o ∷ os) rs ts a h i =
        let s = passed (apply_one K L shape o rs) _ ts h in
        apply_all_keeps keeps shape os s.value ts a.1 s.then (keeps shape o rs s.value a.0 s.first i)

    pub ran_keeps : Keeps → (q : ℕ) (fs : List (Frame A)) (s t : State A) → EveryOperation Q fs → Ran K L q fs s t → I s.records → I t.records
    ran_keeps keeps q [] s t a r i = subst (λ (x : State A). I x.records) r i
    ran_keeps keeps q (f ∷ fs) s t a r i = ran_keeps keeps q fs r.0 t a.1 r.2 (go (did K L q f s r.0 r.1))
      where
        go : Did K L q f s r.0 → I r.0.records
        go (skips below m) = subst (λ (x : State A). I x.records) (sym m) i
        go (plays rs above next h m) = subst (λ (x : State A). I x.records) (sym m) (apply_all_keeps keeps f.shape f.operations s.records rs a.0 h i)

    -- what each operation keeps, replay keeps
    pub replay_keeps : Keeps → (q : ℕ) (rs : List A) (fs : List (Frame A)) (k : ℕ) (s : State A) (at : ℕ) → EveryOperation Q fs
        → replay K L q rs (record { frames = fs; ended = tail k }) ≡ reached s at → I rs → I s.records
    unfolding replay
    replay_keeps keeps q rs fs k s at a h i = ran_keeps keeps q fs (begins q rs) s a (ran K L q fs (begins q rs) s k at h) i

  -- marking keeps what `delete` keeps
  pub all_mark : (P : A → Type 0) → ((r : A) → P r → P (K.delete r)) → (id : ℕ) (rs : List A) → Every P rs → Every P (mark K id rs)
  unfolding mark
  all_mark P keeps id [] a = tt
  all_mark P keeps id (r ∷ rs) a = (go (live_as K id r), all_mark P keeps id rs a.1)
    where
      go : (x : Bool) → P (cond x (K.delete r) r)
      go true = keeps r a.0
      go false = a.0

  module _ (L : Bounds) where
    -- (a) what `delete` keeps and every put record has
    pub all_keeps : (P : A → Type 0) → ((r : A) → P r → P (K.delete r)) → Keeps L (Puts P) (Every P)
    all_keeps P keeps shape (put r) rs ts p h a =
        subst (Every P) (sym (put_done L r rs ts h).result) (every_append P (mark K (K.id_of r) rs) (r ∷ []) (all_mark P keeps (K.id_of r) rs a) (p, tt))
    all_keeps P keeps shape (remove id) rs ts p h a = go (remove_done shape id rs ts h)
      where
        go : RemoveDone K shape id rs ts → Every P ts
        go (marks _ e) = subst (Every P) (sym e) (all_mark P keeps id rs a)
        go (leaves _ _ e) = subst (Every P) (sym e) a

    -- (b) no ID is live twice
    pub single_keeps : Deletes K → Keeps L Any (LiveOnce K)
    single_keeps D shape (put r) rs ts p h s = subst (LiveOnce K) (sym (put_done L r rs ts h).result) (single_put K D rs r s)
    single_keeps D shape (remove id) rs ts p h s = go (remove_done shape id rs ts h)
      where
        go : RemoveDone K shape id rs ts → LiveOnce K ts
        go (marks _ e) = subst (LiveOnce K) (sym e) (single_mark K D id rs s)
        go (leaves _ _ e) = subst (LiveOnce K) (sym e) s

    pub put_length : (r : A) (rs ts : List A) → PutDone K L r rs ts → length ts ≡ suc (length rs)
    put_length r rs ts d =
        ap {B = ℕ} length d.result ∙ omega (arith, length-append (mark K (K.id_of r) rs) (r ∷ []), length_mark K (K.id_of r) rs)

    pub remove_length : (shape : Shape) (id : ℕ) (rs ts : List A) → RemoveDone K shape id rs ts → length ts ≡ length rs
    remove_length shape id rs ts (marks _ e) = ap {B = ℕ} length e ∙ length_mark K id rs
    remove_length shape id rs ts (leaves _ _ e) = ap {B = ℕ} length e

    -- (c) the number of records stays within its limit, and within the rows lent
    pub records_keeps : Keeps L Any (λ rs. length rs ≤ L.max_records)
    records_keeps shape (put r) rs ts p h b = omega (arith, put_length r rs ts (put_done L r rs ts h), (put_done L r rs ts h).fewer)
    records_keeps shape (remove id) rs ts p h b = omega (arith, remove_length shape id rs ts (remove_done shape id rs ts h))

    pub rows_keeps : Keeps L Any (λ rs. length rs ≤ L.rows_lent)
    rows_keeps shape (put r) rs ts p h b = omega (arith, put_length r rs ts (put_done L r rs ts h), (put_done L r rs ts h).lent)
    rows_keeps shape (remove id) rs ts p h b = omega (arith, remove_length shape id rs ts (remove_done shape id rs ts h))

    -- the same of a whole replay
    module _ (q : ℕ) (rs : List A) (fs : List (Frame A)) (k : ℕ) (s : State A) (at : ℕ) (h : replay K L q rs (record { frames = fs; ended = tail k }) ≡ reached s at) where
      pub replay_all : (P : A → Type 0) → ((r : A) → P r → P (K.delete r)) → EveryOperation (Puts P) fs → Every P rs → Every P s.records
      replay_all P keeps puts a = replay_keeps L (Puts P) (Every P) (all_keeps P keeps) q rs fs k s at puts h a

      pub replay_single : Deletes K → LiveOnce K rs → LiveOnce K s.records
      replay_single D a = replay_keeps L Any (LiveOnce K) (single_keeps D) q rs fs k s at (any_operations fs) h a

      pub replay_records : length rs ≤ L.max_records → length s.records ≤ L.max_records
      replay_records a = replay_keeps L Any (λ ts. length ts ≤ L.max_records) records_keeps q rs fs k s at (any_operations fs) h a

      pub replay_rows : length rs ≤ L.rows_lent → length s.records ≤ L.rows_lent
      replay_rows a = replay_keeps L Any (λ ts. length ts ≤ L.rows_lent) rows_keeps q rs fs k s at (any_operations fs) h a
