-- A map of records that keeps what replay asks of them, and any map of log places, carries replay with it: a table of rows and the
-- records seen through it replay alike.
use Rattle.std.specs.Prelude.{Ok, Err}
use Prim.Native.Nat.{ℕ, ◌+◌}
use mathlib.Core.Bool.{Bool, true, false, not, cond}
use mathlib.Core.List.{List, [], ◌∷◌, ◌++◌, map}
use mathlib.Core.Path.{◌≡◌, refl, sym, ap, ap₂, ◌∙◌}
use lib.ListN.{length, length-map}
use lib.Dec.{leb, ltb, eqb}
use Rattle.refusal.specs.Refusal.{Answer, refuse, ◌>>=◌}
use Rattle.refusal.specs.declared.Refusal.TheVariants.{GapAfterSnapshot, StorageLimits, TooFewRows}
use Rattle.layout.specs.Layout.{snapshot_length}
use Rattle.layout.specs.declared.Shape.{Shape}
use Rattle.layout.specs.declared.Shape.TheVariants.{Single, Batch}
use Rattle.meaning.specs.Replay.{Kind, Operation, put, remove, Frame, End, tail, bad, Frames, State, Outcome, reached, stopped, Bounds, live_as, active, mark_one, mark, size, absent, apply_put, apply_remove, apply_one, apply_all, replay_frame, step, run, replay, onward}
use Rattle.theorems.proofs.CutFrames.{RisingFrom}
use Rattle.theorems.proofs.Alike.{on_answer, carried_refuse, carried_bind, carried_cond}
use Rattle.theorems.specs.FrameRows.{carry_operation}

-- the map keeps each field of the kind
pub record Carries {A B : Type 0} (K : Kind A) (J : Kind B) (h : A → B) : Type 0 where
  pub ids : (r : A) → J.id_of (h r) ≡ K.id_of r
  pub deleteds : (r : A) → J.deleted (h r) ≡ K.deleted r
  pub sizes : (r : A) → J.size_of (h r) ≡ K.size_of r
  pub deletes : (r : A) → J.delete (h r) ≡ h (K.delete r)

abbrev pub carry_end : (ℕ → ℕ) → End → End
carry_end p (tail at) = tail (p at)
carry_end p (bad why at) = bad why (p at)

module _ {A B : Type 0} (h : A → B) where
  abbrev pub carry_state : State A → State B
  carry_state s = record { records = map h s.records; sequence = s.sequence; replayed = s.replayed; skipped = s.skipped }

  -- log places go by p
  abbrev pub carry_frame : (ℕ → ℕ) → Frame A → Frame B
  carry_frame p f = record { start = p f.start; sequence = f.sequence; shape = f.shape; operations = map (carry_operation h) f.operations }

  abbrev pub carry_frames : (ℕ → ℕ) → Frames A → Frames B
  carry_frames p log = record { frames = map (carry_frame p) log.frames; ended = carry_end p log.ended }

  abbrev pub carry_outcome : (ℕ → ℕ) → Outcome A → Outcome B
  carry_outcome p (reached s at) = reached (carry_state s) (p at)
  carry_outcome p (stopped why at) = stopped why (p at)

  pub map_append : (xs ys : List A) → map h (xs ++ ys) ≡ map h xs ++ map h ys
  map_append [] ys = refl
  map_append (x ∷ xs) ys = ap {B = List B} (λ zs. h x ∷ zs) (map_append xs ys)

  pub rising_carried : (p : ℕ → ℕ) (n : ℕ) (fs : List (Frame A)) → RisingFrom n fs → RisingFrom n (map (carry_frame p) fs)
  rising_carried p n [] r = tt
  rising_carried p n (f ∷ fs) r = (r.0, rising_carried p f.sequence fs r.1)

module _ {A B : Type 0} (K : Kind A) (J : Kind B) (h : A → B) (C : Carries K J h) where
  pub live_as_carried : (id : ℕ) (r : A) → live_as J id (h r) ≡ live_as K id r
  live_as_carried id r = ap₂ (λ (d : Bool) (n : ℕ). cond d false (eqb n id)) (C.deleteds r) (C.ids r)

  pub active_carried : (id : ℕ) (rs : List A) → active J id (map h rs) ≡ active K id rs
  unfolding active
  active_carried id [] = refl
  active_carried id (r ∷ rs) = ap₂ (λ (x y : Bool). cond x true y) (live_as_carried id r) (active_carried id rs)

  pub mark_one_carried : (id : ℕ) (r : A) → mark_one J id (h r) ≡ h (mark_one K id r)
  mark_one_carried id r = ap₂ (λ (x : Bool) (y : B). cond x y (h r)) (live_as_carried id r) (C.deletes r) ∙ go (live_as K id r)
    where
      go : (x : Bool) → cond x (h (K.delete r)) (h r) ≡ h (cond x (K.delete r) r)
      go true = refl
      go false = refl

  pub mark_carried : (id : ℕ) (rs : List A) → mark J id (map h rs) ≡ map h (mark K id rs)
  unfolding mark
  mark_carried id [] = refl
  mark_carried id (r ∷ rs) = ap₂ (λ (x : B) (xs : List B). x ∷ xs) (mark_one_carried id r) (mark_carried id rs)

  pub size_carried : (rs : List A) → size J (map h rs) ≡ size K rs
  unfolding size
  size_carried [] = refl
  size_carried (r ∷ rs) = ap₂ (λ (x y : ℕ). x + y) (C.sizes r) (size_carried rs)

  module _ (L : Bounds) where
    pub apply_put_carried : (r : A) (rs : List A) → apply_put J L (h r) (map h rs) ≡ on_answer (map h) (apply_put K L r rs)
    unfolding apply_put
    apply_put_carried r rs =
        rw (length-map rs h, C.ids r, mark_carried (K.id_of r) rs, size_carried (mark K (K.id_of r) rs), C.sizes r)
        (go (leb L.max_records (length rs)) (ltb L.max_bytes (snapshot_length (size K (mark K (K.id_of r) rs) + K.size_of r))) (leb L.rows_lent (length rs)))
      where
        go : (x y z : Bool)
            → (refuse StorageLimits x >>= λ _. refuse StorageLimits y >>= λ _. refuse TooFewRows z >>= λ _. Ok (map h (mark K (K.id_of r) rs) ++ (h r ∷ [])))
            ≡ on_answer (map h) (refuse StorageLimits x >>= λ _. refuse StorageLimits y >>= λ _. refuse TooFewRows z >>= λ _. Ok (mark K (K.id_of r) rs ++ (r ∷ [])))
        go true y z = refl
        go false true z = refl
        go false false true = refl
        go false false false = ap (λ (xs : List B). Ok xs) (sym (map_append h (mark K (K.id_of r) rs) (r ∷ [])))

    pub apply_remove_carried : (shape : Shape) (id : ℕ) (rs : List A) → apply_remove J shape id (map h rs) ≡ on_answer (map h) (apply_remove K shape id rs)
    unfolding apply_remove
    apply_remove_carried shape id rs = rw (active_carried id rs, mark_carried id rs) (go (active K id rs) shape)
      where
        go : (x : Bool) (y : Shape) → cond x (Ok (map h (mark K id rs))) (absent y (map h rs))
            ≡ on_answer (map h) (cond x (Ok (mark K id rs)) (absent y rs))
        go true y = refl
        go false Single = refl
        go false Batch = refl

    pub apply_one_carried : (shape : Shape) (o : Operation A) (rs : List A)
        → apply_one J L shape (carry_operation h o) (map h rs) ≡ on_answer (map h) (apply_one K L shape o rs)
    apply_one_carried shape (put r) rs = apply_put_carried r rs
    apply_one_carried shape (remove id) rs = apply_remove_carried shape id rs

    pub apply_all_carried : (shape : Shape) (os : List (Operation A)) (rs : List A)
        → apply_all J L shape (map (carry_operation h) os) (map h rs) ≡ on_answer (map h) (apply_all K L shape os rs)
    unfolding apply_all
    apply_all_carried shape [] rs = refl
    apply_all_carried shape (o ∷ os) rs =
        carried_bind (map h) (map h) (apply_one J L shape (carry_operation h o) (map h rs)) (apply_one K L shape o rs) _ _ (apply_one_carried shape o rs) λ ts e.
        apply_all_carried shape os ts

    module _ (p : ℕ → ℕ) where
      pub step_carried : (q : ℕ) (f : Frame A) (s : State A)
          → step J L q (carry_frame h p f) (carry_state h s) ≡ on_answer (carry_state h) (step K L q f s)
      unfolding step replay_frame
      step_carried q f s =
          carried_cond (carry_state h) (leb f.sequence q) (leb f.sequence q) _ _ _ _ refl refl
          (carried_refuse (carry_state h) GapAfterSnapshot (not (eqb f.sequence (s.sequence + 1))) (not (eqb f.sequence (s.sequence + 1))) _ _ refl λ e.
          carried_bind (carry_state h) (map h) (apply_all J L f.shape (map (carry_operation h) f.operations) (map h s.records)) (apply_all K L f.shape f.operations s.records) _ _
          (apply_all_carried f.shape f.operations s.records) λ rs e.
          refl)

      pub run_carried : (q : ℕ) (fs : List (Frame A)) (e : End) (s : State A)
          → run J L q (map (carry_frame h p) fs) (carry_end p e) (carry_state h s) ≡ carry_outcome h p (run K L q fs e s)
      unfolding run
      run_carried q [] (tail at) s = refl
      run_carried q [] (bad why at) s = refl
      run_carried q (f ∷ fs) e s =
          ap (λ (x : Answer (State B)). onward (p f.start) x (run J L q (map (carry_frame h p) fs) (carry_end p e))) (step_carried q f s)
          ∙ go (step K L q f s) (run_carried q fs e)
        where
          go : (x : Answer (State A))
              → ((t : State A) → run J L q (map (carry_frame h p) fs) (carry_end p e) (carry_state h t) ≡ carry_outcome h p (run K L q fs e t))
              → onward (p f.start) (on_answer (carry_state h) x) (run J L q (map (carry_frame h p) fs) (carry_end p e))
              ≡ carry_outcome h p (onward f.start x (run K L q fs e))
          go (Ok t) rest = rest t
          go (Err why) rest = refl

      -- replay of what is mapped is the mapped outcome
      pub replay_carried : (q : ℕ) (rs : List A) (log : Frames A) → replay J L q (map h rs) (carry_frames h p log) ≡ carry_outcome h p (replay K L q rs log)
      unfolding replay
      replay_carried q rs log = run_carried q log.frames log.ended (record { records = rs; sequence = q; replayed = 0; skipped = 0 })
