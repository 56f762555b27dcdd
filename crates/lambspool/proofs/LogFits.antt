-- What is read of a log fits what is said of it.
use Rattle.std.specs.Prelude.{Ok, Err}
use Prim.Native.Nat.{ℕ, ◌+◌, ◌≤◌}
use native.Mathlib.Omega.{arith}
use mathlib.Core.Path.{◌≡◌, refl, sym, ap, subst}
use mathlib.Core.Bool.{Bool, true, false, cond}
use mathlib.Core.List.{List}
use lib.Dec.{ltb, eqb}
use lib.ListN.{length}
use Rattle.refusal.specs.Refusal.{Answer, ◌>>=◌, told}
use Rattle.refusal.specs.declared.Refusal.TheVariants.{PastTheEnd, RequestMalformed}
use Rattle.refusal.proofs.Results.{answer_injective, passed, went}
use Rattle.config.specs.Limits.{max_dimensions}
use Rattle.config.specs.Settings.{metric_of, settings, validate}
use Rattle.config.specs.declared.Config.{Config}
use Rattle.config.proofs.Laws.{bounded_of_valid}
use Rattle.layout.specs.declared.Shape.{Shape}
use Rattle.layout.specs.declared.Shape.TheVariants.{Single, Batch}
use Rattle.fields.specs.Fields.{num}
use Rattle.meaning.specs.Log.{ReadOperation, ReadFrame, too_little, wrong, found, frame_at}
use Rattle.meaning.specs.Calls.{frame_call, id_offset, operation_call}
use Rattle.meaning.proofs.FrameRead.{frame_bounds}
use Rattle.meaning.proofs.OperationRead.{OperationHere, put_here, remove_here, operation_read_lem}
use Rattle.store_log.specs.Told.{operation_read, operation_told, frame_told}
use Rattle.lambspool.specs.Asked.{settings_of, operation_of}
use Rattle.lambspool.specs.Fits.{FrameFits, OperationFits}
use Rattle.lambspool.specs.Said.{kind_number}

-- the settings have the dimensions that were asked
pub settings_dimensions : (d m ef seed metric : ℕ) (c : Config) → settings_of d m ef seed metric ≡ Ok c → c.dimensions ≡ d
unfolding settings_of
settings_dimensions d m ef seed metric c e =
    let s = passed (metric_of metric) _ c e in
    sym (ap (λ (x : Config). x.dimensions) (answer_injective (settings d m ef seed s.value) c s.then))

pub frame_fits : (c : Config) (log : List ℕ) (previous at : ℕ) → FrameFits (frame_told (frame_call c log previous at))
frame_fits c log previous at = tested (validate c)
  where
    there : (x : ReadFrame) → frame_at c log previous at ≡ x → FrameFits (frame_told x)
    there too_little e = tt
    there (wrong why) e = tt
    there (found f next) e =
        let b = frame_bounds c log previous at f next e in
        let far : at + 29 ≤ next = b.far in
        let start_is : f.start ≡ at = b.start_is in
        omega arith

    tested : (x : Answer (Unit {0})) → FrameFits (frame_told (told (λ _. frame_at c log previous at) wrong x))
    tested (Ok u) = there (frame_at c log previous at) refl
    tested (Err why) = tt

module _ (c : Config) (log : List ℕ) where
  called_fits : (shape : Shape) (end at : ℕ) → OperationFits c.dimensions (operation_told (operation_call c log shape end at))
  called_fits shape end at = go (operation_call c log shape end at) refl
    where
      here : (d_high : c.dimensions ≤ max_dimensions) (o : ReadOperation) → OperationHere c log end (num log at 1) (at + id_offset shape) o
          → OperationFits c.dimensions (Ok (operation_read o))
      here d_high o (put_here n t h i is) = subst (λ (x : ReadOperation). OperationFits c.dimensions (Ok (operation_read x))) (sym is) (d_high, omega arith)
      here d_high o (remove_here t h is) = subst (λ (x : ReadOperation). OperationFits c.dimensions (Ok (operation_read x))) (sym is) tt

      go : (x : Answer ReadOperation) → operation_call c log shape end at ≡ x → OperationFits c.dimensions (operation_told x)
      go (Err why) e = tt
      go (Ok o) e =
          let valid = passed (validate c) _ o e in
          let inside = went PastTheEnd (ltb (length log) end) _ o valid.then in
          let room = went PastTheEnd (ltb end (at + id_offset shape)) _ o inside.then in
          here (bounded_of_valid c valid.first).d_high o (operation_read_lem c log end (num log at 1) (at + id_offset shape) o room.then)

  pub operation_fits : (kind end at : ℕ) → OperationFits c.dimensions (operation_told (operation_of c log kind end at))
  operation_fits kind end at = one (eqb kind (kind_number Single))
    where
      none : (x : Answer (Unit {0})) → OperationFits c.dimensions (operation_told (x >>= λ _. Err RequestMalformed))
      none (Ok u) = tt
      none (Err why) = tt

      two : (b : Bool) → OperationFits c.dimensions (operation_told (cond b (operation_call c log Batch end at) (validate c >>= λ _. Err RequestMalformed)))
      two true = called_fits Batch end at
      two false = none (validate c)

      one : (b : Bool)
          → OperationFits c.dimensions (operation_told (cond b (operation_call c log Single end at) (cond (eqb kind (kind_number Batch)) (operation_call c log Batch end at) (validate c >>= λ _. Err RequestMalformed))))
      one true = called_fits Single end at
      one false = two (eqb kind (kind_number Batch))
