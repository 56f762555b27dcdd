-- What `specs/Numbered.antt` says of answers in numbers.
use Rattle.std.specs.Prelude.{Ok, Err}
use Prim.Native.Nat.{ℕ, zero, suc}
use native.Mathlib.Omega.{arith}
use borrow.Author.Tests.{ne_eqb, le-ltb}
use mathlib.Core.Path.{◌≡◌, refl, ap, ◌∙◌}
use mathlib.Core.Bool.{cond}
use mathlib.Core.List.{[], ◌∷◌}
use lib.Dec.{ltb}
use Rattle.refusal.specs.declared.Refusal.TheVariants.{WrongMetric}
use Rattle.refusal.specs.Refusal.{Answer}
use Rattle.config.specs.Settings.{validate, metric_of}
use Rattle.coordinates.specs.Coordinates.{vector_of}
use Rattle.meaning.specs.Snapshot as Meant
use Rattle.snapshot.specs.Told.{header_told}
use Rattle.promises.specs.Numbered.{accepted, refused_by, numbers_of, checked_numbers, metric_numbers, header_values, header_numbers, Numbered}

of_checked : (x : Answer (Unit {0})) → checked_numbers (x) ≡ numbers_of (λ u. []) x
of_checked (Ok u) = refl
of_checked (Err why) = refl

of_metric : (v : ℕ) → metric_numbers ((metric_of v)) ≡ cond (ltb v 3) (accepted (v ∷ [])) (refused_by WrongMetric)
unfolding metric_of
of_metric zero = refl
of_metric (suc zero) = refl
of_metric (suc (suc zero)) = refl
of_metric (suc (suc (suc v))) =
    let w = suc (suc (suc v)) in
    simp (ne_eqb w 0 (λ e. omega arith), ne_eqb w 1 (λ e. omega arith), ne_eqb w 2 (λ e. omega arith), le-ltb w 3 (omega arith))

of_header : (x : Answer Meant.Header) → header_numbers (header_told x) ≡ numbers_of (λ h. header_values h.config h.sequence h.count h.first) x
of_header (Ok h) = refl
of_header (Err why) = refl

pub numbered : Numbered
numbered =
    record {
      metric_from_numbers = λ κs v r e. ap metric_numbers e ∙ of_metric v;
      validate_numbers = λ κs self r e. ap checked_numbers e ∙ of_checked (validate self);
      check_bits_numbers = λ κs bits cosine r e. ap checked_numbers e ∙ of_checked (vector_of cosine bits.now);
      read_header_numbers = λ κs bytes r e. ap header_numbers e ∙ of_header (Meant.read_header bytes.now);
    }
