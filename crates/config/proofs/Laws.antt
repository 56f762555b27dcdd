-- Laws of settings, for whoever goes on with valid ones: `Bounded c` says document 01's bounds, and a config is valid exactly under them. A metric and its number determine each other.
use Rattle.std.specs.Prelude.{Ok, Err}
use Prim.Native.Nat.{ℕ, ◌≤◌, ◌<◌}
use mathlib.Core.Path.{◌≡◌, refl, ap, ◌∙◌}
use mathlib.Core.Bool.{Bool, true, false, not, ◌&&◌, cond}
use lib.Dec.{leb, eqb, lit<}
use native.Mathlib.Omega.{arith}
use borrow.Author.Tests.{leb-true, le-leb, lt-leb, eqb-true, not-false}
use Rattle.config.specs.Limits.{min_dimensions, max_dimensions, min_m, max_m, max_ef}
use Rattle.config.specs.Settings.{Bounded, validate, in_range, metric_of, metric_number, ef_of}
use Rattle.config.specs.declared.Config.{Config}
use Rattle.config.specs.declared.Metric.{Metric}
use Rattle.config.specs.declared.Metric.TheVariants.{SquaredL2, Cosine, InnerProduct}
use Rattle.refusal.specs.declared.Refusal.TheVariants.{WrongMetric, WrongDimensions, WrongM, WrongEf}
use Rattle.refusal.proofs.Results.{went, not_refused}

pub in_range_of : (x low high : ℕ) → low ≤ x → x ≤ high → in_range x low high ≡ true
unfolding in_range
in_range_of x low high h k = simp (le-leb _ _ h, le-leb _ _ k)

pub not_in_range_below : (x low high : ℕ) → x < low → in_range x low high ≡ false
unfolding in_range
not_in_range_below x low high h = simp (lt-leb _ _ h)

pub not_in_range_above : (x low high : ℕ) → high < x → in_range x low high ≡ false
unfolding in_range
not_in_range_above x low high h = by (leb low x)
  where
    by : (t : Bool) → (t && leb x high) ≡ false
    by true = lt-leb _ _ h
    by false = refl

pub bounds_of_in_range : (x low high : ℕ) → in_range x low high ≡ true → (low ≤ x) × (x ≤ high)
unfolding in_range
bounds_of_in_range x low high e = by (leb low x) refl e
  where
    by : (t : Bool) → leb low x ≡ t → (t && leb x high) ≡ true → (low ≤ x) × (x ≤ high)
    by true q e = (leb-true _ _ q, leb-true _ _ e)
    by false q e = let z : ◌≡◌ {A = ℕ} 0 1 = cc in absurd (omega arith)

pub bounded_of_valid : (c : Config) → validate c ≡ Ok tt → Bounded c
unfolding validate
bounded_of_valid c e =
    let d = went WrongDimensions (not (in_range c.dimensions min_dimensions max_dimensions)) _ tt e in
    let m = went WrongM (not (in_range c.m min_m max_m)) _ tt d.then in
    let f = not_refused WrongEf (not (in_range (ef_of c) c.m max_ef)) m.then in
    let hd = bounds_of_in_range _ _ _ (not-false _ d.test_false) in
    let hm = bounds_of_in_range _ _ _ (not-false _ m.test_false) in
    let he = bounds_of_in_range _ _ _ (not-false _ f) in
    record { d_low = hd.0; d_high = hd.1; m_low = hm.0; m_high = hm.1; ef_low = he.0; ef_high = he.1 }

pub valid_of_bounded : (c : Config) → Bounded c → validate c ≡ Ok tt
unfolding validate
valid_of_bounded c b =
    simp (in_range_of _ _ _ b.d_low b.d_high, in_range_of _ _ _ b.m_low b.m_high, in_range_of _ _ _ b.ef_low b.ef_high)

pub number_below_three : (k : Metric) → metric_number k < 3
number_below_three SquaredL2 = lit< tt
number_below_three Cosine = lit< tt
number_below_three InnerProduct = lit< tt

pub read_of_number : (k : Metric) → metric_of (metric_number k) ≡ Ok k
unfolding metric_of
read_of_number SquaredL2 = refl
read_of_number Cosine = refl
read_of_number InnerProduct = refl

pub number_of_read : (v : ℕ) (k : Metric) → metric_of v ≡ Ok k → v ≡ metric_number k
unfolding metric_of
number_of_read v k e = first (eqb v 0) refl e
  where
    unknown : Err WrongMetric ≡ Ok k → v ≡ metric_number k
    unknown e = let z : ◌≡◌ {A = ℕ} 0 1 = cc in absurd (omega arith)

    third : (t : Bool) → eqb v 2 ≡ t → cond t (Ok InnerProduct) (Err WrongMetric) ≡ Ok k → v ≡ metric_number k
    third true q e = let same : InnerProduct ≡ k = cc in eqb-true v 2 q ∙ ap metric_number same
    third false q e = unknown e

    second : (t : Bool) → eqb v 1 ≡ t → cond t (Ok Cosine) (cond (eqb v 2) (Ok InnerProduct) (Err WrongMetric)) ≡ Ok k → v ≡ metric_number k
    second true q e = let same : Cosine ≡ k = cc in eqb-true v 1 q ∙ ap metric_number same
    second false q e = third (eqb v 2) refl e

    first : (t : Bool) → eqb v 0 ≡ t → cond t (Ok SquaredL2) (cond (eqb v 1) (Ok Cosine) (cond (eqb v 2) (Ok InnerProduct) (Err WrongMetric))) ≡ Ok k → v ≡ metric_number k
    first true q e = let same : SquaredL2 ≡ k = cc in eqb-true v 0 q ∙ ap metric_number same
    first false q e = second (eqb v 1) refl e
