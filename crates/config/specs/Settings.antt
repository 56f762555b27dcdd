-- Settings: their defaults, what is refused of them, the metric's number in a file, and how long a caption may be.
use Rattle.std.specs.Prelude.{ℕ, ◌≤◌, Bool, true, false, not, ◌&&◌, cond, leb, eqb, Ok, Err}
use Rattle.refusal.specs.Refusal.{Answer, ◌>>=◌, refuse}
use Rattle.refusal.specs.declared.Refusal.TheVariants.{WrongMetric, WrongDimensions, WrongM, WrongEf}
use Rattle.config.specs.Limits.{min_dimensions, max_dimensions, min_m, max_m, max_ef, max_metadata, default_m, default_ef, default_seed}
use Rattle.config.specs.declared.Metric.{Metric}
use Rattle.config.specs.declared.Metric.TheVariants.{SquaredL2, Cosine, InnerProduct}
use Rattle.config.specs.declared.Config.{Config}

-- 0 squared L2, 1 cosine, 2 inner product
abbrev pub metric_number : Metric → ℕ
metric_number SquaredL2 = 0
metric_number Cosine = 1
metric_number InnerProduct = 2

abbrev pub is_cosine : Metric → Bool
is_cosine SquaredL2 = false
is_cosine Cosine = true
is_cosine InnerProduct = false

-- any other number is refused by 5
unfoldable pub metric_of : ℕ → Answer Metric
metric_of v =
    cond (eqb v 0) (Ok SquaredL2)
    (cond (eqb v 1) (Ok Cosine)
    (cond (eqb v 2) (Ok InnerProduct)
    (Err WrongMetric)))

-- d, M, ef, seed, metric
abbrev pub settings : ℕ → ℕ → ℕ → ℕ → Metric → Config
settings d m ef seed metric = record { dimensions = d; m = m; ef_construction = ef; seed = seed; metric = metric }

abbrev pub ef_of : Config → ℕ
ef_of c = c.ef_construction

abbrev pub defaults : ℕ → Config
defaults d = settings d default_m default_ef default_seed SquaredL2

-- one setting changed
abbrev pub with_m : Config → ℕ → Config
with_m c m = settings c.dimensions m (ef_of c) c.seed c.metric

abbrev pub with_ef : Config → ℕ → Config
with_ef c ef = settings c.dimensions c.m ef c.seed c.metric

abbrev pub with_seed : Config → ℕ → Config
with_seed c seed = settings c.dimensions c.m (ef_of c) seed c.metric

abbrev pub with_metric : Config → Metric → Config
with_metric c metric = settings c.dimensions c.m (ef_of c) c.seed metric

-- low..=high
unfoldable pub in_range : ℕ → ℕ → ℕ → Bool
in_range x low high = leb low x && leb x high

-- 6, 7, 8: d, then M, then ef, whose lower bound is M
unfoldable pub validate : Config → Answer (Unit {0})
validate c = do
  _ ← refuse WrongDimensions (not (in_range c.dimensions min_dimensions max_dimensions))
  _ ← refuse WrongM (not (in_range c.m min_m max_m))
  refuse WrongEf (not (in_range (ef_of c) c.m max_ef))

-- how long a caption may be, wherever one is read or written
abbrev pub caption_limit : Config → ℕ
caption_limit c = max_metadata

-- the bounds that a valid config keeps: 1 ≤ d ≤ 4096, 2 ≤ M ≤ 64, M ≤ ef ≤ 4096
pub record Bounded (c : Config) : Type 0 where
  pub d_low : min_dimensions ≤ c.dimensions
  pub d_high : c.dimensions ≤ max_dimensions
  pub m_low : min_m ≤ c.m
  pub m_high : c.m ≤ max_m
  pub ef_low : c.m ≤ ef_of c
  pub ef_high : ef_of c ≤ max_ef
