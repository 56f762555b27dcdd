-- An answer in numbers: document 01's number, 0 where nothing is refused, and the values of what is accepted, none of what is refused.
-- What the C entries hand on is said so in `lambspool/Said`, a field in `PastTheEnd`; here are a test, a metric and a header, with what
-- the calls answer by them.
use Rattle.config.specs.declared.Metric.{Metric}
use Rattle.std.specs.Prelude.{ℕ, ◌≡◌, Bool, cond, List, [], ◌∷◌, ltb, Ok, Err}
use Rattle.std.specs.Borrow.{Bor}
use Rattle.refusal.specs.declared.Refusal.{Refusal}
use Rattle.refusal.specs.declared.Refusal.TheVariants.{WrongMetric}
use Rattle.refusal.specs.Refusal.{Answer, number}
use Rattle.config.specs.Settings.{metric_number, ef_of, validate}
use Rattle.config.specs.declared.Config.{Config}
use Rattle.coordinates.specs.Coordinates.{vector_of}
use Rattle.meaning.specs.Snapshot as Meant
use Rattle.config.proofs.Metric.from_u32.Reads as MetricFromCall
use Rattle.config.proofs.Config.validate.Reads as ValidateCall
use Rattle.coordinates.proofs.check_bits.Reads as CheckBitsCall
use Rattle.snapshot.specs.declared.Header.{Header}
use Rattle.snapshot.proofs.read_header.Reads as ReadHeaderCall

pub record Numbers : Type 0 where
  pub number : ℕ
  pub values : List ℕ

abbrev pub accepted : List ℕ → Numbers
accepted values = record { number = 0; values = values }

-- a refusal has no values
abbrev pub refused_by : Refusal → Numbers
refused_by why = record { number = number why; values = [] }

-- of what a definition gives
abbrev pub numbers_of : {A : Type 0} → (A → List ℕ) → Answer A → Numbers
numbers_of values (Ok a) = accepted (values a)
numbers_of values (Err why) = refused_by why

abbrev pub checked_numbers : Answer (Unit {0}) → Numbers
checked_numbers (Ok u) = accepted []
checked_numbers (Err why) = refused_by why

-- the metric's number in a file
abbrev pub metric_numbers : Answer Metric → Numbers
metric_numbers (Ok m) = accepted (metric_number m ∷ [])
metric_numbers (Err why) = refused_by why

-- metric, d, M, ef, seed; sequence, count, the records' first byte
abbrev pub header_values : Config → ℕ → ℕ → ℕ → List ℕ
header_values c sequence count first =
    metric_number c.metric ∷ c.dimensions ∷ c.m ∷ ef_of c ∷ c.seed ∷ sequence ∷ count ∷ first ∷ []

abbrev pub header_numbers : Answer Header → Numbers
header_numbers (Ok h) = accepted (header_values h.config h.sequence h.count h.first)
header_numbers (Err why) = refused_by why

pub record Numbered : Type 0 where
  -- Metric::from_u32(v): the number itself, or 5
  pub metric_from_numbers : (κs : _) (v : ℕ) (r : Answer Metric) → MetricFromCall.Learnt κs (v, tt) r (v, tt)
      → metric_numbers r ≡ cond (ltb v 3) (accepted (v ∷ [])) (refused_by WrongMetric)
  -- Config::validate(self)
  pub validate_numbers : (κs : _) (self : Config) (r : Answer (Unit {0})) → ValidateCall.Learnt κs (self, tt) r (self, tt) → checked_numbers r ≡ numbers_of (λ u. []) (validate self)
  -- check_bits(bits, cosine)
  pub check_bits_numbers : (κs : _) (bits : Bor (List ℕ)) (cosine : Bool) (r : Answer (Unit {0}))
      → CheckBitsCall.Learnt κs (bits, (cosine, tt)) r (bits, (cosine, tt)) → checked_numbers r ≡ numbers_of (λ u. []) (vector_of cosine bits.now)
  -- read_header(bytes)
  pub read_header_numbers : (κs : _) (bytes : Bor (List ℕ)) (r : Answer Header) → ReadHeaderCall.Learnt κs (bytes, tt) r (bytes, tt)
      → header_numbers r ≡ numbers_of (λ h. header_values h.config h.sequence h.count h.first) (Meant.read_header bytes.now)
