-- The leaves' calls that ask nothing of a caller, each told as `OneAnswer` says.
use Rattle.std.specs.Prelude.{ℕ, ◌*◌, ◌%◌, ◌^◌, ◌≤◌, ◌≡◌, Bool, List, length, replicate}
use Rattle.std.specs.Int.Bits.{bit_xor}
use Rattle.std.specs.Borrow.{Bor, MutBor}
use Rattle.refusal.specs.declared.Refusal.{Refusal}
use Rattle.refusal.specs.Refusal.{number}
use Rattle.crc32.specs.Crc.{all_ones, bytes_in, crc_of}
use Rattle.crc32.specs.Steps.{Rows}
use Rattle.utf8.specs.Utf8.{is_utf8, valid_front}
use Rattle.config.specs.declared.Metric.{Metric}
use Rattle.config.specs.declared.Config.{Config}
use Rattle.config.specs.Settings.{defaults, with_m, with_ef, with_seed, with_metric, in_range, validate, caption_limit, metric_of, metric_number, is_cosine}
use Rattle.layout.specs.declared.Version.{Version}
use Rattle.layout.specs.Layout.{metric_length, header_length}
use Rattle.fields.specs.Fields.{field8, field32, field64}
use Rattle.coordinates.specs.Coordinates.{vector_of}
use Rattle.rows.specs.declared.Id.{Id}
use Rattle.rows.specs.Rows.{row_of, operation_of}
use Rattle.rows.specs.Lent.{rows_lent, rows_lent_plain}
use Rattle.rng.specs.Rng.{rng_state}
use Rattle.refusal.proofs.Refusal.number.Reads as RefusalNumberCall
use Rattle.crc32.proofs.crc32.Reads as Crc32Call
use Rattle.crc32.proofs.start.Reads as CrcStartCall
use Rattle.crc32.proofs.part.Reads as CrcPartCall
use Rattle.crc32.proofs.finish.Reads as CrcFinishCall
use Rattle.utf8.proofs.is_utf8.Reads as IsUtf8Call
use Rattle.utf8.proofs.valid_front.Reads as ValidFrontCall
use Rattle.config.proofs.Metric.from_u32.Reads as MetricFromCall
use Rattle.config.proofs.Metric.number.Reads as MetricNumberCall
use Rattle.config.proofs.Metric.is_cosine.Reads as IsCosineCall
use Rattle.config.proofs.Config.new.Reads as ConfigNewCall
use Rattle.config.proofs.Config.with_m.Reads as WithMCall
use Rattle.config.proofs.Config.with_ef_construction.Reads as WithEfCall
use Rattle.config.proofs.Config.with_seed.Reads as WithSeedCall
use Rattle.config.proofs.Config.with_metric.Reads as WithMetricCall
use Rattle.config.proofs.Config.validate.Reads as ValidateCall
use Rattle.config.proofs.Config.caption_limit.Reads as CaptionLimitCall
use Rattle.config.proofs.in_range.Reads as InRangeCall
use Rattle.layout.proofs.Version.metric_length.Reads as MetricLengthCall
use Rattle.layout.proofs.Version.header_length.Reads as HeaderLengthCall
use Rattle.fields.proofs.read_u8.Reads as ReadU8Call
use Rattle.fields.proofs.read_u32.Reads as ReadU32Call
use Rattle.fields.proofs.read_u64.Reads as ReadU64Call
use Rattle.fields.proofs.fill_zero64.Reads as FillZero64Call
use Rattle.fields.proofs.fill_zero32.Reads as FillZero32Call
use Rattle.coordinates.proofs.check_bits.Reads as CheckBitsCall
use Rattle.rows.proofs.Row.unpack.Reads as RowUnpackCall
use Rattle.rows.proofs.Operation.unpack.Reads as OperationUnpackCall
use Rattle.rows.proofs.rows_lent_plain.Reads as RowsLentPlainCall
use Rattle.rows.proofs.rows_lent.Reads as RowsLentCall
use Rattle.rng.proofs.wrapping_mul.Reads as WrappingMulCall
use Rattle.rng.proofs.rng_state.Reads as RngStateCall
use Rattle.crc32.proofs.tables.Reads as TablesCall
use Rattle.promises.specs.OneAnswer.{One, Gives, LentAfter}

-- ---- refusal
pub record RefusalCalls : Type 0 where
  -- Refusal::number(self)
  pub refusal_number_one_answer : (κs : _) (self : Refusal) → Gives (number self) (λ r. RefusalNumberCall.Learnt κs (self, tt) r (self, tt))

-- ---- crc32
-- tables(): an array of 4096, of which the contract gives each entry
pub record TablesMeet (r : List ℕ) : Type 0 where
  pub length_is : length r ≡ 4096
  pub rows_are : Rows 16 r

pub record Crc32Calls : Type 0 where
  -- crc32(bytes)
  pub crc32_one_answer : (κs : _) (bytes : Bor (List ℕ)) → Gives (crc_of bytes.now) (λ r. Crc32Call.Learnt κs (bytes, tt) r (bytes, tt))
  -- start()
  pub crc_start_one_answer : (κs : _) → Gives all_ones (λ r. CrcStartCall.Learnt κs tt r tt)
  -- part(c, bytes)
  pub crc_part_one_answer : (κs : _) (c : ℕ) (bytes : Bor (List ℕ))
      → Gives (bytes_in c bytes.now) (λ r. CrcPartCall.Learnt κs (c, (bytes, tt)) r (c, (bytes, tt)))
  -- finish(c)
  pub crc_finish_one_answer : (κs : _) (c : ℕ) → Gives (bit_xor c all_ones) (λ r. CrcFinishCall.Learnt κs (c, tt) r (c, tt))
  pub tables_contract : (κs : _) (r : List ℕ) → length r ≡ 4096 → TablesCall.Learnt κs tt r tt → TablesMeet r
  pub tables_one_answer : One TablesMeet

-- ---- utf8
pub record Utf8Calls : Type 0 where
  -- is_utf8(bytes)
  pub is_utf8_one_answer : (κs : _) (bytes : Bor (List ℕ)) → Gives (is_utf8 bytes.now) (λ r. IsUtf8Call.Learnt κs (bytes, tt) r (bytes, tt))
  -- valid_front(bytes)
  pub valid_front_one_answer : (κs : _) (bytes : Bor (List ℕ))
      → Gives (valid_front bytes.now) (λ r. ValidFrontCall.Learnt κs (bytes, tt) r (bytes, tt))

-- ---- config
pub record ConfigCalls : Type 0 where
  -- Metric::from_u32(v)
  pub metric_from_one_answer : (κs : _) (v : ℕ) → Gives ((metric_of v)) (λ r. MetricFromCall.Learnt κs (v, tt) r (v, tt))
  -- Metric::number(self)
  pub metric_number_one_answer : (κs : _) (self : Metric) → Gives (metric_number self) (λ r. MetricNumberCall.Learnt κs (self, tt) r (self, tt))
  -- Metric::is_cosine(self)
  pub is_cosine_one_answer : (κs : _) (self : Metric) → Gives (is_cosine self) (λ r. IsCosineCall.Learnt κs (self, tt) r (self, tt))
  -- Config::new(dimensions)
  pub config_new_one_answer : (κs : _) (dimensions : ℕ)
      → Gives (defaults dimensions) (λ r. ConfigNewCall.Learnt κs (dimensions, tt) r (dimensions, tt))
  -- Config::with_m(self, m)
  pub with_m_one_answer : (κs : _) (self : Config) (links : ℕ)
      → Gives (with_m self links) (λ r. WithMCall.Learnt κs (self, (links, tt)) r (self, (links, tt)))
  -- Config::with_ef_construction(self, ef)
  pub with_ef_one_answer : (κs : _) (self : Config) (ef : ℕ) → Gives (with_ef self ef) (λ r. WithEfCall.Learnt κs (self, (ef, tt)) r (self, (ef, tt)))
  -- Config::with_seed(self, seed)
  pub with_seed_one_answer : (κs : _) (self : Config) (seed : ℕ)
      → Gives (with_seed self seed) (λ r. WithSeedCall.Learnt κs (self, (seed, tt)) r (self, (seed, tt)))
  -- Config::with_metric(self, metric)
  pub with_metric_one_answer : (κs : _) (self : Config) (metric : Metric)
      → Gives (with_metric self metric) (λ r. WithMetricCall.Learnt κs (self, (metric, tt)) r (self, (metric, tt)))
  -- Config::validate(self)
  pub validate_one_answer : (κs : _) (self : Config) → Gives ((validate self)) (λ r. ValidateCall.Learnt κs (self, tt) r (self, tt))
  -- Config::caption_limit(self)
  pub caption_limit_one_answer : (κs : _) (self : Config) → Gives (caption_limit self) (λ r. CaptionLimitCall.Learnt κs (self, tt) r (self, tt))
  -- in_range(x, low, high)
  pub in_range_one_answer : (κs : _) (value low high : ℕ)
      → Gives (in_range value low high) (λ r. InRangeCall.Learnt κs (value, (low, (high, tt))) r (value, (low, (high, tt))))

-- ---- layout
-- Version::metric_length(self)
pub record MetricLengthMeets (self : Version) (r : ℕ) : Type 0 where
  pub result_is : r ≡ metric_length self
  pub most : r ≤ 4

-- Version::header_length(self)
pub record HeaderLengthMeets (self : Version) (r : ℕ) : Type 0 where
  pub result_is : r ≡ header_length self
  pub most : r ≤ 52

pub record LayoutCalls : Type 0 where
  pub metric_length_contract : (κs : _) (self : Version) (r : ℕ) → MetricLengthCall.Learnt κs (self, tt) r (self, tt) → MetricLengthMeets self r
  pub metric_length_one_answer : (self : Version) → One (MetricLengthMeets self)
  pub header_length_contract : (κs : _) (self : Version) (r : ℕ) → HeaderLengthCall.Learnt κs (self, tt) r (self, tt) → HeaderLengthMeets self r
  pub header_length_one_answer : (self : Version) → One (HeaderLengthMeets self)

-- ---- fields
pub record FieldsCalls : Type 0 where
  -- read_u8(bytes, at)
  pub read_u8_one_answer : (κs : _) (bytes : Bor (List ℕ)) (at : ℕ)
      → Gives (field8 bytes.now at) (λ r. ReadU8Call.Learnt κs (bytes, (at, tt)) r (bytes, (at, tt)))
  -- read_u32(bytes, at)
  pub read_u32_one_answer : (κs : _) (bytes : Bor (List ℕ)) (at : ℕ)
      → Gives (field32 bytes.now at) (λ r. ReadU32Call.Learnt κs (bytes, (at, tt)) r (bytes, (at, tt)))
  -- read_u64(bytes, at)
  pub read_u64_one_answer : (κs : _) (bytes : Bor (List ℕ)) (at : ℕ)
      → Gives (field64 bytes.now at) (λ r. ReadU64Call.Learnt κs (bytes, (at, tt)) r (bytes, (at, tt)))
  -- fill_zero64(words): what was lent, after
  pub fill_zero64_one_answer : (κs : _) (words : MutBor (List ℕ))
      → LentAfter (replicate (length words.now) 0) (λ after. FillZero64Call.Learnt κs (words, tt) tt (after, tt))
  -- fill_zero32(entries): what was lent, after
  pub fill_zero32_one_answer : (κs : _) (entries : MutBor (List ℕ))
      → LentAfter (replicate (length entries.now) 0) (λ after. FillZero32Call.Learnt κs (entries, tt) tt (after, tt))

-- ---- coordinates
pub record CoordinatesCalls : Type 0 where
  -- check_bits(patterns, cosine)
  pub check_bits_one_answer : (κs : _) (patterns : Bor (List ℕ)) (cosine : Bool)
      → Gives ((vector_of cosine patterns.now)) (λ r. CheckBitsCall.Learnt κs (patterns, (cosine, tt)) r (patterns, (cosine, tt)))

-- ---- rows
pub record RowsCalls : Type 0 where
  -- Row::unpack(id, word)
  pub row_unpack_one_answer : (κs : _) (id : Id) (word : ℕ)
      → Gives (row_of id.0 word) (λ r. RowUnpackCall.Learnt κs (id, (word, tt)) r (id, (word, tt)))
  -- Operation::unpack(id, word)
  pub operation_unpack_one_answer : (κs : _) (id : Id) (word : ℕ)
      → Gives (operation_of id.0 word) (λ r. OperationUnpackCall.Learnt κs (id, (word, tt)) r (id, (word, tt)))
  -- rows_lent_plain(rows)
  pub rows_lent_plain_one_answer : (κs : _) (rows : Bor (List ℕ))
      → Gives (rows_lent_plain rows.now) (λ r. RowsLentPlainCall.Learnt κs (rows, tt) r (rows, tt))
  -- rows_lent(rows, active)
  pub rows_lent_one_answer : (κs : _) (rows active : Bor (List ℕ))
      → Gives (rows_lent rows.now active.now) (λ r. RowsLentCall.Learnt κs (rows, (active, tt)) r (rows, (active, tt)))

-- ---- rng
pub record RngCalls : Type 0 where
  -- wrapping_mul(a, b)
  pub wrapping_mul_one_answer : (κs : _) (a b : ℕ) → Gives (a * b % 2 ^ 64) (λ r. WrappingMulCall.Learnt κs (a, (b, tt)) r (a, (b, tt)))
  -- rng_state(seed, count)
  pub rng_state_one_answer : (κs : _) (seed count : ℕ)
      → Gives (rng_state seed count) (λ r. RngStateCall.Learnt κs (seed, (count, tt)) r (seed, (count, tt)))
