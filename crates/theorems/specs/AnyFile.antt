-- A file of either version, whose deleted records may have captions.
use Rattle.std.specs.Prelude.{ℕ, ◌*◌, ◌<◌, ◌^◌, ◌≡◌, List, [], ◌++◌, length}
use Rattle.crc32.specs.Crc.{crc_of}
use Rattle.fields.specs.Fields.{bytes}
use Rattle.config.specs.Settings.{metric_number, ef_of}
use Rattle.config.specs.declared.Config.{Config}
use Rattle.config.specs.declared.Metric.{Metric}
use Rattle.config.specs.declared.Metric.TheVariants.{SquaredL2}
use Rattle.layout.specs.Layout.{magic}
use Rattle.layout.specs.declared.Version.{Version}
use Rattle.layout.specs.declared.Version.TheVariants.{One, Two}
use Rattle.meaning.specs.Records.{Record}
use Rattle.meaning.specs.File.{records_bytes}

abbrev pub version_number : Version → ℕ
version_number One = 1
version_number Two = 2

-- version 2 has the metric, version 1 has not
abbrev pub metric_bytes : Version → Metric → List ℕ
metric_bytes One metric = []
metric_bytes Two metric = bytes 4 (metric_number metric)

unfoldable pub header_of : Version → Config → ℕ → ℕ → List ℕ
header_of v c sequence count =
    magic
    ++ (bytes 4 (version_number v)
    ++ (bytes 4 c.dimensions
    ++ (bytes 4 c.m
    ++ (bytes 4 (ef_of c)
    ++ (metric_bytes v c.metric ++ (bytes 8 c.seed ++ (bytes 8 sequence ++ bytes 8 count)))))))

abbrev pub body_with : Version → Config → ℕ → List Record → List ℕ
body_with v c sequence records = header_of v c sequence (length records) ++ records_bytes records

unfoldable pub file_with : Version → Config → ℕ → List Record → List ℕ
file_with v c sequence records = body_with v c sequence records ++ bytes 4 (crc_of (body_with v c sequence records))

-- version 1 has one metric
abbrev pub Tells : Version → Metric → Type 0
Tells One metric = metric ≡ SquaredL2
Tells Two metric = Unit {0}

-- the header's fields can hold these
pub record HeaderFits (v : Version) (c : Config) (sequence count : ℕ) : Type 0 where
  pub dimensions_fits : c.dimensions < 256 ^ 4
  pub m_fits : c.m < 256 ^ 4
  pub ef_fits : ef_of c < 256 ^ 4
  pub seed_fits : c.seed < 256 ^ 8
  pub sequence_fits : sequence < 256 ^ 8
  pub count_fits : count < 256 ^ 8
  pub metric_told_lem : Tells v c.metric

-- the fields of a record can hold it
pub record Shaped (d : ℕ) (r : Record) : Type 0 where
  pub id_fits : r.id < 256 ^ 8
  pub vector_length : length r.vector ≡ 4 * d
  pub caption_fits : length r.caption < 256 ^ 4
