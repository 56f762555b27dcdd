-- What a record must be for a snapshot to hold it, what a row must be for its record to be there, and what a file of records may hold.
use Rattle.std.specs.Prelude.{ℕ, ◌+◌, ◌*◌, ◌≤◌, ◌<◌, ◌^◌, ◌≡◌, true, List, [], length, Ok}
use Rattle.utf8.specs.Utf8.{is_utf8}
use Rattle.fields.specs.Fields.{Bytes}
use Rattle.config.specs.Limits.{max_metadata, max_records, max_snapshot_bytes}
use Rattle.config.specs.Settings.{validate}
use Rattle.config.specs.declared.Config.{Config}
use Rattle.rows.specs.declared.Row.{Row}
use Rattle.meaning.specs.Records.{Record, record_kind, source, caption_start, seen}
use Rattle.meaning.specs.Item.{coordinates}
use Rattle.meaning.specs.Every.{Every}
use Rattle.meaning.specs.LiveOnce.{LiveOnce}
use Rattle.meaning.specs.File.{file_of}

pub record Fit (c : Config) (r : Record) : Type 0 where
  pub id_fits : r.id < 256 ^ 8
  pub vector_length : length r.vector ≡ 4 * c.dimensions
  pub vector_bytes : Bytes r.vector
  pub vector_good : coordinates c r.vector ≡ Ok tt
  pub caption_length_lem : length r.caption ≤ max_metadata
  pub caption_bytes : Bytes r.caption
  pub caption_good : is_utf8 r.caption ≡ true
  pub deleted_empty : r.deleted ≡ true → r.caption ≡ []

-- the row's part lies inside its source
pub record Sourced (c : Config) (snapshot log : List ℕ) (r : Row) : Type 0 where
  pub inside : caption_start c.dimensions r + r.caption_length ≤ length (source snapshot log r)
  pub fit : Fit c (seen c.dimensions snapshot log r)

-- what a snapshot that is written may hold
pub record Storable (c : Config) (sequence : ℕ) (records : List Record) : Type 0 where
  pub valid : validate c ≡ Ok tt
  pub seed_fits : c.seed < 256 ^ 8
  pub sequence_fits : sequence < 256 ^ 8
  pub few : length records ≤ max_records
  pub short : length (file_of c sequence records) ≤ max_snapshot_bytes
  pub fit : Every (Fit c) records
  pub single : LiveOnce (record_kind c.dimensions) records
