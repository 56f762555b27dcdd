-- The bounds of document 01, in its order, and the defaults of `Config::new`.
use Rattle.std.specs.Prelude.{ℕ}

-- d, the coordinates of a vector: 1..=4096
abbrev pub min_dimensions : ℕ
min_dimensions = 1

abbrev pub max_dimensions : ℕ
max_dimensions = 4096

-- M, the neighbours of a node: 2..=64
abbrev pub min_m : ℕ
min_m = 2

abbrev pub max_m : ℕ
max_m = 64

-- ef, the candidates at insertion: M..=4096
abbrev pub max_ef : ℕ
max_ef = 4096

-- a caption's bytes
abbrev pub max_metadata : ℕ
max_metadata = 16384

-- the records of a snapshot or a state
abbrev pub max_records : ℕ
max_records = 100000

-- a snapshot's bytes: 52..=268,435,456, in either version
abbrev pub min_snapshot_bytes : ℕ
min_snapshot_bytes = 52

abbrev pub max_snapshot_bytes : ℕ
max_snapshot_bytes = 268435456

-- a cache's bytes: 52..=134,217,728
abbrev pub min_cache_bytes : ℕ
min_cache_bytes = 52

abbrev pub max_cache_bytes : ℕ
max_cache_bytes = 134217728

-- a payload's bytes: 17..=8,388,608
abbrev pub min_frame : ℕ
min_frame = 17

abbrev pub max_frame : ℕ
max_frame = 8388608

-- a batch's operations: 1..=1024
abbrev pub max_batch_operations : ℕ
max_batch_operations = 1024

-- a log's bytes
abbrev pub max_log_bytes : ℕ
max_log_bytes = 1073741824

-- the defaults of `Config::new`, whose metric is squared L2
abbrev pub default_m : ℕ
default_m = 16

abbrev pub default_ef : ℕ
default_ef = 200

abbrev pub default_seed : ℕ
default_seed = 42
