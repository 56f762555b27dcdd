-- Rows lent: how many records the lent tables have room for.
use Rattle.std.specs.Prelude.{ℕ, ◌/◌, min, List, length}
use Rattle.config.specs.Limits.{max_records}

-- for a call that is lent no active entries
abbrev pub rows_lent_plain : List ℕ → ℕ
rows_lent_plain rows = min (length rows / 2) max_records

-- for readers and recovery: least of half the row words, the active entries and 100,000
abbrev pub rows_lent : List ℕ → List ℕ → ℕ
rows_lent rows active = min (rows_lent_plain rows) (length active)
