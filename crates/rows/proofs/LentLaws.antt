-- Laws of rows lent, for whoever indexes the tables.
use Prim.Native.Nat.{ℕ, ◌+◌, ◌*◌, ◌≤◌, ◌<◌}
use mathlib.Core.List.{List}
use native.Mathlib.Omega.{arith}
use lib.ListN.{length}
use Rattle.config.specs.Limits.{max_records}
use Rattle.rows.specs.Lent.{rows_lent, rows_lent_plain}

-- a node below the rows lent has both its words in the table
pub words_of_lent_plain : (rows : List ℕ) (i : ℕ) → i < rows_lent_plain rows → 2 * i + 1 < length rows
words_of_lent_plain rows i h = omega arith

pub words_of_lent : (rows active : List ℕ) (i : ℕ) → i < rows_lent rows active → 2 * i + 1 < length rows
words_of_lent rows active i h = omega arith

pub lent_plain_below_limit : (rows : List ℕ) → rows_lent_plain rows ≤ max_records
lent_plain_below_limit rows = omega arith

pub lent_below_plain : (rows active : List ℕ) → rows_lent rows active ≤ rows_lent_plain rows
lent_below_plain rows active = omega arith

pub lent_below_active : (rows active : List ℕ) → rows_lent rows active ≤ length active
lent_below_active rows active = omega arith
