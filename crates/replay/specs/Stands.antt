-- What replay keeps: rows in lent memory, with the tree that finds them and their encoded size; and what an operation leaves.
use Rattle.std.specs.Prelude.{ℕ, ◌≤◌, List, ◌≡◌, ltb, length, Ok, Err}
use Rattle.refusal.specs.Refusal.{Answer}
use Rattle.config.specs.Limits.{max_snapshot_bytes}
use Rattle.rows.specs.Rows.{RowFits}
use Rattle.rows.specs.declared.Row.{Row}
use Rattle.store_log.specs.declared.Operation.{Operation}
use Rattle.store_log.specs.declared.Operation.TheVariants.{Put, Remove}
use Rattle.meaning.specs.Every.{Every}
use Rattle.meaning.specs.Replay.{active, mark, size}
use Rattle.meaning.specs.Records.{row_kind}
use Rattle.links.specs.Links.{plain_rows}
use Rattle.tree.specs.Grown.{Grown, cell_of, Absent}
use Rattle.tree_meaning.specs.Holds.{Holds}
use Rattle.tree_meaning.specs.Spares.{Spares}
use Rattle.replay.specs.declared.Table.{Table}
use Rattle.replay.specs.declared.Outed.{Outed}

-- these rows, of d coordinates each, stand in the lent words and entries
pub record TableStands (d : ℕ) (words entries : List ℕ) (t : Table) (rows : List Row) : Type 0 where
  pub grown : Grown t.tree words entries
  pub holds : Holds (plain_rows words) rows
  pub counted : t.tree.count ≡ length rows
  pub packs : Every RowFits rows
  pub spares : Every Spares rows
  pub sized : t.size ≡ size (row_kind d) rows
  pub small : t.size ≤ max_snapshot_bytes

-- some rows stand there
pub record Kept (d : ℕ) (words entries : List ℕ) (t : Table) : Type 0 where
  pub rows : List Row
  pub stands : TableStands d words entries t rows

-- the live row of an ID taken out of such rows: it is marked, whether there was one is told, and the cell is where a new one goes
pub record TakenOut (d id : ℕ) (words entries : List ℕ) (t : Table) (o : Outed) (rows : List Row) : Type 0 where
  pub stands : TableStands d words entries (record { tree = t.tree; size = o.size }) (mark (row_kind d) id rows)
  pub told : active (row_kind d) id rows ≡ ltb 0 o.link
  pub cell_is : o.cell ≡ cell_of t.tree words entries id
  pub absent : Absent (plain_rows words) t.tree.count id

-- an operation that may be applied: a put whose row leaves the spare bits free, or a delete
abbrev pub Applicable : Operation → Type 0
Applicable (Put r) = RowFits r × Spares r
Applicable (Remove id) = Unit

-- what an operation leaves: the rows that replay defines, or its refusal
abbrev pub AppliedAs : ℕ → Answer (List Row) → Answer Table → List ℕ → List ℕ → Type 0
AppliedAs d (Ok rows) (Ok t) words entries = TableStands d words entries t rows
AppliedAs d (Ok rows) (Err why) words entries = ⊥
AppliedAs d (Err why) (Ok t) words entries = ⊥
AppliedAs d (Err why) (Err w) words entries = w ≡ why
