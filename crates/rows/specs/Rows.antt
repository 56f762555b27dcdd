-- Record rows and batch operations: two words each, the ID and a packed word.
use Rattle.std.specs.Prelude.{ℕ, ◌+◌, ◌*◌, ◌^◌, ◌<◌, Bool, true, false, List, [], ◌∷◌, eqb, get_or, set}
use Rattle.rows.specs.Packed.{packed, fields}
use Rattle.rows.specs.declared.Row.{Row}
use Rattle.rows.specs.declared.Operation.{Operation}

-- deleted, source, caption length, offset of the first coordinate byte in its source
abbrev pub row_widths : List ℕ
row_widths = 1 ∷ 1 ∷ 15 ∷ 47 ∷ []

-- put, caption length, caption offset
abbrev pub operation_widths : List ℕ
operation_widths = 1 ∷ 15 ∷ 48 ∷ []

abbrev pub bit : Bool → ℕ
bit true = 1
bit false = 0

-- a row's values in the order of `row_widths`; source 1 is the log
unfoldable pub row_values : Row → List ℕ
row_values r = bit r.deleted ∷ bit r.from_log ∷ r.caption_length ∷ r.at ∷ []

-- the row of an ID and such values
unfoldable pub row_from : ℕ → List ℕ → Row
row_from id vs =
    record {
      id = record { 0 = id };
      deleted = eqb (get_or vs 0 0) 1;
      from_log = eqb (get_or vs 1 0) 1;
      caption_length = get_or vs 2 0;
      at = get_or vs 3 0;
    }

-- a row's packed word, and the row whose two words are an ID and w
unfoldable pub row_word : Row → ℕ
row_word r = packed row_widths (row_values r)

unfoldable pub row_of : ℕ → ℕ → Row
row_of id w = row_from id (fields row_widths w)

-- caption length and offset keep to their widths
pub record RowFits (r : Row) : Type 0 where
  pub caption_fits : r.caption_length < 2 ^ get_or row_widths 2 0
  pub at_fits : r.at < 2 ^ get_or row_widths 3 0

-- the row of node i, and the table after a row is put there
unfoldable pub row_at : List ℕ → ℕ → Row
row_at rows i = row_of (get_or rows (2 * i) 0) (get_or rows (2 * i + 1) 0)

unfoldable pub set_row : List ℕ → ℕ → Row → List ℕ
set_row rows i r = set (set rows (2 * i) r.id.0) (2 * i + 1) (row_word r)

-- the same of operations
unfoldable pub operation_values : Operation → List ℕ
operation_values o = bit o.put ∷ o.caption_length ∷ o.at ∷ []

unfoldable pub operation_from : ℕ → List ℕ → Operation
operation_from id vs = record { id = record { 0 = id }; put = eqb (get_or vs 0 0) 1; caption_length = get_or vs 1 0; at = get_or vs 2 0 }

unfoldable pub operation_word : Operation → ℕ
operation_word o = packed operation_widths (operation_values o)

unfoldable pub operation_of : ℕ → ℕ → Operation
operation_of id w = operation_from id (fields operation_widths w)

pub record OperationFits (o : Operation) : Type 0 where
  pub caption_fits : o.caption_length < 2 ^ get_or operation_widths 1 0
  pub at_fits : o.at < 2 ^ get_or operation_widths 2 0

unfoldable pub operation_at : List ℕ → ℕ → Operation
operation_at words i = operation_of (get_or words (2 * i) 0) (get_or words (2 * i + 1) 0)
