-- Document 01's number for what a field reader answers (`Leaves`): 0 for a value, and 4, `PastTheEnd`, exactly where its bytes are not all there.
use Rattle.std.specs.Prelude.{ℕ, ◌≡◌, cond, List, Option, Some, None}
use Rattle.refusal.specs.Refusal.{number}
use Rattle.refusal.specs.declared.Refusal.TheVariants.{PastTheEnd}
use Rattle.fields.specs.Fields.{room, field8, field32, field64}

abbrev pub field_number : Option (ℕ × ℕ) → ℕ
field_number (Some field) = 0
field_number None = number PastTheEnd

pub record FieldNumbers : Type 0 where
  pub read_u8_number : (bytes : List ℕ) (at : ℕ) (r : Option (ℕ × ℕ)) → r ≡ field8 bytes at → field_number r ≡ cond (room bytes at 1) 0 4
  pub read_u32_number : (bytes : List ℕ) (at : ℕ) (r : Option (ℕ × ℕ)) → r ≡ field32 bytes at → field_number r ≡ cond (room bytes at 4) 0 4
  pub read_u64_number : (bytes : List ℕ) (at : ℕ) (r : Option (ℕ × ℕ)) → r ≡ field64 bytes at → field_number r ≡ cond (room bytes at 8) 0 4
