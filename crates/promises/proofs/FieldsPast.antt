-- What `specs/PastTheEnd.antt` says of the field readers.
use Prim.Native.Nat.{ℕ, ◌+◌}
use mathlib.Core.Path.{◌≡◌, refl, ap, ◌∙◌}
use mathlib.Core.Bool.{Bool, true, false, cond}
use mathlib.Core.List.{List}
use Rattle.std.specs.Prelude.{Some, None}
use Rattle.fields.specs.Fields.{room, num, field8, field32, field64}
use Rattle.promises.specs.PastTheEnd.{field_number, FieldNumbers}

-- a test of the room, told by its number
by_room : (value next : ℕ) (there : Bool) → field_number (cond there (Some (value, next)) None) ≡ cond there 0 4
by_room value next true = refl
by_room value next false = refl

of8 : (bytes : List ℕ) (at : ℕ) → field_number (field8 bytes at) ≡ cond (room bytes at 1) 0 4
unfolding field8
of8 bytes at = by_room (num bytes at 1) (at + 1) (room bytes at 1)

of32 : (bytes : List ℕ) (at : ℕ) → field_number (field32 bytes at) ≡ cond (room bytes at 4) 0 4
unfolding field32
of32 bytes at = by_room (num bytes at 4) (at + 4) (room bytes at 4)

of64 : (bytes : List ℕ) (at : ℕ) → field_number (field64 bytes at) ≡ cond (room bytes at 8) 0 4
unfolding field64
of64 bytes at = by_room (num bytes at 8) (at + 8) (room bytes at 8)

pub field_numbers : FieldNumbers
field_numbers =
    record {
      read_u8_number = λ bytes at r m. ap field_number m ∙ of8 bytes at;
      read_u32_number = λ bytes at r m. ap field_number m ∙ of32 bytes at;
      read_u64_number = λ bytes at r m. ap field_number m ∙ of64 bytes at;
    }
