-- Little-endian fields: the numbers that bytes stand for, the bytes of a number, and what a reader finds at a cursor.
use Rattle.std.specs.Prelude.{ℕ, zero, suc, ◌+◌, ◌*◌, ◌/◌, ◌%◌, ◌<◌, Bool, cond, List, [], ◌∷◌, leb, length, get_or, take, drop, Option, Some, None}

-- the n elements from `at`; fewer where the list ends before
abbrev pub part : List ℕ → ℕ → ℕ → List ℕ
part s at n = take n (drop at s)

-- the number that bytes stand for, least significant first
unfoldable pub le : List ℕ → ℕ
le [] = 0
le (b ∷ bs) = b + 256 * le bs

-- the n-byte number at `at`
abbrev pub num : List ℕ → ℕ → ℕ → ℕ
num s at n = le (part s at n)

-- the n low bytes of v, least significant first
unfoldable pub bytes : ℕ → ℕ → List ℕ
bytes zero v = []
bytes (suc n) v = (v % 256) ∷ bytes n (v / 256)

-- every element is a byte; past the end `get_or` gives 0, which is one too
pub record Bytes (s : List ℕ) : Type 0 where
  pub below : (k : ℕ) → get_or s k 0 < 256

-- n bytes stand at `at`
abbrev pub room : List ℕ → ℕ → ℕ → Bool
room s at n = leb (at + n) (length s)

-- a field of 1, 4 or 8 bytes: its number and the cursor behind it, or past the end
unfoldable pub field8 : List ℕ → ℕ → Option (ℕ × ℕ)
field8 s at = cond (room s at 1) (Some (num s at 1, at + 1)) None

unfoldable pub field32 : List ℕ → ℕ → Option (ℕ × ℕ)
field32 s at = cond (room s at 4) (Some (num s at 4, at + 4)) None

unfoldable pub field64 : List ℕ → ℕ → Option (ℕ × ℕ)
field64 s at = cond (room s at 8) (Some (num s at 8, at + 8)) None
