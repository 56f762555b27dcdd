-- A number as text: its decimal digits, the most significant first, without leading zeros; 0 is one digit.
use Rattle.std.specs.Prelude.{ℕ, zero, suc, ◌+◌, ◌/◌, ◌%◌, cond, List, [], ◌∷◌, ◌++◌, ltb}

-- the ASCII code of a digit
abbrev pub digit : ℕ → ℕ
digit d = 48 + d

-- the digits of a number that has no more than `most`
unfoldable pub decimal_by : ℕ → ℕ → List ℕ
decimal_by zero n = []
decimal_by (suc most) n = cond (ltb n 10) (digit n ∷ []) (decimal_by most (n / 10) ++ (digit (n % 10) ∷ []))

-- n has no more than suc n digits
unfoldable pub decimal : ℕ → List ℕ
decimal n = decimal_by (suc n) n
