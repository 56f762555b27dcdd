-- Bytes go into a register, and bytes are eliminated: what stands behind them changes, and the register does not.
-- Assumes nothing.
use Rattle.std.specs.Prelude.{◌≡◌, List, [], ◌∷◌, ℕ, zero, suc, ◌+◌, ◌<◌, get_or, take}
use Rattle.std.specs.Int.Bits.{bit_xor}

-- the bytes go into the register c in their order, each by `step`
unfoldable pub run : (ℕ → ℕ → ℕ) → ℕ → List ℕ → ℕ
run step c [] = c
run step c (b ∷ bs) = run step (step c b) bs

-- n zero bytes go in
unfoldable pub zeros : (ℕ → ℕ → ℕ) → ℕ → ℕ → ℕ
zeros step zero c = c
zeros step (suc n) c = zeros step n (step c 0)

-- a register that is linear over xor, and in which 2400 zero bytes do what 1240, 936, 712 and none do together
pub record Register (step : ℕ → ℕ → ℕ) : Type 0 where
  pub linear : (x y a b : ℕ) → step (bit_xor x y) (bit_xor a b) ≡ bit_xor (step x a) (step y b)
  pub sparse : (bs : List ℕ)
      → zeros step 2400 (run step 0 bs)
      ≡ bit_xor (zeros step 1240 (run step 0 bs))
      (bit_xor (zeros step 936 (run step 0 bs)) (bit_xor (zeros step 712 (run step 0 bs)) (run step 0 bs)))

-- what the bytes before place 2400 + j of v add to a byte that comes there
abbrev pub earlier : List ℕ → ℕ → ℕ
earlier v j = bit_xor (get_or v (1240 + j) 0) (bit_xor (get_or v (936 + j) 0) (bit_xor (get_or v (712 + j) 0) (get_or v j 0)))

-- the register x after the first n bytes of v
abbrev pub up_to : (ℕ → ℕ → ℕ) → ℕ → List ℕ → ℕ → ℕ
up_to step x v n = run step x (take n v)

-- the register of the message whose bytes were eliminated into v, to place 2400 + j; x is the register before v.
-- A byte of the message is the xor of five bytes of v, so its register is the xor of five registers of v.
unfoldable pub folded : (ℕ → ℕ → ℕ) → ℕ → ℕ → List ℕ → ℕ
folded step x j v =
    bit_xor (up_to step x v (2400 + j))
    (bit_xor (up_to step x v (1240 + j)) (bit_xor (up_to step x v (936 + j)) (bit_xor (up_to step x v (712 + j)) (up_to step x v j))))

-- a window that starts with the bytes a, b, c and d
abbrev pub Started : ℕ → ℕ → ℕ → ℕ → List ℕ → Type 0
Started a b c d v =
    (step : ℕ → ℕ → ℕ) → Register step → folded step 0 0 v ≡ run step 0 (a ∷ b ∷ c ∷ d ∷ [])

-- n bytes went from the rest of the message into v
abbrev pub Passed : ℕ → List ℕ → List ℕ → List ℕ → List ℕ → Type 0
Passed n v rest v' rest' =
    (step : ℕ → ℕ → ℕ) → Register step → (x : ℕ) → run step (folded step x n v') rest' ≡ run step (folded step x 0 v) rest

-- the window v, some bytes passed before it, and the rest of the message leave the register c
pub record Stands (step : ℕ → ℕ → ℕ) (v rest : List ℕ) (c : ℕ) : Type 0 where
  pub front : List ℕ
  pub same : run step (folded step (run step 0 front) 0 v) rest ≡ c

abbrev pub Keeps : List ℕ → List ℕ → List ℕ → List ℕ → Type 0
Keeps v rest v' rest' =
    (step : ℕ → ℕ → ℕ) → Register step → (c : ℕ) → Stands step v rest c → Stands step v' rest' c

-- zero bytes stand behind the window
abbrev pub Clear : List ℕ → Type 0
Clear v = (k : ℕ) → k < 2400 → get_or v (2400 + k) 0 ≡ 0

-- the bytes of `rest`, with what the window adds to them
abbrev pub Last : List ℕ → List ℕ → List ℕ → Type 0
Last v rest out = (k : ℕ) → k < 2400 → get_or out k 0 ≡ bit_xor (get_or rest k 0) (earlier v k)

-- from zero on every register is left where the message leaves it
abbrev pub Alike : List ℕ → List ℕ → Type 0
Alike out message = (step : ℕ → ℕ → ℕ) → Register step → run step 0 out ≡ run step 0 message
