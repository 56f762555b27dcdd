-- The state of the level generator after `count` levels were drawn, modulo 2^64.
use Rattle.std.specs.Prelude.{ℕ, ◌+◌, ◌*◌, ◌%◌, ◌^◌}

-- what a draw adds to the state
abbrev pub rng_step : ℕ
rng_step = 0x9e3779b97f4a7c15

unfoldable pub rng_state : ℕ → ℕ → ℕ
rng_state seed count = (seed + count * rng_step) % 2 ^ 64
