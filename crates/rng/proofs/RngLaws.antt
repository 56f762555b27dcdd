-- One draw more adds the step.
use Rattle.std.proofs.Common.{◌≡◌, ℕ, ◌+◌, ◌*◌, ◌%◌, ◌^◌, sym, ap, ◌∙◌, add_assoc, add-mul, one-mul}
use native.Mathlib.Nat.{mod-add-mod}
use Rattle.rng.specs.Rng.{rng_state, rng_step}

pub rng_state_step : (seed count : ℕ) → rng_state seed (count + 1) ≡ (rng_state seed count + rng_step) % 2 ^ 64
unfolding rng_state
rng_state_step seed count =
    ap (λ (x : ℕ). (seed + x) % 2 ^ 64) (add-mul count 1 rng_step ∙ ap (λ (x : ℕ). count * rng_step + x) (one-mul rng_step))
    ∙ ap (λ (x : ℕ). x % 2 ^ 64) (sym (add_assoc seed (count * rng_step) rng_step))
    ∙ sym (mod-add-mod (seed + count * rng_step) (2 ^ 64) rng_step)
