-- What an answer of n bytes says of a lent output: its first n bytes are what the definition gives, and the rest is untouched.
use Rattle.std.specs.Prelude.{ℕ, ◌≡◌, List, length, take, drop, Ok}
use Rattle.refusal.specs.Refusal.{Answer, written_told}
use Rattle.meaning.specs.Calls.{output_after}

-- the definition answers bytes: they are the first n of the output, and behind them the output is as it was
pub record Holds (given : Answer (List ℕ)) (n : ℕ) (out after : List ℕ) : Type 0 where
  pub bytes_given : given ≡ Ok (take n after)
  pub as_many : length (take n after) ≡ n
  pub rest_untouched : drop n after ≡ drop n out

-- of a writer and of an encoder
pub record Output : Type 0 where
  pub written_holds : (given : Answer (List ℕ)) (n : ℕ) (out after : List ℕ)
      → Ok n ≡ written_told given → after ≡ output_after out given → Holds given n out after
