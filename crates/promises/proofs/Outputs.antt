-- An output that was written to, parted after the bytes that were put at its front.
use Rattle.std.specs.Prelude.{Ok, Err}
use Prim.Native.Nat.{ℕ}
use mathlib.Core.Path.{◌≡◌, sym, ap, ◌∙◌}
use mathlib.Core.List.{List, ◌++◌}
use lib.ListN.{length, take, drop}
use lib.Seq.{take_at, drop_at}
use Rattle.fields.specs.Placed.{placed}
use Rattle.fields.proofs.PlacedLaws.{placed_front}
use Rattle.refusal.specs.declared.Refusal.{Refusal}
use Rattle.refusal.specs.Refusal.{Answer, written_told}
use Rattle.refusal.proofs.Results.{written_is, written_not}
use Rattle.meaning.specs.Calls.{output_after}
use Rattle.promises.specs.Output.{Holds, Output}

module _ (bytes out after : List ℕ) (n : ℕ) (l : length bytes ≡ n) (e : after ≡ placed 0 bytes out) where
  joined : after ≡ bytes ++ drop (length bytes) out
  joined = e ∙ placed_front bytes out

  pub first_bytes : take n after ≡ bytes
  first_bytes = ap (take n) joined ∙ take_at bytes (drop (length bytes) out) n l

  pub rest_after : drop n after ≡ drop n out
  rest_after = ap (drop n) joined ∙ drop_at bytes (drop (length bytes) out) n l ∙ ap (λ (k : ℕ). drop k out) l

pub written_holds : (given : Answer (List ℕ)) (n : ℕ) (out after : List ℕ)
    → Ok n ≡ written_told given → after ≡ output_after out given → Holds given n out after
written_holds given n out after e f =
    let w = written_is given n (sym e) in
    let g = f ∙ ap (output_after out) w.is in
    let front = first_bytes w.value out after n w.size_is g in
    record {
      bytes_given = w.is ∙ ap Ok (sym front);
      as_many = ap length front ∙ w.size_is;
      rest_untouched = rest_after w.value out after n w.size_is g;
    }

-- a refused call changes no byte
pub untouched : (given : Answer (List ℕ)) (why : Refusal) (out after : List ℕ) → Err why ≡ written_told given → after ≡ output_after out given → after ≡ out
untouched given why out after e f = f ∙ ap (output_after out) (written_not given why (sym e))

pub output : Output
output = record { written_holds = written_holds }
