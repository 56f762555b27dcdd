-- A sum goes on: the next bytes of the file go into its register.
use Prim.Native.Nat.{ℕ, ◌+◌, ◌-◌, ◌≤◌}
use native.Mathlib.Omega.{arith}
use mathlib.Core.Path.{◌≡◌, sym, ap, ◌∙◌}
use mathlib.Core.List.{List}
use lib.ListN.{take, drop}
use lib.Seq.{take-add}
use Rattle.crc32.specs.Crc.{all_ones, bytes_in}
use Rattle.crc32.proofs.Bytes.{bytes_in_append}
use Rattle.pieces.specs.Sums.{Sums}
use Rattle.pieces.specs.declared.Sum.{Sum}

pub sum_onward : (s : List ℕ) (sum : Sum) (to : ℕ) → Sums s sum → sum.upto ≤ to
    → bytes_in sum.register (take (to - sum.upto) (drop sum.upto s)) ≡ bytes_in all_ones (take to s)
sum_onward s sum to e h =
    let from = sum.upto in
    let next = take (to - from) (drop from s) in
    let k : from + (to - from) ≡ to = omega arith in
    ap (λ (c : ℕ). bytes_in c next) e ∙ sym (bytes_in_append all_ones (take from s) next)
    ∙ ap (bytes_in all_ones) (sym (take-add from (to - from) s) ∙ ap (λ (n : ℕ). take n s) k)
