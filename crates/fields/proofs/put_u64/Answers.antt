-- `fields::put_u64` meets its contract: the bytes of the low half, and then those of the high half.
-- Assumes nothing.
use mathlib.Core.List.{◌++◌}
use mathlib.Core.Path.{◌≡◌, sym, ap, ◌∙◌}
use Prim.Native.Nat.{ℕ, ◌+◌, ◌/◌, ◌%◌}
use native.Mathlib.Omega.{arith}
use lib.ListN.{take, drop}
use Rattle.fields.proofs.PlacedLaws.{placed_bytes}
use Rattle.fields.proofs.Writers.{halves_bytes}
use Rattle.fields.specs.Fields.{bytes}
use Rattle.fields.proofs.put_u64.Goals as goal

pub returns : goal.returns
returns c =
    let a = c.args in
    let o = a.out.now in
    let p = c.put_u32 in
    let e : a.at + 4 + 4 ≡ a.at + 8 = omega arith in
    let low = a.v % 4294967296 in
    let high = a.v / 4294967296 in
    c.put_u32-2.ensures ∙ sym (placed_bytes 4 high (a.at + 4) p.new.out)
    ∙ halves_bytes o a.at 4 4 a.v (omega arith) p.new.out (p.ensures ∙ sym (placed_bytes 4 low a.at o))
    ∙ ap (λ (k : ℕ). take a.at o ++ bytes 8 a.v ++ drop k o) e ∙ placed_bytes 8 a.v a.at o
