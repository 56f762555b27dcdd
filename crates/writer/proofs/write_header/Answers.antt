-- `write_header` puts the settings and three fields behind them.
use Prim.Native.Nat.{ℕ, ◌≤◌}
use native.Mathlib.Omega.{arith}
use mathlib.Core.Path.{refl, ap, ◌∙◌}
use mathlib.Core.List.{List}
use lib.ListN.{length}
use Rattle.fields.specs.Placed.{placed}
use Rattle.writer.proofs.Stands.{then_field}
use Rattle.writer.proofs.FileLaws.{length_settings, header_parts}
use Rattle.writer.proofs.write_header.Goals as goal

pub returns : goal.returns
returns c =
    let a = c.args in
    let o = a.out.now in
    let k = a.config in
    let h : 0 ≤ length o = omega arith in
    let q2 = then_field 0 o h 8 k.seed (record { long = length_settings k; same = c.write_settings.ensures }) refl c.put_u64.ensures in
    let q3 = then_field 0 o h 8 a.sequence q2 refl c.put_u64-2.ensures in
    let q4 = then_field 0 o h 8 a.records q3 refl c.put_u64-3.ensures in
    q4.same ∙ ap (λ (l : List ℕ). placed 0 l o) (header_parts k a.sequence a.records)
