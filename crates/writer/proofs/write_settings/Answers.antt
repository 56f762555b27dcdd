-- `write_settings` puts six fields one behind the other.
use Prim.Native.Nat.{ℕ, ◌≤◌}
use native.Mathlib.Omega.{arith}
use mathlib.Core.Path.{refl, ap, ◌∙◌}
use mathlib.Core.List.{List, append_assoc}
use lib.ListN.{length}
use Rattle.config.specs.Settings.{ef_of}
use Rattle.fields.specs.Placed.{placed}
use Rattle.fields.proofs.Numbers.{length_bytes}
use Rattle.writer.proofs.Stands.{then_field}
use Rattle.writer.proofs.FileLaws.{magic_bytes}
use Rattle.writer.proofs.write_settings.Goals as goal

pub returns : goal.returns
returns c =
    let a = c.args in
    let o = a.out.now in
    let k = a.config in
    let h : 0 ≤ length o = omega arith in
    let q2 = then_field 0 o h 4 2 (record { long = length_bytes 8 _; same = c.put_u64.ensures }) refl c.put_u32.ensures in
    let q3 = then_field 0 o h 4 k.dimensions q2 refl c.put_u32-2.ensures in
    let q4 = then_field 0 o h 4 k.m q3 refl c.put_u32-3.ensures in
    let q5 = then_field 0 o h 4 (ef_of k) q4 refl c.put_u32-4.ensures in
    let q6 = then_field 0 o h 4 c.number.result q5 refl c.put_u32-5.ensures in
    q6.same ∙ ap (λ (l : List ℕ). placed 0 l o) (simp (magic_bytes, c.number.ensures, append_assoc))
