-- `write_record` puts the five parts of a record one behind the other.
use Prim.Native.Nat.{ℕ, ◌≤◌}
use native.Mathlib.Omega.{arith}
use mathlib.Core.Path.{refl, ap, ◌∙◌}
use mathlib.Core.List.{List, append_assoc}
use lib.ListN.{length}
use Rattle.fields.specs.Placed.{placed}
use Rattle.fields.proofs.Numbers.{length_bytes}
use Rattle.writer.proofs.Stands.{then_part, then_field}
use Rattle.writer.proofs.WrittenLaws.{length_vector, length_caption}
use Rattle.writer.proofs.write_record.Goals as goal

pub returns-clause-out_after : goal.returns-clause-out_after
returns-clause-out_after c =
    let a = c.args in
    let o = a.out.now in
    let r = a.row in
    let inside = c.requires.copyable.inside in
    let h : a.at ≤ length o = omega (arith, c.requires.caption_length_in_bounds) in
    let vector = length_vector a.d a.snapshot.now a.log.now r inside in
    let caption = length_caption a.d a.snapshot.now a.log.now r inside in
    let q2 = then_field a.at o h 1 c.from.result (record { long = length_bytes 8 r.id.0; same = c.put_u64.ensures }) refl c.put_u8.ensures in
    let q3 = then_part a.at o h _ q2 vector refl c.copy_shown.ensures in
    let q4 = then_field a.at o h 4 r.caption_length q3 (omega arith) c.put_u32.ensures in
    let q5 = then_part a.at o h _ q4 caption (omega arith) c.copy_shown-2.ensures in
    q5.same ∙ ap (λ (l : List ℕ). placed a.at l o) (simp (append_assoc, c.from.ensures, caption))
