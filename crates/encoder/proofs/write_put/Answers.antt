-- One part behind another.
use mathlib.Core.Path.{◌≡◌, ap, ◌∙◌}
use Prim.Native.Nat.{ℕ, ◌+◌, ◌*◌, ◌-◌}
use native.Mathlib.Omega.{arith}
use mathlib.Core.List.{List, ◌++◌, append_assoc}
use borrow.Rule.Slice.PartMut.{put_mid}
use lib.ListN.{length, length-append}
use Rattle.fields.specs.Fields.{bytes}
use Rattle.fields.specs.Placed.{placed}
use Rattle.fields.proofs.Numbers.{length_bytes}
use Rattle.fields.proofs.PlacedLaws.{placed_lent, then_placed}
use Rattle.coordinates.specs.Coordinates.{coordinate_bytes}
use Rattle.coordinates.proofs.Patterns.{length_coordinate_bytes}
use borrow.Author.Rules.{rules}
use Rattle.encoder.proofs.write_put.Goals as goal

pub returns : goal.returns
returns c =
    let o = c.args.out.now in
    let cs = c.args.coordinates.now in
    let text = c.args.caption.now in
    let A = bytes 8 c.args.id in
    let B = coordinate_bytes cs in
    let N = bytes 4 (length text) in
    let one = c.put_u64.new.out in
    let ys = c.write_coordinates.new.out in
    let two = put_mid 8 (length one - 8) one ys in
    let three = c.put_u32.new.out in
    let zs = c.copy.new.out in
    let at = 8 + 4 * length cs in
    let rest = at + 4 in
    let four = put_mid rest (length three - rest) three zs in
    let size = c.requires.caption_in_bounds in
    let A8 : 8 ≡ 0 + length A = omega (arith, length_bytes 8 c.args.id) in
    let AB : at ≡ 0 + length (A ++ B) = omega (arith, length-append A B, length_bytes 8 c.args.id, length_coordinate_bytes cs) in
    let ABN : rest ≡ 0 + length (A ++ B ++ N) = omega (arith, length-append (A ++ B) N, length_bytes 4 (length text)) in
    let e2 = then_placed 0 A B o one two 8 (omega arith) c.put_u64.ensures A8
    (placed_lent 8 B one ys (omega (arith, c.put_u64.auto.out)) c.write_coordinates.ensures) in
    let e3 = then_placed 0 (A ++ B) N o two three at (omega arith) e2 AB c.put_u32.ensures in
    then_placed 0 (A ++ B ++ N) text o three four rest (omega arith) e3 ABN
    (placed_lent rest text three zs (search rules) c.copy.ensures)
    ∙ ap (λ (l : List ℕ). placed 0 l o) (simp append_assoc)
