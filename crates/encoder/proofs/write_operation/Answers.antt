-- The tag, and the fields behind it.
use mathlib.Core.Path.{◌≡◌, ap, ◌∙◌}
use Prim.Native.Nat.{ℕ, ◌-◌}
use native.Mathlib.Omega.{arith}
use mathlib.Core.List.{List, [], ◌∷◌, ◌++◌}
use borrow.Rule.Slice.PartMut.{put_mid}
use lib.ListN.{length}
use Rattle.fields.specs.Fields.{bytes}
use Rattle.fields.specs.Placed.{placed}
use Rattle.fields.proofs.Numbers.{length_bytes}
use Rattle.fields.proofs.PlacedLaws.{placed_lent, then_placed}
use Rattle.frames.proofs.Frames.{one_byte}
use Rattle.encoder.specs.Requests.{fields_of}
use borrow.Author.Rules.{rules}
use Rattle.encoder.proofs.write_operation.Goals as goal

pub returns-clause-out_after : goal.returns-clause-out_after
returns-clause-out_after c =
    let a = c.args in
    let o = a.out.now in
    let F = fields_of a.config.dimensions a.coordinates.now a.captions.now a.o in
    let t = c.tag.result in
    let one = c.put_u8.new.out in
    let ys = c.write_fields.new.out in
    let byte : bytes 1 t ≡ t ∷ [] = one_byte t (search rules) in
    then_placed 0 (bytes 1 t) F o one (put_mid 1 (length one - 1) one ys) 1 (omega arith) c.put_u8.ensures (omega (arith, length_bytes 1 t))
    (placed_lent 1 F one ys (omega (arith, c.put_u8.auto.out, c.requires.o_in_bounds)) c.write_fields.ensures.out_after)
    ∙ ap (λ (l : List ℕ). placed 0 (l ++ F) o) (byte ∙ ap (λ (x : ℕ). x ∷ []) c.tag.ensures)
