-- Behind the two tests, which are those of `delete_frame`, the payload is written into the rest and sealed.
use mathlib.Core.Path.{◌≡◌, ◌∙◌, sym}
use mathlib.Core.List.{List, ◌∷◌, ◌++◌}
use Prim.Native.Nat.{ℕ, ◌-◌}
use native.Mathlib.Omega.{arith}
use Rattle.std.proofs.Common.{◌≢◌}
use borrow.Author.Tests.{ne_eqb, le-ltb}
use borrow.Rule.Slice.PartMut.{put_mid}
use lib.ListN.{length, length-append}
use Rattle.fields.specs.Fields.{bytes}
use Rattle.fields.proofs.Numbers.{length_bytes}
use Rattle.fields.proofs.PlacedLaws.{placed_lent}
use Rattle.frames.proofs.Frames.{sealed_payload}
use Rattle.playout.proofs.lambspool_delete_frame.Goals as goal

pub returns-clause-out_after : goal.returns-clause-out_after
returns-clause-out_after c =
    let a = c.args in
    let o = a.out.now in
    let some : a.sequence ≢ 0 = omega arith in
    let there = c.if-out-lt-DELETE_FRAME.false in
    let B : List ℕ = 2 ∷ (bytes 8 a.sequence ++ bytes 8 a.id) in
    let size : length B ≡ 17 = omega (arith, length-append (bytes 8 a.sequence) (bytes 8 a.id), length_bytes 8 a.sequence, length_bytes 8 a.id) in
    let ys = c.write_delete.new.out in
    let one = placed_lent 8 B o ys (omega arith) c.write_delete.ensures in
    let two = sealed_payload o B (put_mid 8 (length o - 8) o ys) c.seal.new.out 17 size (omega arith) one c.seal.ensures in
    let s = ne_eqb _ _ some in
    let l = le-ltb _ _ there in
    two ∙ sym (simp (s, l))
