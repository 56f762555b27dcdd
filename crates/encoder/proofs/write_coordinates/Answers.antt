-- The coordinates so far stand at the front.
use mathlib.Core.Path.{◌≡◌, refl, sym, ap, ◌∙◌}
use Prim.Native.Nat.{ℕ, ◌+◌, ◌*◌}
use native.Mathlib.Omega.{arith}
use mathlib.Core.List.{List}
use lib.ListN.{length, take, get_or}
use Rattle.fields.specs.Fields.{bytes}
use Rattle.fields.specs.Placed.{placed}
use Rattle.fields.proofs.PlacedLaws.{placed_none, then_placed}
use Rattle.coordinates.specs.Coordinates.{coordinate_bytes}
use Rattle.encoder.proofs.CoordinateLaws.{coordinates_none, coordinates_more, coordinates_size}
use Rattle.encoder.proofs.write_coordinates.Goals as goal

pub loop-i-init : goal.loop-i-init
loop-i-init c = let o = c.args.out.now in (refl, sym (ap (λ (l : List ℕ). placed 0 l o) coordinates_none ∙ placed_none 0 o))

pub loop-i-preserved : goal.loop-i-preserved
loop-i-preserved c =
    let o = c.args.out.now in
    let cs = c.args.coordinates.now in
    let l = c.loop-i in
    let p = c.put_u32 in
    let h = c.loop-i-test.true in
    let size : 4 * l.i ≡ 0 + length (coordinate_bytes (take l.i cs)) = omega (arith, coordinates_size cs l.i l.auto.i-end) in (
      p.auto.out ∙ l.invariant.0,
      then_placed 0 (coordinate_bytes (take l.i cs)) (bytes 4 (get_or cs l.i 0)) o l.out p.new.out (4 * l.i) (omega arith) l.invariant.1 size p.ensures
          ∙ ap (λ (b : List ℕ). placed 0 b o) (coordinates_more cs l.i h),
    )
