-- `check_item` answers `item_at`: what follows the coordinates goes by what their test answers.
use Prim.Native.Nat.{◌*◌}
use mathlib.Core.Bool.{Bool}
use mathlib.Core.Path.{ap, ◌∙◌}
use borrow.Author.Tests.{le-ltb}
use Rattle.refusal.proofs.Inverses.{came_to, handed_on}
use Rattle.coordinates.specs.Coordinates.{coordinates_of}
use Rattle.fields.specs.Fields.{part}
use Rattle.meaning.specs.Item.{coordinates, item_at}
use Rattle.items.proofs.check_item.Goals as goal

pub returns-in_err-check_coordinates : goal.returns-in_err-check_coordinates
unfolding item_at coordinates
returns-in_err-check_coordinates c =
    let a = c.args in
    let d = a.config.dimensions in
    let tested = came_to _ (c.check_coordinates.ensures ∙ ap (λ (x : Bool). coordinates_of x d (part a.s.now a.at (4 * d))) c.is_cosine.ensures) c.in_err-check_coordinates.was in
    simp (le-ltb _ _ c.if-end-after.false, tested) (handed_on _ _ c.from_residual.ensures)

pub returns : goal.returns
unfolding item_at coordinates
returns c =
    let a = c.args in
    let d = a.config.dimensions in
    let tested = came_to _ (c.check_coordinates.ensures ∙ ap (λ (x : Bool). coordinates_of x d (part a.s.now a.at (4 * d))) c.is_cosine.ensures) c.in_ok-check_coordinates.was in
    simp (le-ltb _ _ c.if-end-after.false, tested) c.check_caption.ensures
