-- `tree::mark` meets its contract.
-- Assumes nothing.
use Prim.Native.Nat.{ℕ, ◌*◌, ◌-◌}
use native.Mathlib.Omega.{arith}
use mathlib.Core.Path.{◌≡◌, sym, ap, ◌∙◌, subst₂}
use mathlib.Core.List.{List}
use borrow.Author.Tests.{eq-eqb, ne_eqb}
use lib.ListN.{set}
use Rattle.links.specs.Links.{marked, caption_freed}
use Rattle.tree.specs.Grown.{Marked}
use Rattle.tree.proofs.RowLaws.{marked_at, marked_none}
use Rattle.tree.proofs.MarkLaws.{marks}
use Rattle.tree.proofs.mark.Goals as goal

pub returns-then-link-eq0 : goal.returns-then-link-eq0
unfolding caption_freed
returns-then-link-eq0 c =
    let words = c.args.words.now in
    let u = c.args.link in
    let f : caption_freed words u ≡ 0 = simp (eq-eqb _ _ c.if-link-eq0.true) in
    subst₂ (λ (l : List ℕ) (r : ℕ). Marked words l u r) (marked_none words u c.if-link-eq0.true) f (marks words u c.requires)

pub returns : goal.returns
unfolding caption_freed
returns c =
    let words = c.args.words.now in
    let u = c.args.link in
    let e : marked words u ≡ set words (2 * u - 1) c.deleted_word.result =
    marked_at words u (omega arith) ∙ ap (set words (2 * u - 1)) (sym c.deleted_word.ensures) in
    let f : caption_freed words u ≡ c.caption_length.result = simp (ne_eqb _ _ c.if-link-eq0.false) (sym c.caption_length.ensures) in
    subst₂ (λ (l : List ℕ) (r : ℕ). Marked words l u r) e f (marks words u c.requires)
