-- `links::set_link` meets its contract.
-- Assumes nothing.
use Prim.Native.Nat.{ℕ, ◌+◌, ◌*◌, ◌-◌, ◌/◌, ◌<◌}
use native.Mathlib.Omega.{arith}
use mathlib.Core.Path.{◌≡◌, sym, subst, subst₂}
use lib.ListN.{set}
use Rattle.links.specs.Links.{Linked}
use Rattle.links.proofs.LinkLaws.{linked_top, linked_right, linked_left}
use Rattle.links.proofs.set_link.Goals as goal

pub returns-then-cell-eq0 : goal.returns-then-cell-eq0
returns-then-cell-eq0 c =
    let a = c.args in
    subst (λ (z : ℕ). Linked a.root a.words.now a.entries.now a.link a.words.now a.entries.now z a.link) (sym c.if-cell-eq0.true)
    (linked_top a.root a.words.now a.entries.now a.link)

pub returns-then-cell-eq1 : goal.returns-then-cell-eq1
returns-then-cell-eq1 c =
    let a = c.args in
    let n = c.if-cell-eq0.false in
    let o : ℕ = a.cell / 2 in
    let p : 0 < a.cell / 2 = omega arith in
    let e : 2 * (a.cell / 2) + 1 ≡ a.cell = omega arith in
    subst₂ (λ (z x : ℕ). Linked a.root a.words.now a.entries.now a.root a.words.now (set a.entries.now (a.cell / 2 - 1) x) z a.link) e (sym c.entry_with_right.ensures)
    (linked_right a.root a.words.now a.entries.now (a.cell / 2) a.link p c.requires.cell_in_bounds_2 c.requires.link_lt_links)

pub returns : goal.returns
returns c =
    let a = c.args in
    let p : 0 < a.cell / 2 = omega (arith, c.if-cell-eq0.false) in
    let e : 2 * (a.cell / 2) ≡ a.cell = omega (arith, c.if-cell-eq1.false) in
    let w = a.words.now in
    let v = a.entries.now in
    let o : ℕ = a.cell / 2 in
    subst (λ (z : ℕ). Linked a.root w v a.root (set w (2 * o - 1) c.word_with_left.result) (set v (o - 1) c.entry_with_left.result) z a.link) e
    (subst₂ (λ (y x : ℕ). Linked a.root w v a.root (set w (2 * o - 1) y) (set v (o - 1) x) (2 * o) a.link) (sym c.word_with_left.ensures) (sym c.entry_with_left.ensures)
    (linked_left a.root w v o a.link p c.requires.cell_in_bounds_2 c.requires.link_lt_links c.requires.cell_in_bounds))
