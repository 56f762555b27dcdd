-- `tree::in_cell` meets its contract.
-- Assumes nothing.
use native.Mathlib.Omega.{arith}
use mathlib.Core.Path.{sym, ◌∙◌}
use borrow.Author.Tests.{eq-eqb, ne_eqb, le-leb, lt-leb}
use Rattle.links.specs.Links.{live_link}
use Rattle.tree.proofs.TreeLinks.{link_in_lem}
use Rattle.tree.proofs.SpliceLaws.{old_small}
use Rattle.tree.proofs.in_cell.Goals as goal

pub returns-then-link-eq0 : goal.returns-then-link-eq0
unfolding live_link
returns-then-link-eq0 c =
    let a = c.args in
    let e = link_in_lem a.tree a.words.now a.entries.now a.cell c.requires.inside ∙ sym c.link_at-link.ensures in
    simp (e, eq-eqb _ _ c.if-link-eq0.true)

pub overflow_mul-link : goal.overflow_mul-link
overflow_mul-link c =
    let a = c.args in
    let h = old_small a.tree a.words.now a.entries.now c.requires.grown a.cell c.requires.inside in
    let e = c.link_at-link.ensures in
    let l = c.requires.grown.few in
    omega arith

pub offset_bounds-words-link : goal.offset_bounds-words-link
offset_bounds-words-link c =
    let a = c.args in
    let h = old_small a.tree a.words.now a.entries.now c.requires.grown a.cell c.requires.inside in
    let e = c.link_at-link.ensures in
    let l = c.requires.grown.few in
    omega arith

pub bounds-words-link : goal.bounds-words-link
bounds-words-link c =
    let a = c.args in
    let h = old_small a.tree a.words.now a.entries.now c.requires.grown a.cell c.requires.inside in
    let e = c.link_at-link.ensures in
    let l = c.requires.grown.words_lent in
    omega arith

pub returns-then-words-link-ge-DELETED : goal.returns-then-words-link-ge-DELETED
unfolding live_link
returns-then-words-link-ge-DELETED c =
    let a = c.args in
    let e = link_in_lem a.tree a.words.now a.entries.now a.cell c.requires.inside ∙ sym c.link_at-link.ensures in
    simp (e, ne_eqb _ _ c.if-link-eq0.false, le-leb _ _ c.if-words-link-ge-DELETED.true)

pub returns : goal.returns
unfolding live_link
returns c =
    let a = c.args in
    let e = link_in_lem a.tree a.words.now a.entries.now a.cell c.requires.inside ∙ sym c.link_at-link.ensures in
    simp (e, ne_eqb _ _ c.if-link-eq0.false, lt-leb _ _ c.if-words-link-ge-DELETED.false)
