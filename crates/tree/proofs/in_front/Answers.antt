-- `tree::in_front` meets its contract: only the row at the bound can be the one.
-- Assumes nothing.
use Prim.Native.Nat.{ℕ}
use native.Mathlib.Omega.{arith}
use native.Mathlib.Numerals.{add-one}
use mathlib.Core.Path.{sym, ◌∙◌, subst}
use Rattle.links.specs.Links.{plain_rows}
use Rattle.tree.specs.Grown.{Finds, found, none}
use Rattle.links.proofs.PlainLaws.{next_id}
use Rattle.tree.proofs.FindLaws.{next_live, live_next}
use Rattle.tree.proofs.FrontLaws.{front_absent}
use Rattle.tree.proofs.in_front.Goals as goal

pub returns-then-sorted-at : goal.returns-then-sorted-at
returns-then-sorted-at c =
    let a = c.args in
    none (front_absent (plain_rows a.words.now) a.sorted a.id c.requires.rising c.lower_bound-at.result c.lower_bound-at.ensures (λ h l e. absurd (omega arith)))

pub returns-then-words-at : goal.returns-then-words-at
returns-then-words-at c =
    let a = c.args in
    none (front_absent (plain_rows a.words.now) a.sorted a.id c.requires.rising c.lower_bound-at.result c.lower_bound-at.ensures
    (λ h l e. c.if-words-at.true (sym (next_id a.words.now c.lower_bound-at.result) ∙ e)))

pub returns-then-words-at-ge-DELETED : goal.returns-then-words-at-ge-DELETED
returns-then-words-at-ge-DELETED c =
    let a = c.args in
    none (front_absent (plain_rows a.words.now) a.sorted a.id c.requires.rising c.lower_bound-at.result c.lower_bound-at.ensures
    (λ h l e. (let k = next_live a.words.now c.lower_bound-at.result l in omega (arith, c.if-words-at-ge-DELETED.true))))

pub returns : goal.returns
returns c =
    let a = c.args in
    let m = c.lower_bound-at.result in
    let k = c.lower_bound-at.ensures.up_to in
    let n = c.if-sorted-at.false in
    subst (λ (x : ℕ). Finds (plain_rows a.words.now) a.sorted a.id x) (sym (add-one _))
    (found (omega arith) (omega arith) (live_next a.words.now m c.if-words-at-ge-DELETED.false) (next_id a.words.now m ∙ c.if-words-at.false))
