-- `tree::search` meets its contract.
-- Assumes nothing.
use Prim.Native.Nat.{ℕ, ◌+◌, ◌*◌, ◌-◌, ◌<◌, ◌≤◌}
use native.Mathlib.Omega.{arith}
use mathlib.Core.Path.{◌≡◌, refl, sym, ap, ap₂, ◌∙◌, subst}
use Rattle.digital_tree.specs.Look.{mixed_id, bit_at, look, Inside}
use Rattle.digital_tree.proofs.LookLaws.{look_empty, look_here, look_turn, look_over}
use Rattle.digital_tree.proofs.ShapeLaws.{cells_inside}
use Rattle.links.specs.Links.{plain_rows}
use Rattle.tree.specs.Grown.{id_of, link_of, cell_of}
use Rattle.links.proofs.PlainLaws.{id_of_link}
use Rattle.tree.proofs.TreeLinks.{inside_zero, read_is, read_in_table}
use Rattle.tree.proofs.search.Goals as goal
use Rattle.tree.proofs.search.Goals.{After-link_at-link}

-- what was read lies in the table
few : (c : After-link_at-link) → c.link_at-link.result ≤ c.args.tree.count
few c = read_in_table _ _ _ c.requires _ c.loop-left.invariant.1 _ c.link_at-link.ensures

pub loop-left-init : goal.loop-left-init
unfolding cell_of
loop-left-init c = (omega arith, inside_zero _ _, refl)

pub returns-then-link-eq0 : goal.returns-then-link-eq0
returns-then-link-eq0 c =
    let a = c.args in
    let l = c.loop-left in
    let e = read_is _ _ _ c.requires _ c.loop-left.invariant.1 _ c.link_at-link.ensures ∙ c.if-link-eq0.true in
    sym (look_empty mixed_id (id_of (plain_rows a.words.now)) (link_of a.tree a.words.now a.entries.now) l.left l.cell a.id e) ∙ l.invariant.2

pub returns-then-words-link : goal.returns-then-words-link
returns-then-words-link c =
    let a = c.args in
    let l = c.loop-left in
    let e = ap (id_of (plain_rows a.words.now)) (read_is _ _ _ c.requires _ c.loop-left.invariant.1 _ c.link_at-link.ensures) ∙ id_of_link a.words.now c.link_at-link.result ∙ c.if-words-link.true in
    sym (look_here mixed_id (id_of (plain_rows a.words.now)) (link_of a.tree a.words.now a.entries.now) l.left l.cell a.id e) ∙ l.invariant.2

pub loop-left-preserved : goal.loop-left-preserved
loop-left-preserved c =
    let a = c.args in
    let l = c.loop-left in
    let words = a.words.now in
    let link = link_of a.tree words a.entries.now in
    let u : ℕ = c.link_at-link.result in
    let e : link l.cell ≡ u = read_is _ _ _ c.requires _ c.loop-left.invariant.1 _ c.link_at-link.ensures in
    let h : 0 < link l.cell = subst (λ (x : ℕ). 0 < x) (sym e) (omega (arith, c.if-link-eq0.false)) in
    let n : id_of (plain_rows words) (link l.cell) ≡ a.id → ⊥ = λ q. c.if-words-link.false (sym (id_of_link words u) ∙ ap (id_of (plain_rows words)) (sym e) ∙ q) in
    let b : c.bit.result ≡ bit_at (mixed_id a.id) (l.left - 1) = c.bit.ensures.0 ∙ ap (λ (k : ℕ). bit_at k (l.left - 1)) c.mixed-key.ensures in
    let t = look_turn mixed_id (id_of (plain_rows words)) link l.left l.cell a.id (omega (arith, c.loop-left-test.true)) h n in
    let z : 2 * link l.cell + bit_at (mixed_id a.id) (l.left - 1) ≡ 2 * u + c.bit.result = ap₂ (λ (x y : ℕ). 2 * x + y) e (sym b) in
    let i : Inside a.tree.sorted a.tree.count (2 * link l.cell + c.bit.result)
    = cells_inside mixed_id (id_of (plain_rows words)) link a.tree.sorted a.tree.count c.requires.level c.requires.shape l.cell c.bit.result h c.bit.ensures.1 in
    let o = l.invariant.0 in (
      omega arith,
      subst (λ (x : ℕ). Inside a.tree.sorted a.tree.count (2 * x + c.bit.result)) e i,
      ap (λ (x : ℕ). look mixed_id (id_of (plain_rows words)) link (l.left - 1) x a.id) (sym z) ∙ sym t ∙ l.invariant.2,
    )

pub returns : goal.returns
returns c =
    let a = c.args in
    let l = c.loop-left in
    sym (look_over mixed_id (id_of (plain_rows a.words.now)) (link_of a.tree a.words.now a.entries.now) l.left l.cell a.id (omega arith)) ∙ l.invariant.2

pub overflow_mul-link : goal.overflow_mul-link
overflow_mul-link c = omega (arith, few (goal.at.overflow_mul-link c).After-link_at-link, c.requires.few)

pub offset_bounds-words-link : goal.offset_bounds-words-link
offset_bounds-words-link c = omega (arith, few (goal.at.offset_bounds-words-link c).After-link_at-link, c.requires.few)

pub bounds-words-link : goal.bounds-words-link
bounds-words-link c = omega (arith, few (goal.at.bounds-words-link c).After-link_at-link, c.requires.words_lent)

pub overflow_mul-cell : goal.overflow_mul-cell
overflow_mul-cell c = omega (arith, few (goal.at.overflow_mul-cell c).After-link_at-link, c.requires.few)

pub overflow_add-cell : goal.overflow_add-cell
overflow_add-cell c = omega (arith, few (goal.at.overflow_add-cell c).After-link_at-link, c.requires.few)
