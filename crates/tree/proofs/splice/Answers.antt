-- `tree::splice` meets its contract.
-- Assumes nothing.
use Prim.Native.Nat.{ℕ, ◌+◌, ◌*◌, ◌<◌, ◌≤◌}
use native.Mathlib.Omega.{arith}
use native.Mathlib.Numerals.{add-one}
use mathlib.Core.Path.{◌≡◌, ap, ◌∙◌}
use mathlib.Core.List.{List}
use lib.ListN.{length}
use Rattle.digital_tree.specs.Look.{Inside}
use Rattle.links.specs.Links.{links, link_in}
use Rattle.tree.specs.Grown.{child_of, Grown}
use Rattle.tree.specs.declared.Tree.{Tree}
use Rattle.tree.proofs.TreeLinks.{not_one}
use Rattle.tree.proofs.SpliceLaws.{spliced, old_small, child_small}
use Rattle.tree.proofs.splice.Goals as goal

module _ (t : Tree) (words entries : List ℕ) (y : ℕ) (g : Grown t words entries) (i : Inside t.sorted t.count y) (u : ℕ) (is : u ≡ link_in t.root words entries y) (b : ℕ) (side : b < 2) where
  reads_child : (2 * u ≤ length words) × ((u ≤ length entries) × ((b < 2) × (u < links)))
  reads_child =
      let h = old_small t words entries g y i in
      let w = g.words_lent in
      let e = g.entries_lent in
      let f = g.few in
      (omega arith, (omega arith, (side, omega arith)))

  small_child : (x : ℕ) → x ≡ child_of t words entries u b → x < links
  small_child x e =
      let h = child_small t words entries g y i b side in
      let f = g.few in
      let k : x ≡ child_of t words entries (link_in t.root words entries y) b = e ∙ ap (λ (v : ℕ). child_of t words entries v b) is in
      omega arith

pub child-left-requires : goal.child-left-requires
child-left-requires c =
    let r = reads_child c.args.tree c.args.words.now c.args.entries.now c.args.cell c.requires.grown c.requires.inside c.link_at-old.result c.link_at-old.ensures _ (omega arith) in
    record { link_in_bounds = r.0; link_in_bounds_2 = r.1.0; side_bound = r.1.1.0; link_lt_links = r.1.1.1 }

pub child-right-requires : goal.child-right-requires
child-right-requires c =
    let r = reads_child c.args.tree c.args.words.now c.args.entries.now c.args.cell c.requires.grown c.requires.inside c.link_at-old.result c.link_at-old.ensures _ (omega arith) in
    record { link_in_bounds = r.0; link_in_bounds_2 = r.1.0; side_bound = r.1.1.0; link_lt_links = r.1.1.1 }

pub attach-requires : goal.attach-requires
attach-requires c =
    let a = c.args in
    let r = c.requires.room in
    let i = c.requires.inside in
    let h = i.below in
    let k : length c.write_row.new.words ≡ length a.words.now = c.write_row.auto.words in
    let x = small_child a.tree a.words.now a.entries.now a.cell c.requires.grown i _ c.link_at-old.ensures _ (omega arith) _ c.child-left.ensures in
    let y = small_child a.tree a.words.now a.entries.now a.cell c.requires.grown i _ c.link_at-old.ensures _ (omega arith) _ c.child-right.ensures in
    record {
      fact = not_one a.tree.sorted a.tree.count a.cell i;
      cell_bound = omega arith;
      link_in_bounds = omega (arith, r.words_room);
      link_in_bounds_2 = omega (arith, r.entries_room);
      link_lt_links = omega (arith, r.fewer);
      left_lt_links = x;
      right_lt_links = y;
    }

pub returns : goal.returns
returns c =
    let a = c.args in
    let p = c.link_at-old.ensures in
    spliced a.tree a.words.now a.entries.now a.cell a.id a.word
    c.write_row.new.words c.write_row.ensures (a.tree.count + 1) c.child-left.result c.child-right.result (add-one _)
    (c.child-left.ensures ∙ ap (λ (u : ℕ). child_of a.tree a.words.now a.entries.now u 0) p)
    (c.child-right.ensures ∙ ap (λ (u : ℕ). child_of a.tree a.words.now a.entries.now u 1) p)
    c.attach.result c.attach.new.words c.attach.new.entries c.attach.ensures
