-- `tree::find` meets its contract: the front first, then what the tree holds where the way of the ID ends.
-- Assumes nothing.
use Prim.Native.Nat.{ℕ}
use native.Mathlib.Omega.{arith}
use mathlib.Core.Path.{sym, ap, ◌∙◌, subst}
use Rattle.digital_tree.specs.Look.{Inside}
use Rattle.links.specs.Links.{plain_rows, live_link}
use Rattle.tree.specs.Grown.{Finds, link_of}
use Rattle.tree.proofs.InsertLaws.{cell_inside}
use Rattle.tree.proofs.FindLaws.{finds_live, finds_front, none_front}
use Rattle.tree.proofs.find.Goals as goal

pub returns-then-front-gt0 : goal.returns-then-front-gt0
returns-then-front-gt0 c =
    let a = c.args in
    record {
      finds = finds_front (plain_rows a.words.now) a.tree.sorted a.tree.count a.id c.in_front-front.result c.requires.front c.if-front-gt0.true c.in_front-front.ensures;
      cell_value = c.search-cell.ensures;
    }

pub in_cell-link-requires : goal.in_cell-link-requires
in_cell-link-requires c =
    let a = c.args in
    record {
      grown = c.requires;
      inside =
          subst (λ (z : ℕ). Inside a.tree.sorted a.tree.count z) (sym c.search-cell.ensures)
          (cell_inside a.tree a.words.now a.entries.now c.requires (λ i. omega (arith, c.type_inv.words i)) a.id);
    }

pub returns : goal.returns
returns c =
    let a = c.args in
    let words = a.words.now in
    let entries = a.entries.now in
    let e = c.in_cell-link.ensures ∙ ap (λ (z : ℕ). live_link words (link_of a.tree words entries z)) c.search-cell.ensures in
    let none = none_front (plain_rows words) a.tree.sorted a.id c.in_front-front.result (omega (arith, c.if-front-gt0.false)) c.in_front-front.ensures in
    record {
      finds =
          subst (λ (u : ℕ). Finds (plain_rows words) a.tree.count a.id u) (sym e)
          (finds_live a.tree words entries c.requires (λ i. omega (arith, c.type_inv.words i)) a.id (omega (arith, c.ranges.id)) none);
      cell_value = c.search-cell.ensures;
    }
