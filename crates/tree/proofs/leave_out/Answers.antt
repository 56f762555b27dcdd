-- `tree::leave_out` meets its contract.
-- Assumes nothing.
use Prim.Native.Nat.{ℕ, ◌+◌, ◌*◌}
use native.Mathlib.Numerals.{add-one}
use mathlib.Core.Path.{refl, sym, subst}
use lib.ListN.{set}
use Rattle.tree.specs.Grown.{TakenUp}
use Rattle.tree.specs.declared.Tree.{Tree}
use Rattle.tree.proofs.SkipLaws.{left_out, out_rows}
use Rattle.tree.proofs.leave_out.Goals as goal

pub returns : goal.returns
returns c =
    let a = c.args in
    let g = c.requires.grown in
    let r = c.requires.room in
    let n = a.tree.count in
    let w = a.words.now in
    let t : Tree = record { root = a.tree.root; sorted = a.tree.sorted; count = n + 1 } in
    subst (λ (x : ℕ). TakenUp a.tree w t (set w (2 * n + 1) x) (set a.entries.now n 0)) (sym c.plain.ensures)
    (record {
      grown = left_out a.tree w a.entries.now g t refl (add-one _) refl r.fewer r.words_room r.entries_room c.requires.deleted_unit_bound;
      rows = out_rows w n;
      counted = refl;
    })
