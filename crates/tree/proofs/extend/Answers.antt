-- `tree::extend` meets its contract.
-- Assumes nothing.
use Prim.Native.Nat.{◌+◌}
use native.Mathlib.Omega.{arith}
use native.Mathlib.Numerals.{add-one}
use mathlib.Core.Path.{refl}
use Rattle.tree.proofs.FrontLaws.{extended}
use Rattle.tree.proofs.extend.Goals as goal

pub returns : goal.returns
returns c =
    let a = c.args in
    let g = c.requires.grown in
    let r = c.requires.room in
    let x = c.requires.rises in
    let f = g.front in
    extended a.tree a.words.now a.entries.now g (record { root = a.tree.root; sorted = a.tree.count + 1; count = a.tree.count + 1 }) _ a.id a.word
    c.write_row.ensures refl (add-one _) (add-one _) (omega (arith, x.whole)) r.fewer r.words_room r.entries_room x.over c.requires.absent
