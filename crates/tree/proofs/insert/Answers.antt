-- `tree::insert` meets its contract.
-- Assumes nothing.
use Prim.Native.Nat.{ℕ, ◌+◌}
use native.Mathlib.Omega.{arith}
use native.Mathlib.Numerals.{add-one}
use mathlib.Core.Path.{refl, sym, subst}
use Rattle.digital_tree.specs.Look.{Inside}
use Rattle.tree.proofs.InsertLaws.{cell_inside, inserted}
use Rattle.tree.proofs.insert.Goals as goal

pub splice-root-requires : goal.splice-root-requires
splice-root-requires c =
    let a = c.args in
    let g = c.requires.grown in
    let i = cell_inside a.tree a.words.now a.entries.now g (λ i. grind arith) a.id in
    record { grown = g; room = c.requires.room; inside = subst (λ (z : ℕ). Inside a.tree.sorted a.tree.count z) (sym c.requires.cell_value) i }

pub returns : goal.returns
returns c =
    let a = c.args in
    let g = c.requires.grown in
    let r = c.requires.room in
    let p = c.splice-root in
    inserted a.tree a.words.now a.entries.now g (λ i. grind arith)
    (record { root = p.result; sorted = a.tree.sorted; count = a.tree.count + 1 }) p.new.words p.new.entries a.cell a.id a.word
    (add-one _) refl c.requires.count_nonzero r.fewer r.words_room p.auto.words r.entries_room p.auto.entries (omega (arith, c.ranges.id)) c.requires.cell_value c.requires.absent p.ensures
