-- `put_row` follows `apply_put`: the old row of the ID is marked, then the tests, then the row is appended.
-- the new size is far from any bound
use Prim.Native.Nat.{ℕ, ◌+◌, ◌≤◌}
use mathlib.Core.Path.{sym, subst}
use mathlib.Core.List.{[], ◌∷◌, ◌++◌}
use Rattle.config.specs.Limits.{max_snapshot_bytes}
use Rattle.layout.specs.Layout.{record_length, snapshot_length}
use Rattle.meaning.specs.Replay.{mark}
use Rattle.meaning.specs.Records.{row_kind}
use Rattle.tree.specs.Grown.{Added, Room}
use Rattle.replay.specs.Stands.{TableStands}
use Rattle.replay.proofs.TableLaws.{applied_refused, applied_went, put_many, put_large, put_unlent, put_goes, put_stands}
use native.Mathlib.Omega.{arith}
use Rattle.replay.proofs.put_row.Goals as goal

pub returns-then-count-ge-MAX_RECORDS : goal.returns-then-count-ge-MAX_RECORDS
returns-then-count-ge-MAX_RECORDS c =
    let a = c.args in
    let o = c.take_out-out in
    λ rows s.
    let e = o.ensures rows s in
    applied_refused a.d _ _ _ _ (put_many a.d a.lent a.row _ _ a.table o.result rows e c.if-count-ge-MAX_RECORDS.true)

pub returns-then-size-gt-MAX_SNAPSHOT_BYTES : goal.returns-then-size-gt-MAX_SNAPSHOT_BYTES
returns-then-size-gt-MAX_SNAPSHOT_BYTES c =
    let a = c.args in
    let o = c.take_out-out in
    λ rows s.
    let e = o.ensures rows s in
    let size = c.record_length.ensures in
    applied_refused a.d _ _ _ _ (put_large a.d a.lent a.row _ _ a.table o.result rows e c.if-count-ge-MAX_RECORDS.false (omega arith))

pub returns-then-lent-count : goal.returns-then-lent-count
returns-then-lent-count c =
    let a = c.args in
    let o = c.take_out-out in
    λ rows s.
    let e = o.ensures rows s in
    let size = c.record_length.ensures in
    applied_refused a.d _ _ _ _ (put_unlent a.d a.lent a.row _ _ a.table o.result rows e c.if-count-ge-MAX_RECORDS.false (omega arith) c.if-lent-count.true)

pub returns : goal.returns
returns c =
    let room : let a = c.args in Room a.table.tree c.take_out-out.new.words a.entries.now =
    let same = c.take_out-out.auto.words in
    record { words_room = omega arith; entries_room = omega arith; fewer = omega arith } in
    let a = c.args in
    let o = c.take_out-out in
    let p = c.put-tree in
    let w = c.pack.ensures in
    let n = c.record_length.ensures in
    let few = c.if-count-ge-MAX_RECORDS.false in
    let lent = c.if-lent-count.false in
    let large = c.if-size-gt-MAX_SNAPSHOT_BYTES.false in
    let r = room in
    λ rows s.
    let e = o.ensures rows s in
    let fits : snapshot_length (o.result.size + record_length a.d a.row.caption_length) ≤ max_snapshot_bytes = omega arith in
    let added = subst (λ (x : ℕ). Added a.table.tree o.new.words a.entries.now p.result p.new.words p.new.entries a.row.id.0 x) w p.ensures in
    let stands = put_stands a.d a.lent a.row _ _ a.table o.result rows e few fits p.result p.new.words p.new.entries c.requires.row_fits c.requires.spares r.words_room added in
    applied_went a.d _ (mark (row_kind a.d) a.row.id.0 rows ++ (a.row ∷ [])) _ _ _
    (put_goes a.d a.lent a.row _ _ a.table o.result rows e few fits lent)
    (subst (λ (x : ℕ). TableStands a.d p.new.words p.new.entries (record { tree = p.result; size = o.result.size + x }) (mark (row_kind a.d) a.row.id.0 rows ++ (a.row ∷ []))) (sym n) stands)
