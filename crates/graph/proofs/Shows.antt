-- Laws of the view: a level's part, the walk up to it, and that what is shown lies in the cache.
use Rattle.std.specs.Prelude.{Ok}
use Prim.Native.Nat.{ℕ, zero, suc, ◌+◌, ◌*◌, ◌-◌, ◌≤◌, ◌<◌}
use mathlib.Core.Path.{◌≡◌, ap}
use mathlib.Core.List.{List}
use native.Mathlib.Omega.{arith}
use borrow.Author.Tests.{ltb-false}
use lib.Dec.{ltb, leb}
use lib.ListN.{length, get_or}
use Rattle.fields.specs.Fields.{num}
use Rattle.refusal.specs.Refusal.{◌>>=◌}
use Rattle.refusal.specs.declared.Refusal.TheVariants.{NoSuchNode, RowDoesNotFit}
use Rattle.refusal.proofs.Results.{went, passed, answer_injective}
use Rattle.graph.specs.Neighbours.{level_part, level_above, neighbours}
use Rattle.graph.specs.declared.CachePart.{CachePart}

-- the walk from a level goes on from the level above it
pub above_turn : (level i : ℕ) (s : List ℕ) (at : ℕ) → i < level
    → level_above (level - i) s at ≡ (level_part s at >>= λ this. level_above (level - (i + 1)) s (this.at + this.size))
above_turn level i s at h = let e : level - i ≡ suc (level - (i + 1)) = omega arith in ap (λ (n : ℕ). level_above n s at) e

pub part_inside : (s : List ℕ) (at : ℕ) (p : CachePart) → level_part s at ≡ Ok p → (p.at + p.size ≤ length s)
unfolding level_part
part_inside s at p e =
    let a = went RowDoesNotFit (ltb (length s) (at + 4)) _ p e in
    let b = went RowDoesNotFit (ltb (length s) (at + 4 + 4 * num s at 4)) _ p a.then in
    let i = answer_injective _ p b.then in
    let x : at + 4 ≡ p.at = ap (λ (q : CachePart). q.at) i in
    let y : 4 * num s at 4 ≡ p.size = ap (λ (q : CachePart). q.size) i in
    let h : at + 4 + 4 * num s at 4 ≤ length s = ltb-false _ _ b.test_false in
    omega arith

above_inside : (level : ℕ) (s : List ℕ) (at : ℕ) (p : CachePart) → level_above level s at ≡ Ok p → (p.at + p.size ≤ length s)
above_inside zero s at p e = part_inside s at p e
above_inside (suc level) s at p e =
    let q = passed (level_part s at) (λ this. level_above level s (this.at + this.size)) p e in
    above_inside level s (q.value.at + q.value.size) p q.then

pub shown_inside : (s starts : List ℕ) (count node level : ℕ) (p : CachePart) → neighbours s starts count node level ≡ Ok p → (p.at + p.size ≤ length s)
unfolding neighbours
shown_inside s starts count node level p e =
    let a = went NoSuchNode (leb count node) _ p e in
    let b = went NoSuchNode (ltb (length starts) count) _ p a.then in
    let c = went RowDoesNotFit (leb (length s) (get_or starts node 0)) _ p b.then in
    let d = went NoSuchNode (leb (num s (get_or starts node 0) 1) level) _ p c.then in
    above_inside level s (get_or starts node 0 + 1) p d.then
