-- A row that is in the table already.
use Prim.Native.Nat.{ℕ, ◌+◌, ◌*◌, ◌<◌}
use native.Mathlib.Omega.{arith}
use mathlib.Core.List.{List}
use mathlib.Core.Path.{sym, ap₂, ◌∙◌, subst}
use lib.ListN.{get_or}
use Rattle.tree.specs.declared.Tree.{Tree}
use Rattle.links.specs.Links.{deleted_unit, plain_rows, put_at}
use Rattle.tree.specs.Grown.{Absent, Once, Added, TakenUp}
use Rattle.links.proofs.PlainLaws.{plain_id, plain_word_lem, next_id}
use Rattle.tree.proofs.RowLaws.{put_same, once_absent}
use Rattle.tree.proofs.FindLaws.{live_next}

-- a live row after the first n, where no ID is live twice
pub absent_here : (words : List ℕ) (n : ℕ) → Once (plain_rows words) (n + 1) → get_or words (2 * n + 1) 0 < deleted_unit → Absent (plain_rows words) n (get_or words (2 * n) 0)
absent_here words n once h =
    subst (λ (id : ℕ). Absent (plain_rows words) n id) (next_id words n) (once_absent (plain_rows words) (n + 1) n once (omega arith) (live_next words n h))

pub added_there : (t : Tree) (words entries : List ℕ) (t' : Tree) (words' entries' : List ℕ)
    → Added t words entries t' words' entries' (get_or words (2 * t.count) 0) (get_or words (2 * t.count + 1) 0) → TakenUp t words t' words' entries'
added_there t words entries t' words' entries' a =
    record {
      grown = a.grown;
      rows = a.rows ∙ ap₂ (put_at (plain_rows words) t.count) (sym (plain_id words t.count)) (sym (plain_word_lem words t.count)) ∙ put_same (plain_rows words) t.count;
      counted = a.counted;
    }
