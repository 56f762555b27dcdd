-- What a reading answers and leaves: zeros throughout where it is refused, the tables of its rows where it is accepted.
use Rattle.std.specs.Prelude.{Ok, Err}
use Prim.Native.Nat.{ℕ, ◌-◌}
use native.Mathlib.Omega.{arith}
use mathlib.Core.Path.{◌≡◌, sym, ap, ◌∙◌}
use mathlib.Core.Bool.{Bool, true, false}
use mathlib.Core.List.{List, []}
use lib.ListN.{length, replicate}
use Rattle.refusal.specs.Refusal.{Answer, ◌>>=◌, refuse}
use Rattle.refusal.specs.declared.Refusal.{Refusal}
use Rattle.refusal.specs.declared.Refusal.TheVariants.{ActiveTwice}
use Rattle.refusal.proofs.Results.{refused_no_answer}
use Rattle.active.specs.Active.{activated}
use Rattle.sorting.specs.Sorting.{sorted_nodes}
use Rattle.meaning.specs.Calls.{read_tables}
use Rattle.meaning.specs.Recovery.{live_count}
use Rattle.meaning.specs.Snapshot.{live_twice, Snapshot, read_parts, read_snapshot}
use Rattle.meaning.specs.Tables.{row_words, live_from, filled}
use Rattle.snapshot.specs.Told.{read_told}

-- a test that stops one way on stops another
stop_either : {A B : Type 0} (w why : Refusal) (test : Bool) (a : A) (b : B)
    → (refuse w test >>= (λ _. Ok a)) ≡ Err why → (refuse w test >>= (λ _. Ok b)) ≡ Err why
stop_either w why true a b e = cc
stop_either w why false a b e = absurd (refused_no_answer why a (sym e))

-- ---- the parts, then 18
module _ (lent : ℕ) (s : List ℕ) where
  pub parts_stop : (why : Refusal) → read_parts lent s ≡ Err why → read_snapshot lent s ≡ Err why
  unfolding read_snapshot
  parts_stop why e = simp e

  pub active_twice : (x : Snapshot) (why : Refusal) → read_parts lent s ≡ Ok x → activated x.rows ≡ Err why → read_snapshot lent s ≡ Err why
  unfolding read_snapshot
  active_twice x why e k = simp e (stop_either ActiveTwice why (live_twice x.rows) (live_count x.rows) x k)

  pub active_once : (x : Snapshot) → read_parts lent s ≡ Ok x → live_twice x.rows ≡ false → read_snapshot lent s ≡ Ok x
  unfolding read_snapshot
  active_once x e t = simp (e, t)

-- ---- the tables of a refused reading
pub record Cleared (words entries : List ℕ) (r : Answer Snapshot) (why : Refusal) : Type 0 where
  pub told : Err why ≡ read_told r
  pub rows_zero : replicate (length words) 0 ≡ (read_tables words entries r).rows
  pub active_zero : replicate (length entries) 0 ≡ (read_tables words entries r).active

pub no_words : (n : ℕ) → replicate n 0 ≡ filled n []
no_words n = let e : n ≡ n - 0 = omega arith in ap (λ (k : ℕ). replicate k 0) e

pub cleared : (words entries : List ℕ) (r : Answer Snapshot) (why : Refusal) → r ≡ Err why → Cleared words entries r why
unfolding row_words live_from sorted_nodes
cleared words entries r why e =
    record {
      told = sym (ap read_told e);
      rows_zero = no_words (length words) ∙ sym (ap (λ (r : Answer Snapshot). (read_tables words entries r).rows) e);
      active_zero = no_words (length entries) ∙ sym (ap (λ (r : Answer Snapshot). (read_tables words entries r).active) e);
    }
