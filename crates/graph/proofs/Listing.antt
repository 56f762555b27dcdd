-- The loops that test: one list of neighbours with its marks, and things in a row, each of which leaves marks behind. The invariant: the run from here is the whole run.
use Rattle.std.specs.Prelude.{Ok, Err}
use Prim.Native.Nat.{ℕ, ◌+◌, ◌*◌, ◌-◌, ◌≤◌, ◌<◌}
use mathlib.Core.Path.{◌≡◌, sym, ap, subst, ◌∙◌}
use mathlib.Core.Bool.{false}
use mathlib.Core.List.{List, [], ◌∷◌, ◌++◌}
use native.Mathlib.Omega.{arith}
use borrow.Author.Tests.{eq-eqb, ne_eqb}
use lib.ListN.{length, get_or, set, length-set}
use Rattle.fields.specs.Fields.{num}
use Rattle.refusal.specs.Refusal.{Answer}
use Rattle.refusal.specs.declared.Refusal.{Refusal}
use Rattle.refusal.specs.declared.Refusal.TheVariants.{PastTheEnd, WrongNeighbour}
use Rattle.refusal.proofs.Results.{go_on, give_up}
use Rattle.graph.specs.Graph.{among}
use Rattle.graph.specs.Cache.{Read, numbers_at, several, read_neighbour}
use Rattle.graph.specs.Marks.{Under, Marked}
use Rattle.graph.specs.Told.{next_told}
use Rattle.graph.proofs.Several.{turn, over}
use Rattle.graph.proofs.Marking.{under_set, marked_more, numbers_more}
use Rattle.graph.proofs.Asked.{neighbour_past, neighbour_high, neighbour_self, neighbour_again, neighbour_good}

-- ---- things in a row
pub record Running {A : Type 0} (one : ℕ → ℕ → Answer (Read A)) (end total first lent : ℕ) (marks : List ℕ) (at k : ℕ) : Type 0 where
  pub within : at ≤ end
  pub same : length marks ≡ lent
  pub under : Under marks (at + 1)
  pub whole : next_told (several one (total - k) k at) ≡ next_told (several one total 0 first)

module _ {A : Type 0} {one : ℕ → ℕ → Answer (Read A)} {end total first lent : ℕ} where
  pub running_more : {marks marks' : List ℕ} {at k next : ℕ} → Running one end total first lent marks at k → k < total
      → next_told (one k at) ≡ Ok next → next ≤ end → length marks' ≡ length marks → Under marks' (next + 1)
      → Running one end total first lent marks' next (k + 1)
  running_more {at = at} {k} r h e w l u =
      record {
        within = w;
        same = l ∙ r.same;
        under = u;
        whole = sym (turn one total k at h ∙ go_on _ _ _ e) ∙ r.whole;
      }

  pub running_stop : {marks : List ℕ} {at k : ℕ} {why : Refusal} → Running one end total first lent marks at k → k < total
      → next_told (one k at) ≡ Err why → Err why ≡ next_told (several one total 0 first)
  running_stop {at = at} {k} r h e = sym (turn one total k at h ∙ give_up _ _ _ e) ∙ r.whole

  pub running_done : {marks : List ℕ} {at k : ℕ} → Running one end total first lent marks at k → total ≤ k → Ok at ≡ next_told (several one total 0 first)
  running_done {at = at} {k} r h = sym (over one total k at h) ∙ r.whole

-- ---- a list of neighbours
pub record Listing (s : List ℕ) (end count node degree first lent : ℕ) (marks : List ℕ) (at i : ℕ) : Type 0 where
  pub place : at ≡ first + 4 * i
  pub within : at ≤ end
  pub same : length marks ≡ lent
  pub under : Under marks (first + 1)
  pub marked : Marked count first (numbers_at i s first) marks
  pub whole :
      next_told (several (read_neighbour count s end node first) (degree - i) i at)
      ≡ next_told (several (read_neighbour count s end node first) degree 0 first)

module _ {s : List ℕ} {end count node degree first lent : ℕ} where
  module _ {marks : List ℕ} {at i : ℕ} (l : Listing s end count node degree first lent marks at i) (h : i < degree) where
    stops : (why : Refusal) → next_told (read_neighbour count s end node first i at) ≡ Err why
        → Err why ≡ next_told (several (read_neighbour count s end node first) degree 0 first)
    stops why e =
        sym (turn (read_neighbour count s end node first) degree i at h ∙ give_up _ _ _ e)
        ∙ l.whole

    pub listing_past : end < at + 4 → Err PastTheEnd ≡ next_told (several (read_neighbour count s end node first) degree 0 first)
    listing_past r = stops PastTheEnd (neighbour_past count s end node first i at r)

    module _ {x : ℕ} (e : x ≡ num s at 4) (r : at + 4 ≤ end) where
      pub listing_high : count ≤ x → Err WrongNeighbour ≡ next_told (several (read_neighbour count s end node first) degree 0 first)
      listing_high a = stops WrongNeighbour (neighbour_high count s end node first i at r (subst (λ (y : ℕ). count ≤ y) e a))

      pub listing_self : x < count → x ≡ node → Err WrongNeighbour ≡ next_told (several (read_neighbour count s end node first) degree 0 first)
      listing_self a b = stops WrongNeighbour (neighbour_self count s end node first i at r (subst (λ (y : ℕ). y < count) e a) (sym e ∙ b))

      pub listing_again : x < count → (x ≡ node → ⊥) → get_or marks x 0 ≡ first
          → Err WrongNeighbour ≡ next_told (several (read_neighbour count s end node first) degree 0 first)
      listing_again a b f =
          stops WrongNeighbour
          (neighbour_again count s end node first i at r (subst (λ (y : ℕ). y < count) e a) (λ q. b (e ∙ q))
          (ap (λ (y : ℕ). among y (numbers_at i s first)) (sym e) ∙ sym (l.marked.marked x a) ∙ eq-eqb _ _ f))

      pub listing_more : count ≤ lent → x < count → (x ≡ node → ⊥) → (get_or marks x 0 ≡ first → ⊥)
          → Listing s end count node degree first lent (set marks x first) (at + 4) (i + 1)
      listing_more room a b f =
          let place = l.place in
          let same = l.same in
          let fresh : among (num s at 4) (numbers_at i s first) ≡ false = ap (λ (y : ℕ). among y (numbers_at i s first)) (sym e) ∙ sym (l.marked.marked x a) ∙ ne_eqb _ _ f in
          let good = neighbour_good count s end node first i at r (subst (λ (y : ℕ). y < count) e a) (λ q. b (e ∙ q)) fresh in
          let list : numbers_at i s first ++ (x ∷ []) ≡ numbers_at (i + 1) s first =
          ap (λ (y : ℕ). numbers_at i s first ++ (y ∷ [])) (e ∙ ap (λ (a : ℕ). num s a 4) place) ∙ sym (numbers_more i s first) in
          record {
            place = omega arith;
            within = r;
            same = length-set marks x first ∙ same;
            under = under_set marks x first l.under;
            marked = subst (λ (b : List ℕ). Marked count first b (set marks x first)) list (marked_more count first (numbers_at i s first) marks x (omega arith) a l.marked);
            whole =
                sym (turn (read_neighbour count s end node first) degree i at h
                ∙ go_on _ _ _ good)
                ∙ l.whole;
          }

  pub listing_done : {marks : List ℕ} {at i : ℕ} → Listing s end count node degree first lent marks at i → degree ≤ i
      → Ok at ≡ next_told (several (read_neighbour count s end node first) degree 0 first)
  listing_done {at = at} {i} l h = sym (over (read_neighbour count s end node first) degree i at h) ∙ l.whole
