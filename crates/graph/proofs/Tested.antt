-- A graph that passes its tests is sound. Of bytes nothing is said.
use Rattle.std.specs.Prelude.{Option, Some}
use Prim.Native.Nat.{ℕ, ◌+◌, ◌≤◌, ◌<◌}
use mathlib.Core.Path.{◌≡◌, refl, sym, ap, ◌∙◌}
use mathlib.Core.Bool.{Bool, true, false, not}
use mathlib.Core.List.{List, []}
use native.Mathlib.Omega.{arith}
use borrow.Author.Tests.{ltb-true, ltb-false, leb-false, eqb-false, not-false}
use lib.Dec.{ltb, leb, eqb}
use lib.ListN.{length, get_or, take, get_or-eq_default}
use lib.Seq.{get_or-take, length-take-le}
use Rattle.config.specs.Settings.{in_range}
use Rattle.config.proofs.Laws.{bounds_of_in_range}
use Rattle.rows.specs.declared.Node.{Node}
use Rattle.refusal.specs.Refusal.{passes}
use Rattle.refusal.specs.declared.Refusal.TheVariants.{WrongLevels, WrongDegree, WrongNeighbour, EdgeToMissingLevel, EntryBelowHighest}
use Rattle.refusal.proofs.Results.{went, passed, not_refused}
use Rattle.graph.specs.Graph.{Graph, links_of, levels_of, neighbours_of, among, each, min_levels, max_levels, degree_limit, neighbour_test, degree_test, levels_test, level_test, node_test, nodes_test, lost_at, lost_from, edge_lost, entry_below, linked_test}
use Rattle.graph.specs.Sound.{neighbour, Edge, Sound}
use Rattle.graph.proofs.Several.{each_at}
use Rattle.graph.proofs.Lost.{none_at, lost_none_at}

pub record Neighbourly (count node : ℕ) (before : List ℕ) (x : ℕ) : Type 0 where
  pub in_range : x < count
  pub another : x ≡ node → ⊥
  pub fresh : among x before ≡ false

neighbourly : (count node : ℕ) (before : List ℕ) (x : ℕ) → neighbour_test count node before x ≡ passes → Neighbourly count node before x
unfolding neighbour_test
neighbourly count node before x e =
    let a = went WrongNeighbour (leb count x) _ tt e in
    let b = went WrongNeighbour (eqb x node) _ tt a.then in
    record {
      in_range = leb-false _ _ a.test_false;
      another = eqb-false _ _ b.test_false;
      fresh = not_refused WrongNeighbour (among x before) b.then;
    }

levels_within : (levels : ℕ) → levels_test levels ≡ passes → (min_levels ≤ levels) × (levels ≤ max_levels)
unfolding levels_test
levels_within levels e = bounds_of_in_range _ _ _ (not-false _ (not_refused WrongLevels (not (in_range levels min_levels max_levels)) e))

degree_within : (m level degree : ℕ) → degree_test m level degree ≡ passes → degree ≤ degree_limit m level
unfolding degree_test
degree_within m level degree e = ltb-false _ _ (not_refused WrongDegree (ltb (degree_limit m level) degree) e)

module _ (m count : ℕ) (g : Graph) (sized : length g ≡ count) (tested : nodes_test m count g ≡ passes) where
  node_passes : (node : ℕ) → node < count → node_test m count node (links_of g node) ≡ passes
  node_passes node h =
      let z : 0 + node ≡ node = omega arith in
      sym (ap (λ (n : ℕ). node_test m count n (links_of g node)) z) ∙ each_at (node_test m count) [] 0 g tested node (omega arith)

  pub levels_bounds : (node : ℕ) → node < count → (min_levels ≤ levels_of g node) × (levels_of g node ≤ max_levels)
  levels_bounds node h =
      let p = passed (levels_test (length (links_of g node))) (λ _. each (level_test m count node) 0 (links_of g node)) tt (node_passes node h) in
      levels_within (length (links_of g node)) p.first

  level_passes : (node level : ℕ) → node < count → level < levels_of g node → level_test m count node level (neighbours_of g node level) ≡ passes
  level_passes node level h k =
      let p = passed (levels_test (length (links_of g node))) (λ _. each (level_test m count node) 0 (links_of g node)) tt (node_passes node h) in
      let z : 0 + level ≡ level = omega arith in
      sym (ap (λ (n : ℕ). level_test m count node n (neighbours_of g node level)) z) ∙ each_at (level_test m count node) [] 0 (links_of g node) p.then level k

  pub degree_bound : (node level : ℕ) → node < count → level < levels_of g node → length (neighbours_of g node level) ≤ degree_limit m level
  degree_bound node level h k =
      let ns = neighbours_of g node level in
      let p = passed (degree_test m level (length ns)) (λ _. each (λ i x. neighbour_test count node (take i ns) x) 0 ns) tt (level_passes node level h k) in
      degree_within m level (length ns) p.first

  pub neighbour_passes : (node level i : ℕ) → node < count → level < levels_of g node → i < length (neighbours_of g node level)
      → Neighbourly count node (take i (neighbours_of g node level)) (neighbour g node level i)
  neighbour_passes node level i h k j =
      let ns = neighbours_of g node level in
      let p = passed (degree_test m level (length ns)) (λ _. each (λ i x. neighbour_test count node (take i ns) x) 0 ns) tt (level_passes node level h k) in
      let z : 0 + i ≡ i = omega arith in
      neighbourly count node (take i ns) (get_or ns i 0)
      (sym (ap (λ (n : ℕ). neighbour_test count node (take n ns) (get_or ns i 0)) z) ∙ each_at (λ i x. neighbour_test count node (take i ns) x) 0 0 ns p.then i j)

  -- past the end of a list, or at no level of the node, 0 is read, which is a node too
  pub all_near : (node level i : ℕ) → node < count → get_or (neighbours_of g node level) i 0 < count
  all_near node level i h = by (ltb level (levels_of g node)) refl
    where
      at : (t : Bool) → level < levels_of g node → ltb i (length (neighbours_of g node level)) ≡ t → get_or (neighbours_of g node level) i 0 < count
      at true k e = (neighbour_passes node level i h k (ltb-true _ _ e)).in_range
      at false k e = let z : get_or (neighbours_of g node level) i 0 ≡ 0 = get_or-eq_default (neighbours_of g node level) 0 (ltb-false _ _ e) in omega arith

      by : (t : Bool) → ltb level (levels_of g node) ≡ t → get_or (neighbours_of g node level) i 0 < count
      by true e = at (ltb i (length (neighbours_of g node level))) (ltb-true _ _ e) refl
      by false e =
          let z : neighbours_of g node level ≡ [] = get_or-eq_default (links_of g node) [] (ltb-false _ _ e) in
          let y : get_or (neighbours_of g node level) i 0 ≡ 0 = ap (λ (l : List ℕ). get_or l i 0) z in
          omega arith

  not_before : (node level i j : ℕ) → Edge count g node level j → i < j → neighbour g node level i ≡ neighbour g node level j → ⊥
  not_before node level i j e h q =
      let ns = neighbours_of g node level in
      let x = neighbour g node level j in
      let f = (neighbour_passes node level j e.node_in e.level_in e.place_in).fresh in
      let l = length-take-le j ns (let p = e.place_in in omega arith) in
      let n = none_at (eqb x) 0 (take j ns) f i (omega arith) in
      eqb-false x (get_or (take j ns) i 0) n (sym q ∙ sym (get_or-take j ns i 0 h))

  module _ (entry : Option Node) (linked : linked_test entry g ≡ passes) where
    no_edge_lost : edge_lost (levels_of g) g ≡ false
    unfolding linked_test
    no_edge_lost = (went EdgeToMissingLevel (edge_lost (levels_of g) g) _ tt linked).test_false

    not_below : entry_below (levels_of g) entry g ≡ false
    unfolding linked_test
    not_below = not_refused EntryBelowHighest (entry_below (levels_of g) entry g) (went EdgeToMissingLevel (edge_lost (levels_of g) g) _ tt linked).then

    level_had : (node level i : ℕ) → Edge count g node level i → level < levels_of g (neighbour g node level i)
    level_had node level i e =
        let h = e.node_in in
        let a = none_at (lost_from (levels_of g) 0) [] g no_edge_lost node (omega arith) in
        let z : 0 + level ≡ level = omega arith in
        let b : lost_at (levels_of g) level (neighbours_of g node level) ≡ false =
        sym (ap (λ (n : ℕ). lost_at (levels_of g) n (neighbours_of g node level)) z) ∙ lost_none_at (levels_of g) 0 (links_of g node) a level e.level_in in
        leb-false _ _ (none_at (λ x. leb (levels_of g x) level) 0 (neighbours_of g node level) b i e.place_in)

    top : (e : Node) → entry ≡ Some e → (node : ℕ) → node < count → levels_of g node ≤ levels_of g e.0
    top e q node h =
        let b : entry_below (levels_of g) (Some e) g ≡ false = ap (λ (x : Option Node). entry_below (levels_of g) x g) (sym q) ∙ not_below in
        ltb-false _ _ (none_at (λ links. ltb (levels_of g e.0) (length links)) [] g b node (omega arith))

    pub sound_of_tests : Sound m count entry g
    sound_of_tests =
        record {
          counted = sized;
          tall = λ node h. (levels_bounds node h).0;
          low = λ node h. (levels_bounds node h).1;
          few = degree_bound;
          in_range = λ node level i e. (neighbour_passes node level i e.node_in e.level_in e.place_in).in_range;
          another = λ node level i e. (neighbour_passes node level i e.node_in e.level_in e.place_in).another;
          once = one_place;
          has_level = level_had;
          highest = top;
        }
      where
        one_place : (node level i j : ℕ) → Edge count g node level i → Edge count g node level j → neighbour g node level i ≡ neighbour g node level j → i ≡ j
        one_place node level i j a b q = by (ltb i j) (ltb j i) refl refl
          where
            by : (t u : Bool) → ltb i j ≡ t → ltb j i ≡ u → i ≡ j
            by true u e f = absurd (not_before node level i j b (ltb-true _ _ e) q)
            by false true e f = absurd (not_before node level j i a (ltb-true _ _ f) (sym q))
            by false false e f = let x : j ≤ i = ltb-false _ _ e in let y : i ≤ j = ltb-false _ _ f in omega arith
