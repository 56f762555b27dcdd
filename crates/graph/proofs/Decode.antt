-- What is read is what the bytes stand for, it ends where its layout ends, and each part of it passed its test.
use Rattle.std.specs.Prelude.{Ok}
use Prim.Native.Nat.{ℕ, zero, suc, ◌+◌, ◌*◌, ◌≤◌, ◌<◌}
use mathlib.Core.Path.{◌≡◌, refl, sym, ap, ap₂, subst, ◌∙◌}
use mathlib.Core.Bool.{true, not}
use mathlib.Core.List.{List, [], ◌∷◌}
use native.Mathlib.Omega.{arith}
use borrow.Author.Tests.{ltb-false, not-false, le-ltb}
use lib.Dec.{ltb}
use lib.ListN.{length, get_or, take}
use Rattle.fields.specs.Fields.{num}
use Rattle.config.specs.Settings.{in_range}
use Rattle.refusal.specs.Refusal.{passes}
use Rattle.refusal.specs.declared.Refusal.TheVariants.{PastTheEnd, WrongLevels, WrongDegree}
use Rattle.refusal.proofs.Results.{went, passed, answer_injective, sized_is}
use Rattle.graph.specs.Graph.{Links, Graph, degree_limit, neighbour_test, degree_test, levels_test, level_test, node_test, nodes_test, min_levels, max_levels}
use Rattle.graph.specs.Layout.{links_length, node_length, graph_length}
use Rattle.graph.specs.Cache.{Read, numbers_at, levels_at, links_at, several, read_neighbour, read_level, read_node}
use Rattle.graph.specs.Decoded.{graph_at}
use Rattle.graph.specs.Told.{next_told}
use Rattle.graph.proofs.Several.{parted, several_within, several_tested}

pub length_numbers : (n : ℕ) (s : List ℕ) (at : ℕ) → length (numbers_at n s at) ≡ n
length_numbers zero s at = refl
length_numbers (suc n) s at = ap suc (length_numbers n s (at + 4))

pub take_numbers : (k n : ℕ) (s : List ℕ) (at : ℕ) → k ≤ n → take k (numbers_at n s at) ≡ numbers_at k s at
take_numbers zero n s at h = refl
take_numbers (suc k) zero s at h = absurd (omega arith)
take_numbers (suc k) (suc n) s at h = ap (λ (l : List ℕ). num s at 4 ∷ l) (take_numbers k n s (at + 4) (omega arith))

pub get_d_numbers : (n : ℕ) (s : List ℕ) (at i : ℕ) → i < n → get_or (numbers_at n s at) i 0 ≡ num s (at + 4 * i) 4
get_d_numbers zero s at i h = absurd (omega arith)
get_d_numbers (suc n) s at zero h = let e : at ≡ at + 4 * zero = omega arith in ap (λ (a : ℕ). num s a 4) e
get_d_numbers (suc n) s at (suc i) h =
    let e : at + 4 + 4 * i ≡ at + 4 * suc i = omega arith in get_d_numbers n s (at + 4) i (omega arith) ∙ ap (λ (a : ℕ). num s a 4) e

pub length_levels : (n : ℕ) (s : List ℕ) (at : ℕ) → length (levels_at n s at) ≡ n
length_levels zero s at = refl
length_levels (suc n) s at = ap suc (length_levels n s (at + 4 + 4 * num s at 4))

pub length_links : (s : List ℕ) (at : ℕ) → length (links_at s at) ≡ num s at 1
unfolding links_at
length_links s at = length_levels (num s at 1) s (at + 1)

pub length_graph : (n : ℕ) (s : List ℕ) (at : ℕ) → length (graph_at n s at) ≡ n
length_graph zero s at = refl
length_graph (suc n) s at = ap suc (length_graph n s (at + node_length (links_at s at)))

-- ---- a neighbour
pub record NeighbourRead (count : ℕ) (s : List ℕ) (end node first k at : ℕ) (x : Read ℕ) : Type 0 where
  pub room : at + 4 ≤ end
  pub tested : neighbour_test count node (numbers_at k s first) (num s at 4) ≡ passes
  pub value_is : x.value ≡ num s at 4
  pub next_is : x.next ≡ at + 4

pub neighbour_read : (count : ℕ) (s : List ℕ) (end node first k at : ℕ) (x : Read ℕ)
    → read_neighbour count s end node first k at ≡ Ok x → NeighbourRead count s end node first k at x
unfolding read_neighbour
neighbour_read count s end node first k at x e =
    let w = went PastTheEnd (ltb end (at + 4)) _ x e in
    let p = passed (neighbour_test count node (numbers_at k s first) (num s at 4)) (λ _. Ok (record { value = num s at 4; next = at + 4 })) x w.then in
    let i = answer_injective _ x p.then in
    record {
      room = ltb-false _ _ w.test_false;
      tested = p.first;
      value_is = sym (ap (λ (y : Read ℕ). y.value) i);
      next_is = sym (ap (λ (y : Read ℕ). y.next) i);
    }

pub record Lies {A : Type 0} (x : Read A) (wanted : A) (end : ℕ) : Type 0 where
  pub value_is : x.value ≡ wanted
  pub next_is : x.next ≡ end

pub neighbours_read : (count : ℕ) (s : List ℕ) (end node first n k at : ℕ) (x : Read (List ℕ))
    → several (read_neighbour count s end node first) n k at ≡ Ok x → Lies x (numbers_at n s at) (at + 4 * n)
neighbours_read count s end node first zero k at x e =
    let i = answer_injective _ x e in
    let n : at ≡ x.next = ap (λ (y : Read (List ℕ)). y.next) i in
    record { value_is = sym (ap (λ (y : Read (List ℕ)). y.value) i); next_is = omega arith }
neighbours_read count s end node first (suc n) k at x e =
    let p = parted (read_neighbour count s end node first) n k at x e in
    let r = neighbour_read count s end node first k at p.this p.this_is in
    let q = neighbours_read count s end node first n (suc k) p.this.next p.rest p.rest_is in
    let t = r.next_is in
    let z = p.ends in
    let l = q.next_is in
    record {
      value_is = p.values ∙ ap₂ ◌∷◌ r.value_is (q.value_is ∙ ap (numbers_at n s) r.next_is);
      next_is = omega arith;
    }

-- ---- a level
pub record LevelRead (m count : ℕ) (s : List ℕ) (end node level at : ℕ) (x : Read (List ℕ)) : Type 0 where
  pub room : at + 4 ≤ end
  pub few : num s at 4 ≤ degree_limit m level
  pub listed : several (read_neighbour count s end node (at + 4)) (num s at 4) 0 (at + 4) ≡ Ok x
  pub lies : Lies x (numbers_at (num s at 4) s (at + 4)) (at + 4 + 4 * num s at 4)

pub level_read : (m count : ℕ) (s : List ℕ) (end node level at : ℕ) (x : Read (List ℕ))
    → read_level m count s end node level at ≡ Ok x → LevelRead m count s end node level at x
unfolding read_level degree_test
level_read m count s end node level at x e =
    let w = went PastTheEnd (ltb end (at + 4)) _ x e in
    let d = went WrongDegree (ltb (degree_limit m level) (num s at 4)) _ x w.then in
    record {
      room = ltb-false _ _ w.test_false;
      few = ltb-false _ _ d.test_false;
      listed = d.then;
      lies = neighbours_read count s end node (at + 4) (num s at 4) 0 (at + 4) x d.then;
    }

pub neighbour_within : (count : ℕ) (s : List ℕ) (end node first k at : ℕ) (x : Read ℕ) → at ≤ end
    → read_neighbour count s end node first k at ≡ Ok x → (at ≤ x.next) × (x.next ≤ end)
neighbour_within count s end node first k at x h e =
    let r = neighbour_read count s end node first k at x e in let a = r.room in let b = r.next_is in (omega arith, omega arith)

pub level_within : (m count : ℕ) (s : List ℕ) (end node level at : ℕ) (x : Read (List ℕ)) → at ≤ end
    → read_level m count s end node level at ≡ Ok x → (at + 4 ≤ x.next) × (x.next ≤ end)
level_within m count s end node level at x h e =
    let r = level_read m count s end node level at x e in
    several_within (read_neighbour count s end node (at + 4)) end (neighbour_within count s end node (at + 4)) (num s at 4) 0 (at + 4) x r.room r.listed

-- the same of where it ends, as it is told
pub level_next : (m count : ℕ) (s : List ℕ) (end node level at next : ℕ) → at ≤ end → next_told (read_level m count s end node level at) ≡ Ok next
    → (at + 4 ≤ next) × (next ≤ end)
level_next m count s end node level at next h e =
    let f = sized_is (λ r. r.next) (read_level m count s end node level at) next e in
    subst (λ (n : ℕ). (at + 4 ≤ n) × (n ≤ end)) f.size_is (level_within m count s end node level at f.value h f.is)

pub levels_read : (m count : ℕ) (s : List ℕ) (end node n k at : ℕ) (x : Read Links)
    → several (read_level m count s end node) n k at ≡ Ok x → Lies x (levels_at n s at) (at + links_length x.value)
levels_read m count s end node zero k at x e =
    let i = answer_injective _ x e in
    let v : x.value ≡ [] = sym (ap (λ (y : Read Links). y.value) i) in
    let n : at ≡ x.next = ap (λ (y : Read Links). y.next) i in
    let l : links_length x.value ≡ 0 = ap links_length v in
    record { value_is = v; next_is = omega arith }
levels_read m count s end node (suc n) k at x e =
    let p = parted (read_level m count s end node) n k at x e in
    let r = (level_read m count s end node k at p.this p.this_is).lies in
    let q = levels_read m count s end node n (suc k) p.this.next p.rest p.rest_is in
    let t = r.next_is in
    let z = p.ends in
    let l = q.next_is in
    let a : links_length x.value ≡ 4 + 4 * length p.this.value + links_length p.rest.value = ap links_length p.values in
    let b : length p.this.value ≡ num s at 4 = ap length r.value_is ∙ length_numbers (num s at 4) s (at + 4) in
    record {
      value_is = p.values ∙ ap₂ ◌∷◌ r.value_is (q.value_is ∙ ap (levels_at n s) r.next_is);
      next_is = omega arith;
    }

-- ---- a node
pub record NodeRead (m count : ℕ) (s : List ℕ) (end node at : ℕ) (x : Read Links) : Type 0 where
  pub room : at + 1 ≤ end
  pub levels_in : in_range (num s at 1) min_levels max_levels ≡ true
  pub listed : several (read_level m count s end node) (num s at 1) 0 (at + 1) ≡ Ok x
  pub lies : Lies x (links_at s at) (at + node_length x.value)

pub node_read : (m count : ℕ) (s : List ℕ) (end node at : ℕ) (x : Read Links) → read_node m count s end node at ≡ Ok x → NodeRead m count s end node at x
unfolding read_node levels_test links_at
node_read m count s end node at x e =
    let w = went PastTheEnd (ltb end (at + 1)) _ x e in
    let d = went WrongLevels (not (in_range (num s at 1) min_levels max_levels)) _ x w.then in
    let q = levels_read m count s end node (num s at 1) 0 (at + 1) x d.then in
    let l = q.next_is in
    record {
      room = ltb-false _ _ w.test_false;
      levels_in = not-false _ d.test_false;
      listed = d.then;
      lies = record { value_is = q.value_is; next_is = omega arith };
    }

pub node_within : (m count : ℕ) (s : List ℕ) (end node at : ℕ) (x : Read Links) → at ≤ end
    → read_node m count s end node at ≡ Ok x → (at ≤ x.next) × (x.next ≤ end)
node_within m count s end node at x h e =
    let r = node_read m count s end node at x e in
    let w =
    several_within (read_level m count s end node) end
    (λ k a y g f. let v = level_within m count s end node k a y g f in (omega arith, v.1)) (num s at 1) 0 (at + 1) x r.room r.listed in
    (omega arith, w.1)

pub node_next : (m count : ℕ) (s : List ℕ) (end node at next : ℕ) → at ≤ end → next_told (read_node m count s end node at) ≡ Ok next → next ≤ end
node_next m count s end node at next h e =
    let f = sized_is (λ r. r.next) (read_node m count s end node at) next e in
    subst (λ (n : ℕ). n ≤ end) f.size_is (node_within m count s end node at f.value h f.is).1

pub nodes_read : (m count : ℕ) (s : List ℕ) (end n k at : ℕ) (x : Read Graph)
    → several (read_node m count s end) n k at ≡ Ok x → Lies x (graph_at n s at) (at + graph_length x.value)
nodes_read m count s end zero k at x e =
    let i = answer_injective _ x e in
    let v : x.value ≡ [] = sym (ap (λ (y : Read Graph). y.value) i) in
    let n : at ≡ x.next = ap (λ (y : Read Graph). y.next) i in
    let l : graph_length x.value ≡ 0 = ap graph_length v in
    record { value_is = v; next_is = omega arith }
nodes_read m count s end (suc n) k at x e =
    let p = parted (read_node m count s end) n k at x e in
    let r = (node_read m count s end k at p.this p.this_is).lies in
    let q = nodes_read m count s end n (suc k) p.this.next p.rest p.rest_is in
    let t = r.next_is in
    let z = p.ends in
    let l = q.next_is in
    let a : graph_length x.value ≡ node_length p.this.value + graph_length p.rest.value = ap graph_length p.values in
    let goes : p.this.next ≡ at + node_length (links_at s at) = t ∙ ap (λ (y : Links). at + node_length y) r.value_is in
    record {
      value_is = p.values ∙ ap₂ ◌∷◌ r.value_is (q.value_is ∙ ap (graph_at n s) goes);
      next_is = omega arith;
    }

-- ---- tested
pub level_tested : (m count : ℕ) (s : List ℕ) (end node level at : ℕ) (x : Read (List ℕ))
    → read_level m count s end node level at ≡ Ok x → level_test m count node level x.value ≡ passes
unfolding degree_test
level_tested m count s end node level at x e =
    let r = level_read m count s end node level at x e in
    let d = num s at 4 in
    let f = at + 4 in
    let whole = r.lies.value_is in
    let few : length x.value ≤ degree_limit m level = subst (λ (n : ℕ). n ≤ degree_limit m level) (sym (ap length whole ∙ length_numbers d s f)) r.few in
    let all =
    several_tested (read_neighbour count s end node f) (λ k y. neighbour_test count node (take k x.value) y) d
    (λ k a y h g.
    let b = neighbour_read count s end node f k a y g in
    ap₂ (neighbour_test count node) (ap (take k) whole ∙ take_numbers k d s f (omega arith)) b.value_is ∙ b.tested)
    d 0 f x (omega arith) r.listed in
    simp (le-ltb _ _ few) all

pub node_tested : (m count : ℕ) (s : List ℕ) (end node at : ℕ) (x : Read Links)
    → read_node m count s end node at ≡ Ok x → node_test m count node x.value ≡ passes
unfolding levels_test
node_tested m count s end node at x e =
    let r = node_read m count s end node at x e in
    let sized : in_range (length x.value) min_levels max_levels ≡ true =
    ap (λ (n : ℕ). in_range n min_levels max_levels) (ap length r.lies.value_is ∙ length_links s at) ∙ r.levels_in in
    let all =
    several_tested (read_level m count s end node) (level_test m count node) (num s at 1)
    (λ k a y h g. level_tested m count s end node k a y g) (num s at 1) 0 (at + 1) x (omega arith) r.listed in
    simp sized all

pub nodes_tested : (m count : ℕ) (s : List ℕ) (end at : ℕ) (x : Read Graph)
    → several (read_node m count s end) count 0 at ≡ Ok x → nodes_test m count x.value ≡ passes
nodes_tested m count s end at x e =
    several_tested (read_node m count s end) (node_test m count) count
    (λ k a y h g. node_tested m count s end k a y g) count 0 at x (omega arith) e
