-- What is written is read: a graph that passes its tests, laid out in bytes, is read back as that graph.
use Rattle.std.specs.Prelude.{Ok}
use Prim.Native.Nat.{ℕ, zero, suc, ◌+◌, ◌*◌, ◌^◌, ◌≤◌, ◌<◌}
use mathlib.Core.Path.{◌≡◌, refl, sym, ap, ap₂, subst, ◌∙◌}
use mathlib.Core.Bool.{Bool, true, false, not, cond}
use mathlib.Core.List.{List, [], ◌∷◌, ◌++◌, append_assoc}
use native.Mathlib.Omega.{arith}
use borrow.Author.Tests.{le-ltb, ltb-false, leb-false, not-false}
use lib.Dec.{ltb, leb, eqb}
use lib.ListN.{length, get_or, take, drop, length-append}
use lib.Seq.{drop-drop, drop-append_seam, take-length}
use Rattle.fields.specs.Fields.{num, le, bytes}
use Rattle.fields.proofs.Numbers.{length_bytes, num_bytes}
use Rattle.refusal.specs.Refusal.{Answer, ◌>>=◌, passes}
use Rattle.refusal.specs.declared.Refusal.TheVariants.{WrongLevels, WrongDegree, WrongNeighbour}
use Rattle.refusal.proofs.Results.{go_on, went, passed, not_refused}
use Rattle.config.specs.Limits.{max_m, max_records}
use Rattle.config.specs.Settings.{in_range}
use Rattle.config.proofs.Laws.{bounds_of_in_range}
use Rattle.graph.specs.Graph.{Links, Graph, each, degree_limit, neighbour_test, degree_test, levels_test, level_test, node_test, nodes_test, min_levels, max_levels}
use Rattle.graph.specs.Layout.{joined, level_bytes, node_bytes, graph_bytes, sum, level_length, links_length, node_length, graph_length}
use Rattle.graph.specs.Cache.{Read, numbers_at, several, read_neighbour, read_level, read_node}
use Rattle.graph.proofs.Several.{each_at}
use Rattle.graph.proofs.Decode.{take_numbers, get_d_numbers}

-- ---- bytes that stand at a place
pub record Here (s : List ℕ) (at : ℕ) (l : List ℕ) : Type 0 where
  pub rest : List ℕ
  pub is : drop at s ≡ l ++ rest

pub here_first : (s : List ℕ) (at : ℕ) (a b : List ℕ) → Here s at (a ++ b) → Here s at a
here_first s at a b h = record { rest = b ++ h.rest; is = h.is ∙ append_assoc a b h.rest }

pub here_then : (s : List ℕ) (at : ℕ) (a b : List ℕ) (n : ℕ) → length a ≡ n → Here s at (a ++ b) → Here s (at + n) b
here_then s at a b n e h =
    record {
      rest = h.rest;
      is =
          ap (λ (k : ℕ). drop (at + k) s) (sym e)
          ∙ sym (drop-drop (length a) at s)
          ∙ ap (drop (length a)) (h.is ∙ append_assoc a b h.rest)
          ∙ drop-append_seam a (b ++ h.rest);
    }

pub here_num : (s : List ℕ) (at n v : ℕ) → v < 256 ^ n → Here s at (bytes n v) → num s at n ≡ v
here_num s at n v f h = ap (λ (l : List ℕ). le (take n l)) h.is ∙ num_bytes n v h.rest f

-- ---- things in a row
pub here_each : {A : Type 0} (f : A → List ℕ) (len : A → ℕ) (d : A) → ((x : A) → length (f x) ≡ len x) → (s : List ℕ) (xs : List A) (at : ℕ) → Here s at (joined f xs)
    → (j : ℕ) → j < length xs → Here s (at + sum len (take j xs)) (f (get_or xs j d))
here_each f len d sized s [] at h j k = absurd (omega arith)
here_each f len d sized s (x ∷ xs) at h zero k =
    let e : at ≡ at + 0 = omega arith in subst (λ (a : ℕ). Here s a (f x)) e (here_first s at (f x) (joined f xs) h)
here_each f len d sized s (x ∷ xs) at h (suc j) k =
    let e : at + len x + sum len (take j xs) ≡ at + (len x + sum len (take j xs)) = omega arith in
    subst (λ (a : ℕ). Here s a (f (get_or xs j d))) e
    (here_each f len d sized s xs (at + len x) (here_then s at (f x) (joined f xs) (len x) (sized x) h) j (omega arith))

sum_step : {A : Type 0} (len : A → ℕ) (d : A) (xs : List A) (j : ℕ) → j < length xs → sum len (take (suc j) xs) ≡ sum len (take j xs) + len (get_or xs j d)
sum_step len d [] j h = absurd (omega arith)
sum_step len d (x ∷ xs) zero h = omega arith
sum_step len d (x ∷ xs) (suc j) h = let i = sum_step len d xs j (omega arith) in omega arith

sum_le : {A : Type 0} (len : A → ℕ) (d : A) (xs : List A) (j : ℕ) → j < length xs → sum len (take j xs) + len (get_or xs j d) ≤ sum len xs
sum_le len d [] j h = absurd (omega arith)
sum_le len d (x ∷ xs) zero h = omega arith
sum_le len d (x ∷ xs) (suc j) h = let i = sum_le len d xs j (omega arith) in omega arith

several_back : {A : Type 0} (one : ℕ → ℕ → Answer (Read A)) (d : A) (xs : List A) (k : ℕ) (pos : ℕ → ℕ)
    → ((j : ℕ) → j < length xs → one (k + j) (pos j) ≡ Ok (record { value = get_or xs j d; next = pos (suc j) }))
    → several one (length xs) k (pos 0) ≡ Ok (record { value = xs; next = pos (length xs) })
several_back one d [] k pos h = refl
several_back {A} one d (x ∷ xs) k pos h =
    let z : k + 0 ≡ k = omega arith in
    let first : one k (pos 0) ≡ Ok (record { value = x; next = pos 1 }) = sym (ap (λ (j : ℕ). one j (pos 0)) z) ∙ h 0 (omega arith) in
    let later : (j : ℕ) → j < length xs → one (suc k + j) (pos (suc j)) ≡ Ok (record { value = get_or xs j d; next = pos (suc (suc j)) }) =
    λ j l. let y : k + suc j ≡ suc k + j = omega arith in sym (ap (λ (i : ℕ). one i (pos (suc j))) y) ∙ h (suc j) (omega arith) in
    let rest = several_back one d xs (suc k) (λ j. pos (suc j)) later in
    go_on (one k (pos 0)) (λ this. several one (length xs) (suc k) this.next >>= λ more. Ok (record { value = this.value ∷ more.value; next = more.next })) (record { value = x; next = pos 1 }) first
    ∙ ap (λ (r : Answer (Read (List A))). r >>= λ more. Ok (record { value = x ∷ more.value; next = more.next })) rest

-- ---- lengths
pub length_joined : {A : Type 0} (f : A → List ℕ) (len : A → ℕ) → ((x : A) → length (f x) ≡ len x) → (xs : List A) → length (joined f xs) ≡ sum len xs
length_joined f len sized [] = refl
length_joined f len sized (x ∷ xs) = length-append (f x) (joined f xs) ∙ ap₂ ◌+◌ (sized x) (length_joined f len sized xs)

sum_fours : (ns : List ℕ) → sum (λ (x : ℕ). 4) ns ≡ 4 * length ns
sum_fours [] = refl
sum_fours (x ∷ ns) = let i = sum_fours ns in omega arith

pub length_level : (ns : List ℕ) → length (level_bytes ns) ≡ level_length ns
length_level ns =
    length-append (bytes 4 (length ns)) (joined (bytes 4) ns)
    ∙ ap₂ ◌+◌ (length_bytes 4 (length ns)) (length_joined (bytes 4) (λ x. 4) (length_bytes 4) ns ∙ sum_fours ns)

pub length_node : (links : Links) → length (node_bytes links) ≡ node_length links
length_node links =
    length-append (bytes 1 (length links)) (joined level_bytes links)
    ∙ ap₂ ◌+◌ (length_bytes 1 (length links)) (length_joined level_bytes level_length length_level links)

-- ---- numbers
four : 256 ^ 4 ≡ 4294967296
four = refl

numbers_back : (s : List ℕ) (ns : List ℕ) (at : ℕ) → ((j : ℕ) → j < length ns → get_or ns j 0 < 256 ^ 4) → Here s at (joined (bytes 4) ns) → numbers_at (length ns) s at ≡ ns
numbers_back s [] at f h = refl
numbers_back s (x ∷ ns) at f h =
    ap₂ ◌∷◌ (here_num s at 4 x (f 0 (omega arith)) (here_first s at (bytes 4 x) (joined (bytes 4) ns) h))
    (numbers_back s ns (at + 4) (λ j k. f (suc j) (omega arith)) (here_then s at (bytes 4 x) (joined (bytes 4) ns) 4 (length_bytes 4 x) h))

-- ---- a list of neighbours, a level, a node, a graph
neighbour_back : (count : ℕ) (s : List ℕ) (end node first k at x : ℕ) (before : List ℕ) → at + 4 ≤ end → numbers_at k s first ≡ before → num s at 4 ≡ x
    → neighbour_test count node before x ≡ passes → read_neighbour count s end node first k at ≡ Ok (record { value = x; next = at + 4 })
unfolding read_neighbour
neighbour_back count s end node first k at x before r b n t = simp (le-ltb _ _ r, b, n, t)

in_range_of : (count node : ℕ) (before : List ℕ) (x : ℕ) → neighbour_test count node before x ≡ passes → x < count
unfolding neighbour_test
in_range_of count node before x e = leb-false _ _ (went WrongNeighbour (leb count x) _ tt e).test_false

degree_small : (m level degree : ℕ) → m ≤ max_m → degree_test m level degree ≡ passes → degree ≤ 128
unfolding degree_test degree_limit
degree_small m level degree h e = go (eqb level 0) (ltb-false _ _ (not_refused WrongDegree (ltb (degree_limit m level) degree) e))
  where
    go : (t : Bool) → degree ≤ cond t (2 * m) m → degree ≤ 128
    go true k = omega arith
    go false k = omega arith

levels_small : (levels : ℕ) → levels_test levels ≡ passes → levels ≤ 33
unfolding levels_test
levels_small levels e = (bounds_of_in_range _ _ _ (not-false _ (not_refused WrongLevels (not (in_range levels min_levels max_levels)) e))).1

module _ (m count : ℕ) (few : m ≤ max_m) (fits : count ≤ max_records) (s : List ℕ) (end : ℕ) where
  list_back : (node first : ℕ) (ns : List ℕ) → each (λ k x. neighbour_test count node (take k ns) x) 0 ns ≡ passes → Here s first (joined (bytes 4) ns)
      → first + 4 * length ns ≤ end → several (read_neighbour count s end node first) (length ns) 0 first ≡ Ok (record { value = ns; next = first + 4 * length ns })
  list_back node first ns t h r =
      let tested : (j : ℕ) → j < length ns → neighbour_test count node (take j ns) (get_or ns j 0) ≡ passes =
      λ j k.
      let z : 0 + j ≡ j = omega arith in
      sym (ap (λ (i : ℕ). neighbour_test count node (take i ns) (get_or ns j 0)) z) ∙ each_at (λ i x. neighbour_test count node (take i ns) x) 0 0 ns t j k in
      let nums = numbers_back s ns first (λ j k. let b = in_range_of count node (take j ns) (get_or ns j 0) (tested j k) in omega (arith, four)) h in
      let one : (j : ℕ) → j < length ns → read_neighbour count s end node first (0 + j) (first + 4 * j) ≡ Ok (record { value = get_or ns j 0; next = first + 4 * suc j }) =
      λ j k.
      let z : 0 + j ≡ j = omega arith in
      let e : first + 4 * j + 4 ≡ first + 4 * suc j = omega arith in
      let before : numbers_at (0 + j) s first ≡ take j ns = ap (λ (i : ℕ). numbers_at i s first) z ∙ sym (take_numbers j (length ns) s first (omega arith)) ∙ ap (take j) nums in
      let is : num s (first + 4 * j) 4 ≡ get_or ns j 0 = sym (get_d_numbers (length ns) s first j k) ∙ ap (λ (l : List ℕ). get_or l j 0) nums in
      neighbour_back count s end node first (0 + j) (first + 4 * j) (get_or ns j 0) (take j ns) (omega arith) before is (tested j k)
      ∙ ap (λ (n : ℕ). Ok (record { value = get_or ns j 0; next = n })) e in
      let start : first ≡ first + 4 * 0 = omega arith in
      ap (several (read_neighbour count s end node first) (length ns) 0) start ∙ several_back (read_neighbour count s end node first) 0 ns 0 (λ j. first + 4 * j) one

  level_back : (node level at : ℕ) (ns : List ℕ) → level_test m count node level ns ≡ passes → Here s at (level_bytes ns) → at + level_length ns ≤ end
      → read_level m count s end node level at ≡ Ok (record { value = ns; next = at + level_length ns })
  unfolding read_level
  level_back node level at ns t h r =
      let p = passed (degree_test m level (length ns)) (λ _. each (λ k x. neighbour_test count node (take k ns) x) 0 ns) tt t in
      let d = p.first in
      let small = degree_small m level (length ns) few d in
      let n : num s at 4 ≡ length ns = here_num s at 4 (length ns) (omega (arith, four)) (here_first s at (bytes 4 (length ns)) (joined (bytes 4) ns) h) in
      let listed = here_then s at (bytes 4 (length ns)) (joined (bytes 4) ns) 4 (length_bytes 4 (length ns)) h in
      let room : at + 4 ≤ end = omega arith in
      let e : at + 4 + 4 * length ns ≡ at + level_length ns = omega arith in
      simp (le-ltb _ _ room, n, d) (list_back node (at + 4) ns p.then listed (omega arith) ∙ ap (λ (k : ℕ). Ok (record { value = ns; next = k })) e)

  node_back : (node at : ℕ) (links : Links) → node_test m count node links ≡ passes → Here s at (node_bytes links) → at + node_length links ≤ end
      → read_node m count s end node at ≡ Ok (record { value = links; next = at + node_length links })
  unfolding read_node
  node_back node at links t h r =
      let p = passed (levels_test (length links)) (λ _. each (level_test m count node) 0 links) tt t in
      let d = p.first in
      let small = levels_small (length links) d in
      let n : num s at 1 ≡ length links = here_num s at 1 (length links) (omega arith) (here_first s at (bytes 1 (length links)) (joined level_bytes links) h) in
      let listed = here_then s at (bytes 1 (length links)) (joined level_bytes links) 1 (length_bytes 1 (length links)) h in
      let room : at + 1 ≤ end = omega arith in
      let one : (j : ℕ) → j < length links
      → read_level m count s end node (0 + j) (at + 1 + links_length (take j links)) ≡ Ok (record { value = get_or links j []; next = at + 1 + links_length (take (suc j) links) }) =
      λ j k.
      let b = sum_le level_length [] links j k in
      let q = sum_step level_length [] links j k in
      let e : at + 1 + links_length (take j links) + level_length (get_or links j []) ≡ at + 1 + links_length (take (suc j) links) = omega arith in
      level_back node (0 + j) (at + 1 + links_length (take j links)) (get_or links j []) (each_at (level_test m count node) [] 0 links p.then j k)
      (here_each level_bytes level_length [] length_level s links (at + 1) listed j k) (omega arith)
      ∙ ap (λ (i : ℕ). Ok (record { value = get_or links j []; next = i })) e in
      let all = several_back (read_level m count s end node) [] links 0 (λ j. at + 1 + links_length (take j links)) one in
      let start : at + 1 ≡ at + 1 + 0 = omega arith in
      let last : at + 1 + links_length (take (length links) links) ≡ at + node_length links = let w = ap links_length (take-length links) in omega arith in
      simp (le-ltb _ _ room, n, d)
      (ap (several (read_level m count s end node) (length links) 0) start ∙ all ∙ ap (λ (i : ℕ). Ok (record { value = links; next = i })) last)

  pub graph_back : (at : ℕ) (g : Graph) → nodes_test m count g ≡ passes → Here s at (graph_bytes g) → at + graph_length g ≤ end
      → several (read_node m count s end) (length g) 0 at ≡ Ok (record { value = g; next = at + graph_length g })
  graph_back at g t h r =
      let one : (j : ℕ) → j < length g
      → read_node m count s end (0 + j) (at + graph_length (take j g)) ≡ Ok (record { value = get_or g j []; next = at + graph_length (take (suc j) g) }) =
      λ j k.
      let b = sum_le node_length [] g j k in
      let q = sum_step node_length [] g j k in
      let e : at + graph_length (take j g) + node_length (get_or g j []) ≡ at + graph_length (take (suc j) g) = omega arith in
      node_back (0 + j) (at + graph_length (take j g)) (get_or g j []) (each_at (node_test m count) [] 0 g t j k)
      (here_each node_bytes node_length [] length_node s g at h j k) (omega arith)
      ∙ ap (λ (i : ℕ). Ok (record { value = get_or g j []; next = i })) e in
      let all = several_back (read_node m count s end) [] g 0 (λ j. at + graph_length (take j g)) one in
      let start : at ≡ at + 0 = omega arith in
      let last : at + graph_length (take (length g) g) ≡ at + graph_length g = ap (λ (x : Graph). at + graph_length x) (take-length g) in
      ap (several (read_node m count s end) (length g) 0) start ∙ all ∙ ap (λ (i : ℕ). Ok (record { value = g; next = i })) last
