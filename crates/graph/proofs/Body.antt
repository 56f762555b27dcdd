-- The whole cache: what leads through what follows the header, and what is known once the nodes are read.
use Rattle.std.specs.Prelude.{Option, Ok, Err}
use Prim.Native.Nat.{ℕ, ◌+◌, ◌-◌, ◌≤◌, ◌<◌}
use mathlib.Core.Path.{◌≡◌, refl, sym, ap, subst, ◌∙◌}
use mathlib.Core.Bool.{not}
use mathlib.Core.List.{List, [], ◌++◌}
use native.Mathlib.Omega.{arith}
use borrow.Author.Tests.{eq-eqb, eqb-true, not-false}
use lib.Dec.{eqb}
use lib.ListN.{length, get_or, drop, replicate}
use Rattle.fields.specs.Fields.{part, num}
use Rattle.crc32.specs.Crc.{crc_of}
use Rattle.layout.specs.Layout.{crc_length}
use Rattle.config.specs.Limits.{min_cache_bytes}
use Rattle.config.specs.declared.Config.{Config}
use Rattle.refusal.specs.Refusal.{Answer, ◌>>=◌, passes}
use Rattle.refusal.specs.declared.Refusal.TheVariants.{BytesLeftOver, WrongFileCrc}
use Rattle.refusal.proofs.Results.{went, passed, answer_injective}
use Rattle.graph.specs.Graph.{Graph, Links, links_of, levels_of, nodes_test, lost_from, edge_lost, linked_test}
use Rattle.graph.specs.Layout.{first_node, graph_length}
use Rattle.graph.specs.Cache.{Read, Cache, links_at, read_nodes, read_body, read_graph, read_header, read_cache}
use Rattle.graph.specs.Decoded.{graph_at, height_at, Laid}
use Rattle.graph.specs.Sound.{Sound}
use Rattle.graph.specs.Told.{pass_told}
use Rattle.rows.specs.declared.Node.{Node}
use Rattle.graph.specs.declared.CacheHeader.{CacheHeader}
use Rattle.graph.proofs.Several.{several_length}
use Rattle.graph.proofs.Decode.{nodes_read, nodes_tested, length_links, length_graph}
use Rattle.graph.proofs.Lost.{any_same, lost_same, lost_above_lowest}
use Rattle.graph.proofs.Starts.{starts_of, laid_of}
use Rattle.graph.proofs.Tested.{levels_bounds, all_near, sound_of_tests}

-- ---- what is told
pub record Answered {A : Type 0} (r : Answer A) : Type 0 where
  pub value : A
  pub is : r ≡ Ok value

pub answered : {A : Type 0} (r : Answer A) → pass_told r ≡ Ok tt → Answered r
answered (Ok x) e = record { value = x; is = refl }
answered (Err w) e = absurd (let z : ◌≡◌ {A = ℕ} 0 1 = cc in omega arith)

-- ---- nodes, 16, 17
pub body_good : (m count : ℕ) (s : List ℕ) (x : Read Graph) → read_nodes m count s ≡ Ok x → x.next ≡ length s - crc_length
    → crc_of (part s 0 (length s - crc_length)) ≡ num s (length s - crc_length) 4 → read_body m count s ≡ Ok x.value
unfolding read_body
body_good m count s x e ends h = simp (e, eq-eqb _ _ ends, eq-eqb _ _ h)

pub record BodyRead (m count : ℕ) (s : List ℕ) (g : Graph) : Type 0 where
  pub is : g ≡ graph_at count s first_node
  pub ends : first_node + graph_length g ≡ length s - crc_length
  pub tested : nodes_test m count g ≡ passes
  pub sized : length g ≡ count

pub body_read : (m count : ℕ) (s : List ℕ) (g : Graph) → read_body m count s ≡ Ok g → BodyRead m count s g
unfolding read_body read_nodes
body_read m count s g e =
    let a = passed (read_nodes m count s) _ g e in
    let b = went BytesLeftOver (not (eqb a.value.next (length s - crc_length))) _ g a.then in
    let c = went WrongFileCrc (not (eqb (crc_of (part s 0 (length s - crc_length))) (num s (length s - crc_length) 4))) _ g b.then in
    let i : a.value.value ≡ g = answer_injective _ g c.then in
    let r = nodes_read m count s (length s - crc_length) count 0 first_node a.value a.first in
    let ends : a.value.next ≡ length s - crc_length = eqb-true _ _ (not-false _ b.test_false) in
    record {
      is = sym i ∙ r.value_is;
      ends = ap (λ (x : Graph). first_node + graph_length x) (sym i) ∙ sym r.next_is ∙ ends;
      tested = subst (λ (x : Graph). nodes_test m count x ≡ passes) i (nodes_tested m count s (length s - crc_length) first_node a.value a.first);
      sized = ap length (sym i) ∙ several_length _ count 0 first_node a.value a.first;
    }

-- the starts of what was read are laid
pub laid_body : (m count n : ℕ) (s : List ℕ) (g : Graph) → min_cache_bytes ≤ length s → read_body m count s ≡ Ok g → Laid s (starts_of count s ++ replicate n 0) count
laid_body m count n s g long e =
    let b = body_read m count s g e in
    let at : first_node + graph_length (graph_at count s first_node) ≡ length s - crc_length = ap (λ (x : Graph). first_node + graph_length x) (sym b.is) ∙ b.ends in
    let tested : nodes_test m count (graph_at count s first_node) ≡ passes = subst (λ (x : Graph). nodes_test m count x ≡ passes) b.is b.tested in
    let sized = length_graph count s first_node in
    laid_of s count n (omega arith) (λ k h. (levels_bounds m count (graph_at count s first_node) sized tested k h).0)
    (all_near m count (graph_at count s first_node) sized tested)

-- ---- 49, 50
module _ (s starts : List ℕ) (count : ℕ) (laid : Laid s starts count) where
  pub laid_height : (k : ℕ) → k < count → height_at s starts k ≡ levels_of (graph_at count s first_node) k
  laid_height k h = sym (length_links s (get_or starts k 0)) ∙ ap length (laid.begins k h)

  -- level 0 tells nothing: every node has it
  pub laid_lost : (k : ℕ) → k < count
      → lost_from (height_at s starts) 0 (links_of (graph_at count s first_node) k) ≡ lost_from (height_at s starts) 1 (drop 1 (links_at s (get_or starts k 0)))
  laid_lost k h =
      lost_above_lowest (height_at s starts) (links_of (graph_at count s first_node) k) (λ i j. laid.tall _ (laid.near k 0 i h))
      ∙ ap (λ (links : Links). lost_from (height_at s starts) 1 (drop 1 links)) (sym (laid.begins k h))

  pub laid_edges : edge_lost (height_at s starts) (graph_at count s first_node) ≡ edge_lost (levels_of (graph_at count s first_node)) (graph_at count s first_node)
  laid_edges =
      let g = graph_at count s first_node in
      let sized = length_graph count s first_node in
      any_same (lost_from (height_at s starts) 0) (lost_from (levels_of g) 0) [] g
      (λ k h. lost_same (height_at s starts) (levels_of g) 0 (get_or g k []) (λ l i p q. laid_height (get_or (get_or (get_or g k []) l []) i 0) (laid.near k l i (omega arith))))

-- ---- the graph
module _ (m count : ℕ) (entry : Option Node) (s : List ℕ) where
  pub graph_told : (g : Graph) → read_body m count s ≡ Ok g → pass_told (read_graph m count entry s) ≡ linked_test entry g
  unfolding read_graph
  graph_told g e = ap (λ (r : Answer Graph). pass_told (r >>= λ x. linked_test entry x >>= λ _. Ok x)) e ∙ go (linked_test entry g)
    where
      go : (r : Answer (Unit {0})) → pass_told (r >>= λ _. Ok g) ≡ r
      go (Ok u) = refl
      go (Err why) = refl

  pub record GraphRead (g : Graph) : Type 0 where
    pub body : read_body m count s ≡ Ok g
    pub linked : linked_test entry g ≡ passes

  pub graph_read : (g : Graph) → read_graph m count entry s ≡ Ok g → GraphRead g
  unfolding read_graph
  graph_read g e =
      let a = passed (read_body m count s) _ g e in
      let b = passed (linked_test entry a.value) (λ _. Ok a.value) g a.then in
      let i : a.value ≡ g = answer_injective _ g b.then in
      record { body = a.first ∙ ap Ok i; linked = ap (linked_test entry) (sym i) ∙ b.first }

-- ---- the cache
module _ (c : Config) (crc sequence count lent : ℕ) (s : List ℕ) where
  pub cache_good : (h : CacheHeader) → read_header c crc sequence count lent s ≡ Ok h → (g : Graph) → read_graph c.m count h.entry s ≡ Ok g
      → read_cache c crc sequence count lent s ≡ Ok (record { header = h; graph = g })
  unfolding read_cache
  cache_good h e g k = simp (e, k)

  -- every accepted cache holds a sound graph
  pub cache_sound : (x : Cache) → read_cache c crc sequence count lent s ≡ Ok x → Sound c.m count x.header.entry x.graph
  unfolding read_cache
  cache_sound x e =
      let a = passed (read_header c crc sequence count lent s) _ x e in
      let b = passed (read_graph c.m count a.value.entry s) (λ g. Ok (record { header = a.value; graph = g })) x a.then in
      let i : record { header = a.value; graph = b.value } ≡ x = answer_injective _ x b.then in
      let r = graph_read c.m count a.value.entry s b.value b.first in
      let k = body_read c.m count s b.value r.body in
      subst (λ (y : Cache). Sound c.m count y.header.entry y.graph) i
      (sound_of_tests c.m count b.value k.sized k.tested a.value.entry r.linked)
