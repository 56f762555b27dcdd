-- Of an accepted cache with the starts that reading left, the view gives at each level of each node the neighbours that were checked, and refuses what is not there.
use Rattle.std.specs.Prelude.{Ok, Err}
use Prim.Native.Nat.{ℕ, zero, suc, ◌+◌, ◌*◌, ◌-◌, ◌≤◌, ◌<◌}
use mathlib.Core.Path.{◌≡◌, sym, ap, subst, ◌∙◌}
use mathlib.Core.List.{List, [], ◌++◌}
use native.Mathlib.Omega.{arith}
use borrow.Author.Tests.{le-ltb, lt-leb, le-leb}
use lib.ListN.{length, get_or, replicate}
use Rattle.fields.specs.Fields.{num}
use Rattle.config.specs.declared.Config.{Config}
use Rattle.refusal.specs.declared.Refusal.TheVariants.{NoSuchNode}
use Rattle.refusal.proofs.Results.{passed, answer_injective, go_on}
use Rattle.graph.specs.Graph.{Links, Graph, levels_of, neighbours_of}
use Rattle.graph.specs.Layout.{first_node, links_length, node_length, starts_from}
use Rattle.graph.specs.Cache.{Cache, numbers_at, levels_at, links_at, read_header, read_graph, read_cache}
use Rattle.graph.specs.Decoded.{graph_at, height_at, Laid}
use Rattle.graph.specs.Neighbours.{level_part, level_above, neighbours}
use Rattle.graph.specs.Sound.{Sound}
use Rattle.graph.specs.Told.{starts_after}
use Rattle.graph_theorems.specs.CacheViewed.{Shows}
use Rattle.graph.proofs.Decode.{length_numbers}
use Rattle.graph.proofs.Head.{header_read}
use Rattle.graph.proofs.Body.{body_read, graph_read, laid_body, laid_height, cache_sound}

level_fits : (s : List ℕ) (at : ℕ) → at + 4 + 4 * num s at 4 ≤ length s → level_part s at ≡ Ok (record { at = at + 4; size = 4 * num s at 4 })
unfolding level_part
level_fits s at h = let r : at + 4 ≤ length s = omega arith in simp (le-ltb _ _ r, le-ltb _ _ h)

above_shows : (level n : ℕ) (s : List ℕ) (at : ℕ) → level < n → at + links_length (levels_at n s at) ≤ length s
    → Shows s (level_above level s at) (get_or (levels_at n s at) level [])
above_shows level zero s at h r = absurd (omega arith)
above_shows zero (suc n) s at h r =
    let l = length_numbers (num s at 4) s (at + 4) in
    record {
      shown = record { at = at + 4; size = 4 * num s at 4 };
      is = level_fits s at (omega arith);
      size_is = omega arith;
      numbers = ap (λ (k : ℕ). numbers_at k s (at + 4)) l;
    }
above_shows (suc level) (suc n) s at h r =
    let l = length_numbers (num s at 4) s (at + 4) in
    let first = level_fits s at (omega arith) in
    let next = above_shows level n s (at + 4 + 4 * num s at 4) (omega arith) (omega arith) in
    record {
      shown = next.shown;
      is = go_on (level_part s at) (λ this. level_above level s (this.at + this.size)) (record { at = at + 4; size = 4 * num s at 4 }) first ∙ next.is;
      size_is = next.size_is;
      numbers = next.numbers;
    }

links_show : (s : List ℕ) (start level : ℕ) → level < num s start 1 → start + node_length (links_at s start) ≤ length s
    → Shows s (level_above level s (start + 1)) (get_or (links_at s start) level [])
unfolding links_at
links_show s start level h r = above_shows level (num s start 1) s (start + 1) h (omega arith)

laid_shows : (s starts : List ℕ) (count : ℕ) → Laid s starts count → (node level : ℕ) → node < count → level < levels_of (graph_at count s first_node) node
    → Shows s (neighbours s starts count node level) (neighbours_of (graph_at count s first_node) node level)
unfolding neighbours
laid_shows s starts count laid node level h k =
    let lent = laid.lent in
    let inside = laid.inside node in
    let high : level < height_at s starts node = subst (λ (n : ℕ). level < n) (sym (laid_height s starts count laid node h)) k in
    let shows = subst (λ (links : Links). Shows s (level_above level s (get_or starts node 0 + 1)) (get_or links level [])) (laid.begins node h) (links_show s (get_or starts node 0) level high (laid.fits node h)) in
    record {
      shown = shows.shown;
      is = simp (lt-leb _ _ h, le-ltb _ _ lent, lt-leb _ _ inside, lt-leb _ _ high) shows.is;
      size_is = shows.size_is;
      numbers = shows.numbers;
    }

laid_refuses : (s starts : List ℕ) (count : ℕ) → Laid s starts count → (node level : ℕ) → node < count → levels_of (graph_at count s first_node) node ≤ level
    → neighbours s starts count node level ≡ Err NoSuchNode
unfolding neighbours
laid_refuses s starts count laid node level h k =
    let high : height_at s starts node ≤ level = subst (λ (n : ℕ). n ≤ level) (sym (laid_height s starts count laid node h)) k in
    simp (lt-leb _ _ h, le-ltb _ _ laid.lent, lt-leb _ _ (laid.inside node), le-leb _ _ high)

module _ (c : Config) (crc sequence count lent : ℕ) (s : List ℕ) (x : Cache) (accepted : read_cache c crc sequence count lent s ≡ Ok x) where
  record Known : Type 0 where
    graph_is : x.graph ≡ graph_at count s first_node
    laid : Laid s (starts_after lent (Ok x)) count

  known : Known
  unfolding read_cache
  known =
      let top = passed (read_header c crc sequence count lent s) _ x accepted in
      let rest = passed (read_graph c.m count top.value.entry s) (λ g. Ok (record { header = top.value; graph = g })) x top.then in
      let i : record { header = top.value; graph = rest.value } ≡ x = answer_injective _ x rest.then in
      let j : rest.value ≡ x.graph = ap (λ (y : Cache). y.graph) i in
      let r = graph_read c.m count top.value.entry s rest.value rest.first in
      let k = body_read c.m count s rest.value r.body in
      let long = (header_read c crc sequence count lent s top.value top.first).head.long in
      let is : x.graph ≡ graph_at count s first_node = sym j ∙ k.is in
      let l = laid_body c.m count (lent - length x.graph) s rest.value long r.body in
      record { graph_is = is; laid = subst (λ (g : Graph). Laid s (starts_from first_node g ++ replicate (lent - length x.graph) 0) count) (sym is) l }

  -- each level of each node: the neighbours that were checked
  pub shows_what_was_checked : (node level : ℕ) → node < count → level < levels_of x.graph node
      → Shows s (neighbours s (starts_after lent (Ok x)) count node level) (neighbours_of x.graph node level)
  shows_what_was_checked node level h k =
      let n = known in
      subst (λ (g : Graph). Shows s (neighbours s (starts_after lent (Ok x)) count node level) (neighbours_of g node level)) (sym n.graph_is)
      (laid_shows s (starts_after lent (Ok x)) count n.laid node level h (subst (λ (g : Graph). level < levels_of g node) n.graph_is k))

  -- a level that a node lacks: 30
  pub refuses_what_is_not_there : (node level : ℕ) → node < count → levels_of x.graph node ≤ level
      → neighbours s (starts_after lent (Ok x)) count node level ≡ Err NoSuchNode
  refuses_what_is_not_there node level h k =
      let n = known in
      laid_refuses s (starts_after lent (Ok x)) count n.laid node level h (subst (λ (g : Graph). levels_of g node ≤ level) n.graph_is k)

  -- and what was checked is sound: in range, another node, once, at a level that it has; the entry is at the highest level
  pub accepted_is_sound : Sound c.m count x.header.entry x.graph
  accepted_is_sound = cache_sound c crc sequence count lent s x accepted
