-- A cache that is written is read: the layout of a graph that is accepted by value is an accepted cache, with the same entry, RNG state, levels and neighbours.
use Rattle.std.specs.Prelude.{Option, Some, None, Ok}
use Prim.Native.Nat.{ℕ, suc, ◌+◌, ◌*◌, ◌-◌, ◌/◌, ◌^◌, ◌≤◌, ◌<◌}
use mathlib.Core.Path.{◌≡◌, refl, sym, ap, ap₂, subst, ◌∙◌}
use mathlib.Core.List.{List, [], ◌∷◌, ◌++◌, append-nil}
use native.Mathlib.Omega.{arith}
use native.Mathlib.Nat.{mod-lt, zero-lt-suc}
use borrow.Author.Tests.{le-ltb, eq-eqb}
use lib.Dec.{lit<}
use lib.ListN.{length, get_or, take, length-append}
use Rattle.fields.specs.Fields.{part, num, le, bytes}
use Rattle.fields.proofs.Parts.{part_front}
use Rattle.fields.proofs.Numbers.{length_bytes}
use Rattle.crc32.specs.Crc.{crc_of}
use Rattle.crc32.proofs.Bytes.{crc_lt}
use Rattle.rng.specs.Rng.{rng_state}
use Rattle.layout.specs.Layout.{crc_length}
use Rattle.config.specs.Limits.{max_records, max_m}
use Rattle.config.specs.declared.Config.{Config}
use Rattle.config.proofs.Laws.{bounded_of_valid}
use Rattle.refusal.specs.Refusal.{passes}
use Rattle.refusal.proofs.Results.{passed}
use Rattle.graph.specs.Graph.{Graph, Links, nodes_test, linked_test, graph_test, entry_of}
use Rattle.graph.specs.Layout.{cache_magic, cache_magic_number, version, version_place, snapshot_crc_place, sequence_place, nodes_place, entry_place, rng_place, first_node, node_bytes, graph_bytes, links_length, node_length, graph_length, entry_number, header_bytes, body_bytes, cache_bytes}
use Rattle.graph.specs.Cache.{several, read_node, room_test, read_header, read_nodes, read_body, read_graph, read_cache}
use Rattle.graph.specs.Decoded.{EntryIn}
use Rattle.rows.specs.declared.Node.{Node}
use Rattle.graph.proofs.Head.{magic_is, entry_in, head_good, header_good}
use Rattle.graph.proofs.Body.{body_good, cache_good}
use Rattle.graph.proofs.Tested.{levels_bounds}
use Rattle.graph_theorems.specs.CacheReadBack.{Writable}
use Rattle.graph_theorems.proofs.Back.{Here, here_first, here_then, here_num, length_node, length_joined, graph_back}

rng_fits : (seed count : ℕ) → rng_state seed count < 256 ^ 8
unfolding rng_state
rng_fits seed count = mod-lt (seed + count * 0x9e3779b97f4a7c15) (zero-lt-suc 18446744073709551615)

eight : 256 ^ 8 ≡ 18446744073709551616
eight = refl

entry_fits : (count : ℕ) (entry : Option Node) → count ≤ max_records → EntryIn count entry → entry_number entry < 256 ^ 8
entry_fits count (Some n) h k = omega (arith, eight)
entry_fits count None h k = lit< tt

-- every node takes five bytes at least
fives : (xs : Graph) → ((j : ℕ) → j < length xs → 1 ≤ length (get_or xs j [])) → 5 * length xs ≤ graph_length xs
fives [] h = omega arith
fives (links ∷ xs) h =
    let i = fives xs (λ j k. h (suc j) (omega arith)) in
    let l = four links (h 0 (omega arith)) in
    omega arith
  where
    four : (links : Links) → 1 ≤ length links → 4 ≤ links_length links
    four [] h = absurd (omega arith)
    four (ns ∷ links) h = omega arith

-- ---- the header's fields, where they are written
record Fields (s : List ℕ) (crc sequence count entry rng : ℕ) : Type 0 where
  is_magic : num s 0 8 ≡ cache_magic_number
  is_version : num s version_place 4 ≡ version
  is_crc : num s snapshot_crc_place 4 ≡ crc
  is_sequence : num s sequence_place 8 ≡ sequence
  is_count : num s nodes_place 8 ≡ count
  is_entry : num s entry_place 8 ≡ entry
  is_rng : num s rng_place 8 ≡ rng

abbrev up_to_version : List ℕ
up_to_version = cache_magic ++ bytes 4 version

abbrev up_to_crc : ℕ → List ℕ
up_to_crc crc = cache_magic ++ bytes 4 version ++ bytes 4 crc

abbrev up_to_sequence : ℕ → ℕ → List ℕ
up_to_sequence crc sequence = cache_magic ++ bytes 4 version ++ bytes 4 crc ++ bytes 8 sequence

abbrev up_to_count : ℕ → ℕ → ℕ → List ℕ
up_to_count crc sequence count = cache_magic ++ bytes 4 version ++ bytes 4 crc ++ bytes 8 sequence ++ bytes 8 count

abbrev up_to_entry : ℕ → ℕ → ℕ → ℕ → List ℕ
up_to_entry crc sequence count entry = cache_magic ++ bytes 4 version ++ bytes 4 crc ++ bytes 8 sequence ++ bytes 8 count ++ bytes 8 entry

module _ (crc sequence count entry rng : ℕ) where
  length_version : length up_to_version ≡ 12
  length_version = length-append cache_magic (bytes 4 version) ∙ ap (λ (n : ℕ). 8 + n) (length_bytes 4 version)

  length_crc : length (up_to_crc crc) ≡ 16
  length_crc = length-append up_to_version (bytes 4 crc) ∙ ap₂ ◌+◌ length_version (length_bytes 4 crc)

  length_sequence : length (up_to_sequence crc sequence) ≡ 24
  length_sequence = length-append (up_to_crc crc) (bytes 8 sequence) ∙ ap₂ ◌+◌ length_crc (length_bytes 8 sequence)

  length_count : length (up_to_count crc sequence count) ≡ 32
  length_count = length-append (up_to_sequence crc sequence) (bytes 8 count) ∙ ap₂ ◌+◌ length_sequence (length_bytes 8 count)

  length_entry : length (up_to_entry crc sequence count entry) ≡ 40
  length_entry = length-append (up_to_count crc sequence count) (bytes 8 entry) ∙ ap₂ ◌+◌ length_count (length_bytes 8 entry)

  length_header : length (up_to_entry crc sequence count entry ++ bytes 8 rng) ≡ first_node
  length_header = length-append (up_to_entry crc sequence count entry) (bytes 8 rng) ∙ ap₂ ◌+◌ length_entry (length_bytes 8 rng)

  fields_back : (s : List ℕ) → crc < 256 ^ 4 → sequence < 256 ^ 8 → count < 256 ^ 8 → entry < 256 ^ 8 → rng < 256 ^ 8
      → Here s 0 (up_to_entry crc sequence count entry ++ bytes 8 rng) → Fields s crc sequence count entry rng
  fields_back s fc fq fn fe fr h =
      let he = here_first s 0 (up_to_entry crc sequence count entry) (bytes 8 rng) h in
      let hn = here_first s 0 (up_to_count crc sequence count) (bytes 8 entry) he in
      let hq = here_first s 0 (up_to_sequence crc sequence) (bytes 8 count) hn in
      let hc = here_first s 0 (up_to_crc crc) (bytes 8 sequence) hq in
      let hv = here_first s 0 up_to_version (bytes 4 crc) hc in
      let hm = here_first s 0 cache_magic (bytes 4 version) hv in
      record {
        is_magic = ap (λ (l : List ℕ). le (take 8 l)) hm.is ∙ magic_is;
        is_version = here_num s 8 4 version (lit< tt) (here_then s 0 cache_magic (bytes 4 version) 8 refl hv);
        is_crc = here_num s 12 4 crc fc (here_then s 0 up_to_version (bytes 4 crc) 12 length_version hc);
        is_sequence = here_num s 16 8 sequence fq (here_then s 0 (up_to_crc crc) (bytes 8 sequence) 16 length_crc hq);
        is_count = here_num s 24 8 count fn (here_then s 0 (up_to_sequence crc sequence) (bytes 8 count) 24 length_sequence hn);
        is_entry = here_num s 32 8 entry fe (here_then s 0 (up_to_count crc sequence count) (bytes 8 entry) 32 length_count he);
        is_rng = here_num s 40 8 rng fr (here_then s 0 (up_to_entry crc sequence count entry) (bytes 8 rng) 40 length_entry h);
      }

-- ---- the whole
room_back : (seed count lent : ℕ) (s : List ℕ) → num s rng_place 8 ≡ rng_state seed count → count ≤ (length s - crc_length - first_node) / 5 → count ≤ lent
    → room_test seed count lent s ≡ passes
unfolding room_test
room_back seed count lent s r b e = simp (eq-eqb _ _ r, le-ltb _ _ b, le-ltb _ _ e)

nodes_back : (m count : ℕ) (s : List ℕ) (g : Graph) → m ≤ max_m → count ≤ max_records → length g ≡ count → nodes_test m count g ≡ passes → Here s first_node (graph_bytes g)
    → first_node + graph_length g ≤ length s - crc_length → read_nodes m count s ≡ Ok (record { value = g; next = first_node + graph_length g })
unfolding read_nodes
nodes_back m count s g few fits sized t h r =
    ap (λ (n : ℕ). several (read_node m count s (length s - crc_length)) n 0 first_node) (sym sized) ∙ graph_back m count few fits s (length s - crc_length) first_node g t h r

graph_good : (m count : ℕ) (entry : Option Node) (s : List ℕ) (g : Graph) → read_body m count s ≡ Ok g → linked_test entry g ≡ passes → read_graph m count entry s ≡ Ok g
unfolding read_graph
graph_good m count entry s g b l = simp (b, l)

pub written_is_read : (c : Config) (crc sequence count lent : ℕ) (entry : Option Node) (g : Graph) → Writable c crc sequence count lent entry g
    → read_cache c crc sequence count lent (cache_bytes crc sequence (rng_state c.seed count) entry g)
    ≡ Ok (record { header = record { entry = entry; rng_state = rng_state c.seed count }; graph = g })
unfolding graph_test
written_is_read c crc sequence count lent entry g w =
    let rng = rng_state c.seed count in
    let s = cache_bytes crc sequence rng entry g in
    let body = body_bytes crc sequence rng entry g in
    let number = entry_number entry in
    let bounded = bounded_of_valid c w.settings in
    let few = bounded.m_high in
    let p = passed (nodes_test c.m count g) (λ _. linked_test entry g) tt w.tested in
    let t = p.first in
    let counted = w.few in
    let five = fives g (λ j k. (levels_bounds c.m count g w.sized t j (subst (λ (n : ℕ). j < n) w.sized k)).0) in
    let all : Here s 0 (body ++ bytes 4 (crc_of body)) = record { rest = []; is = sym (append-nil s) } in
    let front : Here s 0 (header_bytes crc sequence (length g) entry rng ++ graph_bytes g) = here_first s 0 body (bytes 4 (crc_of body)) all in
    let head : Here s 0 (up_to_entry crc sequence count number ++ bytes 8 rng) =
    subst (λ (n : ℕ). Here s 0 (up_to_entry crc sequence n number ++ bytes 8 rng)) w.sized (here_first s 0 (header_bytes crc sequence (length g) entry rng) (graph_bytes g) front) in
    let graph : Here s first_node (graph_bytes g) = here_then s 0 (header_bytes crc sequence (length g) entry rng) (graph_bytes g) first_node (length_header crc sequence (length g) number rng) front in
    let size : length body ≡ first_node + graph_length g =
    length-append (header_bytes crc sequence (length g) entry rng) (graph_bytes g) ∙ ap₂ ◌+◌ (length_header crc sequence (length g) number rng) (length_joined node_bytes node_length length_node g) in
    let long : length s ≡ length body + 4 = length-append body (bytes 4 (crc_of body)) ∙ ap (λ (n : ℕ). length body + n) (length_bytes 4 (crc_of body)) in
    let sized = w.sized in
    let short = w.short in
    let f = fields_back crc sequence count number rng s w.crc_fits w.sequence_fits (omega (arith, eight)) (entry_fits count entry counted (entry_in count number entry w.entered)) (rng_fits c.seed count) head in
    let tops = head_good crc sequence count s (omega arith) (omega arith) f.is_magic f.is_version f.is_crc f.is_sequence f.is_count counted in
    let entered : entry_of count (num s entry_place 8) ≡ Ok entry = ap (entry_of count) f.is_entry ∙ w.entered in
    let room = room_back c.seed count lent s f.is_rng (omega arith) w.enough in
    let header : read_header c crc sequence count lent s ≡ Ok (record { entry = entry; rng_state = rng }) =
    header_good c crc sequence count lent s w.settings tops entry entered room ∙ ap (λ (n : ℕ). Ok (record { entry = entry; rng_state = n })) f.is_rng in
    let nodes = nodes_back c.m count s g few counted sized t graph (omega arith) in
    let end : length s - crc_length ≡ length body = omega arith in
    let at : 0 + length body ≡ length s - crc_length = omega arith in
    let sum_is : crc_of (part s 0 (length s - crc_length)) ≡ crc_of body = ap (λ (n : ℕ). crc_of (part s 0 n)) end ∙ ap crc_of (part_front body (bytes 4 (crc_of body))) in
    let last : num s (length s - crc_length) 4 ≡ crc_of body =
    ap (λ (n : ℕ). num s n 4) (sym at) ∙ here_num s (0 + length body) 4 (crc_of body) (omega (arith, crc_lt body)) (here_then s 0 body (bytes 4 (crc_of body)) (length body) refl all) in
    let bodied = body_good c.m count s (record { value = g; next = first_node + graph_length g }) nodes (omega arith) (sum_is ∙ sym last) in
    cache_good c crc sequence count lent s (record { entry = entry; rng_state = rng }) header g (graph_good c.m count entry s g bodied p.then)
