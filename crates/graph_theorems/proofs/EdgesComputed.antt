-- The cache of `specs/Edges.antt`, computed.
use Rattle.std.specs.Prelude.{Some, Ok, Err}
use mathlib.Core.Path.{◌≡◌, refl}
use mathlib.Core.List.{[], ◌∷◌}
use Rattle.crc32.specs.Crc.{crc_of, bytes_in, bits_in, bit_in}
use Rattle.fields.specs.Fields.{le, bytes}
use Rattle.rng.specs.Rng.{rng_state}
use Rattle.config.specs.Settings.{defaults, validate, in_range}
use Rattle.refusal.specs.declared.Refusal.TheVariants.{WrongLevels}
use Rattle.graph.specs.Graph.{degree_limit, degree_test, levels_test, linked_test, entry_of}
use Rattle.graph.specs.Layout.{cache_bytes}
use Rattle.graph.specs.Cache.{read_level, read_node, read_nodes, head_test, room_test, read_header, read_body, read_graph, read_cache}
use Rattle.graph.specs.Told.{starts_after}
use Rattle.graph_theorems.specs.Edges.{one_level, no_levels, many_levels, one_node, CacheEdges}

pub P10-no-levels : read_cache (defaults 1) 7 5 1 1 no_levels ≡ Err WrongLevels
unfolding read_cache read_header head_test room_test entry_of validate in_range rng_state le read_graph read_body read_nodes read_node levels_test
P10-no-levels = refl

pub P10-34-levels : read_cache (defaults 1) 7 5 1 1 many_levels ≡ Err WrongLevels
unfolding read_cache read_header head_test room_test entry_of validate in_range rng_state le read_graph read_body read_nodes read_node levels_test
P10-34-levels = refl

pub one_level_accepted : read_cache (defaults 1) 7 5 1 1 one_level ≡ Ok one_node
unfolding read_cache read_header head_test room_test entry_of validate in_range rng_state le read_graph read_body read_nodes read_node levels_test read_level degree_test degree_limit linked_test crc_of bytes_in bits_in bit_in
one_level_accepted = refl

pub one_level_starts : starts_after 3 (Ok one_node) ≡ 48 ∷ 0 ∷ 0 ∷ []
one_level_starts = refl

pub one_level_written : cache_bytes 7 5 (rng_state 42 1) (Some (record { 0 = 0 })) (([] ∷ []) ∷ []) ≡ one_level
unfolding bytes crc_of bytes_in bits_in bit_in rng_state
one_level_written = refl

pub cache_edges : CacheEdges
cache_edges =
    record {
      P10-no-levels = P10-no-levels;
      P10-34-levels = P10-34-levels;
      one_level_accepted = one_level_accepted;
      one_level_starts = one_level_starts;
      one_level_written = one_level_written;
    }
