-- The sums at the edges, computed; and a cut of the worked example, after its first frame.
use mathlib.Core.Path.{refl}
use Rattle.crc32.specs.Crc.{crc_of, bytes_in, bits_in, bit_in}
use Rattle.utf8.specs.Utf8.{is_utf8, valid_front, front_in, char_length}
use Rattle.coordinates.specs.Coordinates.{vector_of, patterns, every_finite, every_zero}
use Rattle.config.specs.Settings.{validate, in_range, metric_of, settings}
use Rattle.fields.specs.Fields.{le, bytes}
use Rattle.rows.specs.Packed.{total, packed}
use Rattle.rows.specs.Rows.{row_word, row_values}
use Rattle.meaning.specs.Replay.{active, mark, size, apply_put, apply_remove, apply_all, replay_frame, step, run, replay, put, tail}
use Rattle.meaning.specs.Item.{coordinates, caption_at, item_at}
use Rattle.meaning.specs.Snapshot.{counted_header, header_for, read_header, record_at, records_at, live_twice, read_body, read_parts, read_snapshot}
use Rattle.meaning.specs.Log.{operation_at, operations_at, batch_at, single_at, payload_at, length_at, frame_at, frames_from, frames_of}
use Rattle.meaning.specs.Recovery.{recover, live_count}
use Rattle.meaning.specs.Tables.{row_words, live_from}
use Rattle.sorting.specs.Sorting.{insert_node, sorted_nodes}
use Rattle.theorems.specs.Sums.{Sums, example_snapshot, example_log}
use native.Mathlib.Omega.{arith}
use mathlib.Core.Bool.{true, false}
use mathlib.Core.List.{[], ◌∷◌}
use Rattle.config.specs.declared.Metric.TheVariants.{SquaredL2}
use Rattle.layout.specs.declared.Shape.TheVariants.{Single}
use Rattle.meaning.specs.Encoder.{tagged_bytes, frame_bytes}
use Rattle.theorems.specs.Cut.{Cut}
use Rattle.theorems.specs.LogLaidOut.{layouts_of}

unfoldable pub example_cut : Cut 4096 example_snapshot example_log
unfolding read_snapshot read_parts read_body read_header header_for counted_header item_at caption_at coordinates record_at records_at live_twice frames_of frames_from frame_at length_at payload_at single_at batch_at operations_at operation_at replay run step replay_frame apply_all apply_put apply_remove active mark size crc_of bytes_in bits_in bit_in le validate in_range metric_of vector_of patterns every_finite every_zero is_utf8 valid_front front_in char_length
example_cut =
    record {
      accepted = record { config = settings 1 16 200 42 SquaredL2; crc = 354460059; sequence = 0; rows = [] };
      accepts = refl;
      front = record { start = 0; sequence = 1; shape = Single; operations = put (record { id = record { 0 = 7 }; deleted = false; from_log = true; caption_length = 2; at = 25 }) ∷ [] } ∷ [];
      behind = record { start = 39; sequence = 2; shape = Single; operations = put (record { id = record { 0 = 7 }; deleted = false; from_log = true; caption_length = 2; at = 64 }) ∷ [] } ∷ [];
      end = tail 78;
      frames = refl;
      state = record { records = record { id = record { 0 = 7 }; deleted = false; from_log = true; caption_length = 2; at = 25 } ∷ []; sequence = 1; replayed = 1; skipped = 0 };
      reads = (record { records = record { id = record { 0 = 7 }; deleted = false; from_log = true; caption_length = 2; at = 25 } ∷ []; sequence = 1; replayed = 1; skipped = 0 }, refl, refl);
      short = omega arith;
    }

pub sums : Sums
unfolding example_cut recover read_snapshot read_parts read_body read_header header_for counted_header item_at caption_at coordinates record_at records_at live_twice frames_of frames_from frame_at length_at payload_at single_at batch_at operations_at operation_at replay run step replay_frame apply_all apply_put apply_remove active mark size crc_of bytes_in bits_in bit_in le validate in_range metric_of vector_of patterns every_finite every_zero is_utf8 valid_front front_in char_length total packed row_word row_values row_words live_from insert_node sorted_nodes live_count bytes tagged_bytes frame_bytes layouts_of
sums =
    record {
      p1 = refl;
      p2 = refl;
      p2_passes = refl;
      p3 = refl;
      p3_more = refl;
      p4 = refl;
      p4_tail = refl;
      p5 = refl;
      p6 = refl;
      p7 = refl;
      p8 = refl;
      p8_version_2 = refl;
      p9 = refl;
      p9_overlong = refl;
      p9_surrogate = refl;
      p9_past = refl;
      p9_empty = refl;
      p11 = refl;
      p12 = refl;
      example = refl;
      example_tail = refl;
      example_rows = refl;
      example_active = refl;
      example_told = refl;
      example_tables = refl;
      example_laid_out = refl;
      example_shown = refl;
      withdrawn = refl;
      withdrawn_laid_out = refl;
      withdrawn_shown = refl;
      example_cut_lem = example_cut;
      example_cut_place = refl;
    }
