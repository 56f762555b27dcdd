-- What `specs/Leaves.antt` says of the leaves' calls.
use Prim.Native.Nat.{ℕ, ◌+◌, ◌*◌, ◌/◌, ◌%◌, ◌^◌, ◌<◌}
use native.Mathlib.Omega.{arith}
use mathlib.Core.Path.{◌≡◌, subst}
use lib.ListN.{length, get_or}
use lib.Seq.{ext_get_or}
use Rattle.promises.specs.OneAnswer.{One}
use Rattle.promises.specs.Leaves.{TablesMeet, RefusalCalls, Crc32Calls, Utf8Calls, ConfigCalls, LayoutCalls, FieldsCalls, CoordinatesCalls, RowsCalls, RngCalls}
use Rattle.promises.proofs.OneAnswers.{one_answer, exact, exact_after}

-- the entries are given by row and byte, and these are all places
tables_once : One TablesMeet
tables_once r s m n = ext_get_or 0 r s (one_answer m.length_is n.length_is) entries
  where
    entries : (i : ℕ) → i < length r → get_or r i 0 ≡ get_or s i 0
    entries i h =
        let l = m.length_is in
        let row : i / 256 < 16 = omega arith in
        let byte : i % 256 < 2 ^ 8 = omega arith in
        let place : i / 256 * 2 ^ 8 + i % 256 ≡ i = omega arith in
        subst (λ (x : ℕ). get_or r x 0 ≡ get_or s x 0) place
        (one_answer (m.rows_are.entry (i / 256) (i % 256) row byte) (n.rows_are.entry (i / 256) (i % 256) row byte))

pub refusal_calls : RefusalCalls
refusal_calls =
    record {
      refusal_number_one_answer = λ κs self. exact;
    }

pub crc32_calls : Crc32Calls
crc32_calls =
    record {
      crc32_one_answer = λ κs bytes. exact;
      crc_start_one_answer = λ κs. exact;
      crc_part_one_answer = λ κs c bytes. exact;
      crc_finish_one_answer = λ κs c. exact;
      tables_contract = λ κs r l p. record { length_is = l; rows_are = p };
      tables_one_answer = tables_once;
    }

pub utf8_calls : Utf8Calls
utf8_calls =
    record {
      is_utf8_one_answer = λ κs bytes. exact;
      valid_front_one_answer = λ κs bytes. exact;
    }

pub config_calls : ConfigCalls
config_calls =
    record {
      metric_from_one_answer = λ κs v. exact;
      metric_number_one_answer = λ κs self. exact;
      is_cosine_one_answer = λ κs self. exact;
      config_new_one_answer = λ κs dimensions. exact;
      with_m_one_answer = λ κs self links. exact;
      with_ef_one_answer = λ κs self ef. exact;
      with_seed_one_answer = λ κs self seed. exact;
      with_metric_one_answer = λ κs self metric. exact;
      validate_one_answer = λ κs self. exact;
      caption_limit_one_answer = λ κs self. exact;
      in_range_one_answer = λ κs value low high. exact;
    }

pub layout_calls : LayoutCalls
layout_calls =
    record {
      metric_length_contract = λ κs self r p. record { result_is = p.0; most = p.1 };
      metric_length_one_answer = λ self r s m n. one_answer m.result_is n.result_is;
      header_length_contract = λ κs self r p. record { result_is = p.0; most = p.1 };
      header_length_one_answer = λ self r s m n. one_answer m.result_is n.result_is;
    }

pub fields_calls : FieldsCalls
fields_calls =
    record {
      read_u8_one_answer = λ κs bytes at. exact;
      read_u32_one_answer = λ κs bytes at. exact;
      read_u64_one_answer = λ κs bytes at. exact;
      fill_zero64_one_answer = λ κs words. exact_after;
      fill_zero32_one_answer = λ κs entries. exact_after;
    }

pub coordinates_calls : CoordinatesCalls
coordinates_calls =
    record {
      check_bits_one_answer = λ κs patterns cosine. exact;
    }

pub rows_calls : RowsCalls
rows_calls =
    record {
      row_unpack_one_answer = λ κs id word. exact;
      operation_unpack_one_answer = λ κs id word. exact;
      rows_lent_plain_one_answer = λ κs rows. exact;
      rows_lent_one_answer = λ κs rows active. exact;
    }

pub rng_calls : RngCalls
rng_calls =
    record {
      wrapping_mul_one_answer = λ κs a b. exact;
      rng_state_one_answer = λ κs seed count. exact;
    }
