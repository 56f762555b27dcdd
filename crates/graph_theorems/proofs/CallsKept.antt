-- What `specs/CacheCalls.antt` says of the cache's calls.
use mathlib.Core.Path.{◌≡◌, sym, ◌∙◌}
use Rattle.graph_theorems.specs.CacheCalls.{CacheCalls}

one_answer : {A : Type 0} {meant first second : A} → first ≡ meant → second ≡ meant → first ≡ second
one_answer e f = e ∙ sym f

pub cache_calls : CacheCalls
cache_calls =
    record {
      read_cache_contract = λ κs bytes config crc sequence count starts r starts' p. record { result_is = p.0; starts_are = p.1 };
      read_cache_one_answer = λ bytes config crc sequence count starts r s x y m n. (one_answer m.result_is n.result_is, one_answer m.starts_are n.starts_are);
      neighbours_contract = λ κs cache starts count node level r p. record { bytes_are = p.0; start_is = p.1 };
      neighbours_one_answer = λ cache starts count node level r s m n. (one_answer m.start_is n.start_is, one_answer m.bytes_are n.bytes_are);
      neighbours_number_contract = λ κs cache starts count node level r p. record { result_is = p };
      neighbours_number_one_answer = λ cache starts count node level r s m n. one_answer m.result_is n.result_is;
      neighbours_part_contract = λ κs cache starts count node level r p. record { result_is = p };
      neighbours_part_one_answer = λ cache starts count node level r s m n. one_answer m.result_is n.result_is;
    }
