-- What `specs/Playout.antt` says of the playout host's calls.
use Rattle.promises.specs.Playout.{PlayoutCalls}
use Rattle.promises.proofs.OneAnswers.{one_answer, exact}

pub playout_calls : PlayoutCalls
playout_calls =
    record {
      host_crc_one_answer = λ κs bytes. exact;
      host_utf8_one_answer = λ κs bytes. exact;
      host_delete_contract = λ κs sequence id out r after p. record { result_is = p.0; output_is = p.1 };
      host_delete_one_answer = λ sequence id out r s x y m n. (one_answer m.result_is n.result_is, one_answer m.output_is n.output_is);
    }
