-- What `specs/Door.antt` says of the C entries.
use Rattle.promises.specs.Door.{DoorCalls}
use Rattle.promises.proofs.OneAnswers.{one_answer, exact}

pub door_calls : DoorCalls
door_calls =
    record {
      door_crc_start_one_answer = λ κs. exact;
      door_crc_update_one_answer = λ κs crc bytes. exact;
      door_crc_finish_one_answer = λ κs crc. exact;
      door_crc_of_one_answer = λ κs bytes. exact;
      door_read_snapshot_contract = λ κs bytes rows active r rows' active' p. record { result_is = p.0; rows_are = p.1.0; active_is = p.1.1 };
      door_read_snapshot_one_answer = λ bytes rows active r s x y z w m n. (one_answer m.result_is n.result_is, one_answer m.rows_are n.rows_are, one_answer m.active_is n.active_is);
      door_recover_contract = λ κs snapshot log rows active r rows' active' p. record { result_is = p.0; rows_are = p.1.0; active_is = p.1.1 };
      door_recover_one_answer = λ snapshot log rows active r s x y z w m n. (one_answer m.result_is n.result_is, one_answer m.rows_are n.rows_are, one_answer m.active_is n.active_is);
      door_frame_at_one_answer = λ κs d m ef seed metric log previous at. exact;
      door_operation_at_one_answer = λ κs d m ef seed metric log kind end at. exact;
      door_lookup_one_answer = λ κs rows count id. exact;
      door_caption_one_answer = λ κs snapshot log rows count node d. exact;
      door_vector_one_answer = λ κs snapshot log rows count node d. exact;
      door_read_cache_contract = λ κs bytes d m ef seed metric crc sequence count starts r starts' p. record { result_is = p.0; starts_are = p.1 };
      door_read_cache_one_answer = λ bytes d m ef seed metric crc sequence count starts r s x y a b. (one_answer a.result_is b.result_is, one_answer a.starts_are b.starts_are);
      door_neighbours_one_answer = λ κs cache starts count node level. exact;
      door_write_contract = λ κs d m ef seed metric sequence rows count snapshot log out r after p. record { result_is = p.0; output_is = p.1 };
      door_write_one_answer = λ d m ef seed metric sequence rows count snapshot log out r s x y a b. (one_answer a.result_is b.result_is, one_answer a.output_is b.output_is);
      door_write_compacted_contract = λ κs d m ef seed metric sequence rows count snapshot log out r after p. record { result_is = p.0; output_is = p.1 };
      door_write_compacted_one_answer = λ d m ef seed metric sequence rows count snapshot log out r s x y a b. (one_answer a.result_is b.result_is, one_answer a.output_is b.output_is);
      door_encode_frame_contract = λ κs d m ef seed metric sequence operations coordinates captions out r after p. record { result_is = p.0; output_is = p.1 };
      door_encode_frame_one_answer = λ d m ef seed metric sequence operations coordinates captions out r s x y a b. (one_answer a.result_is b.result_is, one_answer a.output_is b.output_is);
      door_encode_batch_contract = λ κs d m ef seed metric sequence operations coordinates captions out r after p. record { result_is = p.0; output_is = p.1 };
      door_encode_batch_one_answer = λ d m ef seed metric sequence operations coordinates captions out r s x y a b. (one_answer a.result_is b.result_is, one_answer a.output_is b.output_is);
      door_first_line_contract = λ κs sequence records active replayed skipped keep tail out r after p. record { result_is = p.0; output_is = p.1 };
      door_first_line_one_answer = λ sequence records active replayed skipped keep tail out r s x y m n. (one_answer m.result_is n.result_is, one_answer m.output_is n.output_is);
      door_refusal_line_contract = λ κs source number at out r after p. record { result_is = p.0; output_is = p.1 };
      door_refusal_line_one_answer = λ source number at out r s x y m n. (one_answer m.result_is n.result_is, one_answer m.output_is n.output_is);
      door_node_line_contract = λ κs snapshot log rows count node d out r after p. record { result_is = p.0; output_is = p.1 };
      door_node_line_one_answer = λ snapshot log rows count node d out r s x y m n. (one_answer m.result_is n.result_is, one_answer m.output_is n.output_is);
    }
