-- What `specs/Store.antt` says of the store's calls.
use Rattle.promises.specs.Store.{SnapshotCalls, ViewsCalls, WriterCalls, EncoderCalls, LogCalls}
use Rattle.promises.proofs.OneAnswers.{one_answer, exact}

pub snapshot_calls : SnapshotCalls
snapshot_calls =
    record {
      read_header_one_answer = λ κs bytes. exact;
      read_snapshot_contract = λ κs bytes rows active r rows' active' p. record { result_is = p.0; rows_are = p.1.0; active_is = p.1.1 };
      read_snapshot_one_answer = λ bytes rows active r s x y z w m n. (one_answer m.result_is n.result_is, one_answer m.rows_are n.rows_are, one_answer m.active_is n.active_is);
    }

pub views_calls : ViewsCalls
views_calls =
    record {
      lookup_contract = λ κs rows count id r p. record { result_is = p };
      lookup_one_answer = λ rows count id r s m n. one_answer m.result_is n.result_is;
      view_one_answer = λ κs shown snapshot log rows count node d. exact;
      caption_number_one_answer = λ κs snapshot log rows count node d. exact;
      vector_number_one_answer = λ κs snapshot log rows count node d. exact;
      caption_view_contract = λ κs snapshot log rows count node d r p. record { bytes_are = p.0; start_is = p.1 };
      caption_view_one_answer = λ snapshot log rows count node d r s m n. (one_answer m.start_is n.start_is, one_answer m.bytes_are n.bytes_are);
      vector_view_contract = λ κs snapshot log rows count node d r p. record { bytes_are = p.0; start_is = p.1 };
      vector_view_one_answer = λ snapshot log rows count node d r s m n. (one_answer m.start_is n.start_is, one_answer m.bytes_are n.bytes_are);
    }

pub writer_calls : WriterCalls
writer_calls =
    record {
      write_contract = λ κs config sequence rows count snapshot log out r after p. record { result_is = p.0; output_is = p.1 };
      write_one_answer = λ config sequence rows count snapshot log out r s x y m n. (one_answer m.result_is n.result_is, one_answer m.output_is n.output_is);
      write_compacted_contract = λ κs config sequence rows count snapshot log out r after p. record { result_is = p.0; output_is = p.1 };
      write_compacted_one_answer = λ config sequence rows count snapshot log out r s x y m n. (one_answer m.result_is n.result_is, one_answer m.output_is n.output_is);
    }

pub encoder_calls : EncoderCalls
encoder_calls =
    record {
      encode_frame_contract = λ κs config sequence operations coordinates captions out r after p. record { result_is = p.0; output_is = p.1 };
      encode_frame_one_answer = λ config sequence operations coordinates captions out r s x y m n. (one_answer m.result_is n.result_is, one_answer m.output_is n.output_is);
      encode_batch_contract = λ κs config sequence operations coordinates captions out r after p. record { result_is = p.0; output_is = p.1 };
      encode_batch_one_answer = λ config sequence operations coordinates captions out r s x y m n. (one_answer m.result_is n.result_is, one_answer m.output_is n.output_is);
    }

pub log_calls : LogCalls
log_calls =
    record {
      frame_at_contract = λ κs config log previous at r p. record { result_is = p };
      frame_at_one_answer = λ config log previous at r s m n. one_answer m.result_is n.result_is;
      log_operation_at_one_answer = λ κs config log shape end at. exact;
    }
