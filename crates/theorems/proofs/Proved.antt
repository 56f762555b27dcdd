-- Every statement of `specs/`, proved.
use Rattle.std.specs.Prelude.{Ok}
use Rattle.theorems.specs.Theorems.{Theorems}
use Rattle.theorems.specs.FrameReadBack.{FrameOf}
use Rattle.theorems.specs.Requested.{requested}
use Prim.Native.Nat.{ℕ, ◌<◌, ◌^◌}
use mathlib.Core.Path.{◌≡◌}
use mathlib.Core.List.{List}
use Rattle.config.specs.declared.Config.{Config}
use Rattle.layout.specs.declared.Shape.{Shape}
use Rattle.meaning.specs.Every.{Every}
use Rattle.meaning.specs.Encoder.{encode}
use Rattle.theorems.proofs.InWords as InWords
use Rattle.theorems.proofs.WriterInWords as WriterInWords
use Rattle.theorems.proofs.TakenOnce as TakenOnce
use Rattle.theorems.proofs.RefusedThere as RefusedThere
use Rattle.theorems.proofs.Written as Written
use Rattle.theorems.proofs.FileBack as FileBack
use Rattle.theorems.proofs.AtTheCut as AtTheCut
use Rattle.theorems.proofs.RawFile as RawFile
use Rattle.theorems.proofs.RawFrame as RawFrame
use Rattle.theorems.proofs.RawLog as RawLog
use Rattle.theorems.proofs.EncodeBack as EncodeBack
use Rattle.theorems.proofs.Appended as Appended
use Rattle.theorems.proofs.DeleteBytes as DeleteBytes
use Rattle.theorems.proofs.DeleteRecovered as DeleteRecovered
use Rattle.theorems.proofs.ReadAlike as ReadAlike
use Rattle.theorems.proofs.RecoverAlike as RecoverAlike
use Rattle.theorems.proofs.TablesAlike as TablesAlike
use Rattle.theorems.proofs.SumsComputed as SumsComputed
use Rattle.theorems.proofs.StandardsMet as StandardsMet

pub frame_of_lem : (shape : Shape) (c : Config) (sequence : ℕ) (words coords captions : List ℕ) (room : ℕ) (bs : List ℕ)
    → Every (λ x. x < 2 ^ 64) words → sequence < 256 ^ 8 → encode shape c sequence words coords captions room ≡ Ok bs
    → FrameOf shape c sequence (requested c words coords captions) bs
frame_of_lem shape c sequence words coords captions room bs w q e =
    record {
      length_is = EncodeBack.encode_length shape c sequence words coords captions room bs w q e;
      payload_least = (EncodeBack.encode_payload shape c sequence words coords captions room bs w q e).0;
      payload_most = (EncodeBack.encode_payload shape c sequence words coords captions room bs w q e).1;
      back = EncodeBack.encode_back shape c sequence words coords captions room bs w q e;
      appended = λ log. Appended.encode_appended shape c sequence words coords captions room bs w q e log;
      appended_seen = λ snapshot log. Appended.encode_seen shape c sequence words coords captions room bs w q e log snapshot;
    }

pub theorems : Theorems
theorems =
    record {
      demand3 =
          record {
            beside_the_whole_log = λ lent snapshot log cut. InWords.beside_the_whole_log cut;
            without_the_front = λ lent snapshot log cut. InWords.without_the_front cut;
            front_recovers = λ lent snapshot log cut. InWords.front_recovers cut;
            behind_the_last = InWords.behind_the_last;
            before_the_next = InWords.before_the_next;
            cut_of_accepted = InWords.cut_of_accepted;
            cut_of_accepted_front = InWords.cut_of_accepted_front;
            cut_of_accepted_frames = InWords.cut_of_accepted_frames;
          };
      demand3_written =
          record {
            is_new = WriterInWords.is_new;
            written_beside_the_whole_log = WriterInWords.written_beside_the_whole_log;
            written_without_the_front = WriterInWords.written_without_the_front;
            rewritten_beside_the_log = WriterInWords.rewritten_beside_the_log;
            rewritten_beside_the_tail = WriterInWords.rewritten_beside_the_tail;
          };
      each_frame_once = record { taken_once = TakenOnce.taken_once; taken_if = TakenOnce.taken_if };
      refused_logs = record { refused_at = RefusedThere.refused_at; refused_if = RefusedThere.refused_if };
      writer_takes = record { writer_takes = Written.writer_takes; writer_writes = Written.writer_writes };
      file_read_back =
          record {
            file_header_back = FileBack.file_header_back;
            file_back = FileBack.file_back;
            file_seen = FileBack.file_seen;
            recovered_storable = AtTheCut.recovered_storable;
          };
      accepted_file = record { accepted_file = RawFile.accepted_file };
      frame_read_back = record { encode_back = frame_of_lem; encode_bytes = EncodeBack.encode_bytes };
      laid_out_logs =
          record {
            frame_is_its_layout = λ c snapshot log previous at f next b. RawFrame.frame_is_its_layout c snapshot log b previous at f next;
            front_is_its_frames = λ c snapshot log fs gs end b. RawLog.front_is_its_frames c snapshot log b fs gs end;
            up_to_a_tail = λ c snapshot log fs k b. RawLog.up_to_a_tail c snapshot log b fs k;
            up_to_a_refusal = λ c snapshot log fs why k b. RawLog.up_to_a_refusal c snapshot log b fs why k;
            log_is_its_frames = RawLog.log_is_its_frames;
            refused_is_its_frames = RawLog.refused_is_its_frames;
            layout_is_read = RawLog.layout_is_read;
            layouts_are_read = RawLog.layouts_are_read;
          };
      delete_appended =
          record {
            length_delete = DeleteBytes.length_delete;
            delete_bytes = DeleteBytes.delete_bytes;
            delete_encodes = DeleteBytes.delete_encodes;
            delete_requested = DeleteBytes.delete_requested;
            delete_appended = DeleteBytes.delete_appended;
            delete_recovered = DeleteRecovered.delete_recovered;
            deleted_by_value = DeleteRecovered.deleted_by_value;
            replayed_not_older = DeleteRecovered.replayed_not_older;
          };
      deleted_captions =
          record {
            captions_answer = RecoverAlike.deleted_captions_answer;
            captions_told = RecoverAlike.deleted_captions_told;
            captions_records = RecoverAlike.deleted_captions_records;
            captions_tables = TablesAlike.deleted_captions_tables;
            rewritten = ReadAlike.rewritten;
          };
      sums = SumsComputed.sums;
      standards = StandardsMet.standards;
    }
