-- Every statement of `specs/`, proved.
use Rattle.promises.specs.Promises.{Promises}
use Rattle.promises.proofs.LeavesKept.{refusal_calls, crc32_calls, utf8_calls, config_calls, layout_calls, fields_calls, coordinates_calls, rows_calls, rng_calls}
use Rattle.promises.proofs.FieldsPast.{field_numbers}
use Rattle.promises.proofs.NumbersKept.{numbered}
use Rattle.promises.proofs.StandardsKept.{by_standards}
use Rattle.promises.proofs.StoreKept.{snapshot_calls, views_calls, writer_calls, encoder_calls, log_calls}
use Rattle.promises.proofs.PlayoutKept.{playout_calls}
use Rattle.promises.proofs.ListingKept.{listing_calls}
use Rattle.promises.proofs.DoorKept.{door_calls}
use Rattle.promises.proofs.HelpersKept.{crc32_helpers, layout_helpers, fields_helpers, coordinates_helpers, rows_helpers, sources_helpers, sorting_helpers, items_helpers, active_helpers, frames_helpers, log_helpers, links_helpers, pieces_helpers, tree_helpers}
use Rattle.promises.proofs.Outputs.{output}
use Rattle.promises.proofs.FilesWritten.{written_file}
use Rattle.promises.proofs.FilesRead.{read_and_written}
use Rattle.promises.proofs.DeletesLeft.{delete_frame_lem}
use Rattle.promises.proofs.FramesEncoded.{encoded_frame}
use Rattle.promises.proofs.LogWalks.{log_walked}
use Rattle.promises.proofs.RecoverShown.{recover_calls}
use Rattle.promises.proofs.RefusedShown.{refused_calls}
use Rattle.promises.proofs.Rewritten.{written_again}
use Rattle.promises.proofs.TakenOnceShown.{recovered_once}
use Rattle.promises.proofs.LogsLaidOut.{log_laid_out}
use Rattle.promises.proofs.CaptionsShown.{captions_of_deleted}
use Rattle.promises.proofs.StillsGone.{still_gone}
use Rattle.promises.proofs.WrongShutOut.{wrong_recoveries}
use Rattle.promises.proofs.SumsKept.{sums_at_the_edges}

pub promises : Promises
promises =
    record {
      refusal_calls = refusal_calls;
      crc32_calls = crc32_calls;
      utf8_calls = utf8_calls;
      config_calls = config_calls;
      layout_calls = layout_calls;
      fields_calls = fields_calls;
      coordinates_calls = coordinates_calls;
      rows_calls = rows_calls;
      rng_calls = rng_calls;
      snapshot_calls = snapshot_calls;
      views_calls = views_calls;
      writer_calls = writer_calls;
      encoder_calls = encoder_calls;
      log_calls = log_calls;
      recover_calls = recover_calls;
      playout_calls = playout_calls;
      listing_calls = listing_calls;
      door_calls = door_calls;
      field_numbers = field_numbers;
      numbered = numbered;
      by_standards = by_standards;
      crc32_helpers = crc32_helpers;
      layout_helpers = layout_helpers;
      fields_helpers = fields_helpers;
      coordinates_helpers = coordinates_helpers;
      rows_helpers = rows_helpers;
      sources_helpers = sources_helpers;
      sorting_helpers = sorting_helpers;
      items_helpers = items_helpers;
      active_helpers = active_helpers;
      frames_helpers = frames_helpers;
      log_helpers = log_helpers;
      links_helpers = links_helpers;
      pieces_helpers = pieces_helpers;
      tree_helpers = tree_helpers;
      refused_calls = refused_calls;
      output = output;
      written_file = written_file;
      read_and_written = read_and_written;
      delete_frame_lem = delete_frame_lem;
      encoded_frame = encoded_frame;
      log_walked = log_walked;
      recover_write_recover = written_again;
      recovered_once = recovered_once;
      log_laid_out = log_laid_out;
      captions_of_deleted = captions_of_deleted;
      still_gone = still_gone;
      wrong_recoveries = wrong_recoveries;
      sums_at_the_edges = sums_at_the_edges;
    }
