-- All that the contracts of the code amount to: `proofs/Proved.antt` has the proof of it.
use Rattle.promises.specs.Leaves.{RefusalCalls, Crc32Calls, Utf8Calls, ConfigCalls, LayoutCalls, FieldsCalls, CoordinatesCalls, RowsCalls, RngCalls}
use Rattle.promises.specs.PastTheEnd.{FieldNumbers}
use Rattle.promises.specs.Numbered.{Numbered}
use Rattle.promises.specs.ByStandards.{ByStandards}
use Rattle.promises.specs.Store.{SnapshotCalls, ViewsCalls, WriterCalls, EncoderCalls, LogCalls}
use Rattle.promises.specs.Recover.{RecoverCalls}
use Rattle.promises.specs.Playout.{PlayoutCalls}
use Rattle.promises.specs.Listing.{ListingCalls}
use Rattle.promises.specs.Door.{DoorCalls}
use Rattle.promises.specs.Helpers.{Crc32Helpers, LayoutHelpers, FieldsHelpers, CoordinatesHelpers, RowsHelpers, SourcesHelpers, SortingHelpers, ItemsHelpers, ActiveHelpers, FramesHelpers, LogHelpers, LinksHelpers, PiecesHelpers, TreeHelpers}
use Rattle.promises.specs.Output.{Output}
use Rattle.promises.specs.WrittenFile.{WrittenFile}
use Rattle.promises.specs.ReadAndWritten.{ReadAndWritten}
use Rattle.promises.specs.DeleteFrame.{DeleteFrame}
use Rattle.promises.specs.EncodedFrame.{EncodedFrame}
use Rattle.promises.specs.LogWalked.{LogWalked}
use Rattle.promises.specs.Refused.{Refused}
use Rattle.promises.specs.RecoverWriteRecover.{RecoverWriteRecover}
use Rattle.promises.specs.RecoveredOnce.{RecoveredOnce}
use Rattle.promises.specs.LogLaidOut.{LogLaidOut}
use Rattle.promises.specs.CaptionsOfDeleted.{CaptionsOfDeleted}
use Rattle.promises.specs.StillGone.{StillGone}
use Rattle.promises.specs.WrongRecoveries.{WrongRecoveries}
use Rattle.promises.specs.SumsAtTheEdges.{SumsAtTheEdges}

pub record Promises : Type 0 where
  -- the calls that are offered to users, one by one
  pub refusal_calls : RefusalCalls
  pub crc32_calls : Crc32Calls
  pub utf8_calls : Utf8Calls
  pub config_calls : ConfigCalls
  pub layout_calls : LayoutCalls
  pub fields_calls : FieldsCalls
  pub coordinates_calls : CoordinatesCalls
  pub rows_calls : RowsCalls
  pub rng_calls : RngCalls
  pub snapshot_calls : SnapshotCalls
  pub views_calls : ViewsCalls
  pub writer_calls : WriterCalls
  pub encoder_calls : EncoderCalls
  pub log_calls : LogCalls
  pub recover_calls : RecoverCalls
  pub playout_calls : PlayoutCalls
  pub listing_calls : ListingCalls
  pub door_calls : DoorCalls
  pub field_numbers : FieldNumbers
  pub numbered : Numbered
  pub by_standards : ByStandards
  -- the calls between our crates
  pub crc32_helpers : Crc32Helpers
  pub layout_helpers : LayoutHelpers
  pub fields_helpers : FieldsHelpers
  pub coordinates_helpers : CoordinatesHelpers
  pub rows_helpers : RowsHelpers
  pub sources_helpers : SourcesHelpers
  pub sorting_helpers : SortingHelpers
  pub items_helpers : ItemsHelpers
  pub active_helpers : ActiveHelpers
  pub frames_helpers : FramesHelpers
  pub log_helpers : LogHelpers
  pub links_helpers : LinksHelpers
  pub pieces_helpers : PiecesHelpers
  pub tree_helpers : TreeHelpers
  -- demand 1: refusals
  pub refused_calls : Refused
  -- calls one after another
  pub output : Output
  pub written_file : WrittenFile
  pub read_and_written : ReadAndWritten
  pub delete_frame_lem : DeleteFrame
  pub encoded_frame : EncodedFrame
  pub log_walked : LogWalked
  -- recovery: demand 3, what is taken, the log's bytes, what does not count, what is gone
  pub recover_write_recover : RecoverWriteRecover
  pub recovered_once : RecoveredOnce
  pub log_laid_out : LogLaidOut
  pub captions_of_deleted : CaptionsOfDeleted
  pub still_gone : StillGone
  -- what document 01 asks a contract to shut out
  pub wrong_recoveries : WrongRecoveries
  -- worked by hand in document 01
  pub sums_at_the_edges : SumsAtTheEdges
