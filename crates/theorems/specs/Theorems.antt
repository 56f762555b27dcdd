-- All that is proved here, a file for each: `proofs/Proved.antt` has the proof of it.
use Rattle.theorems.specs.Demand3.{Demand3}
use Rattle.theorems.specs.Demand3Written.{Demand3Written}
use Rattle.theorems.specs.EachFrameOnce.{EachFrameOnce}
use Rattle.theorems.specs.RefusedAt.{RefusedLogs}
use Rattle.theorems.specs.WriterTakes.{WriterTakes}
use Rattle.theorems.specs.FileReadBack.{FileReadBack}
use Rattle.theorems.specs.AcceptedFile.{AcceptedFile}
use Rattle.theorems.specs.FrameReadBack.{FrameReadBack}
use Rattle.theorems.specs.LogLaidOut.{LaidOutLogs}
use Rattle.theorems.specs.DeleteAppended.{DeleteAppended}
use Rattle.theorems.specs.DeletedCaptions.{DeletedCaptions}
use Rattle.theorems.specs.Sums.{Sums}
use Rattle.theorems.specs.Standards.{Standards}

pub record Theorems : Type 0 where
  pub demand3 : Demand3
  pub demand3_written : Demand3Written
  pub each_frame_once : EachFrameOnce
  pub refused_logs : RefusedLogs
  pub writer_takes : WriterTakes
  pub file_read_back : FileReadBack
  pub accepted_file : AcceptedFile
  pub frame_read_back : FrameReadBack
  pub laid_out_logs : LaidOutLogs
  pub delete_appended : DeleteAppended
  pub deleted_captions : DeletedCaptions
  pub sums : Sums
  pub standards : Standards
