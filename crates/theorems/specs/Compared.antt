-- What demand 3 compares of two recoveries.
use Rattle.std.specs.Prelude.{ℕ, ◌+◌, List}
use Rattle.config.specs.declared.Config.{Config}
use Rattle.refusal.specs.declared.Refusal.{Refusal}
use Rattle.meaning.specs.Records.{Record}
use Rattle.meaning.specs.Recovery.{Recovery, recovered, refused_snapshot, refused_log, records_of, tail_length}

-- settings, records, sequence, replayed plus skipped, tail length; or the refusal and its byte
pub data Compared : Type 0 where
  accepts : Config → List Record → ℕ → ℕ → ℕ → Compared
  refuses : Refusal → ℕ → Compared
  refuses_snapshot : Refusal → Compared

abbrev pub compared : List ℕ → List ℕ → Recovery → Compared
compared snapshot log (recovered r) = accepts r.config (records_of snapshot log r) r.state.sequence (r.state.replayed + r.state.skipped) (tail_length log r)
compared snapshot log (refused_snapshot why) = refuses_snapshot why
compared snapshot log (refused_log why at) = refuses why at

-- the same without the count of frames, for a log without its front; a refusal says no_state
pub data Brief : Type 0 where
  holds : Config → List Record → ℕ → ℕ → Brief
  no_state : Brief

abbrev pub brief : List ℕ → List ℕ → Recovery → Brief
brief snapshot log (recovered r) = holds r.config (records_of snapshot log r) r.state.sequence (tail_length log r)
brief snapshot log (refused_snapshot why) = no_state
brief snapshot log (refused_log why at) = no_state
