-- What an entry says: document 01's number, 0 where nothing is refused, and the values of each case of an answer. A refusal's values
-- are 0, and its node is none.
use Rattle.graph.specs.declared.CacheInfo.{CacheInfo}
use Rattle.graph.specs.declared.CachePart.{CachePart}
use Rattle.snapshot.specs.declared.SnapshotInfo.{SnapshotInfo}
use Rattle.std.specs.Prelude.{ℕ, ◌+◌, Bool, cond, Option, Some, None, Ok, Err}
use Rattle.refusal.specs.Refusal.{number, Answer}
use Rattle.config.specs.Settings.{metric_number, ef_of}
use Rattle.layout.specs.Layout.{caption_offset}
use Rattle.layout.specs.declared.Shape.{Shape}
use Rattle.layout.specs.declared.Shape.TheVariants.{Single, Batch}
use Rattle.meaning.specs.Calls.{first_operation, operations_end}
use Rattle.rows.specs.declared.Node.{Node}
use Rattle.store_log.specs.declared.Frame.{Frame as LogFrame}
use Rattle.store_log.specs.declared.ReadOperation.{ReadOperation}
use Rattle.store_log.specs.declared.Operation.{Operation as LogOperation}
use Rattle.store_log.specs.declared.Operation.TheVariants as Operations
use Rattle.recovery.specs.Told.{Recovery}
use Rattle.recovery.specs.declared.NotRecovered.TheVariants as Refusals
use Rattle.sources.specs.declared.Part.{Part as SourcePart}
use Rattle.lambspool.specs.declared.Snapshot.{Snapshot}
use Rattle.lambspool.specs.declared.Store.{Store}
use Rattle.lambspool.specs.declared.Frame.{Frame}
use Rattle.lambspool.specs.declared.Operation.{Operation}
use Rattle.lambspool.specs.declared.Lookup.{Lookup}
use Rattle.lambspool.specs.declared.Part.{Part}
use Rattle.lambspool.specs.declared.Cache.{Cache}
use Rattle.lambspool.specs.declared.Neighbours.{Neighbours}
use Rattle.lambspool.specs.declared.Bytes.{Bytes}

-- a node's number that says none: all ones
abbrev pub no_node : ℕ
no_node = 0xffff_ffff

-- 0 snapshot, 1 log
abbrev pub source_number : Bool → ℕ
source_number from_log = cond from_log 1 0

abbrev pub snapshot_said : Answer SnapshotInfo → Snapshot
snapshot_said (Ok i) =
    record {
      number = 0;
      crc = i.crc;
      metric = metric_number i.config.metric;
      dimensions = i.config.dimensions;
      m = i.config.m;
      ef_construction = ef_of i.config;
      seed = i.config.seed;
      sequence = i.sequence;
      records = i.records;
      active = i.active;
      size = i.size;
    }
snapshot_said (Err why) =
    record {
      number = number why;
      crc = 0;
      metric = 0;
      dimensions = 0;
      m = 0;
      ef_construction = 0;
      seed = 0;
      sequence = 0;
      records = 0;
      active = 0;
      size = 0;
    }

-- a refusal: its number, 0 for the snapshot or 1 for the log, and the byte
abbrev pub refused_store : ℕ → ℕ → ℕ → Store
refused_store n source at =
    record {
      number = n;
      source = source;
      crc = 0;
      metric = 0;
      at = at;
      dimensions = 0;
      m = 0;
      ef_construction = 0;
      seed = 0;
      sequence = 0;
      records = 0;
      active = 0;
      replayed = 0;
      skipped = 0;
      keep = 0;
      tail = 0;
      size = 0;
    }

abbrev pub store_said : Recovery → Store
store_said (Ok i) =
    record {
      number = 0;
      source = 0;
      crc = i.crc;
      metric = metric_number i.config.metric;
      at = 0;
      dimensions = i.config.dimensions;
      m = i.config.m;
      ef_construction = ef_of i.config;
      seed = i.config.seed;
      sequence = i.sequence;
      records = i.records;
      active = i.active;
      replayed = i.replayed;
      skipped = i.skipped;
      keep = i.keep;
      tail = i.tail;
      size = i.size;
    }
store_said (Err (Refusals.Snapshot why)) = refused_store (number why) 0 0
store_said (Err (Refusals.Log why at)) = refused_store (number why) 1 at

-- 1 single, 2 batch; 0 is no frame
abbrev pub kind_number : Shape → ℕ
kind_number Single = 1
kind_number Batch = 2

abbrev pub no_frame : ℕ → Frame
no_frame n = record { number = n; kind = 0; sequence = 0; operations = 0; at = 0; first = 0; end = 0; next = 0 }

-- too little for a frame is no refusal
abbrev pub frame_said : Answer (Option LogFrame) → Frame
frame_said (Ok None) = no_frame 0
frame_said (Ok (Some f)) =
    record {
      number = 0;
      kind = kind_number f.shape;
      sequence = f.sequence;
      operations = f.operations;
      at = f.start;
      first = first_operation f.shape f.start;
      end = operations_end f.next;
      next = f.next;
    }
frame_said (Err why) = no_frame (number why)

-- with d coordinates: the tag 1 is a put, whose vector and caption stand at these bytes of the log, and 2 a delete
abbrev pub change_said : ℕ → LogOperation → ℕ → Operation
change_said d (Operations.Put r) next =
    record {
      number = 0;
      tag = 1;
      id = r.id.0;
      vector = r.at;
      caption = r.at + caption_offset d;
      caption_length = r.caption_length;
      next = next;
    }
change_said d (Operations.Remove id) next =
    record { number = 0; tag = 2; id = id.0; vector = 0; caption = 0; caption_length = 0; next = next }

abbrev pub operation_said : ℕ → Answer ReadOperation → Operation
operation_said d (Ok x) = change_said d x.operation x.next
operation_said d (Err why) =
    record { number = number why; tag = 0; id = 0; vector = 0; caption = 0; caption_length = 0; next = 0 }

abbrev pub found_said : Answer (Option Node) → Lookup
found_said (Ok (Some n)) = record { number = 0; node = n.0 }
found_said (Ok None) = record { number = 0; node = no_node }
found_said (Err why) = record { number = number why; node = no_node }

-- a refusal's part is the empty one at the snapshot's start
abbrev pub part_said : Answer SourcePart → Part
part_said (Ok p) = record { number = 0; source = source_number p.from_log; at = p.at; length = p.count }
part_said (Err why) = record { number = number why; source = 0; at = 0; length = 0 }

abbrev pub entry_said : Option Node → ℕ
entry_said (Some n) = n.0
entry_said None = no_node

abbrev pub cache_said : Answer CacheInfo → Cache
cache_said (Ok i) = record { number = 0; entry = entry_said i.entry; nodes = i.nodes; rng_state = i.rng_state }
cache_said (Err why) = record { number = number why; entry = no_node; nodes = 0; rng_state = 0 }

-- a refusal's part is the empty one at the cache's start
abbrev pub neighbours_said : Answer CachePart → Neighbours
neighbours_said (Ok part) = record { number = 0; at = part.at; length = part.size }
neighbours_said (Err why) = record { number = number why; at = 0; length = 0 }

abbrev pub bytes_said : Answer ℕ → Bytes
bytes_said (Ok n) = record { number = 0; length = n }
bytes_said (Err why) = record { number = number why; length = 0 }
