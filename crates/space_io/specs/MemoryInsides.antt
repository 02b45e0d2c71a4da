-- How a source and a sink in memory store what they are seen as.
use Rattle.std.specs.Prelude.{◌≤◌, ◌<◌, drop, vec_len, vec_capacity}
use Rattle.space_io.specs.declared.memory.MemorySource.TheInside.{Inside}
use Rattle.space_io.specs.declared.memory.MemorySink.TheInside.{Inside as SinkInside}
use Rattle.space_io.specs.Memory.{SourceView, SinkView}

-- the view of a source, by its fields
abbrev pub source_of : Inside → SourceView
source_of a =
    record {
      rest = drop a.at a.bytes.items;
      most = a.most;
      failing = a.failing.items;
      calls = a.calls;
      faults = a.faults;
      ends = a.ends;
    }

-- the place is within the bytes, and a call may give some
pub record IsSource (a : Inside) : Type 0 where
  pub within : a.at ≤ vec_len a.bytes
  pub some : 0 < a.most

-- the view of a sink, by its fields
abbrev pub sink_of : SinkInside → SinkView
sink_of a =
    record {
      written = a.bytes.items;
      room = a.room;
      most = a.most;
      failing = a.failing.items;
      calls = a.calls;
      faults = a.faults;
    }

-- the memory for all the room was taken at first
pub record IsSink (a : SinkInside) : Type 0 where
  pub reserved : a.room ≤ vec_capacity a.bytes
  pub some : 0 < a.most
