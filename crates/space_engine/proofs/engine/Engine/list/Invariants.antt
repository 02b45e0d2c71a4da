use Rattle.std.proofs.Common.{◌≡◌, ◌+◌, ◌-◌, ◌^◌, length}
use Rattle.std.specs.Io.KnownBytes.{Appends}
use Rattle.space_engine.specs.HeapDumps.{objects_below}
use Rattle.space_engine.proofs.DumpLists.{listed}
use Rattle.space_engine.proofs.engine.Engine.list.Given as goal

-- the lines of the objects below an address were written
abbrev pub invariant-objects : goal.invariant-objects
invariant-objects g l = record {
  written : Appends (g.K.Sink.written l.fn.sink) (g.K.Sink.written l.sink) (listed l.self.heap l.from);
  calm : g.K.Sink.faults l.sink ≡ g.K.Sink.faults l.fn.sink;
  counted : l.count ≡ length (objects_below l.self.heap l.from);
  ticked : l.steps ≡ l.fn.steps + length (objects_below l.self.heap l.from);
}

-- a heap has 4096 pages at most
abbrev pub decreases-objects : goal.decreases-objects
decreases-objects g l = 2 ^ 29 - l.from
