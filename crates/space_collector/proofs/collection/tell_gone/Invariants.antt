use Rattle.std.proofs.Common.{◌≡◌, ℕ, ◌*◌, ◌-◌, ◌^◌}
use Rattle.std.specs.Io.KnownBytes.{Appends}
use Rattle.space_heap.specs.Walks.{IsWalkFrom, place_of}
use Rattle.space_collector.proofs.ToldLines.{told}
use Rattle.space_collector.proofs.collection.tell_gone.Given as goal

-- the lines of the gone objects below the address that the walk has come to
abbrev pub invariant-told : goal.invariant-told
invariant-told g l = record {
  written : (from : ℕ) × IsWalkFrom l.heap l.walk from × Appends (g.K.Sink.written l.fn.sink) (g.K.Sink.written l.sink) (told l.heap from);
  calm : g.K.Sink.faults l.sink ≡ g.K.Sink.faults l.fn.sink;
}

-- a heap has 4096 pages at most
abbrev pub decreases-told : goal.decreases-told
decreases-told g l = 2 ^ 32 * 4096 - place_of l.walk
