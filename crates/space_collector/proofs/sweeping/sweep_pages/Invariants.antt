use Rattle.std.proofs.Common.{◌≡◌, ◌+◌}
use Rattle.space_heap.specs.SoundHeap.{IsSoundHeap}
use Rattle.space_collector.specs.PagesSwept.{SweepsPages}
use Rattle.space_collector.proofs.sweeping.sweep_pages.Given as goal

abbrev pub invariant-pages : goal.invariant-pages
invariant-pages l = record {
  sound : IsSoundHeap l.fn.heap;
  swept : SweepsPages l.counter l.fn.heap l.fn.finals l.heap l.finals;
  freed : l.heap.counters.freed ≡ l.fn.heap.counters.freed + l.freed;
}
