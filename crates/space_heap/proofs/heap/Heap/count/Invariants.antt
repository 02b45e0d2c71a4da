use Rattle.std.proofs.Common.{◌≤◌, ◌*◌}
use Rattle.space_model.specs.Counts.{CountIs}
use Rattle.space_heap.specs.planes.CountedSlots.{IsCounted}
use Rattle.space_heap.proofs.CountedPages.{IsBelow}
use Rattle.space_heap.proofs.heap.Heap.count.Given as goal

-- those on the pages so far were counted
abbrev pub invariant-pages : goal.invariant-pages
invariant-pages l = record {
  all : CountIs (IsBelow (IsCounted l.counted l.self) l.page) l.count;
  few : l.count ≤ 1638 * l.page;
}
