use Rattle.std.proofs.Common.{◌≤◌, ◌*◌}
use Rattle.space_model.specs.Counts.{CountIs}
use Rattle.space_heap.specs.Sweeping.{IsGone}
use Rattle.space_heap.proofs.CountedPages.{IsBelow}
use Rattle.space_heap.proofs.heap.Heap.gone_count.Given as goal

-- those on the pages so far were counted
abbrev pub invariant-pages : goal.invariant-pages
invariant-pages l = record {
  counted : CountIs (IsBelow (IsGone l.self) l.page) l.count;
  few : l.count ≤ 1638 * l.page;
}
