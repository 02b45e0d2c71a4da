use Rattle.std.proofs.Common.{ℕ, ◌+◌, ◌*◌, ◌-◌, ◌^◌, ◌<◌, ◌≤◌, length}
use Rattle.space_heap.specs.Walks.{IsWalkFrom, place_of}
use Rattle.space_heap.proofs.walks.WalkPlaces.{IsWalkAt}
use Rattle.space_heap.proofs.heap.Heap.next_gone.Given as goal

abbrev pub invariant-pages : goal.invariant-pages
invariant-pages l = record {
  at : (from : ℕ) → IsWalkFrom l.self l.fn.walk from → IsWalkAt l.self l.page l.start from;
  narrow : l.start < 2 ^ 32;
  further : place_of l.fn.walk ≤ 2 ^ 32 * l.page + l.start;
}

abbrev pub decreases-pages : goal.decreases-pages
decreases-pages l = length l.self.pages - l.page
