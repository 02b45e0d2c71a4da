use Rattle.std.proofs.Common.{◌≡◌, ◌++◌, length, map, take, drop, vec_capacity}
use Rattle.space_heap.specs.planes.PinnedMarks.{unpinned_marks}
use Rattle.space_heap.proofs.pins.unpin_pages.Given as goal

-- the pages so far are without pins
abbrev pub invariant-loop-page : goal.invariant-loop-page
invariant-loop-page l = record {
  items : l.marks.items ≡ map unpinned_marks (take l.page l.fn.marks.items) ++ drop l.page l.fn.marks.items;
  len : length l.marks.items ≡ length l.fn.marks.items;
  room : vec_capacity l.marks ≡ vec_capacity l.fn.marks;
}
