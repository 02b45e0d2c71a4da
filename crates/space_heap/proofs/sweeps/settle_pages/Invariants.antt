use Rattle.std.proofs.Common.{◌≡◌, ℕ, ◌<◌, ◌≤◌, length, vec_capacity}
use Rattle.space_heap.specs.planes.MarkPlanes.{marks_at}
use Rattle.space_heap.specs.planes.SweptPlanes.{IsSettled}
use Rattle.space_heap.proofs.sweeps.settle_pages.Given as goal

-- the pages so far are settled, and the others are as before
abbrev pub invariant-pages : goal.invariant-pages
invariant-pages l = record {
  done : (k : ℕ) → k < l.page → IsSettled (marks_at l.fn.marks.items k) (marks_at l.marks.items k);
  rest : (k : ℕ) → l.page ≤ k → marks_at l.marks.items k ≡ marks_at l.fn.marks.items k;
  len : length l.marks.items ≡ length l.fn.marks.items;
  room : vec_capacity l.marks ≡ vec_capacity l.fn.marks;
}
