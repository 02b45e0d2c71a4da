use Rattle.std.proofs.Common.{◌≡◌, ℕ, ◌<◌, ◌≤◌, length, vec_capacity}
use Rattle.space_heap.specs.planes.MarkPlanes.{marks_at}
use Rattle.space_heap.specs.planes.RecolouredMarks.{old_marked_marks}
use Rattle.space_heap.proofs.marks.mark_old_pages.Given as goal

-- on the pages so far old and kept objects are marked, and the others are as before
abbrev pub invariant-pages : goal.invariant-pages
invariant-pages l = record {
  done : (k : ℕ) → k < l.page → marks_at l.marks.items k ≡ old_marked_marks (marks_at l.fn.marks.items k);
  rest : (k : ℕ) → l.page ≤ k → marks_at l.marks.items k ≡ marks_at l.fn.marks.items k;
  len : length l.marks.items ≡ length l.fn.marks.items;
  room : vec_capacity l.marks ≡ vec_capacity l.fn.marks;
}
