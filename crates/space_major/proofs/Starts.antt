-- The start of a major marking in parts.
use Rattle.std.proofs.Common.{ℕ, List, [], ◌++◌}
use Rattle.space_model.specs.declared.phase.Phase.TheVariants.{Marking}
use Rattle.space_heap.specs.HeapView.{HeapView}
use Rattle.space_heap.specs.Marking.{unmarked}
use Rattle.space_tracing.specs.Scans.{visited_all}
use Rattle.space_tracing.specs.Marking.{Marks}
use Rattle.space_tracing.proofs.Bundles.{marks_none, marks_words}
use Rattle.space_major.specs.Incremental.{started}

-- the heap without marks, in which marking goes on
abbrev pub begun : HeapView → HeapView
begun v = record (unmarked v) { phase = Marking }

-- what the start did from the moment on at which no object had a mark
pub marks_started : (v : HeapView) (roots stack : List ℕ) → Marks (begun v) (started v roots stack) (roots ++ stack) [] []
marks_started v roots stack =
    let b : HeapView = begun v in
    marks_words b (visited_all b roots) roots stack [] [] (marks_words b b [] roots [] [] (marks_none b))
