use Rattle.std.proofs.Common.{◌≡◌, ◌+◌, ◌-◌, ◌^◌, ◌≤◌, ℕ, List, [], length}
use Rattle.space_heap.specs.HeapView.{HeapView}
use Rattle.space_heap.specs.Generations.{is_finish_scan}
use Rattle.space_tracing.specs.Marking.{Marks}
use Rattle.space_tracing.specs.Rescans.{ScansBelow}
use Rattle.space_major.proofs.incremental.scan_unprotected.Given as goal

-- the listed objects so far were scanned again, so many
abbrev pub invariant-scans : goal.invariant-scans
invariant-scans g l = record {
  few : l.scans ≤ l.from;
  within : l.from ≤ 2 ^ 29;
  ticks : l.steps ≡ l.fn.steps + l.scans;
  so_far : (old : HeapView) (words : List ℕ) → Marks old l.fn.heap words [] [] → (again : List ℕ) × ScansBelow (is_finish_scan old) old l.heap words again l.from
      × (length again ≡ l.scans);
}

abbrev pub decreases-scans : goal.decreases-scans
decreases-scans g l = 2 ^ 29 - l.from
