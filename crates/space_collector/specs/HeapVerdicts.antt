-- What a marking and its verdict leave of a heap.
use Rattle.std.specs.Prelude.{◌≡◌, ◌↔◌, ℕ, List}
use Rattle.space_model.specs.declared.event.Kind.{Kind}
use Rattle.space_heap.specs.HeapView.{HeapView}
use Rattle.space_heap.specs.SoundHeap.{IsSoundHeap}
use Rattle.space_heap.specs.Sweeping.{settled}
use Rattle.space_tracing.specs.Graph.{SameGraph}
use Rattle.space_tracing.specs.Marking.{IsMarked, IsNoted}
use Rattle.space_collector.specs.KindMarkings.{begun, IsReadyFor, IsSparedBy, IsScannedBy, AreScansBy}
use Rattle.space_collector.specs.Quiescent.{HasNoGrey}

-- a marking of this kind changed marks alone, of a major one its end: it marked what these words of roots and the stack ask it to, with so
-- many scans
pub record IsKindMarking (old marked : HeapView) (kind : Kind) (roots stack : List ℕ) (scans : ℕ) : Type 0 where
  pub same : SameGraph old marked
  pub marks : IsReadyFor kind old → (a : ℕ) → IsMarked marked a ↔ IsSparedBy kind old roots stack a
  pub notes : IsNoted (begun kind old) marked (IsScannedBy kind old marked roots stack)
  pub scanned : AreScansBy kind old marked roots stack scans
  pub none_grey : HasNoGrey marked

-- a marking of this kind, and then a verdict, which took all that wasn't marked
pub record IsHeapVerdict (old new : HeapView) (kind : Kind) (roots stack : List ℕ) (scans : ℕ) : Type 0 where
  -- the heap after the marking
  pub marked : HeapView
  pub marking : IsKindMarking old marked kind roots stack scans
  pub settles : new ≡ settled marked kind
  pub sound : IsSoundHeap new
