-- A minor marking, the end of a major one and a whole one are each the marking of its kind.
use Rattle.std.proofs.Common.{◌↔◌, ℕ, List}
use Rattle.space_model.specs.declared.event.Kind.TheVariants.{Minor, Major, Full}
use Rattle.space_model.specs.Counts.{CountIs}
use Rattle.space_heap.specs.HeapView.{HeapView}
use Rattle.space_heap.specs.Generations.{old_marked}
use Rattle.space_heap.specs.Marking.{unmarked}
use Rattle.space_tracing.specs.Graph.{IsLive, SameGraph}
use Rattle.space_tracing.specs.Marking.{IsMarked, IsNoted, CountsAre}
use Rattle.space_major.specs.Incremental.{IsTricolour, IsMarkedAtEnd, IsFinishScan, IsNewlyBlack, IsFinishScanned}
use Rattle.space_minor.specs.Minors.{IsGenerational, IsMinorScan, IsSpared, IsNewlyMarked, IsMinorScanned}
use Rattle.space_collector.specs.HeapVerdicts.{IsKindMarking}
use Rattle.space_collector.specs.Quiescent.{HasNoGrey}

module _ (old marked : HeapView) (roots stack : List ℕ) (scans : ℕ) (same : SameGraph old marked) (none_grey : HasNoGrey marked) where
  pub minor_marking : (IsGenerational old → (n : ℕ) → IsMarked marked n ↔ IsSpared old roots stack n) →
      IsNoted (old_marked old) marked (IsMinorScanned old marked) → CountsAre (IsMinorScan old) (IsNewlyMarked old marked) scans →
      IsKindMarking old marked Minor roots stack scans
  minor_marking marks notes counted = record { same = same; marks = marks; notes = notes; scanned = counted; none_grey = none_grey }

  pub end_marking : (IsTricolour old → (n : ℕ) → IsMarked marked n ↔ IsMarkedAtEnd old roots stack n) →
      IsNoted old marked (IsFinishScanned old marked) → CountsAre (IsFinishScan old) (IsNewlyBlack old marked) scans →
      IsKindMarking old marked Major roots stack scans
  end_marking marks notes counted = record { same = same; marks = marks; notes = notes; scanned = counted; none_grey = none_grey }

  pub whole_marking : ((n : ℕ) → IsMarked marked n ↔ IsLive old roots stack n) →
      IsNoted (unmarked old) marked (IsLive old roots stack) → CountIs (IsLive old roots stack) scans →
      IsKindMarking old marked Full roots stack scans
  whole_marking marks notes counted = record { same = same; marks = λ ready. marks; notes = notes; scanned = counted; none_grey = none_grey }
