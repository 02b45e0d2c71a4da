-- What the marking of each kind of collection rests on, marks and scans: a minor marking, a whole one, or the end of a major one.
use Rattle.std.specs.Prelude.{ℕ, List}
use Rattle.space_model.specs.declared.event.Kind.{Kind}
use Rattle.space_model.specs.declared.event.Kind.TheVariants.{Minor, Major, Full}
use Rattle.space_model.specs.Counts.{CountIs}
use Rattle.space_heap.specs.HeapView.{HeapView}
use Rattle.space_heap.specs.Generations.{old_marked}
use Rattle.space_heap.specs.Marking.{unmarked}
use Rattle.space_tracing.specs.Graph.{IsLive}
use Rattle.space_tracing.specs.Marking.{CountsAre}
use Rattle.space_major.specs.Incremental.{IsTricolour, IsMarkedAtEnd, IsFinishScan, IsNewlyBlack, IsFinishScanned}
use Rattle.space_minor.specs.Minors.{IsGenerational, IsMinorScan, IsSpared, IsNewlyMarked, IsMinorScanned}

-- the heap as the marking begins: a minor one leaves the old and the kept objects black, and what is remembered and kept; the end of a major
-- one goes on from what stands; a whole one takes all these marks away
abbrev pub begun : Kind → HeapView → HeapView
begun Minor v = old_marked v
begun Major v = v
begun Full v = unmarked v

-- what the marking rests on: a minor one and the end of a major one on the write barrier's work
abbrev pub IsReadyFor : Kind → HeapView → Type 0
IsReadyFor Minor v = IsGenerational v
IsReadyFor Major v = IsTricolour v
IsReadyFor Full v = Unit {0}

-- what the marking is to mark
abbrev pub IsSparedBy : Kind → HeapView → List ℕ → List ℕ → ℕ → Type 0
IsSparedBy Minor v roots stack n = IsSpared v roots stack n
IsSparedBy Major v roots stack n = IsMarkedAtEnd v roots stack n
IsSparedBy Full v roots stack n = IsLive v roots stack n

-- the marking, which leaves the second heap, scans the object at the address
abbrev pub IsScannedBy : Kind → HeapView → HeapView → List ℕ → List ℕ → ℕ → Type 0
IsScannedBy Minor old marked roots stack n = IsMinorScanned old marked n
IsScannedBy Major old marked roots stack n = IsFinishScanned old marked n
IsScannedBy Full old marked roots stack n = IsLive old roots stack n

-- the marking scans so many objects
abbrev pub AreScansBy : Kind → HeapView → HeapView → List ℕ → List ℕ → ℕ → Type 0
AreScansBy Minor old marked roots stack scans = CountsAre (IsMinorScan old) (IsNewlyMarked old marked) scans
AreScansBy Major old marked roots stack scans = CountsAre (IsFinishScan old) (IsNewlyBlack old marked) scans
AreScansBy Full old marked roots stack scans = CountIs (IsLive old roots stack) scans
