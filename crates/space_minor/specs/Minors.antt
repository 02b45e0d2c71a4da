-- What a minor marking marks and scans, and what it rests on.
use Rattle.std.specs.Prelude.{◌≡◌, ◌⊎◌, ℕ, true, false, List}
use Rattle.space_model.specs.Reach.{IsReached}
use Rattle.space_heap.specs.HeapView.{HeapView}
use Rattle.space_heap.specs.Objects.{object_of}
use Rattle.space_heap.specs.Generations.{is_old, has_minor_scan}
use Rattle.space_tracing.specs.Graph.{IsChild, IsStart}
use Rattle.space_tracing.specs.Marking.{IsMarked}
pub use Rattle.space_tracing.specs.Marking.{CountsAre}

-- the object at the address is old, or it is kept
abbrev pub IsOldOrKept : HeapView → ℕ → Type 0
IsOldOrKept v n = (is_old (object_of v n) ≡ true) ⊎ ((object_of v n).kept ≡ true)

-- each old object that isn't remembered has only old or kept children
abbrev pub IsGenerational : HeapView → Type 0
IsGenerational v = (m n : ℕ) → is_old (object_of v m) ≡ true → (object_of v m).remembered ≡ false → IsChild v m n → IsOldOrKept v n

-- the object at the address is old and remembered, or it is kept: a minor marking scans it from its start
abbrev pub IsMinorScan : HeapView → ℕ → Type 0
IsMinorScan v n = has_minor_scan (object_of v n) ≡ true

-- what a minor marking is to mark: the old and the kept objects, and what is reached by children from those that it scans from its start, from
-- the roots and from the stack
abbrev pub IsSpared : HeapView → List ℕ → List ℕ → ℕ → Type 0
IsSpared v roots stack n = IsOldOrKept v n ⊎ IsReached (IsChild v) (λ a. IsMinorScan v a ⊎ IsStart v roots stack a) n

-- the object was marked by the marking, and was neither old nor kept
abbrev pub IsNewlyMarked : HeapView → HeapView → ℕ → Type 0
IsNewlyMarked old new n = IsMarked new n × (IsOldOrKept old n → ⊥)

-- what a minor marking scans: each object of its start, and each that it marked newly
abbrev pub IsMinorScanned : HeapView → HeapView → ℕ → Type 0
IsMinorScanned old new n = IsMinorScan old n ⊎ IsNewlyMarked old new n
