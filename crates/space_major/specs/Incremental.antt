-- A major marking in parts: what its start leaves, and what its end marks and scans.
use Rattle.std.specs.Prelude.{◌≡◌, ◌≢◌, ◌⊎◌, ℕ, true, List, [], length, nat_eq}
use Rattle.std.specs.Set.{is_member}
use Rattle.space_model.specs.declared.phase.Phase.TheVariants.{Marking}
use Rattle.space_model.specs.Reach.{IsReached}
use Rattle.space_heap.specs.declared.colour.Colour.TheVariants.{Black}
use Rattle.space_heap.specs.HeapView.{HeapView}
use Rattle.space_heap.specs.Marking.{colour_of, unmarked}
use Rattle.space_heap.specs.Generations.{is_protected_at, is_finish_scan}
use Rattle.space_tracing.specs.Scans.{visited_all}
use Rattle.space_tracing.specs.Graph.{IsChild, IsStart}
use Rattle.space_tracing.specs.Marking.{IsMarked, Marks}

-- a major marking has begun: all marks were taken away, and then the words of the roots and those of the stack were visited
abbrev pub started : HeapView → List ℕ → List ℕ → HeapView
started v roots stack = visited_all (visited_all (record (unmarked v) { phase = Marking }) roots) stack

-- no black object that the write barrier protects has a white child
abbrev pub IsTricolour : HeapView → Type 0
IsTricolour v = (m n : ℕ) → colour_of v m ≡ Black → is_protected_at v m ≡ true → IsChild v m n → IsMarked v n

-- what the end of a major marking is to mark: what was marked before, and what is reached by children from that, from the roots and from the
-- stack
abbrev pub IsMarkedAtEnd : HeapView → List ℕ → List ℕ → ℕ → Type 0
IsMarkedAtEnd v roots stack n = IsReached (IsChild v) (λ a. IsMarked v a ⊎ IsStart v roots stack a) n

-- the object at the address isn't gone, is black and unprotected: the end of a major marking scans it again
abbrev pub IsFinishScan : HeapView → ℕ → Type 0
IsFinishScan v n = is_finish_scan v n ≡ true

-- the object is marked now, and wasn't black before: it was scanned for the first time
abbrev pub IsNewlyBlack : HeapView → HeapView → ℕ → Type 0
IsNewlyBlack old new n = IsMarked new n × (colour_of old n ≢ Black)

-- what the end of a major marking scans: each black unprotected object again, and each that wasn't black yet and that it marked
abbrev pub IsFinishScanned : HeapView → HeapView → ℕ → Type 0
IsFinishScanned old new n = IsFinishScan old n ⊎ IsNewlyBlack old new n

-- From any moment before at which nothing was scanned, the black unprotected objects were scanned again, which are so many.
abbrev pub ScansUnprotected : HeapView → HeapView → ℕ → Type 0
ScansUnprotected now new k = (old : HeapView) (words : List ℕ) → Marks old now words [] [] →
    (again : List ℕ) × Marks old new words again [] × ((a : ℕ) → is_member nat_eq again a ≡ is_finish_scan old a) × (length again ≡ k)
