-- The scans from the start of a minor marking, of what was black.
use Rattle.std.specs.Prelude.{◌≡◌, ◌⊎◌, ℕ, true, List, [], nat_eq, length}
use Rattle.std.specs.Set.{is_member}
use Rattle.space_heap.specs.declared.colour.Colour.TheVariants.{Black}
use Rattle.space_heap.specs.HeapView.{HeapView}
use Rattle.space_heap.specs.Objects.{object_of}
use Rattle.space_heap.specs.Marking.{colour_of}
use Rattle.space_heap.specs.Generations.{is_minor_scan, is_protected_at}
use Rattle.space_tracing.specs.Marking.{Marks}

-- each black object is protected, or it is kept
abbrev pub IsHeld : HeapView → Type 0
IsHeld v = (a : ℕ) → colour_of v a ≡ Black → (is_protected_at v a ≡ true) ⊎ ((object_of v a).kept ≡ true)

-- From any moment before at which nothing was scanned, the listed objects were scanned again, which are so many.
abbrev pub ScansListed : HeapView → HeapView → ℕ → Type 0
ScansListed now new k = (old : HeapView) (words : List ℕ) → Marks old now words [] [] → IsHeld old →
    (again : List ℕ) × Marks old new words again [] × ((a : ℕ) → is_member nat_eq again a ≡ is_minor_scan old a) × (length again ≡ k)
