-- The objects that a verdict takes, and the next gone one.
use Rattle.std.specs.Prelude.{◌≡◌, ℕ, true}
use Rattle.space_heap.specs.declared.colour.Colour.TheVariants.{White}
use Rattle.space_heap.specs.HeapView.{HeapView}
use Rattle.space_heap.specs.Objects.{is_object, object_of}
use Rattle.space_heap.specs.Marking.{colour_of}
use Rattle.space_heap.specs.Walks.{IsNextGone}
use Rattle.space_sweep.specs.declared.verdicts.Dead.{Dead}

-- the address names an object that isn't marked
abbrev pub IsUnmarked : HeapView → ℕ → Type 0
IsUnmarked v a = (is_object v a ≡ true) × (colour_of v a ≡ White)

-- the gone object with the least address from this one on, and its name
abbrev pub IsNextDead : HeapView → ℕ → Dead → Type 0
IsNextDead v from dead = IsNextGone v from dead.address × (dead.name ≡ (object_of v dead.address).name)
