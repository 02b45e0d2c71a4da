-- The slots of a page that are counted, by what they hold and by the planes.
use Rattle.std.specs.Prelude.{ℕ, Bool, ◌&&◌}
use Rattle.space_planes.specs.Planes.{bit}
use Rattle.space_heap.specs.declared.heap.counting.Counted.{Counted}
use Rattle.space_heap.specs.declared.heap.counting.Counted.TheVariants.{Live, Vacant, Noted}
use Rattle.space_heap.specs.declared.marks.Marks.{Marks}
use Rattle.space_heap.specs.declared.slot_notes.Note.{Note}
use Rattle.space_heap.specs.declared.slot_notes.Note.TheVariants.{Old, Kept}
use Rattle.space_heap.specs.Slots.{SlotView, has_present, object_in, is_free}
use Rattle.space_heap.specs.HeapView.{HeapView}
use Rattle.space_heap.specs.Generations.{is_old}
use Rattle.space_heap.specs.planes.MarkPlanes.{is_present, is_old_in}
use Rattle.space_heap.specs.SlotCounts.{IsLive, IsVacant, IsOldObject, IsKeptObject}

-- whether the slot holds an object that isn't gone and is so
abbrev pub has_noted : Note → SlotView → Bool
has_noted Old slot = has_present slot && is_old (object_in slot)
has_noted Kept slot = has_present slot && (object_in slot).kept

-- whether the planes tell that the slot holds an object that isn't gone and is so
abbrev pub is_noted_in : Note → Marks → ℕ → Bool
is_noted_in Old m s = is_present m s && is_old_in m s
is_noted_in Kept m s = is_present m s && bit m.kept s

-- whether the slot is one that is counted
abbrev pub has_counted : Counted → SlotView → Bool
has_counted Live slot = has_present slot
has_counted Vacant slot = is_free slot
has_counted (Noted note) slot = has_noted note slot

-- an object that isn't gone and is so stands at the address
abbrev pub IsNoted : Note → HeapView → ℕ → Type 0
IsNoted Old v a = IsOldObject v a
IsNoted Kept v a = IsKeptObject v a

-- a slot that is counted starts at the address
abbrev pub IsCounted : Counted → HeapView → ℕ → Type 0
IsCounted Live v a = IsLive v a
IsCounted Vacant v a = IsVacant v a
IsCounted (Noted note) v a = IsNoted note v a
