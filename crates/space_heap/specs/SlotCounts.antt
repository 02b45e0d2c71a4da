-- What `stat` counts of a heap: objects that aren't gone, free slots, and old and kept objects. A gone object that isn't swept is none of these.
use Rattle.std.specs.Prelude.{◌≡◌, ℕ, Bool, true, ◌&&◌}
use Rattle.space_heap.specs.Slots.{is_free}
use Rattle.space_heap.specs.HeapView.{HeapView, is_slot, slot_at}
use Rattle.space_heap.specs.Objects.{is_object, object_of}
use Rattle.space_heap.specs.Generations.{is_old}

-- an object that isn't gone stands at the address
abbrev pub IsLive : HeapView → ℕ → Type 0
IsLive v a = is_object v a ≡ true

-- whether a free slot starts at the address, on a page that waits for a sweep or doesn't; a spare page has no slots
unfoldable pub is_vacant : HeapView → ℕ → Bool
is_vacant v a = is_slot v a && is_free (slot_at v a)

-- a free slot starts at the address
abbrev pub IsVacant : HeapView → ℕ → Type 0
IsVacant v a = is_vacant v a ≡ true

-- an old object that isn't gone stands at the address
abbrev pub IsOldObject : HeapView → ℕ → Type 0
IsOldObject v a = (is_object v a ≡ true) × (is_old (object_of v a) ≡ true)

-- a kept object that isn't gone stands at the address
abbrev pub IsKeptObject : HeapView → ℕ → Type 0
IsKeptObject v a = (is_object v a ≡ true) × ((object_of v a).kept ≡ true)
