-- What is resolved where nothing was moved, for the callers.
use Rattle.std.proofs.Common.{◌≡◌, ℕ, false, refl}
use Rattle.space_heap.specs.Slots.{SlotView, Free, Moved, Object, has_moved, moved_in}
use Rattle.space_heap.specs.HeapView.{HeapView, slot_at}
use Rattle.space_heap.specs.Objects.{is_moved, resolved}

unmoved_slot : (word : ℕ) (s : SlotView) → has_moved s ≡ false → moved_in word s ≡ word
unmoved_slot word Free e = refl
unmoved_slot word (Moved to) e = cc
unmoved_slot word (Object o) e = refl

-- a word is its own where no object was moved away from it
pub resolved_unmoved : (v : HeapView) (word : ℕ) → is_moved v word ≡ false → resolved v word ≡ word
unfolding is_moved resolved
resolved_unmoved v word e = unmoved_slot word (slot_at v word) e
