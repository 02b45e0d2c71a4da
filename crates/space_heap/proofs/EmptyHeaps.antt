-- The laws of a heap without a page, for the callers.
use Rattle.std.proofs.Common.{◌≡◌, ℕ, false, ap, arith, None, not, ◌&&◌}
use Rattle.space_model.specs.Layout.{page_of}
use Rattle.space_heap.specs.Slots.{has_object, has_present, moved_in, is_free}
use Rattle.space_heap.specs.HeapView.{empty_heap, is_slot, is_unswept, slot_at, pool_with}
use Rattle.space_heap.specs.Objects.{is_occupied, is_object, resolved}
use Rattle.space_heap.specs.FreeSlots.{is_pool, is_free_at}
use Rattle.space_heap.proofs.Laws.{slot_at_none}
use Rattle.space_heap.proofs.starts.Starts.{no_start_past}

is_slot-empty : (limit a : ℕ) → is_slot (empty_heap limit) a ≡ false
unfolding is_slot
is_slot-empty limit a = no_start_past None 0 a (omega arith)

-- nothing stands there
pub is_object-empty : (limit a : ℕ) → is_object (empty_heap limit) a ≡ false
unfolding is_object
is_object-empty limit a = ap has_present (slot_at_none (empty_heap limit) a (is_slot-empty limit a))

-- no address is free
pub is_free_at-empty : (limit pool a : ℕ) → is_free_at (empty_heap limit) pool a ≡ false
unfolding is_free_at
is_free_at-empty limit pool a = ap (λ x. x && (is_pool (pool_with (empty_heap limit) a)
    pool && (is_free (slot_at (empty_heap limit) a) && not (is_unswept (empty_heap limit) (page_of a))))) (is_slot-empty limit a)

-- nothing was moved
pub resolved-empty : (limit word : ℕ) → resolved (empty_heap limit) word ≡ word
unfolding resolved
resolved-empty limit word = ap (moved_in word) (slot_at_none (empty_heap limit) word (is_slot-empty limit word))

-- and no object stands there, gone or not
pub is_occupied-empty : (limit a : ℕ) → is_occupied (empty_heap limit) a ≡ false
unfolding is_occupied
is_occupied-empty limit a = ap has_object (slot_at_none (empty_heap limit) a (is_slot-empty limit a))
