-- The laws of a heap whose cursor changed, for the callers: all else stays.
use Rattle.std.proofs.Common.{◌≡◌, ℕ, refl}
use Rattle.space_heap.specs.HeapView.{HeapView, is_slot, pool_with, slot_at}
use Rattle.space_heap.specs.Objects.{is_occupied, is_object, object_of, resolved, is_moved}
use Rattle.space_heap.specs.FreeSlots.{is_free_at}
use Rattle.space_heap.specs.Marking.{IsCoherent}
use Rattle.space_heap.proofs.Coherence.{coherent_same}

module _ (v : HeapView) (cursor : ℕ) where
  abbrev pub at_cursor : HeapView
  at_cursor = record v { cursor = cursor }

  pub is_occupied-at_cursor : (a : ℕ) → is_occupied at_cursor a ≡ is_occupied v a
  unfolding is_occupied slot_at is_slot
  is_occupied-at_cursor a = refl

  pub is_object-at_cursor : (a : ℕ) → is_object at_cursor a ≡ is_object v a
  unfolding is_object slot_at is_slot
  is_object-at_cursor a = refl

  pub object_of-at_cursor : (a : ℕ) → object_of at_cursor a ≡ object_of v a
  unfolding object_of slot_at is_slot
  object_of-at_cursor a = refl

  pub resolved-at_cursor : (word : ℕ) → resolved at_cursor word ≡ resolved v word
  unfolding resolved slot_at is_slot
  resolved-at_cursor word = refl

  pub is_moved-at_cursor : (a : ℕ) → is_moved at_cursor a ≡ is_moved v a
  unfolding is_moved slot_at is_slot
  is_moved-at_cursor a = refl

  pub is_free_at-at_cursor : (pool a : ℕ) → is_free_at at_cursor pool a ≡ is_free_at v pool a
  unfolding is_free_at slot_at is_slot pool_with
  is_free_at-at_cursor pool a = refl

  pub coherent_cursor : IsCoherent v → IsCoherent at_cursor
  unfolding object_of is_object slot_at is_slot
  coherent_cursor c = coherent_same v at_cursor refl (λ a. refl) (λ a is. is) c
