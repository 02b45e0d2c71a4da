-- The laws of a heap whose phase changed, for the callers: all else stays.
use Rattle.std.proofs.Common.{◌≡◌, ℕ, refl}
use Rattle.space_model.specs.declared.phase.Phase.{Phase}
use Rattle.space_heap.specs.HeapView.{HeapView, is_slot, pool_with, slot_at}
use Rattle.space_heap.specs.Objects.{is_occupied, is_object, object_of, resolved, is_moved}
use Rattle.space_heap.specs.FreeSlots.{is_free_at}

module _ (v : HeapView) (phase : Phase) where
  abbrev pub in_phase : HeapView
  in_phase = record v { phase = phase }

  pub is_occupied-in_phase : (a : ℕ) → is_occupied in_phase a ≡ is_occupied v a
  unfolding is_occupied slot_at is_slot
  is_occupied-in_phase a = refl

  pub is_object-in_phase : (a : ℕ) → is_object in_phase a ≡ is_object v a
  unfolding is_object slot_at is_slot
  is_object-in_phase a = refl

  pub object_of-in_phase : (a : ℕ) → object_of in_phase a ≡ object_of v a
  unfolding object_of slot_at is_slot
  object_of-in_phase a = refl

  pub resolved-in_phase : (word : ℕ) → resolved in_phase word ≡ resolved v word
  unfolding resolved slot_at is_slot
  resolved-in_phase word = refl

  pub is_moved-in_phase : (a : ℕ) → is_moved in_phase a ≡ is_moved v a
  unfolding is_moved slot_at is_slot
  is_moved-in_phase a = refl

  pub is_free_at-in_phase : (pool a : ℕ) → is_free_at in_phase pool a ≡ is_free_at v pool a
  unfolding is_free_at slot_at is_slot pool_with
  is_free_at-in_phase pool a = refl
