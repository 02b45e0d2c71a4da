-- Free addresses of a pool, and the least of them.
use Rattle.std.specs.Prelude.{◌≡◌, ℕ, ◌≤◌, Bool, true, false, not, ◌&&◌, nat_eq, Option, None, Some}
use Rattle.space_model.specs.Layout.{page_of, page_slots}
use Rattle.space_heap.specs.Slots.{is_free}
use Rattle.space_heap.specs.HeapView.{HeapView, is_start, is_slot, is_unswept, slot_at, pool_with}

-- whether a page, by the pool that it has, is one of this pool
abbrev pub is_pool : Option ℕ → ℕ → Bool
is_pool None pool = false
is_pool (Some own) pool = nat_eq own pool

-- whether a page of this pool has a slot for objects of that pool, and it starts at the address
abbrev pub is_slot_in : Option ℕ → ℕ → ℕ → Bool
is_slot_in None pool a = false
is_slot_in (Some own) pool a = nat_eq own pool && is_start (Some own) (page_slots own) a

-- whether the address is the start of a free slot of a page of the pool that doesn't wait for a sweep
unfoldable pub is_free_at : HeapView → ℕ → ℕ → Bool
is_free_at v pool a = is_slot v a && (is_pool (pool_with v a) pool && (is_free (slot_at v a) && not (is_unswept v (page_of a))))

-- the address is free for the pool
abbrev pub IsFreeAt : HeapView → ℕ → ℕ → Type 0
IsFreeAt v pool a = is_free_at v pool a ≡ true

-- the least free address of the pool
pub record IsLeastFree (v : HeapView) (pool a : ℕ) : Type 0 where
  pub free : IsFreeAt v pool a
  pub least : (other : ℕ) → IsFreeAt v pool other → a ≤ other

-- no address is free for the pool
abbrev pub HasNoFree : HeapView → ℕ → Type 0
HasNoFree v pool = (a : ℕ) → is_free_at v pool a ≡ false
