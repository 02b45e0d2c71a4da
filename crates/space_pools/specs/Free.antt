-- Free addresses of a pool, and the least of them.
use Rattle.std.specs.Prelude.{◌≡◌, ℕ, ◌<◌, ◌≤◌, true, false, List, length, Some}
use Rattle.space_model.specs.Layout.{slot_address}
use Rattle.space_pages.specs.Slots.{words_of}
use Rattle.space_pools.specs.PageSlots.{IsPassedOver, IsFirstFree}
use Rattle.space_pools.specs.PoolsView.{PoolsView, page_at, pool_at, free_at, unswept_at, with_slot_at}

-- the address is the start of a free slot of a page of the pool that doesn't wait for a sweep
pub record IsFreeAt (v : PoolsView) (pool address : ℕ) : Type 0 where
  pub page : ℕ
  pub slot : ℕ
  pub has_pool : pool_at v page ≡ Some pool
  pub is_free : free_at v page slot ≡ true
  pub is_swept : unswept_at v page ≡ false
  pub is : address ≡ slot_address page pool slot

-- the least free address of the pool
pub record IsLeastFree (v : PoolsView) (pool address : ℕ) : Type 0 where
  pub free : IsFreeAt v pool address
  pub least : (other : ℕ) → IsFreeAt v pool other → address ≤ other

-- no address is free for the pool
abbrev pub HasNoFree : PoolsView → ℕ → Type 0
HasNoFree v pool = (address : ℕ) → IsFreeAt v pool address → ⊥

-- w is v after the slot at the least free address of the pool got words, which aren't told, and so is free no more
pub record TakesLeast (v w : PoolsView) (pool address : ℕ) : Type 0 where
  pub found : IsLeastFree v pool address
  pub words : List ℕ
  pub long : length words ≡ words_of pool
  pub becomes : w ≡ with_slot_at v found.free.page found.free.slot (Some words)

-- the lowest page of the pool that allocations don't pass over, and the first of its free slots
pub record IsLowestFreeSlot (v : PoolsView) (pool page slot : ℕ) : Type 0 where
  pub has_pool : pool_at v page ≡ Some pool
  pub first : IsFirstFree (page_at v page) slot
  pub below : (other : ℕ) → other < page → pool_at v other ≡ Some pool → IsPassedOver (page_at v other)

-- allocations pass over each page of the pool
abbrev pub AreFull : PoolsView → ℕ → Type 0
AreFull v pool = (page : ℕ) → pool_at v page ≡ Some pool → IsPassedOver (page_at v page)

-- w is v after a slot of a page of the pool got words
pub record TakesFreeSlot (v w : PoolsView) (pool page slot : ℕ) : Type 0 where
  pub words : List ℕ
  pub long : length words ≡ words_of pool
  pub becomes : w ≡ with_slot_at v page slot (Some words)
