-- The slots of the pools by their addresses.
use Rattle.std.specs.Prelude.{◌≡◌, ◌≢◌, ◌⊎◌, ℕ, Bool, true, ◌&&◌, List, [], length, Option, unwrap_or}
use Rattle.space_model.specs.Layout.{page_of}
use Rattle.space_pools.specs.PoolsView.{PoolsView, page_at, pool_at, unswept_at, used_at, found_at}
use Rattle.space_heap.specs.HeapView.{HeapView, slot_number, is_start, is_slot, pool_at as pool_of}

-- whether the address is the start of a slot
unfoldable pub is_slot_of : PoolsView → ℕ → Bool
is_slot_of v a = is_start (pool_at v (page_of a)) (length (page_at v (page_of a)).slots) a

-- the address is the start of this slot of this page
pub record IsSlotAt (v : PoolsView) (a page slot : ℕ) : Type 0 where
  pub is : is_slot_of v a ≡ true
  pub on_page : page ≡ page_of a
  pub in_slot : slot ≡ slot_number (pool_at v (page_of a)) a

-- the same in words of the heap's view
pub record IsPlace (v : HeapView) (a page slot : ℕ) : Type 0 where
  pub is : is_slot v a ≡ true
  pub on_page : page ≡ page_of a
  pub in_slot : slot ≡ slot_number (pool_of v (page_of a)) a

-- whether the address is the start of a slot that isn't free
abbrev pub is_taken_start : PoolsView → ℕ → Bool
is_taken_start v a = is_slot_of v a && used_at v (page_of a) (slot_number (pool_at v (page_of a)) a)

-- the words of the slot that starts at the address; none where it is free, and where no slot starts there
abbrev pub words_from : PoolsView → ℕ → List ℕ
words_from v a = unwrap_or (found_at v (page_of a) (slot_number (pool_at v (page_of a)) a)) []

-- w is v after this was put into a slot
pub record SlotChanged (v w : PoolsView) (page slot : ℕ) (found : Option (List ℕ)) : Type 0 where
  pub limit : w.limit ≡ v.limit
  pub count : length w.pages ≡ length v.pages
  pub pools : (k : ℕ) → pool_at w k ≡ pool_at v k
  pub slots : (k : ℕ) → length (page_at w k).slots ≡ length (page_at v k).slots
  pub unswept : (k : ℕ) → unswept_at w k ≡ unswept_at v k
  pub here : found_at w page slot ≡ found
  pub other : (k i : ℕ) → (k ≢ page) ⊎ (i ≢ slot) → found_at w k i ≡ found_at v k i
