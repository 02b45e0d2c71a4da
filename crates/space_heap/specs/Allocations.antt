-- The heap after an allocation, and why there may be none.
use Rattle.std.specs.Prelude.{◌≡◌, ◌≢◌, false, ◌⊎◌, ℕ, ◌+◌, length}
use Rattle.space_model.specs.declared.object.Guard.{Guard}
use Rattle.space_model.specs.declared.object.Style.{Style}
use Rattle.space_model.specs.Layout.{pool_for}
use Rattle.space_heap.specs.Slots.{new_object}
use Rattle.space_heap.specs.HeapView.{HeapView, no_page, page_at, is_unswept, with_page}
use Rattle.space_heap.specs.Objects.{placed}
use Rattle.space_heap.specs.FreeSlots.{IsLeastFree, HasNoFree}
use Rattle.space_heap.specs.NewPages.{HasNoSpare, IsNextPage, IsOutOfPages}

-- no address was free for the pool, and it got this page, which had no slots
pub record GetsPage (v w : HeapView) (pool page : ℕ) : Type 0 where
  pub none_free : HasNoFree v pool
  pub next : IsNextPage v page
  pub empty : page_at v page ≡ no_page
  pub swept : is_unswept v page ≡ false
  pub becomes : w ≡ with_page v page pool

-- w is the heap as it was, or after the pool got a page since no address was free for it
abbrev pub MakesRoom : HeapView → HeapView → ℕ → Type 0
MakesRoom v w pool = (w ≡ v) ⊎ ((page : ℕ) × GetsPage v w pool page)

-- no address is free for the pool, and it can't get a page
abbrev pub LacksRoom : HeapView → ℕ → Type 0
LacksRoom v pool = HasNoFree v pool × IsOutOfPages v

-- no address is free for the pool, no page is spare, and there aren't as many pages as may be: a new page takes memory
pub record NeedsNewPage (v : HeapView) (pool : ℕ) : Type 0 where
  pub none_free : HasNoFree v pool
  pub none_spare : HasNoSpare v
  pub below : length v.pages ≢ v.limit

-- an object with so many fields, which are nil, was allocated: it got this name and this address, the least that is free for its pool
pub record IsAllocation (v w : HeapView) (fields : ℕ) (guard : Guard) (style : Style) (name address : ℕ) : Type 0 where
  -- the heap in which the address is free
  pub prepared : HeapView
  pub room : MakesRoom v prepared (pool_for fields)
  pub least : IsLeastFree prepared (pool_for fields) address
  pub named : name ≡ v.counters.born + 1
  pub becomes : w ≡ placed prepared address (new_object name fields guard style)
