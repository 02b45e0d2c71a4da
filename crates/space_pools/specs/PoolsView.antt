-- What a contract sees of the pools: the most pages, and what is found in each slot of each page.
use Rattle.std.specs.Prelude.{◌≡◌, ℕ, ◌≤◌, Bool, List, Option, None, Some, slice_index_or, slice_set}
use Rattle.space_model.specs.Layout.{page_of}
use Rattle.space_pools.specs.PageSlots.{PageSlots, spare_page, free_in, used_in, found_in, with_found_in, written_in, held_in, freed_in}

-- the pools as callers see them: the most pages that there may be, and the pages
pub record PoolsView : Type 0 where
  pub limit : ℕ
  pub pages : List PageSlots

-- a page; it is as a spare one where there is none
abbrev pub page_at : PoolsView → ℕ → PageSlots
page_at v page = slice_index_or v.pages page spare_page

-- the pool of a page; none for a spare page, and where there is no page
abbrev pub pool_at : PoolsView → ℕ → Option ℕ
pool_at v page = (page_at v page).pool

-- the address is on this page, which has this pool
pub record IsOnPage (v : PoolsView) (a page pool : ℕ) : Type 0 where
  pub past : 65536 ≤ a
  pub on : page ≡ page_of a
  pub its : pool_at v page ≡ Some pool

-- the address is on no page that has a pool
abbrev pub IsOffPages : PoolsView → ℕ → Type 0
IsOffPages v a = 65536 ≤ a → pool_at v (page_of a) ≡ None

-- whether the page waits for a sweep
abbrev pub unswept_at : PoolsView → ℕ → Bool
unswept_at v page = (page_at v page).unswept

-- whether there is this slot and it is free
abbrev pub free_at : PoolsView → ℕ → ℕ → Bool
free_at v page slot = free_in (page_at v page) slot

-- whether there is this slot and it isn't free
abbrev pub used_at : PoolsView → ℕ → ℕ → Bool
used_at v page slot = used_in (page_at v page) slot

-- the words of a slot that isn't free; none where it is free, and where there is no such slot
abbrev pub found_at : PoolsView → ℕ → ℕ → Option (List ℕ)
found_at v page slot = found_in (page_at v page) slot

-- the pools after one page became this one
abbrev pub with_page : PoolsView → ℕ → PageSlots → PoolsView
with_page v page p = record v { pages = slice_set v.pages page p }

-- the pools after this was put into a slot
abbrev pub with_slot_at : PoolsView → ℕ → ℕ → Option (List ℕ) → PoolsView
with_slot_at v page slot found = with_page v page (with_found_in (page_at v page) slot found)

-- the pools after words were written from the start of a slot on: where they are as many as the slot has, they are its words, and all else stays
abbrev pub written_at : PoolsView → ℕ → ℕ → List ℕ → PoolsView
written_at v page slot words = with_page v page (written_in (page_at v page) slot words)

-- the pools after a page came to wait for a sweep
abbrev pub with_held_page : PoolsView → ℕ → PoolsView
with_held_page v page = with_page v page (held_in (page_at v page))

-- the pools after a page was swept, where the slots of the plane became free
abbrev pub with_freed_page : PoolsView → ℕ → List Bool → PoolsView
with_freed_page v page free = with_page v page (freed_in (page_at v page) free)

-- the pools after a page became spare
abbrev pub with_spare_page : PoolsView → ℕ → PoolsView
with_spare_page v page = with_page v page spare_page
