-- What holds of every heap.
use Rattle.std.specs.Prelude.{◌≡◌, ℕ, ◌<◌, ◌≤◌, true, length, is_some, None, Some}
use Rattle.std.specs.List.{range_with_len, filter}
use Rattle.space_model.specs.Layout.{page_slots}
use Rattle.space_heap.specs.HeapView.{HeapView, page_at, pool_at, is_unswept}

-- pages are within the limit, each has the slots of its pool, and those that wait for a sweep are listed ascending and have a pool
pub record IsSoundHeap (v : HeapView) : Type 0 where
  pub most : v.limit ≤ 4096
  pub limited : length v.pages ≤ v.limit
  pub known : (page pool : ℕ) → pool_at v page ≡ Some pool → pool < 5
  pub long : (page pool : ℕ) → pool_at v page ≡ Some pool → length (page_at v page).slots ≡ page_slots pool
  pub spare : (page : ℕ) → pool_at v page ≡ None → length (page_at v page).slots ≡ 0
  pub waiting : v.unswept ≡ filter (is_unswept v) (range_with_len 0 (length v.pages))
  pub have_pools : (page : ℕ) → is_unswept v page ≡ true → is_some (pool_at v page) ≡ true
