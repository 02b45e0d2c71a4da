-- Pages that wait for a sweep: how many, and the lowest of them.
use Rattle.std.specs.Prelude.{◌≡◌, ℕ, ◌<◌, ◌≤◌, Bool, true, false, length, count_by}
use Rattle.space_pools.specs.PageSlots.{PageSlots}
use Rattle.space_pools.specs.PoolsView.{PoolsView, unswept_at}

-- whether a page waits for a sweep
abbrev pub is_unswept : PageSlots → Bool
is_unswept p = p.unswept

-- how many pages wait for a sweep
abbrev pub unswept_count : PoolsView → ℕ
unswept_count v = count_by is_unswept v.pages

-- no page waits for a sweep
abbrev pub HasNoUnswept : PoolsView → Type 0
HasNoUnswept v = (page : ℕ) → unswept_at v page ≡ false

-- the lowest page that waits for a sweep
pub record IsFirstUnswept (v : PoolsView) (page : ℕ) : Type 0 where
  pub within : page < length v.pages
  pub is : unswept_at v page ≡ true
  pub below : (other : ℕ) → other < page → unswept_at v other ≡ false

-- what the pools keep of the pages that wait: how many they are, and a cursor: the lowest of them, or the most pages that there may be where none waits
pub record AreUnswept (v : PoolsView) (first count : ℕ) : Type 0 where
  pub counted : count ≡ unswept_count v
  pub below : (page : ℕ) → page < first → unswept_at v page ≡ false
  pub most : first ≤ v.limit
  pub waits : first < v.limit → unswept_at v first ≡ true

-- the lowest page from this one on that waits among the pages of the pools, or the limit where none does
pub record IsNextUnswept (v : PoolsView) (from next : ℕ) : Type 0 where
  pub above : from ≤ next
  pub most : next ≤ v.limit
  pub between : (page : ℕ) → from ≤ page → page < next → unswept_at v page ≡ false
  pub waits : next < v.limit → unswept_at v next ≡ true
