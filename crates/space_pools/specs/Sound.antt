-- What holds of all pools: their pages are within the limit, each has the slots of its pool, and a spare one waits for no sweep.
use Rattle.std.specs.Prelude.{◌≡◌, ℕ, ◌<◌, ◌≤◌, false, List, length, None, Some}
use Rattle.space_pools.specs.PageSlots.{PageSlots, found_in, count_of, width_of}
use Rattle.space_pools.specs.PoolsView.{PoolsView, page_at}

-- a page has the slots of its pool, each of its width, and waits for no sweep where it is spare
pub record IsSoundPage (p : PageSlots) : Type 0 where
  pub known : (pool : ℕ) → p.pool ≡ Some pool → pool < 5
  pub long : length p.slots ≡ count_of p.pool
  pub wide : (slot : ℕ) (words : List ℕ) → found_in p slot ≡ Some words → length words ≡ width_of p.pool
  pub swept : p.pool ≡ None → p.unswept ≡ false

-- the limit is 1 to 4,096, pages are within it, and each is sound
pub record IsSoundPools (v : PoolsView) : Type 0 where
  pub some : 0 < v.limit
  pub most : v.limit ≤ 4096
  pub limited : length v.pages ≤ v.limit
  pub sound : (page : ℕ) → IsSoundPage (page_at v page)
