use Rattle.std.proofs.Common.{◌≡◌, ℕ, ◌<◌, ◌-◌, length, Some}
use Rattle.space_pools.specs.PageSlots.{IsPassedOver}
use Rattle.space_pools.specs.PoolsView.{page_at, pool_at}
use Rattle.space_pools.proofs.pools.Pools.lowest_free_slot.Given as goal

abbrev pub invariant-pages : goal.invariant-pages
invariant-pages l = (page : ℕ) → page < l.page → pool_at l.self page ≡ Some l.pool → IsPassedOver (page_at l.self page)

abbrev pub decreases-pages : goal.decreases-pages
decreases-pages l = length l.self.pages - l.page
