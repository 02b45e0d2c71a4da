use Rattle.std.proofs.Common.{◌≢◌, ℕ, ◌<◌, ◌-◌, length, None}
use Rattle.space_pools.specs.PoolsView.{pool_at}
use Rattle.space_pools.proofs.pools.Pools.lowest_spare.Given as goal

abbrev pub invariant-pages : goal.invariant-pages
invariant-pages l = (page : ℕ) → page < l.page → pool_at l.self page ≢ None

abbrev pub decreases-pages : goal.decreases-pages
decreases-pages l = length l.self.pages - l.page
