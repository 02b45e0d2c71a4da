use Rattle.std.proofs.Common.{◌≡◌, ℕ, ◌<◌, ◌≤◌, ◌-◌, false, length}
use Rattle.space_pools.specs.PoolsView.{unswept_at}
use Rattle.space_pools.proofs.pools.next_unswept.Given as goal

-- no page so far waits
abbrev pub invariant-pages : goal.invariant-pages
invariant-pages l = record {
  above : l.from ≤ l.page;
  most : l.page ≤ l.limit;
  before : (page : ℕ) → l.from ≤ page → page < l.page → unswept_at (record { limit = l.limit; pages = l.pages.items }) page ≡ false;
}

abbrev pub decreases-pages : goal.decreases-pages
decreases-pages l = length l.pages.items - l.page
