use Rattle.std.proofs.Common.{◌≡◌, ℕ, ◌<◌, ◌≤◌, true, false, length}
use Rattle.std.specs.Prelude.{is_some}
use Rattle.space_pools.specs.PoolsView.{page_at, pool_at}
use Rattle.space_heap.specs.planes.SweptPlanes.{waiting_page}
use Rattle.space_heap.proofs.sweeps.hold_pages.Given as goal

-- the pages so far wait where they have a pool, and the others are as before
abbrev pub invariant-pages : goal.invariant-pages
invariant-pages l = record {
  done : (k : ℕ) → k < l.page → page_at l.pools k ≡ waiting_page (page_at l.fn.pools k);
  rest : (k : ℕ) → l.page ≤ k → page_at l.pools k ≡ page_at l.fn.pools k;
  limit : l.pools.limit ≡ l.fn.pools.limit;
  count : length l.pools.pages ≡ length l.fn.pools.pages;
  some : l.some ≡ true → (k : ℕ) × (is_some (pool_at l.fn.pools k) ≡ true);
  none : l.some ≡ false → (k : ℕ) → k < l.page → is_some (pool_at l.fn.pools k) ≡ false;
}
