-- What the fields of the pools stand for, and what holds of them.
use Rattle.std.specs.Prelude.{◌≡◌, ℕ, ◌<◌, ◌≤◌, List, vec_capacity, slice_index_or, Some}
use Rattle.space_pools.specs.declared.pools.Pools.TheInside.{Inside}
use Rattle.space_pools.specs.PageSlots.{IsPassedOver}
use Rattle.space_pools.specs.PoolsView.{PoolsView, page_at, pool_at}
use Rattle.space_pools.specs.Spare.{spare_count}
use Rattle.space_pools.specs.Unswept.{AreUnswept}
use Rattle.space_pools.specs.Sound.{IsSoundPools}

-- the view of the pools, by their fields
abbrev pub view_from : Inside → PoolsView
view_from p = record { limit = p.limit; pages = p.pages.items }

-- allocations pass over each page of a pool below the pool's cursor
abbrev pub AreFullBelow : PoolsView → List ℕ → Type 0
AreFullBelow v cursors = (pool page : ℕ) → page < slice_index_or cursors pool 0 → pool_at v page ≡ Some pool → IsPassedOver (page_at v page)

-- what holds of the fields of all pools
pub record ArePools (p : Inside) : Type 0 where
  pub sound : IsSoundPools (view_from p)
  pub room : p.limit ≤ vec_capacity p.pages
  pub spares : p.spare ≡ spare_count (view_from p)
  pub waiting : AreUnswept (view_from p) p.first_unswept p.unswept
  pub full : AreFullBelow (view_from p) p.cursors
