-- Spare pages, and the page that a pool gets next.
use Rattle.std.specs.Prelude.{◌≡◌, ◌⊎◌, ℕ, ◌<◌, ◌≤◌, Bool, [], ◌∷◌, ◌++◌, length, count_by, is_none, nat_lt, slice_set, None, if◌then◌else◌}
use Rattle.space_pools.specs.PageSlots.{PageSlots, free_page}
use Rattle.space_pools.specs.PoolsView.{PoolsView, pool_at}

-- whether a page is spare: it has no pool
abbrev pub is_spare : PageSlots → Bool
is_spare p = is_none p.pool

-- how many pages are spare
abbrev pub spare_count : PoolsView → ℕ
spare_count v = count_by is_spare v.pages

-- the page is spare
abbrev pub IsSpareAt : PoolsView → ℕ → Type 0
IsSpareAt v page = (page < length v.pages) × (pool_at v page ≡ None)

-- no page is spare
abbrev pub HasNoSpare : PoolsView → Type 0
HasNoSpare v = (page : ℕ) → IsSpareAt v page → ⊥

-- the lowest spare page
pub record IsLeastSpare (v : PoolsView) (page : ℕ) : Type 0 where
  pub spare : IsSpareAt v page
  pub least : (other : ℕ) → IsSpareAt v other → page ≤ other

-- the page that a pool gets: the lowest spare one, else the next one that the limit allows
abbrev pub IsNextPage : PoolsView → ℕ → Type 0
IsNextPage v page = IsLeastSpare v page ⊎ (HasNoSpare v × (page ≡ length v.pages) × (page < v.limit))

-- no page is spare, and there are as many as the limit allows
abbrev pub IsOutOfPages : PoolsView → Type 0
IsOutOfPages v = HasNoSpare v × (length v.pages ≡ v.limit)

-- the pools after a page of theirs, or the next one, became one of the pool whose slots are all free
unfoldable pub with_free_page : PoolsView → ℕ → ℕ → PoolsView
with_free_page v page pool = record v {
  pages = if nat_lt page (length v.pages) then slice_set v.pages page (free_page pool) else v.pages ++ free_page
      pool ∷ [];
}
