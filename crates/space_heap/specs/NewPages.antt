-- Spare pages, and the page that a pool gets next.
use Rattle.std.specs.Prelude.{◌≡◌, ◌⊎◌, ℕ, ◌<◌, ◌≤◌, Bool, length, count_by, is_none, None}
use Rattle.space_heap.specs.HeapView.{PageView, HeapView, pool_at}

-- whether a page is spare: it has no pool
abbrev pub is_spare : PageView → Bool
is_spare p = is_none p.pool

-- how many pages are spare
abbrev pub spare_count : HeapView → ℕ
spare_count v = count_by is_spare v.pages

-- the page is spare
abbrev pub IsSpareAt : HeapView → ℕ → Type 0
IsSpareAt v page = (page < length v.pages) × (pool_at v page ≡ None)

-- no page is spare
abbrev pub HasNoSpare : HeapView → Type 0
HasNoSpare v = (page : ℕ) → IsSpareAt v page → ⊥

-- the lowest spare page
pub record IsLeastSpare (v : HeapView) (page : ℕ) : Type 0 where
  pub spare : IsSpareAt v page
  pub least : (other : ℕ) → IsSpareAt v other → page ≤ other

-- the page that a pool gets: the lowest spare one, else the next one that the limit allows
abbrev pub IsNextPage : HeapView → ℕ → Type 0
IsNextPage v page = IsLeastSpare v page ⊎ (HasNoSpare v × (page ≡ length v.pages) × (page < v.limit))

-- no page is spare, and there are as many as the limit allows
abbrev pub IsOutOfPages : HeapView → Type 0
IsOutOfPages v = HasNoSpare v × (length v.pages ≡ v.limit)
