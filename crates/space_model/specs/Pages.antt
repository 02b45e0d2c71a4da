-- Pages, their pools, and what stands on them.
use Rattle.std.specs.Prelude.{◌≡◌, ℕ, ◌==◌, Bool, false, List, [], ◌∷◌, ◌++◌, length, nat_lt, slice_index_or, slice_set, Option, None, Some, is_some, if◌then◌else◌}
use Rattle.std.specs.List.{filter, list_any, range_with_len}
use Rattle.std.specs.Ordering.{nat_cmp}
use Rattle.std.specs.FinMap.{FinMap, get, keys}
use Rattle.space_model.specs.Layout.{page_of}

-- the pool of a page; none for a spare page, and where there is no page
abbrev pub pool_at : List (Option ℕ) → ℕ → Option ℕ
pool_at pages page = slice_index_or pages page None

-- the pages after one of them, or the next one, got the pool
unfoldable pub with_pool : List (Option ℕ) → ℕ → ℕ → List (Option ℕ)
with_pool pages page pool = if nat_lt page (length pages) then slice_set pages page (Some pool) else pages ++ Some pool ∷ []

-- the numbers of the pages that have a pool, ascending
unfoldable pub pool_pages : List (Option ℕ) → List ℕ
pool_pages pages = filter (λ page. is_some (pool_at pages page)) (range_with_len 0 (length pages))

-- the address of the name in the map is on the page
abbrev pub StandsOn : FinMap nat_cmp ℕ → ℕ → ℕ → Type 0
StandsOn map page name = (address : ℕ) × (get map name ≡ Some address) × (page_of address ≡ page)

-- whether there is an address, and it is on the page
abbrev pub is_on : ℕ → Option ℕ → Bool
is_on page None = false
is_on page (Some address) = page_of address == page

-- whether a name of the map stands on the page
unfoldable pub is_used : FinMap nat_cmp ℕ → ℕ → Bool
is_used place page = list_any (λ name. is_on page (get place name)) (keys place)

-- the pages after the sweep of one of them: it is spare where nothing stands on it
abbrev pub spared : FinMap nat_cmp ℕ → ℕ → List (Option ℕ) → List (Option ℕ)
spared place page pages = if is_used place page then pages else slice_set pages page None
