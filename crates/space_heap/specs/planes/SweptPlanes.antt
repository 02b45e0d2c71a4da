-- The planes and the pools after a verdict, and after the sweep of a page.
use Rattle.std.specs.Prelude.{◌≡◌, ℕ, Bool, false, not, List, length, replicate, nat_eq, is_some, slice_set, if◌then◌else◌}
use Rattle.std.specs.List.{filter}
use Rattle.space_planes.specs.Planes.{bit, set_in_first_only}
use Rattle.space_pools.specs.PageSlots.{PageSlots}
use Rattle.space_pools.specs.PoolsView.{PoolsView, page_at, pool_at}
use Rattle.space_heap.specs.declared.marks.Marks.{Marks}
use Rattle.space_heap.specs.Generations.{raised_age}
use Rattle.space_heap.specs.planes.MarkPlanes.{guard_from, age_from}
use Rattle.space_heap.specs.Inside.{page_in, pages_from, unswept_in, AreAllMarks}
use Rattle.space_heap.specs.Sweeping.{swept_page}

-- the age of a slot after a verdict, by whether it was marked, whether it is unprotected, and the two bits of its age
abbrev pub settled_age : Bool → Bool → Bool → Bool → ℕ
settled_age marked unprotected low high =
    if marked then raised_age (guard_from unprotected) (age_from low high) else age_from low high

-- n are the planes m after a verdict: the objects that aren't marked are gone, and the others are older
pub record IsSettled (m n : Marks) : Type 0 where
  pub low : length n.age_low ≡ length m.age_low
  pub high : length n.age_high ≡ length m.age_high
  pub ages : (s : ℕ) → age_from (bit n.age_low s) (bit n.age_high s) ≡ settled_age (bit m.marked s) (bit m.guard s) (bit m.age_low s) (bit m.age_high s)
  -- the other planes
  pub others : n ≡ record m { age_low = n.age_low; age_high = n.age_high; gone = set_in_first_only m.object m.marked }

-- the planes after a sweep: the slots of the gone objects hold none any more
abbrev pub swept_marks : Marks → Marks
swept_marks m = record m { object = set_in_first_only m.object m.gone; gone = replicate (length m.gone) false }

-- the page after a verdict: it waits for a sweep where it has a pool
abbrev pub waiting_page : PageSlots → PageSlots
waiting_page p = record p { unswept = is_some p.pool }

-- w is v after each page with a pool came to wait for a sweep
pub record HoldsPages (v w : PoolsView) : Type 0 where
  pub limit : w.limit ≡ v.limit
  pub count : length w.pages ≡ length v.pages
  pub each : (k : ℕ) → page_at w k ≡ waiting_page (page_at v k)

-- no page has a pool
abbrev pub HasNoPooled : PoolsView → Type 0
HasNoPooled v = (k : ℕ) → is_some (pool_at v k) ≡ false

-- w and ns are the pools and the planes after the sweep of a page
pub record SweepsPage (v w : PoolsView) (ms ns : List Marks) (page : ℕ) : Type 0 where
  pub limit : w.limit ≡ v.limit
  pub count : length w.pages ≡ length v.pages
  pub pages : pages_from w ns ≡ slice_set (pages_from v ms) page (swept_page (page_in v ms page))
  pub unswept : unswept_in w ≡ filter (λ other. not (nat_eq other page)) (unswept_in v)
  pub all : AreAllMarks w ns
