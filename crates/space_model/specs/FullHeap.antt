-- When the heap is really full.
use Rattle.std.specs.Prelude.{◌≡◌, ◌↔◌, ℕ, ◌<◌, true, length, Some}
use Rattle.space_model.specs.Counts.{CountIs}
use Rattle.space_model.specs.Layout.{page_slots}
use Rattle.space_model.specs.Pages.{pool_at, StandsOn, is_used}
use Rattle.space_model.specs.Reach.{Reach}
use Rattle.space_model.specs.State.{State, is_present}

-- the heap is really full for the pool: nothing is present but what is reached, there are as many pages as may be, an object stands
-- on each, and on each page of the pool as many as it has slots
pub record FullAt (s : State) (pool : ℕ) : Type 0 where
  pub reached : (name : ℕ) → (is_present s name ≡ true) ↔ Reach s name
  pub limit : length s.heap.pages ≡ s.heap.limit
  pub used : (page : ℕ) → page < length s.heap.pages → is_used s.heap.place page ≡ true
  pub filled : (page : ℕ) → pool_at s.heap.pages page ≡ Some pool → CountIs (StandsOn s.heap.place page) (page_slots pool)
