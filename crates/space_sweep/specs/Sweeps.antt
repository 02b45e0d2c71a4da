-- The pages that wait for a sweep, and the heap after the first of them was swept.
use Rattle.std.specs.Prelude.{◌≡◌, ℕ, ◌<◌, ◌≤◌, true, false, List, [], ◌∷◌, length}
use Rattle.space_model.specs.declared.phase.Phase.{Phase}
use Rattle.space_model.specs.declared.phase.Phase.TheVariants.{Idle}
use Rattle.space_model.specs.Counts.{CountIs}
use Rattle.space_heap.specs.HeapView.{HeapView, is_unswept}
use Rattle.space_heap.specs.Sweeping.{IsGoneOn, swept}
pub use Rattle.space_heap.specs.Sweeping.{IsFirstUnswept}

-- the lowest page from this one on that waits
pub record IsNextUnswept (v : HeapView) (from page : ℕ) : Type 0 where
  pub from_there : from ≤ page
  pub within : page < length v.pages
  pub is : is_unswept v page ≡ true
  pub before : (other : ℕ) → from ≤ other → other < page → is_unswept v other ≡ false

-- the phase after the sweep of a page: where no other page waits nothing is under way
abbrev pub phase_left : List ℕ → Phase → Phase
phase_left [] phase = Idle
phase_left (page ∷ pages) phase = phase

-- w is v after the first page that waits was swept, which made so many slots free
pub record SweepsFirst (v w : HeapView) (freed : ℕ) : Type 0 where
  pub page : ℕ
  pub others : List ℕ
  pub first : v.unswept ≡ page ∷ others
  pub after : w ≡ record (swept v page) { phase = phase_left others v.phase }
  pub count : CountIs (IsGoneOn v page) freed
