-- The last movable object of a pool below an address.
use Rattle.std.specs.Prelude.{◌≡◌, ℕ, ◌<◌, Bool, true, false, ◌&&◌}
use Rattle.space_model.specs.Layout.{page_of}
use Rattle.space_heap.specs.HeapView.{HeapView, pool_at}
use Rattle.space_heap.specs.FreeSlots.{is_pool}
use Rattle.space_heap.specs.Relocation.{is_movable}

-- whether an object stands at the address that isn't gone and isn't pinned, on a page of the pool
abbrev pub is_movable_in : HeapView → ℕ → ℕ → Bool
is_movable_in v pool a = is_movable v a && is_pool (pool_at v (page_of a)) pool

-- no object of the pool below this address can be moved
abbrev pub HasNoMovable : HeapView → ℕ → ℕ → Type 0
HasNoMovable v pool below = (a : ℕ) → a < below → is_movable_in v pool a ≡ false

-- the highest address below this one where an object of the pool stands that can be moved
pub record IsLastMovable (v : HeapView) (pool below a : ℕ) : Type 0 where
  pub under : a < below
  pub is : is_movable_in v pool a ≡ true
  pub after : (b : ℕ) → a < b → b < below → is_movable_in v pool b ≡ false
