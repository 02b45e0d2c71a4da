-- Slots and their pools, free addresses, and where a new object stands.
use Rattle.std.specs.Prelude.{◌≡◌, ◌≢◌, ◌⊎◌, ℕ, ◌<◌, ◌≤◌, false, List, length, nat_eq, Option, None, Some}
use Rattle.std.specs.Set.{is_member}
use Rattle.std.specs.FinMap.{get}
use Rattle.space_model.specs.Graph.{Item, item_of}
use Rattle.space_model.specs.Layout.{slot_address, page_slots, page_of, pool_for}
use Rattle.space_model.specs.Pages.{pool_at}
use Rattle.space_model.specs.State.{State}

-- the pool of a name
abbrev pub pool_of : List Item → ℕ → ℕ
pool_of graph name = pool_for (length (item_of graph name).values)

-- the address is the start of a slot of a page of the pool
pub record IsSlot (pages : List (Option ℕ)) (pool address : ℕ) : Type 0 where
  pub page : ℕ
  pub slot : ℕ
  pub has_pool : pool_at pages page ≡ Some pool
  pub on_page : slot < page_slots pool
  pub is : address ≡ slot_address page pool slot

-- the address is free for the pool: no object stands there, no corpse lies there, no object left it in this compaction, and its page
-- doesn't wait for a sweep
pub record IsFree (s : State) (pool address : ℕ) : Type 0 where
  pub at : IsSlot s.heap.pages pool address
  pub swept : is_member nat_eq s.heap.unswept (page_of address) ≡ false
  pub no_place : (name : ℕ) → get s.heap.place name ≢ Some address
  pub no_corpse : (name : ℕ) → get s.heap.corpses name ≢ Some address
  pub not_left : (name : ℕ) → get s.heap.left name ≢ Some address

-- the least address that is free for the pool
pub record IsNewAt (s : State) (pool address : ℕ) : Type 0 where
  pub free : IsFree s pool address
  pub least : (other : ℕ) → IsFree s pool other → address ≤ other

-- no address is free for the pool; pages that wait for a sweep don't count
abbrev pub HasNoFreeAddress : State → ℕ → Type 0
HasNoFreeAddress s pool = (address : ℕ) → IsFree s pool address → ⊥

-- the page is spare: it has no pool
abbrev pub IsSpare : State → ℕ → Type 0
IsSpare s page = (page < length s.heap.pages) × (pool_at s.heap.pages page ≡ None)

-- no page is spare
abbrev pub HasNoSpare : State → Type 0
HasNoSpare s = (page : ℕ) → IsSpare s page → ⊥

-- the page that gets a pool where none has a free slot: the lowest spare one, else the next one that the limit allows
abbrev pub IsFreshPage : State → ℕ → Type 0
IsFreshPage s page =
    (IsSpare s page × ((other : ℕ) → IsSpare s other → page ≤ other))
    ⊎ (HasNoSpare s × (page ≡ length s.heap.pages) × (page < s.heap.limit))
