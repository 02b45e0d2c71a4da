-- Which object is moved next, and where to. That pools are packed one after another is this project's own.
use Rattle.std.specs.Prelude.{◌≡◌, ℕ, ◌+◌, ◌-◌, ◌*◌, ◌<◌, ◌≤◌, true}
use Rattle.space_heap.specs.HeapView.{HeapView}
use Rattle.space_heap.specs.Objects.{object_of}
use Rattle.space_heap.specs.FreeSlots.{IsFreeAt, IsLeastFree}
use Rattle.space_heap.specs.LastMovable.{is_movable_in}
use Rattle.space_heap.specs.Relocation.{relocated}
use Rattle.space_compact.specs.declared.moving.Fingers.{Fingers}
use Rattle.space_compact.specs.declared.moving.Moved.{Moved}

-- no object of the pool that can be moved stands above a free slot
abbrev pub IsPackedIn : HeapView → ℕ → Type 0
IsPackedIn v pool = (a b : ℕ) → is_movable_in v pool a ≡ true → IsFreeAt v pool b → a ≤ b

-- the heap is packed: this is so in each pool
abbrev pub IsPacked : HeapView → Type 0
IsPacked v = (pool : ℕ) → pool < 5 → IsPackedIn v pool

-- in the pool an object that can be moved stands above a free slot; this is the highest such object, and the least free address
pub record IsMoveIn (v : HeapView) (pool from to : ℕ) : Type 0 where
  pub known : pool < 5
  pub is : is_movable_in v pool from ≡ true
  pub highest : (a : ℕ) → is_movable_in v pool a ≡ true → a ≤ from
  pub least : IsLeastFree v pool to
  pub lower : to < from

-- the next move: it is in the first pool in which an object that can be moved stands above a free slot
pub record IsNextMove (v : HeapView) (pool from to : ℕ) : Type 0 where
  pub first : (before : ℕ) → before < pool → IsPackedIn v before
  pub its : IsMoveIn v pool from to

-- in the pools below this one nothing is to be moved, and in this one nothing at or above the address
pub record AreFingers (v : HeapView) (f : Fingers) : Type 0 where
  pub done : (pool : ℕ) → pool < f.pool → IsPackedIn v pool
  pub below : (a : ℕ) → is_movable_in v f.pool a ≡ true → a < f.high
  pub small : f.high ≤ 536870912

-- what is left to be looked at: it falls with each move, so the moves of one command end
abbrev pub room_of : Fingers → ℕ
room_of f = (5 - f.pool) * 536870912 + f.high

-- w is v after the next move, which was that of this object
pub record Moves (v w : HeapView) (moved : Moved) : Type 0 where
  pub pool : ℕ
  pub next : IsNextMove v pool moved.from moved.to
  pub named : moved.name ≡ (object_of v moved.from).name
  pub becomes : w ≡ relocated v moved.from moved.to
