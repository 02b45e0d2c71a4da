-- The heap after an object was moved, and after the moves of a compaction ended; and its pins.
use Rattle.std.specs.Prelude.{◌≡◌, ℕ, ◌+◌, Bool, true, false, not, ◌&&◌, [], map, Some}
use Rattle.space_model.specs.Layout.{page_of}
use Rattle.space_heap.specs.Slots.{ObjectView, SlotView, Free, Moved, Object}
use Rattle.space_heap.specs.HeapView.{PageView, HeapView, pool_at, with_slot, map_page}
use Rattle.space_heap.specs.Objects.{is_object, object_of, with_object}
use Rattle.space_heap.specs.FreeSlots.{IsLeastFree}
use Rattle.space_heap.specs.Sweeping.{page_with_slots}

-- an object that isn't gone stands at the first address, and the second is the least free one of its pool
pub record IsMove (v : HeapView) (from to : ℕ) : Type 0 where
  pub pool : ℕ
  pub object : is_object v from ≡ true
  pub its : pool_at v (page_of from) ≡ Some pool
  pub least : IsLeastFree v pool to

-- the heap after the object at the first address was moved to the second: the slot that it left holds the new address, and the move is counted
unfoldable pub relocated : HeapView → ℕ → ℕ → HeapView
relocated v from to =
    let w : HeapView = with_slot (with_slot v to (Object (object_of v from))) from (Moved to) in
    record w { counters = record w.counters { moves = w.counters.moves + 1 } }

-- the slot after the moves ended: it is free where an object had left it
abbrev pub ended_slot : SlotView → SlotView
ended_slot Free = Free
ended_slot (Moved to) = Free
ended_slot (Object o) = Object o

-- the page after the moves ended; where all its slots are free it is spare
abbrev pub ended_page : PageView → PageView
ended_page p = page_with_slots p.pool (map ended_slot p.slots)

-- the heap after the moves ended, which are one compaction more; no page waits for a sweep
unfoldable pub ended : HeapView → HeapView
ended v = record v { pages = map ended_page v.pages; unswept = []; counters = record v.counters { compactions = v.counters.compactions + 1 } }

-- the object after it was pinned
abbrev pub pinned_object : ObjectView → ObjectView
pinned_object o = record o { pinned = true }

-- the heap after the object at the address was pinned
abbrev pub pinned_at : HeapView → ℕ → HeapView
pinned_at v a = with_object v a (pinned_object (object_of v a))

-- the object without its pin
abbrev pub unpinned_object : ObjectView → ObjectView
unpinned_object o = record o { pinned = false }

-- the heap after all pins were taken away
unfoldable pub unpinned : HeapView → HeapView
unpinned v = record v { pages = map (map_page unpinned_object) v.pages }

-- whether an object that isn't pinned stands at the address and isn't gone
abbrev pub is_movable : HeapView → ℕ → Bool
is_movable v a = is_object v a && not (object_of v a).pinned
