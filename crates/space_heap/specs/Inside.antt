-- What the fields of a heap stand for, and what holds of them.
use Rattle.std.specs.Prelude.{◌≡◌, ℕ, ◌*◌, ◌≤◌, true, false, not, ◌&&◌, List, length, map, vec_capacity, is_some, Option, Some}
use Rattle.std.specs.List.{range_with_len, filter}
use Rattle.space_model.specs.declared.phase.Phase.{Phase}
use Rattle.space_planes.specs.Planes.{bit}
use Rattle.space_pools.specs.PageSlots.{PageSlots, found_in}
use Rattle.space_pools.specs.PoolsView.{PoolsView, page_at, unswept_at}
use Rattle.space_heap.specs.declared.marks.Marks.{Marks}
use Rattle.space_heap.specs.declared.heap.Heap.TheInside.{Inside}
use Rattle.space_heap.specs.Slots.{SlotView}
use Rattle.space_heap.specs.words.ObjectWords.{AreObjectWords}
use Rattle.space_heap.specs.HeapView.{PageView, Counters, HeapView}
use Rattle.space_heap.specs.planes.MarkPlanes.{marks_at, AreWide, slot_from}
use Rattle.space_heap.specs.Marking.{IsCoherent}

-- a slot of a page, by the words of the page and its planes
abbrev pub slot_in : PageSlots → Marks → ℕ → SlotView
slot_in p m s = slot_from (found_in p s) m s

-- a page, by its words and its planes
abbrev pub page_from : PageSlots → Marks → PageView
page_from p m = record { pool = p.pool; slots = map (slot_in p m) (range_with_len 0 (length p.slots)) }

-- the page with this number, by the pools and all planes
abbrev pub page_in : PoolsView → List Marks → ℕ → PageView
page_in v marks page = page_from (page_at v page) (marks_at marks page)

-- all pages, by the pools and all planes
abbrev pub pages_from : PoolsView → List Marks → List PageView
pages_from v marks = map (page_in v marks) (range_with_len 0 (length v.pages))

-- the pages that wait for a sweep
abbrev pub unswept_in : PoolsView → List ℕ
unswept_in v = filter (unswept_at v) (range_with_len 0 (length v.pages))

-- what a heap's view has besides what its pools and its planes tell
pub record Rest : Type 0 where
  pub grey : List ℕ
  pub phase : Phase
  pub cursor : ℕ
  pub counters : Counters

-- what the fields of a heap tell besides its pools and its planes
abbrev pub rest_of : Inside → Rest
rest_of h = record {
  grey = h.grey.items;
  phase = h.phase;
  cursor = h.cursor;
  counters = record {
    born = h.born;
    minor_verdicts = h.minor_verdicts;
    other_verdicts = h.other_verdicts;
    freed = h.freed;
    compactions = h.compactions;
    moves = h.moves;
  };
}

-- the view of these pools and planes, with this rest
abbrev pub view_with : PoolsView → List Marks → Rest → HeapView
view_with v marks rest = record {
  limit = v.limit;
  pages = pages_from v marks;
  unswept = unswept_in v;
  grey = rest.grey;
  phase = rest.phase;
  cursor = rest.cursor;
  counters = rest.counters;
}

-- the view of a heap, by its fields
abbrev pub view_from : Inside → HeapView
view_from h = view_with h.pools h.marks.items (rest_of h)

-- the slot is in exactly one of object, free and moved, an object has the words of one, and only an object is gone
pub record FitsSlot (found : Option (List ℕ)) (m : Marks) (s : ℕ) : Type 0 where
  pub object : bit m.object s ≡ (is_some found && not (bit m.moved s))
  pub moved : bit m.moved s ≡ true → is_some found ≡ true
  pub words : (words : List ℕ) → found ≡ Some words → bit m.moved s ≡ false → AreObjectWords words
  pub gone : bit m.gone s ≡ true → bit m.object s ≡ true

-- the planes have one bit for each slot of the page, and fit what is found in each
pub record AreMarksOf (p : PageSlots) (m : Marks) : Type 0 where
  pub wide : AreWide m (length p.slots)
  pub each : (s : ℕ) → FitsSlot (found_in p s) m s

-- there are planes for each page, and they fit it
pub record AreAllMarks (v : PoolsView) (marks : List Marks) : Type 0 where
  pub all : length marks ≡ length v.pages
  pub of_page : (page : ℕ) → AreMarksOf (page_at v page) (marks_at marks page)

-- what holds of the fields of every heap
pub record IsHeap (h : Inside) : Type 0 where
  pub marks : AreAllMarks h.pools h.marks.items
  pub room : h.pools.limit ≤ vec_capacity h.marks
  -- there is room for each slot on the mark stack
  pub places : 1638 * length h.pools.pages ≤ vec_capacity h.grey
  pub coherent : IsCoherent (view_from h)
