-- The planes of a page at a move, and after the moves of a compaction ended.
use Rattle.std.specs.Prelude.{◌≡◌, ◌≢◌, ◌<◌, map, ℕ, true, false, List, length, replicate, slice_set}
use Rattle.space_planes.specs.Planes.{bit}
use Rattle.space_pools.specs.PoolsView.{PoolsView, unswept_at}
use Rattle.space_heap.specs.Relocation.{ended_page}
use Rattle.space_heap.specs.Inside.{page_in, pages_from, AreAllMarks}
use Rattle.space_heap.specs.declared.marks.Marks.{Marks}
use Rattle.space_heap.specs.declared.moves.Bits.{Bits}
use Rattle.space_heap.specs.planes.MarkPlanes.{marks_at}

-- the bits that an object takes along
abbrev pub bits_from : Marks → ℕ → Bits
bits_from m s = record {
  guard = bit m.guard s;
  marked = bit m.marked s;
  black = bit m.black s;
  age_low = bit m.age_low s;
  age_high = bit m.age_high s;
  remembered = bit m.remembered s;
  kept = bit m.kept s;
  pinned = bit m.pinned s;
}

-- the planes after an object that isn't gone came into a slot with these bits
abbrev pub carried_marks : Marks → ℕ → Bits → Marks
carried_marks m s b = record {
  object = slice_set m.object s true;
  moved = slice_set m.moved s false;
  guard = slice_set m.guard s b.guard;
  marked = slice_set m.marked s b.marked;
  black = slice_set m.black s b.black;
  age_low = slice_set m.age_low s b.age_low;
  age_high = slice_set m.age_high s b.age_high;
  remembered = slice_set m.remembered s b.remembered;
  kept = slice_set m.kept s b.kept;
  pinned = slice_set m.pinned s b.pinned;
  gone = slice_set m.gone s false;
}

-- the planes after the object of a slot left it
abbrev pub vacated_marks : Marks → ℕ → Marks
vacated_marks m s = record m { object = slice_set m.object s false; moved = slice_set m.moved s true }

-- the planes of all pages after the object of a slot came into another one too
abbrev pub with_carried : List Marks → ℕ → ℕ → ℕ → ℕ → List Marks
with_carried ms page slot to_page to_slot = slice_set ms to_page (carried_marks (marks_at ms to_page) to_slot (bits_from (marks_at ms page) slot))

-- the planes of all pages after the object of a slot left it
abbrev pub with_vacated : List Marks → ℕ → ℕ → List Marks
with_vacated ms page slot = slice_set ms page (vacated_marks (marks_at ms page) slot)

-- the planes of all pages after the object of a slot was moved to another one
abbrev pub with_moved : List Marks → ℕ → ℕ → ℕ → ℕ → List Marks
with_moved ms page slot to_page to_slot = with_vacated (with_carried ms page slot to_page to_slot) page slot

-- the planes after the moves ended
abbrev pub ended_marks : Marks → Marks
ended_marks m = record m { moved = replicate (length m.moved) false }

-- w and ns are the pools and the planes after the slots of a page that objects left became free
pub record EndsPage (v w : PoolsView) (ms ns : List Marks) (page : ℕ) : Type 0 where
  pub limit : w.limit ≡ v.limit
  pub count : length w.pages ≡ length v.pages
  pub pages : pages_from w ns ≡ slice_set (pages_from v ms) page (ended_page (page_in v ms page))
  pub swept : unswept_at w page ≡ false
  pub others : (k : ℕ) → k ≢ page → unswept_at w k ≡ unswept_at v k
  pub all : AreAllMarks w ns

-- w and ns are the pools and the planes after the slots of all pages that objects left became free
pub record EndsPages (v w : PoolsView) (ms ns : List Marks) : Type 0 where
  pub limit : w.limit ≡ v.limit
  pub count : length w.pages ≡ length v.pages
  pub pages : pages_from w ns ≡ map ended_page (pages_from v ms)
  pub swept : (k : ℕ) → k < length w.pages → unswept_at w k ≡ false
  pub all : AreAllMarks w ns
