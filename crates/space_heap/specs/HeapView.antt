-- What a contract sees of the heap: pages of slots, the grey objects, the phase and the counters.
use Rattle.std.specs.Prelude.{ℕ, ◌*◌, ◌/◌, ◌%◌, Bool, nat_eq, nat_le, nat_lt, ◌==◌, ◌&&◌, List, [], ◌∷◌, ◌++◌, length, map, replicate, Option, None, Some, slice_index_or, slice_set, if◌then◌else◌}
use Rattle.std.specs.Set.{is_member}
use Rattle.space_model.specs.declared.phase.Phase.{Phase}
use Rattle.space_model.specs.declared.phase.Phase.TheVariants.{Idle}
use Rattle.space_model.specs.Layout.{slot_bytes, page_slots, page_of}
use Rattle.space_heap.specs.Slots.{ObjectView, SlotView, Free, map_slot}

-- a page: its pool, which a spare page has none of, and its slots
pub record PageView : Type 0 where
  pub pool : Option ℕ
  pub slots : List SlotView

-- how many allocations, minor verdicts, major and full verdicts, freed slots, compactions and moves there were
pub record Counters : Type 0 where
  -- how many objects were ever allocated, which is the last name too
  pub born : ℕ
  pub minor_verdicts : ℕ
  pub other_verdicts : ℕ
  pub freed : ℕ
  pub compactions : ℕ
  pub moves : ℕ

-- a heap as callers see it
pub record HeapView : Type 0 where
  -- the most pages
  pub limit : ℕ
  pub pages : List PageView
  -- the pages that wait for a sweep, ascending
  pub unswept : List ℕ
  -- the addresses of the grey objects, in the order in which they became grey
  pub grey : List ℕ
  -- what the collector is at
  pub phase : Phase
  -- where a compaction has come to; 0 until there is one
  pub cursor : ℕ
  pub counters : Counters

-- nothing was counted yet
abbrev pub no_counters : Counters
no_counters = record { born = 0; minor_verdicts = 0; other_verdicts = 0; freed = 0; compactions = 0; moves = 0 }

-- a heap without a page
abbrev pub empty_heap : ℕ → HeapView
empty_heap limit = record { limit = limit; pages = []; unswept = []; grey = []; phase = Idle; cursor = 0; counters = no_counters }

-- a spare page, which has no slots; it is read where there is no page
abbrev pub no_page : PageView
no_page = record { pool = None; slots = [] }

-- a page; it is as a spare one where there is none
abbrev pub page_at : HeapView → ℕ → PageView
page_at v page = slice_index_or v.pages page no_page

-- the pool of a page; none for a spare page, and where there is no page
abbrev pub pool_at : HeapView → ℕ → Option ℕ
pool_at v page = (page_at v page).pool

-- whether the page waits for a sweep
abbrev pub is_unswept : HeapView → ℕ → Bool
is_unswept v page = is_member nat_eq v.unswept page

-- the bytes of a slot of such a page
abbrev pub bytes_of : Option ℕ → ℕ
bytes_of None = 0
bytes_of (Some pool) = slot_bytes pool

-- which slot of such a page an address is in
abbrev pub slot_number : Option ℕ → ℕ → ℕ
slot_number pool a = (a % 65536) / bytes_of pool

-- whether the address, on a page of this pool with so many slots, is the start of one
abbrev pub is_start : Option ℕ → ℕ → ℕ → Bool
is_start pool count a = nat_le 65536 a && (nat_lt (slot_number pool a) count && (bytes_of pool * slot_number pool a == a % 65536))

-- the page of an address
abbrev pub page_with : HeapView → ℕ → PageView
page_with v a = page_at v (page_of a)

-- the pool of the page of an address
unfoldable pub pool_with : HeapView → ℕ → Option ℕ
pool_with v a = (page_with v a).pool

-- whether the address is the start of a slot
unfoldable pub is_slot : HeapView → ℕ → Bool
is_slot v a = is_start (page_with v a).pool (length (page_with v a).slots) a

-- the slot that starts at the address; it is as a free one where there is none
unfoldable pub slot_at : HeapView → ℕ → SlotView
slot_at v a = if is_slot v a then slice_index_or (page_with v a).slots (slot_number (page_with v a).pool a) Free else Free

-- the page after one slot changed
abbrev pub with_slot_in : PageView → ℕ → SlotView → PageView
with_slot_in p slot s = record p { slots = slice_set p.slots slot s }

-- the heap after the slot that starts at the address changed; nothing changes where there is none
unfoldable pub with_slot : HeapView → ℕ → SlotView → HeapView
with_slot v a s =
    if is_slot v a
    then record v { pages = slice_set v.pages (page_of a) (with_slot_in (page_with v a) (slot_number (page_with v a).pool a) s) }
    else v

-- the page after each of its objects became what this gives of it
abbrev pub map_page : (ObjectView → ObjectView) → PageView → PageView
map_page f p = record p { slots = map (map_slot f) p.slots }

-- a page of the pool whose slots are all free
abbrev pub free_page : ℕ → PageView
free_page pool = record { pool = Some pool; slots = replicate (page_slots pool) Free }

-- the heap after a page of its own, or the next one, became one of the pool whose slots are all free
unfoldable pub with_page : HeapView → ℕ → ℕ → HeapView
with_page v page pool = record v { pages = if nat_lt page (length v.pages) then slice_set v.pages page (free_page pool) else v.pages ++ free_page pool ∷ [] }
