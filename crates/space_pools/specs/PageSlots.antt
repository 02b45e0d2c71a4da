-- What a contract sees of one page: its pool, its slots, and whether it waits for a sweep.
use Rattle.std.specs.Prelude.{◌≡◌, ℕ, ◌<◌, Bool, true, false, List, [], length, map, replicate, is_none, is_some, Option, None, Some, option_map, slice_index_or, slice_set, if◌then◌else◌}
use Rattle.std.specs.List.{range_with_len}
use Rattle.std.specs.Simd.Lanes.{put_chunk}
use Rattle.space_model.specs.Layout.{page_slots}
use Rattle.space_planes.specs.Planes.{bit}
use Rattle.space_pages.specs.Slots.{words_of, slot_words}

-- a page: its pool, which a spare page has none of, what is found in each slot: nothing where it is free, and else its words, and whether it waits for a sweep
pub record PageSlots : Type 0 where
  pub pool : Option ℕ
  pub slots : List (Option (List ℕ))
  pub unswept : Bool

-- a spare page
abbrev pub spare_page : PageSlots
spare_page = record { pool = None; slots = []; unswept = false }

-- a page of the pool whose slots are all free
abbrev pub free_page : ℕ → PageSlots
free_page pool = record { pool = Some pool; slots = replicate (page_slots pool) None; unswept = false }

-- how many words a slot has on a page of this pool; none on a spare page
abbrev pub width_of : Option ℕ → ℕ
width_of None = 0
width_of (Some pool) = words_of pool

-- how many slots a page of this pool has; none where it is spare
abbrev pub count_of : Option ℕ → ℕ
count_of None = 0
count_of (Some pool) = page_slots pool

-- whether the page has this slot and it is free
abbrev pub free_in : PageSlots → ℕ → Bool
free_in p slot = is_none (slice_index_or p.slots slot (Some []))

-- whether the page has this slot and it isn't free
abbrev pub used_in : PageSlots → ℕ → Bool
used_in p slot = is_some (slice_index_or p.slots slot None)

-- the words of a slot that isn't free; none where it is free, and where there is no such slot
abbrev pub found_in : PageSlots → ℕ → Option (List ℕ)
found_in p slot = slice_index_or p.slots slot None

-- the page after this was put into a slot
abbrev pub with_found_in : PageSlots → ℕ → Option (List ℕ) → PageSlots
with_found_in p slot found = record p { slots = slice_set p.slots slot found }

-- the words of each slot that isn't free stand in its place among these words of a page
abbrev pub HoldsSlots : PageSlots → List ℕ → Type 0
HoldsSlots p words = (pool slot : ℕ) (found : List ℕ) → p.pool ≡ Some pool → found_in p slot ≡ Some found → slot_words words pool slot ≡ found

-- allocations pass over the page: it waits for a sweep, or no slot of it is free
abbrev pub IsPassedOver : PageSlots → Type 0
IsPassedOver p = (slot : ℕ) → p.unswept ≡ false → free_in p slot ≡ false

-- the slot is the first free one of a page that doesn't wait for a sweep
pub record IsFirstFree (p : PageSlots) (slot : ℕ) : Type 0 where
  pub is_swept : p.unswept ≡ false
  pub is_free : free_in p slot ≡ true
  pub below : (other : ℕ) → other < slot → free_in p other ≡ false

-- q is the page after a slot got words, which aren't told, and so isn't free
pub record TakesSlot (p q : PageSlots) (slot : ℕ) : Type 0 where
  pub words : List ℕ
  pub long : length words ≡ width_of p.pool
  pub becomes : q ≡ with_found_in p slot (Some words)

-- the page after words were written from the start of a slot on: where they are as many as the slot has, they are its words, and all else stays
unfoldable pub written_in : PageSlots → ℕ → List ℕ → PageSlots
written_in p slot words = with_found_in p slot (option_map (λ old. put_chunk 0 old words) (found_in p slot))

-- the page after it came to wait for a sweep
abbrev pub held_in : PageSlots → PageSlots
held_in p = record p { unswept = true }

-- each free slot of the page is in the plane
abbrev pub HasEachFree : PageSlots → List Bool → Type 0
HasEachFree p free = (slot : ℕ) → free_in p slot ≡ true → bit free slot ≡ true

-- what is found in a slot after those of the plane became free
abbrev pub freed_found : PageSlots → List Bool → ℕ → Option (List ℕ)
freed_found p free slot = if bit free slot then None else found_in p slot

-- the page after the slots of the plane became free; it waits for no sweep
unfoldable pub freed_in : PageSlots → List Bool → PageSlots
freed_in p free = record p { slots = map (freed_found p free) (range_with_len 0 (length p.slots)); unswept = false }
