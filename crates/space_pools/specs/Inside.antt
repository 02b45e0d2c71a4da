-- What the fields of a page stand for, and what holds of them.
use Rattle.std.specs.Prelude.{◌≡◌, ℕ, ◌<◌, ◌≤◌, true, false, List, length, map, Option, None, Some, if◌then◌else◌}
use Rattle.std.specs.List.{range_with_len}
use Rattle.space_planes.specs.Planes.{bit}
use Rattle.space_pools.specs.declared.pool_page.PoolPage.TheInside.{Inside}
use Rattle.space_pools.specs.Links.{slot_on, AreLinked, IsClearPast}
use Rattle.space_pools.specs.PageSlots.{PageSlots, count_of}

-- what is found in a slot
abbrev pub found_from : Inside → ℕ → Option (List ℕ)
found_from p slot = if bit p.free slot then None else Some (slot_on p.pool p.words slot)

-- the page, by its fields
abbrev pub page_from : Inside → PageSlots
page_from p = record { pool = p.pool; slots = map (found_from p) (range_with_len 0 (length p.free)); unswept = p.unswept }

-- what holds of the fields of every page
pub record IsPoolPage (p : Inside) : Type 0 where
  pub whole : length p.words ≡ 8192
  pub known : (pool : ℕ) → p.pool ≡ Some pool → pool < 5
  pub long : length p.free ≡ count_of p.pool
  -- the first free slot, and the number of slots where none is free
  pub within : p.lowest ≤ length p.free
  pub clear_below : (slot : ℕ) → slot < p.lowest → bit p.free slot ≡ false
  pub set_at : p.lowest < length p.free → bit p.free p.lowest ≡ true
  -- word 0 of each free slot is 0, and word 1 links it to the next one
  pub linked : AreLinked p.pool p.words p.free
  pub clear_past : IsClearPast p.pool p.words
