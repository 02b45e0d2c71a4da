-- The next address with a property, from an address on.
use Rattle.std.specs.Prelude.{◌≡◌, ◌↔◌, ℕ, ◌+◌, ◌*◌, ◌<◌, ◌≤◌, ◌^◌, Bool, true, false, length, Some}
use Rattle.space_model.specs.Layout.{page_bytes, page_slots, slot_address, page_of}
use Rattle.space_planes.specs.Planes.{bit}
use Rattle.space_heap.specs.declared.heap.walking.Found.{Found}
use Rattle.space_heap.specs.declared.heap.walking.Walk.{Walk}
use Rattle.space_heap.specs.declared.marks.Marks.{Marks}
use Rattle.space_heap.specs.declared.marks.Sought.{Sought}
use Rattle.space_heap.specs.declared.marks.Sought.TheVariants.{Present, Gone, MinorScan, FinishScan}
use Rattle.space_heap.specs.planes.MarkPlanes.{is_present, is_minor_scan_in, is_finish_scan_in}
use Rattle.space_heap.specs.HeapView.{HeapView, pool_at}
use Rattle.space_heap.specs.Objects.{is_object, object_of}
use Rattle.space_heap.specs.Sweeping.{is_gone}
use Rattle.space_heap.specs.Generations.{is_minor_scan, is_finish_scan}

-- no address from this one on passes the test
abbrev pub HasNoneFrom : (ℕ → Bool) → ℕ → Type 0
HasNoneFrom test from = (a : ℕ) → from ≤ a → test a ≡ false

-- the least address from this one on that passes the test
pub record IsNext (test : ℕ → Bool) (from a : ℕ) : Type 0 where
  pub from_there : from ≤ a
  pub is : test a ≡ true
  pub before : (b : ℕ) → from ≤ b → b < a → test b ≡ false

-- no address on the page from this one on passes the test
abbrev pub HasNoneOn : (ℕ → Bool) → ℕ → ℕ → Type 0
HasNoneOn test page from = (a : ℕ) → page_of a ≡ page → from ≤ a → test a ≡ false

-- the least address on the page from this one on that passes the test
pub record IsNextOn (test : ℕ → Bool) (page from a : ℕ) : Type 0 where
  pub on : page_of a ≡ page
  pub from_there : from ≤ a
  pub is : test a ≡ true
  pub before : (b : ℕ) → page_of b ≡ page → from ≤ b → b < a → test b ≡ false

-- no address from this one on names an object
abbrev pub HasNoObjectFrom : HeapView → ℕ → Type 0
HasNoObjectFrom v from = HasNoneFrom (is_object v) from

-- the least address from this one on that names an object
abbrev pub IsNextObject : HeapView → ℕ → ℕ → Type 0
IsNextObject v from a = IsNext (is_object v) from a

-- no gone object stands from this address on
abbrev pub HasNoGoneFrom : HeapView → ℕ → Type 0
HasNoGoneFrom v from = HasNoneFrom (is_gone v) from

-- the least address from this one on where a gone object stands
abbrev pub IsNextGone : HeapView → ℕ → ℕ → Type 0
IsNextGone v from a = IsNext (is_gone v) from a

-- from this address on a minor marking scans no object again
abbrev pub HasNoMinorScanFrom : HeapView → ℕ → Type 0
HasNoMinorScanFrom v from = HasNoneFrom (is_minor_scan v) from

-- the least address from this one on whose object a minor marking scans again
abbrev pub IsNextMinorScan : HeapView → ℕ → ℕ → Type 0
IsNextMinorScan v from a = IsNext (is_minor_scan v) from a

-- from this address on the end of a major marking scans no object again
abbrev pub HasNoFinishScanFrom : HeapView → ℕ → Type 0
HasNoFinishScanFrom v from = HasNoneFrom (is_finish_scan v) from

-- the least address from this one on whose object the end of a major marking scans again
abbrev pub IsNextFinishScan : HeapView → ℕ → ℕ → Type 0
IsNextFinishScan v from a = IsNext (is_finish_scan v) from a

-- whether a slot of the page with these planes holds what is sought
abbrev pub is_sought_in : Sought → Marks → ℕ → Bool
is_sought_in Present m s = is_present m s
is_sought_in Gone m s = bit m.gone s
is_sought_in MinorScan m s = is_minor_scan_in m s
is_sought_in FinishScan m s = is_finish_scan_in m s

-- whether what is sought stands at the address
abbrev pub is_sought : Sought → HeapView → ℕ → Bool
is_sought Present v a = is_object v a
is_sought Gone v a = is_gone v a
is_sought MinorScan v a = is_minor_scan v a
is_sought FinishScan v a = is_finish_scan v a

-- what is sought at the least address from this one on, with its name
abbrev pub IsFound : Sought → HeapView → ℕ → Found → Type 0
IsFound sought v from found = IsNext (is_sought sought v) from found.address × (found.name ≡ (object_of v found.address).name)

-- what is sought on the page at the least address from this one on, with its name
abbrev pub IsFoundOn : Sought → HeapView → ℕ → ℕ → Found → Type 0
IsFoundOn sought v page from found = IsNextOn (is_sought sought v) page from found.address × (found.name ≡ (object_of v found.address).name)

-- the gone object with the least address from this one on, and its name
abbrev pub IsFoundGone : HeapView → ℕ → Found → Type 0
IsFoundGone v from found = IsNextGone v from found.address × (found.name ≡ (object_of v found.address).name)

-- no gone object stands on the page from this address on
abbrev pub HasNoGoneOn : HeapView → ℕ → ℕ → Type 0
HasNoGoneOn v page from = HasNoneOn (is_gone v) page from

-- the gone object with the least address on the page from this one on, and its name
abbrev pub IsFoundGoneOn : HeapView → ℕ → ℕ → Found → Type 0
IsFoundGoneOn v page from found = IsNextOn (is_gone v) page from found.address × (found.name ≡ (object_of v found.address).name)

-- of the slots of the page those from this one on start at the address or later
abbrev pub StartsFrom : HeapView → ℕ → ℕ → ℕ → Type 0
StartsFrom v page slot from = (pool k : ℕ) → pool_at v page ≡ Some pool → k < page_slots pool → (slot ≤ k) ↔ (from ≤ slot_address page pool k)

-- the walk goes on with what stands from this address on
pub record IsWalkFrom (v : HeapView) (walk : Walk) (from : ℕ) : Type 0 where
  pub slots : StartsFrom v walk.page walk.slot from
  -- the address is not past the end of the page, and none from it on is on an earlier one
  pub within : from ≤ page_bytes * (walk.page + 2)
  pub after : (b : ℕ) → from ≤ b → walk.page ≤ page_of b

-- how far the walk has come
abbrev pub place_of : Walk → ℕ
place_of walk = 2 ^ 32 * walk.page + walk.slot

-- the second walk has come further, and not past the last page
pub record IsFurther (v : HeapView) (old new : Walk) : Type 0 where
  pub further : place_of old < place_of new
  pub within : place_of new ≤ 2 ^ 32 * length v.pages
