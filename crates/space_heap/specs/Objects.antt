-- What the crates above see of the heap: which addresses hold objects, which objects, and the heap after one of them changed.
use Rattle.std.specs.Prelude.{◌≡◌, ℕ, ◌+◌, Bool, false, slice_set, if◌then◌else◌}
use Rattle.space_heap.specs.Slots.{ObjectView, Object, has_object, has_present, has_moved, object_in, moved_in}
use Rattle.space_heap.specs.HeapView.{HeapView, slot_at, with_slot}

-- whether an object stands at the address, gone or not
unfoldable pub is_occupied : HeapView → ℕ → Bool
is_occupied v a = has_object (slot_at v a)

-- whether the word names an object: one that isn't gone stands there
unfoldable pub is_object : HeapView → ℕ → Bool
is_object v a = has_present (slot_at v a)

-- the object that stands at the address, gone or not; `no_object` where there is none
unfoldable pub object_of : HeapView → ℕ → ObjectView
object_of v a = object_in (slot_at v a)

-- the address to which the object that stood at this one was moved, else the word itself
unfoldable pub resolved : HeapView → ℕ → ℕ
resolved v word = moved_in word (slot_at v word)

-- whether the object that stood at the address was moved away
unfoldable pub is_moved : HeapView → ℕ → Bool
is_moved v a = has_moved (slot_at v a)

-- no object was moved away
abbrev pub HasNoMoved : HeapView → Type 0
HasNoMoved v = (a : ℕ) → is_moved v a ≡ false

-- the heap after the object at the address became this one; nothing changes where there is no object
unfoldable pub with_object : HeapView → ℕ → ObjectView → HeapView
with_object v a o = if is_occupied v a then with_slot v a (Object o) else v

-- the heap after this object was allocated at the address
unfoldable pub placed : HeapView → ℕ → ObjectView → HeapView
placed v a o = let w : HeapView = with_slot v a (Object o) in record w { counters = record w.counters { born = w.counters.born + 1 } }

-- the heap after a field of the object at the address got this word
abbrev pub written : HeapView → ℕ → ℕ → ℕ → HeapView
written v a i word = with_object v a (let o : ObjectView = object_of v a in record o { fields = slice_set o.fields i word })
