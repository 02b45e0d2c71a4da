-- Visits of objects: the words of their fields are resolved.
use Rattle.std.specs.Prelude.{◌≡◌, ℕ, zero, suc, ◌+◌, List, map}
use Rattle.space_heap.specs.Slots.{ObjectView}
use Rattle.space_heap.specs.HeapView.{HeapView}
use Rattle.space_heap.specs.Objects.{object_of, resolved, with_object}
use Rattle.space_heap.specs.Walks.{IsNextObject}

-- the object with each word of its fields resolved
abbrev pub fixed_object : HeapView → ℕ → ObjectView
fixed_object v a = let o : ObjectView = object_of v a in record o { fields = map (resolved v) o.fields }

-- the heap after the object at the address was visited: its words are resolved, and the cursor is past it
unfoldable pub visited : HeapView → ℕ → HeapView
visited v a = record (with_object v a (fixed_object v a)) { cursor = a + 1 }

-- w is v after so many visits, each of the object with the least address that isn't below the cursor
abbrev pub Visits : ℕ → HeapView → HeapView → Type 0
Visits zero v w = w ≡ v
Visits (suc n) v w = (a : ℕ) × IsNextObject v v.cursor a × Visits n (visited v a) w

-- the roots with their words resolved
abbrev pub resolved_roots : HeapView → List (List ℕ × ℕ) → List (List ℕ × ℕ)
resolved_roots v roots = map (λ (root : List ℕ × ℕ). (root.0, resolved v root.1)) roots
