-- The generations: which objects are old, what a minor marking scans again, and the heap after such a mark of an object changed.
use Rattle.std.specs.Prelude.{ℕ, ◌+◌, Bool, true, false, not, ◌&&◌, ◌||◌, [], map, min, nat_le, nat_lt, if◌then◌else◌}
use Rattle.space_model.specs.declared.object.Guard.{Guard}
use Rattle.space_model.specs.declared.object.Guard.TheVariants.{Protected, Unprotected}
use Rattle.space_model.specs.Ages.{is_protected_guard}
use Rattle.space_heap.specs.declared.colour.Colour.TheVariants.{White, Black}
use Rattle.space_heap.specs.Slots.{ObjectView}
use Rattle.space_heap.specs.HeapView.{HeapView, map_page}
use Rattle.space_heap.specs.planes.RecolouredMarks.{is_black}
use Rattle.space_heap.specs.Objects.{is_object, object_of, with_object}
use Rattle.space_heap.specs.Marking.{visited}

-- whether the object is old: it is protected, and has age 3
abbrev pub is_old : ObjectView → Bool
is_old o = is_protected_guard o.guard && nat_le 3 o.age

-- whether the object has age 2 or more: its scans tell whether it is remembered
abbrev pub is_aged : ObjectView → Bool
is_aged o = nat_le 2 o.age

-- the age after one more verdict: a protected object is one older, up to 3, and an unprotected one isn't
abbrev pub raised_age : Guard → ℕ → ℕ
raised_age Protected age = min (age + 1) 3
raised_age Unprotected age = age

-- the heap after the object at the address was remembered, or isn't any more
abbrev pub remembered_as : HeapView → ℕ → Bool → HeapView
remembered_as v a remembered = with_object v a (let o : ObjectView = object_of v a in record o { remembered = remembered })

-- the heap after the object at the address was kept
abbrev pub kept_at : HeapView → ℕ → HeapView
kept_at v a = with_object v a (let o : ObjectView = object_of v a in record o { kept = true })

-- the heap after the object at the address became unprotected: it has age 0, and isn't remembered
abbrev pub unprotected_at : HeapView → ℕ → HeapView
unprotected_at v a = with_object v a (let o : ObjectView = object_of v a in record o { guard = Unprotected; age = 0; remembered = false })

-- the object as a minor marking begins: it is black where it is old or kept, and white else
abbrev pub old_marked_object : ObjectView → ObjectView
old_marked_object o = record o { colour = if is_old o || o.kept then Black else White }

-- the heap as a minor marking begins: the old and the kept objects are black, all others white, and none is listed as grey
unfoldable pub old_marked : HeapView → HeapView
old_marked v = record v { pages = map (map_page old_marked_object) v.pages; grey = [] }

-- whether an object is one that a minor marking scans from its start: it is old and remembered, or it is kept
abbrev pub has_minor_scan : ObjectView → Bool
has_minor_scan o = (is_old o && o.remembered) || o.kept

-- whether a minor marking scans the object that the word names again: it is black, and has a reason
abbrev pub is_minor_scan : HeapView → ℕ → Bool
is_minor_scan v a = is_object v a && (is_black (object_of v a).colour && has_minor_scan (object_of v a))

-- whether the write barrier protects the object at an address
abbrev pub is_protected_at : HeapView → ℕ → Bool
is_protected_at v a = is_protected_guard (object_of v a).guard

-- whether the end of a major marking scans the object that the word names again: it is black, and the write barrier doesn't protect it
abbrev pub is_finish_scan : HeapView → ℕ → Bool
is_finish_scan v a = is_object v a && (is_black (object_of v a).colour && not (is_protected_at v a))

-- an unprotected object that the word names is kept
abbrev pub kept_by_word : HeapView → ℕ → HeapView
kept_by_word v word = if is_object v word && not (is_protected_at v word) then kept_at v word else v

-- a word was visited that a field of an object of age 2 or more has
abbrev pub visited_by_aged : HeapView → ℕ → HeapView
visited_by_aged v word = kept_by_word (visited v word) word

-- whether the word names a protected object of age 0 or 1
abbrev pub is_young_word : HeapView → ℕ → Bool
is_young_word v word = is_object v word && (is_protected_at v word && nat_lt (object_of v word).age 2)
