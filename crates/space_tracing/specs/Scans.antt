-- What visits of words and a scan of an object leave.
use Rattle.std.specs.Prelude.{ℕ, zero, suc, ◌-◌, Bool, List, length, slice_index_or, if◌then◌else◌}
use Rattle.std.specs.List.{fold, list_any}
use Rattle.space_heap.specs.HeapView.{HeapView}
use Rattle.space_heap.specs.Objects.{object_of}
use Rattle.space_heap.specs.Marking.{visited, blackened}
use Rattle.space_heap.specs.Generations.{is_aged, remembered_as, visited_by_aged, is_young_word}

-- the words of the fields of the object at an address
abbrev pub fields_of : HeapView → ℕ → List ℕ
fields_of v a = (object_of v a).fields

-- whether the object at an address has age 2 or more
abbrev pub is_aged_at : HeapView → ℕ → Bool
is_aged_at v a = is_aged (object_of v a)

-- words were visited in their order
unfoldable pub visited_all : HeapView → List ℕ → HeapView
visited_all v words = fold visited v words

-- words of the fields of an object of age 2 or more were visited in their order
unfoldable pub visited_all_by_aged : HeapView → List ℕ → HeapView
visited_all_by_aged v words = fold visited_by_aged v words

-- whether one of the words names a protected object of age 0 or 1
unfoldable pub is_any_young : HeapView → List ℕ → Bool
is_any_young v words = list_any (is_young_word v) words

-- whether the object at the address has a protected child of age 0 or 1
abbrev pub has_young_child : HeapView → ℕ → Bool
has_young_child v a = is_any_young v (fields_of v a)

-- The fields of an object were visited in their order. One of age 2 or more is then remembered exactly where it has a protected child of age 0 or
-- 1, and each unprotected child of it is kept.
abbrev pub read_object : HeapView → ℕ → HeapView
read_object v a =
    if is_aged_at v a
    then remembered_as (visited_all_by_aged v (fields_of v a)) a (has_young_child v a)
    else visited_all v (fields_of v a)

-- the object that became grey last was scanned: it is black, and its fields were visited
abbrev pub scanned : HeapView → ℕ → HeapView
scanned v a = read_object (blackened v a) a

-- the address of the object that became grey last; 0, where no object stands, where none is grey
abbrev pub last_grey : HeapView → ℕ
last_grey v = slice_index_or v.grey (length v.grey - 1) 0

-- so many scans were made, each of the object that then was the one that became grey last
unfoldable pub scans : ℕ → HeapView → HeapView
scans zero v = v
scans (suc k) v = (let u : HeapView = scans k v in scanned u (last_grey u))
