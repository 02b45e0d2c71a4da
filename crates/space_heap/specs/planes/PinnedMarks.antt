-- The planes of a page after an object was pinned, and after all pins were taken away; and which objects can be moved.
use Rattle.std.specs.Prelude.{ℕ, Bool, true, false, not, ◌&&◌, length, replicate, slice_set}
use Rattle.space_planes.specs.Planes.{bit}
use Rattle.space_heap.specs.declared.marks.Marks.{Marks}
use Rattle.space_heap.specs.planes.MarkPlanes.{is_present}

-- the planes after the object of a slot was pinned
abbrev pub pinned_marks : Marks → ℕ → Marks
pinned_marks m s = record m { pinned = slice_set m.pinned s true }

-- the planes after all pins were taken away
abbrev pub unpinned_marks : Marks → Marks
unpinned_marks m = record m { pinned = replicate (length m.pinned) false }

-- whether the slot holds an object that isn't gone and isn't pinned
abbrev pub is_movable_slot : Marks → ℕ → Bool
is_movable_slot m s = is_present m s && not (bit m.pinned s)
