-- The planes of a page after a mark of an object changed, after all marks were taken away, and as a minor marking begins.
use Rattle.std.specs.Prelude.{ℕ, Bool, true, false, List, length, replicate, slice_set}
use Rattle.space_planes.specs.Planes.{set_in_both, set_in_either, set_in_first_only}
use Rattle.space_heap.specs.declared.colour.Colour.{Colour}
use Rattle.space_heap.specs.declared.colour.Colour.TheVariants.{White, Grey, Black}
use Rattle.space_heap.specs.declared.marks.Marks.{Marks}

-- whether an object of this colour is marked
abbrev pub is_marked : Colour → Bool
is_marked White = false
is_marked Grey = true
is_marked Black = true

-- whether the fields of an object of this colour were read
abbrev pub is_black : Colour → Bool
is_black White = false
is_black Grey = false
is_black Black = true

-- the planes after the object of a slot got this colour
abbrev pub recoloured_marks : Marks → ℕ → Colour → Marks
recoloured_marks m s colour = record m { marked = slice_set m.marked s (is_marked colour); black = slice_set m.black s (is_black colour) }

-- the planes after all marks were taken away: every object is white, and neither remembered nor kept
abbrev pub unmarked_marks : Marks → Marks
unmarked_marks m = record m {
  marked = replicate (length m.marked) false;
  black = replicate (length m.black) false;
  remembered = replicate (length m.remembered) false;
  kept = replicate (length m.kept) false;
}

-- the planes after the object of a slot was remembered, or isn't any more
abbrev pub remembered_marks : Marks → ℕ → Bool → Marks
remembered_marks m s remembered = record m { remembered = slice_set m.remembered s remembered }

-- the planes after the object of a slot was kept
abbrev pub kept_marks : Marks → ℕ → Marks
kept_marks m s = record m { kept = slice_set m.kept s true }

-- the planes after the object of a slot became unprotected: it has age 0, and isn't remembered
abbrev pub unprotected_marks : Marks → ℕ → Marks
unprotected_marks m s = record m {
  guard = slice_set m.guard s true;
  age_low = slice_set m.age_low s false;
  age_high = slice_set m.age_high s false;
  remembered = slice_set m.remembered s false;
}

-- the plane of what is old or kept
abbrev pub old_or_kept : Marks → List Bool
old_or_kept m = set_in_either (set_in_first_only (set_in_both m.age_low m.age_high) m.guard) m.kept

-- the planes as a minor marking begins: old and kept objects are black, all others are white
abbrev pub old_marked_marks : Marks → Marks
old_marked_marks m = record m { marked = old_or_kept m; black = old_or_kept m }
