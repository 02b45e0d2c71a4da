-- What the planes of a page tell of a slot.
use Rattle.std.specs.Prelude.{◌≡◌, ℕ, ◌+◌, Bool, true, false, not, ◌&&◌, ◌||◌, List, length, replicate, Option, None, Some, slice_index_or, slice_set, if◌then◌else◌}
use Rattle.space_model.specs.declared.object.Guard.{Guard}
use Rattle.space_model.specs.declared.object.Guard.TheVariants.{Protected, Unprotected}
use Rattle.space_planes.specs.Planes.{bit}
use Rattle.space_heap.specs.declared.colour.Colour.{Colour}
use Rattle.space_heap.specs.declared.colour.Colour.TheVariants.{White, Grey, Black}
use Rattle.space_heap.specs.declared.marks.Marks.{Marks}
use Rattle.space_heap.specs.declared.marks.Traits.{Traits}
use Rattle.space_heap.specs.Slots.{ObjectView, SlotView, Free, Moved, Object}
use Rattle.space_heap.specs.words.ObjectWords.{word_at, style_from, fields_in}

-- planes of so many bits, which are all 0
abbrev pub clear_marks : ℕ → Marks
clear_marks n = record {
  object = replicate n false;
  moved = replicate n false;
  guard = replicate n false;
  marked = replicate n false;
  black = replicate n false;
  age_low = replicate n false;
  age_high = replicate n false;
  remembered = replicate n false;
  kept = replicate n false;
  pinned = replicate n false;
  gone = replicate n false;
}

-- the planes of a page
abbrev pub marks_at : List Marks → ℕ → Marks
marks_at marks page = slice_index_or marks page (clear_marks 0)

-- each plane has so many bits
pub record AreWide (m : Marks) (n : ℕ) : Type 0 where
  pub object : length m.object ≡ n
  pub moved : length m.moved ≡ n
  pub guard : length m.guard ≡ n
  pub marked : length m.marked ≡ n
  pub black : length m.black ≡ n
  pub age_low : length m.age_low ≡ n
  pub age_high : length m.age_high ≡ n
  pub remembered : length m.remembered ≡ n
  pub kept : length m.kept ≡ n
  pub pinned : length m.pinned ≡ n
  pub gone : length m.gone ≡ n

-- the bit of a guard: 1 where the write barrier doesn't protect the object
abbrev pub is_unprotected : Guard → Bool
is_unprotected Protected = false
is_unprotected Unprotected = true

-- the guard by its bit
abbrev pub guard_from : Bool → Guard
guard_from unprotected = if unprotected then Unprotected else Protected

-- the colour by its two bits
abbrev pub colour_from : Bool → Bool → Colour
colour_from marked black = if marked then (if black then Black else Grey) else White

-- the age, 0 to 3, by its two bits
abbrev pub age_from : Bool → Bool → ℕ
age_from low high = (if low then 1 else 0) + (if high then 2 else 0)

-- the planes after a new object was allocated in a slot
abbrev pub new_marks : Marks → ℕ → Guard → Marks
new_marks m s guard = record {
  object = slice_set m.object s true;
  moved = slice_set m.moved s false;
  guard = slice_set m.guard s (is_unprotected guard);
  marked = slice_set m.marked s false;
  black = slice_set m.black s false;
  age_low = slice_set m.age_low s false;
  age_high = slice_set m.age_high s false;
  remembered = slice_set m.remembered s false;
  kept = slice_set m.kept s false;
  pinned = slice_set m.pinned s false;
  gone = slice_set m.gone s false;
}

-- what the planes tell of the object of a slot
abbrev pub traits_from : Marks → ℕ → Traits
traits_from m s = record {
  guard = guard_from (bit m.guard s);
  colour = colour_from (bit m.marked s) (bit m.black s);
  age = age_from (bit m.age_low s) (bit m.age_high s);
  remembered = bit m.remembered s;
  kept = bit m.kept s;
  pinned = bit m.pinned s;
  gone = bit m.gone s;
}

-- these parts of an object
abbrev pub traits_of : ObjectView → Traits
traits_of o = record { guard = o.guard; colour = o.colour; age = o.age; remembered = o.remembered; kept = o.kept; pinned = o.pinned; gone = o.gone }

-- an object with these words and traits
abbrev pub object_from : List ℕ → Traits → ObjectView
object_from words t = record {
  name = word_at words 1;
  guard = t.guard;
  style = style_from (word_at words 0);
  fields = fields_in words;
  colour = t.colour;
  age = t.age;
  remembered = t.remembered;
  kept = t.kept;
  pinned = t.pinned;
  gone = t.gone;
}

-- a slot that isn't free, by its words, by whether it is moved and by its traits
abbrev pub used_from : List ℕ → Bool → Traits → SlotView
used_from words moved t = if moved then Moved (word_at words 1) else Object (object_from words t)

-- a slot by its words, where it isn't free, and its marks
abbrev pub slot_from : Option (List ℕ) → Marks → ℕ → SlotView
slot_from None m s = Free
slot_from (Some words) m s = used_from words (bit m.moved s) (traits_from m s)

-- whether the slot holds an object that isn't gone
abbrev pub is_present : Marks → ℕ → Bool
is_present m s = bit m.object s && not (bit m.gone s)

-- whether the object of the slot is old: it is protected, and has age 3
abbrev pub is_old_in : Marks → ℕ → Bool
is_old_in m s = (bit m.age_low s && bit m.age_high s) && not (bit m.guard s)

-- whether a minor marking scans the object of the slot again: it is present and black, and kept, or remembered, protected and of age 3
abbrev pub is_minor_scan_in : Marks → ℕ → Bool
is_minor_scan_in m s =
    is_present m s && ((bit m.marked s && bit m.black s) && ((is_old_in m s && bit m.remembered s) || bit m.kept s))

-- whether the end of a major marking scans the object of the slot again: it is present, black and unprotected
abbrev pub is_finish_scan_in : Marks → ℕ → Bool
is_finish_scan_in m s = is_present m s && ((bit m.marked s && bit m.black s) && bit m.guard s)
