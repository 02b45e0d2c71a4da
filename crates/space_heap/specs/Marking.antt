-- The heap after an object became grey or black, and after all marks were taken away.
use Rattle.std.specs.Prelude.{◌≡◌, ℕ, ◌-◌, ◌<◌, ◌≤◌, Bool, true, false, ◌&&◌, List, [], ◌∷◌, ◌++◌, length, take, map, nat_eq, slice_index_or, if◌then◌else◌}
use Rattle.std.specs.List.{IsDistinct}
use Rattle.std.specs.Set.{is_member}
use Rattle.space_heap.specs.declared.colour.Colour.{Colour}
use Rattle.space_heap.specs.declared.colour.Colour.TheVariants.{White, Grey, Black}
use Rattle.space_heap.specs.Slots.{ObjectView}
use Rattle.space_heap.specs.HeapView.{HeapView, map_page}
use Rattle.space_heap.specs.Objects.{is_occupied, is_object, object_of, with_object}

-- the colour of the object at an address; white where there is none
abbrev pub colour_of : HeapView → ℕ → Colour
colour_of v a = (object_of v a).colour

-- the object after it got this colour
abbrev pub with_colour : ObjectView → Colour → ObjectView
with_colour o c = record o { colour = c }

-- the heap after the object at the address got this colour, and the list of grey addresses became this one
unfoldable pub recoloured : HeapView → ℕ → Colour → List ℕ → HeapView
recoloured v a c grey = record (with_object v a (with_colour (object_of v a) c)) { grey = grey }

-- the heap after the object became grey, the last that became so
abbrev pub greyed : HeapView → ℕ → HeapView
greyed v a = recoloured v a Grey (v.grey ++ a ∷ [])

-- whether it is the colour of what isn't marked
abbrev pub is_white : Colour → Bool
is_white White = true
is_white Grey = false
is_white Black = false

-- the heap after a word was visited: a white object that it names is grey
abbrev pub visited : HeapView → ℕ → HeapView
visited v word = if is_object v word && is_white (colour_of v word) then greyed v word else v

-- the address of the object that became grey last
abbrev pub IsLastGrey : HeapView → ℕ → Type 0
IsLastGrey v a = (0 < length v.grey) × (a ≡ slice_index_or v.grey (length v.grey - 1) 0)

-- the heap after the object, which was the last grey one, became black
abbrev pub blackened : HeapView → ℕ → HeapView
blackened v a = recoloured v a Black (take (length v.grey - 1) v.grey)

-- the object after its marks were taken away: it is white, and neither remembered nor kept
abbrev pub whitened : ObjectView → ObjectView
whitened o = record o { colour = White; remembered = false; kept = false }

-- the heap after all marks were taken away: each object, gone or not, is white, and neither remembered nor kept
unfoldable pub unmarked : HeapView → HeapView
unmarked v = record v { pages = map (map_page whitened) v.pages; grey = [] }

-- the list of grey addresses has each grey object once, and none of them is gone
pub record IsCoherent (v : HeapView) : Type 0 where
  pub once : IsDistinct nat_eq v.grey
  pub grey_listed : (a : ℕ) → colour_of v a ≡ Grey → is_member nat_eq v.grey a ≡ true
  pub listed_grey : (a : ℕ) → is_member nat_eq v.grey a ≡ true → colour_of v a ≡ Grey
  pub present : (a : ℕ) → is_member nat_eq v.grey a ≡ true → is_object v a ≡ true

-- the objects, gone or not, are at most so many: no list has more of their addresses, each once
abbrev pub HasAtMost : HeapView → ℕ → Type 0
HasAtMost v most = (places : List ℕ) → IsDistinct nat_eq places → ((a : ℕ) → is_member nat_eq places a ≡ true → is_occupied v a ≡ true) → length places ≤ most
