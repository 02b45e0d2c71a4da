-- What a contract sees of one slot: nothing, the address to which its object was moved, or an object.
use Rattle.std.specs.Prelude.{ℕ, Bool, true, false, not, ◌&&◌, List, replicate}
use Rattle.space_model.specs.declared.object.Guard.{Guard}
use Rattle.space_model.specs.declared.object.Guard.TheVariants.{Protected}
use Rattle.space_model.specs.declared.object.Style.{Style}
use Rattle.space_model.specs.declared.object.Style.TheVariants.{Movable}
use Rattle.space_heap.specs.declared.colour.Colour.{Colour}
use Rattle.space_heap.specs.declared.colour.Colour.TheVariants.{White}

-- an object as callers see it
pub record ObjectView : Type 0 where
  pub name : ℕ
  pub guard : Guard
  pub style : Style
  -- the words of its fields
  pub fields : List ℕ
  pub colour : Colour
  pub age : ℕ
  pub remembered : Bool
  pub kept : Bool
  pub pinned : Bool
  -- whether a verdict found it to be gone
  pub gone : Bool

-- a slot: free, left by an object that was moved to an address, or with an object
pub data SlotView : Type 0 where
  Free : SlotView
  Moved : (to : ℕ) → SlotView
  Object : (object : ObjectView) → SlotView

-- a new object with so many fields, which are nil
abbrev pub new_object : ℕ → ℕ → Guard → Style → ObjectView
new_object name fields guard style = record {
  name = name;
  guard = guard;
  style = style;
  fields = replicate fields 0;
  colour = White;
  age = 0;
  remembered = false;
  kept = false;
  pinned = false;
  gone = false;
}

-- what is read where there is no object
abbrev pub no_object : ObjectView
no_object = new_object 0 0 Protected Movable

-- whether the slot holds an object, gone or not
abbrev pub has_object : SlotView → Bool
has_object Free = false
has_object (Moved to) = false
has_object (Object o) = true

-- the object of a slot
abbrev pub object_in : SlotView → ObjectView
object_in Free = no_object
object_in (Moved to) = no_object
object_in (Object o) = o

-- whether the slot is free
abbrev pub is_free : SlotView → Bool
is_free Free = true
is_free (Moved to) = false
is_free (Object o) = false

-- whether the slot holds an object that isn't gone
abbrev pub has_present : SlotView → Bool
has_present slot = has_object slot && not (object_in slot).gone

-- the address to which the object of the slot was moved, else this word
abbrev pub moved_in : ℕ → SlotView → ℕ
moved_in word Free = word
moved_in word (Moved to) = to
moved_in word (Object o) = word

-- whether the object of the slot was moved away
abbrev pub has_moved : SlotView → Bool
has_moved Free = false
has_moved (Moved to) = true
has_moved (Object o) = false

-- the slot after its object, if it has one, became what this gives of it
abbrev pub map_slot : (ObjectView → ObjectView) → SlotView → SlotView
map_slot f Free = Free
map_slot f (Moved to) = Moved to
map_slot f (Object o) = Object (f o)
