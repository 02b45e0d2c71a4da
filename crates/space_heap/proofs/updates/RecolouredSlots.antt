-- The heap after an object was recoloured.
use Rattle.std.proofs.Common.{◌≡◌, ◌≢◌, ℕ, ◌<◌, true, List, length, set, refl, sym, ap, ◌∙◌, subst, arith, Option, Some}
use Rattle.std.proofs.lemmas.Bool.{cond-false}
use Rattle.std.proofs.lemmas.List.{get_or-set_same, get_or-set_other, length-set}
use Rattle.space_planes.specs.Planes.{bit}
use Rattle.space_planes.proofs.Bits.{bit-set_same, bit-set_other}
use Rattle.space_pools.specs.PoolsView.{PoolsView, found_at}
use Rattle.space_pools.proofs.PoolLaws.{found_from_used}
use Rattle.space_heap.specs.declared.colour.Colour.{Colour}
use Rattle.space_heap.specs.declared.colour.Colour.TheVariants.{White, Grey, Black}
use Rattle.space_heap.specs.declared.marks.Marks.{Marks}
use Rattle.space_heap.specs.Slots.{ObjectView, Moved, Object}
use Rattle.space_heap.specs.words.ObjectWords.{word_at}
use Rattle.space_heap.specs.HeapView.{HeapView, with_slot}
use Rattle.space_heap.specs.Objects.{is_occupied, object_of}
use Rattle.space_heap.specs.Marking.{with_colour, recoloured}
use Rattle.space_heap.specs.planes.RecolouredMarks.{is_marked, is_black, recoloured_marks}
use Rattle.space_heap.specs.planes.MarkPlanes.{marks_at, clear_marks, AreWide, slot_from, traits_from, object_from, colour_from}
use Rattle.space_heap.specs.words.SlotPlaces.{IsSlotAt, SlotChanged}
use Rattle.space_heap.specs.Inside.{Rest, view_with, FitsSlot, AreAllMarks}
use Rattle.space_heap.proofs.fields.Readers.{marks_within, bits_within, marks_wide, used_occupied, moved_read, object_read}
use Rattle.space_heap.proofs.updates.Changes.{SameBits, MarksChanged, view_changed, marks_changed}
use Rattle.space_heap.proofs.ObjectLaws.{with_object_some}

-- a colour by its bits
colour_by : (c : Colour) → colour_from (is_marked c) (is_black c) ≡ c
colour_by White = refl
colour_by Grey = refl
colour_by Black = refl

pub slot_stays : (v : PoolsView) (page slot : ℕ) → SlotChanged v v page slot (found_at v page slot)
slot_stays v page slot = record {
  limit = refl;
  count = refl;
  pools = λ k. refl;
  slots = λ k. refl;
  unswept = λ k. refl;
  here = refl;
  other =
      λ k i differ. refl;
}

recoloured_wide : (m : Marks) (s n : ℕ) (c : Colour) → AreWide m n → AreWide (recoloured_marks m s c) n
recoloured_wide m s n c h = record {
  object = h.object;
  moved = h.moved;
  guard = h.guard;
  marked = length-set m.marked s (is_marked c) ∙ h.marked;
  black = length-set m.black s (is_black c) ∙ h.black;
  age_low = h.age_low;
  age_high = h.age_high;
  remembered = h.remembered;
  kept = h.kept;
  pinned = h.pinned;
  gone = h.gone;
}

recoloured_other : (m : Marks) (s : ℕ) (c : Colour) (k : ℕ) → k ≢ s → SameBits m (recoloured_marks m s c) k
recoloured_other m s c k differ = record {
  object = refl;
  moved = refl;
  traits = λ i. record (traits_from m k) {
    colour =
        colour_from (bit-set_other m.marked s k (is_marked c) differ i) (bit-set_other m.black s k (is_black c) differ i);
  };
}

recoloured_marks_changed : (ms : List Marks) (page slot : ℕ) (c : Colour) → page < length ms
    → MarksChanged ms (set ms page (recoloured_marks (marks_at ms page) slot c)) page slot
recoloured_marks_changed ms page slot c within =
    let m : Marks = recoloured_marks (marks_at ms page) slot c in
    let here : marks_at (set ms page m) page ≡ m = get_or-set_same ms page m (clear_marks 0) within in
    record {
      all = length-set ms page m;
      wide = λ n h. subst (λ m. AreWide m n) (sym here) (recoloured_wide (marks_at ms page) slot n c h);
      pages = λ k differ. get_or-set_other ms page k m (clear_marks 0) differ;
      slots = λ s differ. subst (λ n. SameBits (marks_at ms page) n s) (sym here) (recoloured_other (marks_at ms page) slot c s differ);
    }

-- the planes tell that the object has the colour
traits_recoloured : (m : Marks) (s : ℕ) (c : Colour) → s < length m.object → AreWide m (length m.object)
    → traits_from (recoloured_marks m s c) s ≡ record (traits_from m s) { colour = c }
traits_recoloured m s c within h =
    let a = h.marked in
    let b = h.black in
    (λ i. record (traits_from m s) {
      colour = colour_from (bit-set_same m.marked s (is_marked c) (omega arith) i)
          (bit-set_same m.black s (is_black c) (omega arith) i);
    })
    ∙ ap (λ k. record (traits_from m s) { colour = k }) (colour_by c)

fits_recoloured : (found : Option (List ℕ)) (m : Marks) (s : ℕ) (c : Colour) → FitsSlot found m s → FitsSlot found (recoloured_marks m s c) s
fits_recoloured found m s c f = record { object = f.object; moved = f.moved; words = f.words; gone = f.gone }

module _ (v : PoolsView) (ms : List Marks) (rest : Rest) (a page slot : ℕ) (c : Colour) (all : AreAllMarks v ms) (at : IsSlotAt v a page slot)
    (e : is_occupied (view_with v ms rest) a ≡ true) where
  abbrev h : HeapView
  h = view_with v ms rest

  abbrev m : Marks
  m = marks_at ms page

  abbrev ns : List Marks
  ns = set ms page (recoloured_marks m slot c)

  page_there : page < length ms
  page_there = marks_within v ms rest a page slot all at

  read : marks_at ns page ≡ recoloured_marks m slot c
  read = get_or-set_same ms page (recoloured_marks m slot c) (clear_marks 0) page_there

  words_here : (words : List ℕ) × (found_at v page slot ≡ Some words)
  words_here = found_from_used v page slot (used_occupied v ms rest a page slot all at e)

  abbrev words : List ℕ
  words = words_here.0

  abbrev o : ObjectView
  o = with_colour (object_of h a) c

  slot_is : slot_from (found_at v page slot) (marks_at ns page) slot ≡ Object o
  slot_is =
      ap (λ n. slot_from (found_at v page slot) n slot) read
      ∙ ap (λ f. slot_from f (recoloured_marks m slot c) slot) words_here.1
      ∙ cond-false (bit m.moved slot) (Moved (word_at words 1)) (Object (object_from words (traits_from (recoloured_marks m slot c) slot)))
      (moved_read v ms rest a page slot all at e)
      ∙ ap (λ t. Object (object_from words t)) (traits_recoloured m slot c (bits_within v ms rest a page slot all at) (marks_wide v ms rest a page slot all at))
      ∙ ap (λ (x : ObjectView). Object (with_colour x c)) (sym (object_read v ms rest a page slot all at words e words_here.1))

  pub recoloured_view : (grey : List ℕ) → view_with v ns (record rest { grey = grey }) ≡ recoloured h a c grey
  unfolding recoloured
  recoloured_view grey =
      let path : view_with v ns rest ≡ with_slot h a (Object o) =
      sym (view_changed v v ms ns page slot (found_at v page slot) (slot_stays v page slot) (recoloured_marks_changed ms page slot c page_there) rest a at)
      ∙ ap (with_slot h a) slot_is in
      ap (λ (x : HeapView). record x { grey = grey }) (path ∙ sym (with_object_some h a o e))

  pub recoloured_all : AreAllMarks v ns
  recoloured_all = marks_changed v v ms ns page slot (found_at v page slot) (slot_stays v page slot) (recoloured_marks_changed ms page slot c page_there) all
      (subst (λ n. FitsSlot (found_at v page slot) n slot) (sym read) (fits_recoloured (found_at v page slot) m slot c ((all.of_page page).each slot)))
