-- The heap after a field of an object was written.
use Rattle.std.proofs.Common.{◌≡◌, ℕ, ◌+◌, ◌*◌, ◌<◌, ◌≤◌, true, List, length, set, sym, ap, ◌∙◌, subst, arith, Some, slice_set}
use Rattle.std.proofs.lemmas.Bool.{cond-false}
use Rattle.space_planes.specs.Planes.{bit}
use Rattle.space_pools.specs.PageSlots.{width_of}
use Rattle.space_pools.specs.PoolsView.{PoolsView, pool_at, found_at, with_slot_at}
use Rattle.space_pools.specs.Sound.{IsSoundPools}
use Rattle.space_pools.proofs.PoolLaws.{found_from_used}
use Rattle.space_heap.specs.declared.marks.Marks.{Marks}
use Rattle.space_heap.specs.declared.marks.Traits.{Traits}
use Rattle.space_heap.specs.Slots.{ObjectView, Moved, Object}
use Rattle.space_heap.specs.words.ObjectWords.{word_at, style_from, fields_in, with_word, AreObjectWords}
use Rattle.space_heap.specs.HeapView.{HeapView, with_slot}
use Rattle.space_heap.specs.Objects.{is_occupied, object_of, written}
use Rattle.space_heap.specs.planes.MarkPlanes.{marks_at, slot_from, traits_from, object_from}
use Rattle.space_heap.specs.words.SlotPlaces.{IsSlotAt, SlotChanged}
use Rattle.space_heap.specs.Inside.{view_with, FitsSlot, AreAllMarks, Rest}
use Rattle.space_heap.proofs.fields.Readers.{slot_within, count_shown, used_occupied, moved_read, object_read, words_read}
use Rattle.space_heap.proofs.updates.WordLaws.{first_stays, name_stays, field_set, object_stays}
use Rattle.space_heap.proofs.updates.Changes.{slot_changed, marks_same, view_changed, marks_changed}
use Rattle.space_heap.proofs.ObjectLaws.{with_object_some}

-- the object of the words after a field was written
object_set : (words : List ℕ) (t : Traits) (i word : ℕ) → i < length (fields_in words) → AreObjectWords words
    → object_from (set words (2 + i) word) t ≡ record (object_from words t) { fields = set (fields_in words) i word }
object_set words t i word within h = λ j. record (object_from words t) {
  name = name_stays words i word j;
  style =
      style_from (first_stays words i word j);
  fields = field_set words i word (let c = count_shown words h in omega arith) j;
}

fits_set : (words : List ℕ) (m : Marks) (slot i word : ℕ) → AreObjectWords (set words (2 + i) word) → FitsSlot (Some words) m slot
    → FitsSlot (Some (set words (2 + i) word)) m slot
fits_set words m slot i word shape f = record {
  object = f.object;
  moved = f.moved;
  words = λ others e stays. let p : set words (2 + i) word ≡ others = cc in subst AreObjectWords p shape;
  gone = f.gone;
}

module _ (v w : PoolsView) (ms : List Marks) (rest : Rest) (a page slot i word : ℕ) (all : AreAllMarks v ms) (at : IsSlotAt v a page slot)
    (e : is_occupied (view_with v ms rest) a ≡ true) (within : i < length (object_of (view_with v ms rest) a).fields)
    (is : w ≡ with_slot_at v page slot (with_word i word (found_at v page slot))) where
  abbrev h : HeapView
  h = view_with v ms rest

  abbrev m : Marks
  m = marks_at ms page

  words_here : (words : List ℕ) × (found_at v page slot ≡ Some words)
  words_here = found_from_used v page slot (used_occupied v ms rest a page slot all at e)

  abbrev words : List ℕ
  words = words_here.0

  abbrev after : List ℕ
  after = set words (2 + i) word

  changed : SlotChanged v w page slot (Some after)
  changed = subst (λ w. SlotChanged v w page slot (Some after)) (ap (λ f. with_slot_at v page slot (with_word i word f)) (sym words_here.1) ∙ sym is)
      (slot_changed v page slot (Some after) (slot_within v a page slot at))

  object_is : object_of h a ≡ object_from words (traits_from m slot)
  object_is = object_read v ms rest a page slot all at words e words_here.1

  shape : AreObjectWords words
  shape = (words_read v ms rest a page slot all at words e words_here.1).shape

  few : i < length (fields_in words)
  few = subst (λ (o : ObjectView). i < length o.fields) object_is within

  slot_is : slot_from (Some after) m slot ≡ Object (let o : ObjectView = object_of h a in record o { fields = slice_set o.fields i word })
  slot_is =
      cond-false (bit m.moved slot) (Moved (word_at after 1)) (Object (object_from after (traits_from m slot))) (moved_read v ms rest a page slot all at e)
      ∙ ap Object (object_set words (traits_from m slot) i word few shape)
      ∙ ap (λ (o : ObjectView). Object (record o { fields = slice_set o.fields i word })) (sym object_is)

  pub written_view : view_with w ms rest ≡ written h a i word
  written_view =
      sym (view_changed v w ms ms page slot (Some after) changed (marks_same ms page slot) rest a at)
      ∙ ap (with_slot h a) slot_is
      ∙ sym (with_object_some h a (let o : ObjectView = object_of h a in record o { fields = slice_set o.fields i word }) e)

  pub written_marks : AreAllMarks w ms
  written_marks = marks_changed v w ms ms page slot (Some after) changed (marks_same ms page slot) all
      (fits_set words m slot i word (object_stays words i word (let c = count_shown words shape in let f = few in omega arith) shape)
      (subst (λ f. FitsSlot f m slot) words_here.1 ((all.of_page page).each slot)))

  pub written_limit : w.limit ≡ v.limit
  written_limit = changed.limit

  pub written_places : (room : ℕ) → 1638 * length v.pages ≤ room → 1638 * length w.pages ≤ room
  written_places room h = subst (λ n. 1638 * n ≤ room) (sym changed.count) h

-- a field is a word of the slot
pub field_within : (v : PoolsView) (ms : List Marks) (rest : Rest) (a page slot i : ℕ) → AreAllMarks v ms → IsSoundPools v → IsSlotAt v a page slot
    → is_occupied (view_with v ms rest) a ≡ true → i < length (object_of (view_with v ms rest) a).fields → 2 + i < width_of (pool_at v page)
field_within v ms rest a page slot i all sound at e within =
    let f = found_from_used v page slot (used_occupied v ms rest a page slot all at e) in
    let s = words_read v ms rest a page slot all at f.0 e f.1 in
    let fits = s.shape.fits in
    let count = s.count in
    let wide : length f.0 ≡ width_of (pool_at v page) = (sound.sound page).wide slot f.0 f.1 in
    omega arith
