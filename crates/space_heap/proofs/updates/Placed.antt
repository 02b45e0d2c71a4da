-- The heap after an allocation.
use Rattle.std.proofs.Common.{◌≡◌, ℕ, ◌+◌, ◌<◌, ◌≤◌, true, false, not, ◌&&◌, List, length, set, refl, sym, ap, ◌∙◌, subst, arith, Some}
use Rattle.std.proofs.lemmas.Bool.{cond-false}
use Rattle.std.proofs.lemmas.List.{get_or-set_same}
use Rattle.space_model.specs.Layout.{pool_for}
use Rattle.space_model.specs.declared.object.Guard.{Guard}
use Rattle.space_model.specs.declared.object.Guard.TheVariants.{Protected, Unprotected}
use Rattle.space_model.specs.declared.object.Style.{Style}
use Rattle.space_planes.specs.Planes.{bit}
use Rattle.space_planes.proofs.Bits.{bit-set_same}
use Rattle.space_pages.specs.Slots.{words_of}
use Rattle.space_pools.specs.PoolsView.{PoolsView}
use Rattle.space_heap.specs.declared.colour.Colour.TheVariants.{White}
use Rattle.space_heap.specs.declared.marks.Marks.{Marks}
use Rattle.space_heap.specs.declared.marks.Traits.{Traits}
use Rattle.space_heap.specs.Slots.{Moved, Object, new_object}
use Rattle.space_heap.specs.words.ObjectWords.{word_at, object_words, AreObjectWords}
use Rattle.space_heap.specs.HeapView.{HeapView, with_slot}
use Rattle.space_heap.specs.Objects.{placed}
use Rattle.space_heap.specs.planes.MarkPlanes.{marks_at, clear_marks, AreWide, slot_from, traits_from, object_from, new_marks, guard_from, is_unprotected, colour_from, age_from}
use Rattle.space_heap.specs.words.SlotPlaces.{IsSlotAt, SlotChanged}
use Rattle.space_heap.specs.Inside.{view_with, FitsSlot, AreAllMarks, Rest}
use Rattle.space_heap.proofs.fields.Readers.{marks_within, bits_within, marks_wide}
use Rattle.space_heap.proofs.updates.WordLaws.{NewWords, new_words, pool_room}
use Rattle.space_heap.proofs.updates.Changes.{new_marks_changed, view_changed, marks_changed}

abbrev new_traits : Guard → Traits
new_traits guard = record { guard = guard; colour = White; age = 0; remembered = false; kept = false; pinned = false; gone = false }

guard_back : (guard : Guard) → guard_from (is_unprotected guard) ≡ guard
guard_back Protected = refl
guard_back Unprotected = refl

-- the planes tell that the object is new
traits_new : (m : Marks) (s : ℕ) (guard : Guard) → s < length m.object → AreWide m (length m.object) → traits_from (new_marks m s guard) s ≡ new_traits guard
traits_new m s guard within h =
    let g = h.guard in
    let a = h.marked in
    let b = h.black in
    let c = h.age_low in
    let d = h.age_high in
    let e = h.remembered in
    let k = h.kept in
    let p = h.pinned in
    let q = h.gone in
    λ i. record {
      guard = (ap guard_from (bit-set_same m.guard s (is_unprotected guard) (omega arith)) ∙ guard_back guard) i;
      colour = colour_from (bit-set_same m.marked s false (omega arith) i) (bit-set_same m.black s false (omega arith) i);
      age = age_from (bit-set_same m.age_low s false (omega arith) i) (bit-set_same m.age_high s false (omega arith) i);
      remembered = bit-set_same m.remembered s false (omega arith) i;
      kept = bit-set_same m.kept s false (omega arith) i;
      pinned = bit-set_same m.pinned s false (omega arith) i;
      gone = bit-set_same m.gone s false (omega arith) i;
    }

object_new : (words : List ℕ) (n name : ℕ) (style : Style) (guard : Guard) → NewWords words n name style
    → object_from words (new_traits guard) ≡ new_object name n guard style
object_new words n name style guard h = λ i. record (new_object name n guard style) { name = h.name_is i; style = h.style_is i; fields = h.fields_are i }

fits_new : (words : List ℕ) (m : Marks) (s : ℕ) → AreObjectWords words → bit m.object s ≡ true → bit m.moved s ≡ false → FitsSlot (Some words) m s
fits_new words m s shape object stays = record {
  object = object ∙ sym (ap (λ b. true && not b) stays);
  moved = λ e. refl;
  words = λ others e f. let p : words ≡ others = cc in subst AreObjectWords p shape;
  gone = λ e. object;
}

-- one more object was allocated
abbrev pub one_more : Rest → Rest
one_more rest = record rest { counters = record rest.counters { born = rest.counters.born + 1 } }

module _ (v w : PoolsView) (ms : List Marks) (rest : Rest) (a page slot fields name : ℕ) (guard : Guard) (style : Style) (few : fields ≤ 78)
    (all : AreAllMarks v ms) (at : IsSlotAt v a page slot) (changed : SlotChanged v w page slot
    (Some (object_words (words_of (pool_for fields)) fields style name))) where
  abbrev h : HeapView
  h = view_with v ms rest

  abbrev words : List ℕ
  words = object_words (words_of (pool_for fields)) fields style name

  abbrev m : Marks
  m = new_marks (marks_at ms page) slot guard

  abbrev ns : List Marks
  ns = set ms page m

  tells : NewWords words fields name style
  tells = new_words (words_of (pool_for fields)) fields name style (pool_room fields few)

  within : slot < length (marks_at ms page).object
  within = bits_within v ms rest a page slot all at

  wide : AreWide (marks_at ms page) (length (marks_at ms page).object)
  wide = marks_wide v ms rest a page slot all at

  page_there : page < length ms
  page_there = marks_within v ms rest a page slot all at

  read : marks_at ns page ≡ m
  read = get_or-set_same ms page m (clear_marks 0) page_there

  stays : bit m.moved slot ≡ false
  stays = bit-set_same (marks_at ms page).moved slot false (let l = wide.moved in let i = within in omega arith)

  slot_is : slot_from (Some words) (marks_at ns page) slot ≡ Object (new_object name fields guard style)
  slot_is =
      ap (λ m. slot_from (Some words) m slot) read
      ∙ cond-false (bit m.moved slot) (Moved (word_at words 1)) (Object (object_from words (traits_from m slot))) stays
      ∙ ap (λ t. Object (object_from words t)) (traits_new (marks_at ms page) slot guard within wide)
      ∙ ap Object (object_new words fields name style guard tells)

  pub placed_view : view_with w ns (one_more rest) ≡ placed h a (new_object name fields guard style)
  unfolding placed
  placed_view =
      let path : view_with w ns rest ≡ with_slot h a (Object (new_object name fields guard style)) =
      sym (view_changed v w ms ns page slot (Some words) changed (new_marks_changed ms page slot guard page_there) rest a at) ∙ ap (with_slot h a) slot_is in
      ap (λ (x : HeapView). record x { counters = record x.counters { born = x.counters.born + 1 } }) path

  fit : FitsSlot (Some words) m slot
  fit = fits_new words m slot tells.shape (bit-set_same (marks_at ms page).object slot true within) stays

  pub placed_marks : AreAllMarks w ns
  placed_marks = marks_changed v w ms ns page slot (Some words) changed (new_marks_changed ms page slot guard page_there) all
      (subst (λ m. FitsSlot (Some words) m slot) (sym read) fit)
