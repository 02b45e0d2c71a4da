-- The heap after a mark of an object changed, and no colour.
use Rattle.std.proofs.Common.{◌≡◌, ◌≢◌, ℕ, ◌<◌, Bool, true, false, List, length, set, refl, sym, ap, ◌∙◌, subst, arith, Option, Some}
use Rattle.std.proofs.lemmas.Bool.{cond-false}
use Rattle.std.proofs.lemmas.List.{get_or-set_same, get_or-set_other, length-set}
use Rattle.space_planes.specs.Planes.{bit}
use Rattle.space_planes.proofs.Bits.{bit-set_same, bit-set_other}
use Rattle.space_pools.specs.PoolsView.{PoolsView, found_at}
use Rattle.space_pools.proofs.PoolLaws.{found_from_used}
use Rattle.space_model.specs.declared.object.Guard.TheVariants.{Unprotected}
use Rattle.space_heap.specs.declared.marks.Marks.{Marks}
use Rattle.space_heap.specs.Slots.{ObjectView, Moved, Object}
use Rattle.space_heap.specs.words.ObjectWords.{word_at}
use Rattle.space_heap.specs.HeapView.{HeapView, with_slot}
use Rattle.space_heap.specs.Objects.{is_occupied, object_of, with_object}
use Rattle.space_heap.specs.planes.RecolouredMarks.{remembered_marks, kept_marks, unprotected_marks}
use Rattle.space_heap.specs.planes.MarkPlanes.{marks_at, clear_marks, AreWide, slot_from, traits_from, object_from, guard_from, age_from}
use Rattle.space_heap.specs.words.SlotPlaces.{IsSlotAt}
use Rattle.space_heap.specs.Inside.{Rest, view_with, FitsSlot, AreAllMarks}
use Rattle.space_heap.proofs.fields.Readers.{marks_within, used_occupied, moved_read, object_read}
use Rattle.space_heap.proofs.updates.Changes.{SameBits, MarksChanged, view_changed, marks_changed}
use Rattle.space_heap.proofs.updates.RecolouredSlots.{slot_stays}
use Rattle.space_heap.proofs.ObjectLaws.{with_object_some}

-- n are the planes m after the object of the slot became what f gives of it
pub record Notes (m n : Marks) (slot : ℕ) (f : ObjectView → ObjectView) : Type 0 where
  pub wide : (k : ℕ) → AreWide m k → AreWide n k
  pub object : n.object ≡ m.object
  pub moved : n.moved ≡ m.moved
  pub gone : n.gone ≡ m.gone
  pub others : (s : ℕ) → s ≢ slot → traits_from n s ≡ traits_from m s
  pub here : (words : List ℕ) → object_from words (traits_from n slot) ≡ f (object_from words (traits_from m slot))

same_bits : (m n : Marks) (slot : ℕ) (f : ObjectView → ObjectView) → Notes m n slot f → (s : ℕ) → s ≢ slot → SameBits m n s
same_bits m n slot f h s differ = record { object = ap (λ p. bit p s) h.object; moved = ap (λ p. bit p s) h.moved; traits = h.others s differ }

noted_changed : (ms : List Marks) (page slot : ℕ) (n : Marks) (f : ObjectView → ObjectView) → page < length ms → Notes (marks_at ms page) n slot f
    → MarksChanged ms (set ms page n) page slot
noted_changed ms page slot n f within h =
    let here : marks_at (set ms page n) page ≡ n = get_or-set_same ms page n (clear_marks 0) within in
    record {
      all = length-set ms page n;
      wide = λ k w. subst (λ m. AreWide m k) (sym here) (h.wide k w);
      pages = λ k differ. get_or-set_other ms page k n (clear_marks 0) differ;
      slots = λ s differ. subst (λ n. SameBits (marks_at ms page) n s) (sym here) (same_bits (marks_at ms page) n slot f h s differ);
    }

fits_noted : (found : Option (List ℕ)) (m n : Marks) (slot : ℕ) (f : ObjectView → ObjectView) → Notes m n slot f → FitsSlot found m slot
    → FitsSlot found n slot
fits_noted found m n slot f h fit = record {
  object = rw h.object (rw h.moved fit.object);
  moved = λ e. fit.moved (sym (ap (λ p. bit p slot) h.moved) ∙ e);
  words = λ words is e. fit.words words is (sym (ap (λ p. bit p slot) h.moved) ∙ e);
  gone = λ e. ap (λ p. bit p slot) h.object ∙ fit.gone (sym (ap (λ p. bit p slot) h.gone) ∙ e);
}

module _ (v : PoolsView) (ms : List Marks) (rest : Rest) (a page slot : ℕ) (n : Marks) (f : ObjectView → ObjectView) (all : AreAllMarks v ms)
    (at : IsSlotAt v a page slot) (e : is_occupied (view_with v ms rest) a ≡ true) (h : Notes (marks_at ms page) n slot f) where
  abbrev x : HeapView
  x = view_with v ms rest

  abbrev m : Marks
  m = marks_at ms page

  abbrev ns : List Marks
  ns = set ms page n

  page_there : page < length ms
  page_there = marks_within v ms rest a page slot all at

  read : marks_at ns page ≡ n
  read = get_or-set_same ms page n (clear_marks 0) page_there

  words_here : (words : List ℕ) × (found_at v page slot ≡ Some words)
  words_here = found_from_used v page slot (used_occupied v ms rest a page slot all at e)

  abbrev words : List ℕ
  words = words_here.0

  slot_is : slot_from (found_at v page slot) (marks_at ns page) slot ≡ Object (f (object_of x a))
  slot_is =
      ap (λ n. slot_from (found_at v page slot) n slot) read
      ∙ ap (λ found. slot_from found n slot) words_here.1
      ∙ cond-false (bit n.moved slot) (Moved (word_at words 1)) (Object (object_from words (traits_from n slot)))
      (ap (λ p. bit p slot) h.moved ∙ moved_read v ms rest a page slot all at e)
      ∙ ap Object (h.here words)
      ∙ ap (λ o. Object (f o)) (sym (object_read v ms rest a page slot all at words e words_here.1))

  pub noted_view : view_with v ns rest ≡ with_object x a (f (object_of x a))
  noted_view =
      sym (view_changed v v ms ns page slot (found_at v page slot) (slot_stays v page slot) (noted_changed ms page slot n f page_there h) rest a at)
      ∙ ap (with_slot x a) slot_is
      ∙ sym (with_object_some x a (f (object_of x a)) e)

  pub noted_all : AreAllMarks v ns
  noted_all = marks_changed v v ms ns page slot (found_at v page slot) (slot_stays v page slot) (noted_changed ms page slot n f page_there h) all
      (subst (λ n. FitsSlot (found_at v page slot) n slot) (sym read) (fits_noted (found_at v page slot) m n slot f h ((all.of_page page).each slot)))

abbrev pub remembering : Bool → ObjectView → ObjectView
remembering remembered o = record o { remembered = remembered }

abbrev pub keeping : ObjectView → ObjectView
keeping o = record o { kept = true }

abbrev pub unprotecting : ObjectView → ObjectView
unprotecting o = record o { guard = Unprotected; age = 0; remembered = false }

pub notes_remembered : (m : Marks) (s : ℕ) (remembered : Bool) → s < length m.object → AreWide m (length m.object)
    → Notes m (remembered_marks m s remembered) s (remembering remembered)
notes_remembered m s remembered within w = record {
  wide = λ k h. record {
    object = h.object;
    moved = h.moved;
    guard = h.guard;
    marked = h.marked;
    black = h.black;
    age_low = h.age_low;
    age_high = h.age_high;
    remembered = length-set m.remembered s remembered ∙ h.remembered;
    kept = h.kept;
    pinned = h.pinned;
    gone = h.gone;
  };
  object = refl;
  moved = refl;
  gone = refl;
  others = λ t differ. λ i. record (traits_from m t) { remembered = bit-set_other m.remembered s t remembered differ i };
  here = λ words.
      let l = w.remembered in
      ap (λ b. object_from words (record (traits_from m s) { remembered = b })) (bit-set_same m.remembered s remembered (omega arith));
}

pub notes_kept : (m : Marks) (s : ℕ) → s < length m.object → AreWide m (length m.object) → Notes m (kept_marks m s) s keeping
notes_kept m s within w = record {
  wide = λ k h. record {
    object = h.object;
    moved = h.moved;
    guard = h.guard;
    marked = h.marked;
    black = h.black;
    age_low = h.age_low;
    age_high = h.age_high;
    remembered = h.remembered;
    kept = length-set m.kept s true ∙ h.kept;
    pinned = h.pinned;
    gone = h.gone;
  };
  object = refl;
  moved = refl;
  gone = refl;
  others = λ t differ. λ i. record (traits_from m t) { kept = bit-set_other m.kept s t true differ i };
  here = λ words. let l = w.kept in ap (λ b. object_from words (record (traits_from m s) { kept = b })) (bit-set_same m.kept s true (omega arith));
}

pub notes_unprotected : (m : Marks) (s : ℕ) → s < length m.object → AreWide m (length m.object) → Notes m (unprotected_marks m s) s unprotecting
notes_unprotected m s within w = record {
  wide = λ k h. record {
    object = h.object;
    moved = h.moved;
    guard = length-set m.guard s true ∙ h.guard;
    marked = h.marked;
    black = h.black;
    age_low = length-set m.age_low s false ∙ h.age_low;
    age_high = length-set m.age_high s false ∙ h.age_high;
    remembered = length-set m.remembered s false ∙ h.remembered;
    kept = h.kept;
    pinned = h.pinned;
    gone = h.gone;
  };
  object = refl;
  moved = refl;
  gone = refl;
  others = λ t differ. λ i. record (traits_from m t) {
    guard = guard_from (bit-set_other m.guard s t true differ i);
    age = age_from (bit-set_other m.age_low s t false differ i) (bit-set_other m.age_high s t false differ i);
    remembered = bit-set_other m.remembered s t false differ i;
  };
  here = λ words.
      let guard = w.guard in
      let low = w.age_low in
      let high = w.age_high in
      let remembered = w.remembered in
      λ i. object_from words (record (traits_from m s) {
        guard = guard_from (bit-set_same m.guard s true (omega arith) i);
        age = age_from (bit-set_same m.age_low s false (omega arith) i) (bit-set_same m.age_high s false (omega arith) i);
        remembered = bit-set_same m.remembered s false (omega arith) i;
      });
}
