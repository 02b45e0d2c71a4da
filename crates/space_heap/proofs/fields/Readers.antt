-- What the pools and the planes tell of the object at an address.
use Rattle.std.proofs.Common.{◌≡◌, ⊎_elim, ℕ, ◌<◌, true, false, true≢false, not, ◌&&◌, List, length, drop, refl, sym, ap, ◌∙◌, subst, arith, Option, None, Some}
use Rattle.std.specs.Prelude.{is_some}
use Rattle.std.proofs.lemmas.Bool.{cases_Bool, cond-true, cond-false, and_parts}
use Rattle.std.proofs.lemmas.List.{length-take-le, length-drop}
use Rattle.space_model.specs.Layout.{page_of}
use Rattle.space_planes.specs.Planes.{bit}
use Rattle.space_pools.specs.PoolsView.{PoolsView, page_at, pool_at, used_at, found_at}
use Rattle.space_pools.proofs.Places.{page_within}
use Rattle.space_heap.specs.declared.marks.Marks.{Marks}
use Rattle.space_heap.specs.Slots.{ObjectView, Free, Moved, Object, has_object, has_present, object_in, moved_in}
use Rattle.space_heap.specs.words.ObjectWords.{word_at, count_in, fields_in, AreObjectWords}
use Rattle.space_heap.specs.HeapView.{HeapView, is_slot, slot_at}
use Rattle.space_heap.specs.Objects.{is_occupied, is_object, object_of, resolved}
use Rattle.space_heap.specs.planes.MarkPlanes.{marks_at, AreWide, slot_from, traits_from, traits_of, object_from}
use Rattle.space_heap.specs.words.Shown.{IsShownBy}
use Rattle.space_heap.specs.words.SlotPlaces.{is_slot_of, IsSlotAt}
use Rattle.space_heap.specs.Inside.{view_with, AreAllMarks, Rest}
use Rattle.space_heap.proofs.starts.Starts.{start_parts}
use Rattle.space_heap.proofs.fields.Views.{is_slot_read, slot_at_read}

pub wide_own : (m : Marks) (n : ℕ) → AreWide m n → AreWide m (length m.object)
wide_own m n h = subst (AreWide m) (sym h.object) h

-- the slot is one of its page
pub slot_within : (v : PoolsView) (a page slot : ℕ) → IsSlotAt v a page slot → slot < length (page_at v page).slots
unfolding is_slot_of
slot_within v a page slot at =
    let within = (start_parts (pool_at v (page_of a)) (length (page_at v (page_of a)).slots) a at.is).within in
    subst (λ k. slot < length (page_at v k).slots) (sym at.on_page) (subst (λ s. s < length (page_at v (page_of a)).slots) (sym at.in_slot) within)

pub count_shown : (words : List ℕ) → AreObjectWords words → count_in words ≡ length (fields_in words)
count_shown words h =
    let fits = h.fits in
    let n = length-drop 2 words in
    sym (length-take-le (count_in words) (drop 2 words) (omega arith))

-- a slot by its two bits
occupied_by : (found : Option (List ℕ)) (m : Marks) (s : ℕ) → has_object (slot_from found m s) ≡ (is_some found && not (bit m.moved s))
occupied_by None m s = refl
occupied_by (Some words) m s = ⊎_elim
    (λ moved. ap has_object (cond-true (bit m.moved s) _ _ moved) ∙ sym (ap not moved))
    (λ stays. ap has_object (cond-false (bit m.moved s) _ _ stays) ∙ sym (ap not stays))
    (cases_Bool (bit m.moved s))

-- an object has words, and isn't moved
pub object_by : (found : Option (List ℕ)) (m : Marks) (s : ℕ) → has_object (slot_from found m s) ≡ true
    → (words : List ℕ) × (found ≡ Some words) × (bit m.moved s ≡ false) × (object_in (slot_from found m s) ≡ object_from words (traits_from m s))
object_by None m s e = cc
object_by (Some words) m s e = ⊎_elim
    (λ moved. absurd (true≢false (sym e ∙ ap has_object (cond-true (bit m.moved s) _ _ moved))))
    (λ stays. (words, refl, stays, ap object_in (cond-false (bit m.moved s) _ _ stays)))
    (cases_Bool (bit m.moved s))

present_by : (found : Option (List ℕ)) (m : Marks) (s : ℕ) → has_present (slot_from found m s) ≡ (has_object (slot_from found m s) && not (bit m.gone s))
present_by None m s = refl
present_by (Some words) m s = ⊎_elim
    (λ moved. ap has_present (cond-true (bit m.moved s) _ _ moved)
    ∙ sym (ap (λ t. has_object t && not (bit m.gone s)) (cond-true (bit m.moved s) (Moved (word_at words 1))
    (Object (object_from words (traits_from m s))) moved)))
    (λ stays. ap has_present (cond-false (bit m.moved s) _ _ stays)
    ∙ sym (ap (λ t. has_object t && not (bit m.gone s)) (cond-false (bit m.moved s) (Moved (word_at words 1))
    (Object (object_from words (traits_from m s))) stays)))
    (cases_Bool (bit m.moved s))

moved_by : (found : Option (List ℕ)) (m : Marks) (s word : ℕ) → bit m.moved s ≡ false → moved_in word (slot_from found m s) ≡ word
moved_by None m s word stays = refl
moved_by (Some words) m s word stays = ap (moved_in word) (cond-false (bit m.moved s) _ _ stays)

module _ (v : PoolsView) (ms : List Marks) (rest : Rest) where
  abbrev h : HeapView
  h = view_with v ms rest

  none_at : (a : ℕ) → is_slot_of v a ≡ false → slot_at h a ≡ Free
  unfolding slot_at
  none_at a none = cond-false (is_slot h a) _ Free (is_slot_read v ms rest a ∙ none)

  pub none_occupied : (a : ℕ) → is_slot_of v a ≡ false → is_occupied h a ≡ false
  unfolding is_occupied
  none_occupied a none = ap has_object (none_at a none)

  pub none_object : (a : ℕ) → is_slot_of v a ≡ false → is_object h a ≡ false
  unfolding is_object
  none_object a none = ap has_present (none_at a none)

  pub none_resolved : (a : ℕ) → is_slot_of v a ≡ false → resolved h a ≡ a
  unfolding resolved
  none_resolved a none = ap (moved_in a) (none_at a none)

  module _ (a page slot : ℕ) (all : AreAllMarks v ms) (at : IsSlotAt v a page slot) where
    abbrev m : Marks
    m = marks_at ms page

    pub marks_within : page < length ms
    marks_within = let w = page_within v page slot (slot_within v a page slot at) in let l = all.all in omega arith

    pub marks_wide : AreWide m (length m.object)
    marks_wide = wide_own m _ (all.of_page page).wide

    pub bits_within : slot < length m.object
    bits_within = let w = slot_within v a page slot at in let l = (all.of_page page).wide.object in omega arith

    pub moved_within : slot < length m.moved
    moved_within = let w = slot_within v a page slot at in let l = (all.of_page page).wide.moved in omega arith

    pub occupied_read : is_occupied h a ≡ bit m.object slot
    unfolding is_occupied
    occupied_read = ap has_object (slot_at_read v ms rest a page slot at) ∙ occupied_by (found_at v page slot) m slot
        ∙ sym ((all.of_page page).each slot).object

    pub is_object_read : is_object h a ≡ (bit m.object slot && not (bit m.gone slot))
    unfolding is_object
    is_object_read =
        ap has_present (slot_at_read v ms rest a page slot at)
        ∙ present_by (found_at v page slot) m slot
        ∙ ap (λ b. b && not (bit m.gone slot)) (occupied_by (found_at v page slot) m slot ∙ sym ((all.of_page page).each slot).object)

    pub used_occupied : is_occupied h a ≡ true → used_at v page slot ≡ true
    used_occupied e = (and_parts _ _ (sym ((all.of_page page).each slot).object ∙ sym occupied_read ∙ e)).0

    pub resolved_stays : bit m.moved slot ≡ false → resolved h a ≡ a
    unfolding resolved
    resolved_stays stays = ap (moved_in a) (slot_at_read v ms rest a page slot at) ∙ moved_by (found_at v page slot) m slot a stays

    pub resolved_moved : (words : List ℕ) → found_at v page slot ≡ Some words → bit m.moved slot ≡ true → resolved h a ≡ word_at words 1
    unfolding resolved
    resolved_moved words found moved =
        ap (moved_in a) (slot_at_read v ms rest a page slot at)
        ∙ ap (λ f. moved_in a (slot_from f m slot)) found
        ∙ ap (moved_in a) (cond-true (bit m.moved slot) (Moved (word_at words 1)) (Object (object_from words (traits_from m slot))) moved)

    has : is_occupied h a ≡ true → has_object (slot_from (found_at v page slot) m slot) ≡ true
    unfolding is_occupied
    has e = sym (ap has_object (slot_at_read v ms rest a page slot at)) ∙ e

    -- the object that stands there has these words and traits
    pub object_read : (words : List ℕ) → is_occupied h a ≡ true → found_at v page slot ≡ Some words → object_of h a ≡ object_from words (traits_from m slot)
    unfolding object_of
    object_read words e found =
        let o = object_by (found_at v page slot) m slot (has e) in
        let same : o.0 ≡ words = let p = o.1 in cc in
        ap object_in (slot_at_read v ms rest a page slot at) ∙ o.3 ∙ ap (λ ws. object_from ws (traits_from m slot)) same

    pub moved_read : is_occupied h a ≡ true → bit m.moved slot ≡ false
    moved_read e = (object_by (found_at v page slot) m slot (has e)).2

    pub traits_read : is_occupied h a ≡ true → traits_from m slot ≡ traits_of (object_of h a)
    traits_read e =
        let o = object_by (found_at v page slot) m slot (has e) in
        sym (ap traits_of (object_read o.0 e o.1))

    pub words_read : (words : List ℕ) → is_occupied h a ≡ true → found_at v page slot ≡ Some words → IsShownBy (object_of h a) words
    words_read words e found =
        let o = object_by (found_at v page slot) m slot (has e) in
        let shape : AreObjectWords words = ((all.of_page page).each slot).words words found o.2 in
        let is = object_read words e found in
        record {
          shape = shape;
          name = ap (λ (o : ObjectView). o.name) is;
          style = ap (λ (o : ObjectView). o.style) is;
          fields = ap (λ (o : ObjectView). o.fields) is;
          count = count_shown words shape ∙ sym (ap (λ (o : ObjectView). length o.fields) is);
        }
