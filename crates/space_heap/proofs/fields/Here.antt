-- What a heap's fields tell of the object at an address, in words of its view.
use Rattle.std.proofs.Common.{◌≡◌, ℕ, ◌+◌, ◌<◌, ◌≤◌, Bool, true, false, true≢false, not, ◌&&◌, List, length, sym, ap, ◌∙◌, subst, arith, [], refl, Some}
use Rattle.std.specs.Prelude.{unwrap_or}
use Rattle.std.proofs.lemmas.Bool.{and_parts, true_from_ne_false}
use Rattle.space_model.specs.Layout.{page_of}
use Rattle.space_planes.specs.Planes.{bit}
use Rattle.space_pools.specs.PoolsView.{pool_at, used_at, found_at}
use Rattle.space_pools.proofs.PoolLaws.{found_from_used}
use Rattle.space_heap.specs.declared.heap.Heap.TheInside.{Inside}
use Rattle.space_heap.specs.declared.marks.Marks.{Marks}
use Rattle.space_heap.specs.declared.marks.Traits.{Traits}
use Rattle.space_heap.specs.HeapView.{HeapView, slot_number}
use Rattle.space_heap.specs.words.ObjectWords.{word_at}
use Rattle.space_heap.specs.Objects.{is_occupied, is_object, object_of, resolved}
use Rattle.space_heap.specs.declared.colour.Colour.TheVariants.{White}
use Rattle.space_heap.specs.Marking.{colour_of, is_white}
use Rattle.space_heap.specs.planes.MarkPlanes.{marks_at, AreWide, colour_from, is_present, traits_from, traits_of}
use Rattle.space_heap.specs.words.Shown.{IsShownBy}
use Rattle.space_heap.specs.words.SlotPlaces.{is_slot_of, is_taken_start, words_from, IsSlotAt, IsPlace}
use Rattle.space_heap.specs.Inside.{view_from, IsHeap, rest_of}
use Rattle.space_heap.proofs.ObjectLaws.{occupied_from_object}
use Rattle.space_heap.proofs.MarkingLaws.{White-from_is_white}
use Rattle.space_heap.proofs.fields.Views.{is_slot_read, pool_read}
use Rattle.space_heap.proofs.fields.Readers as readers

pub and_same : (x y u w : Bool) → x ≡ u → (x ≡ true → y ≡ w) → (x && y) ≡ (u && w)
and_same true y true w same part = part refl
and_same true y false w same part = absurd (true≢false same)
and_same false y true w same part = absurd (true≢false (sym same))
and_same false y false w same part = refl

white_from : (marked black : Bool) → is_white (colour_from marked black) ≡ not marked
white_from true true = refl
white_from true false = refl
white_from false black = refl

module _ (h : Inside) (v : HeapView) (view_is : view_from h ≡ v) (a : ℕ) where
  pub never : is_occupied v a ≡ true → is_slot_of h.pools a ≡ false → ⊥
  never e none = true≢false (sym e ∙ ap (λ v. is_occupied v a) (sym view_is) ∙ readers.none_occupied h.pools h.marks.items (rest_of h) a none)

  -- an object stands at the start of a slot
  pub start_of_object : is_occupied v a ≡ true → is_slot_of h.pools a ≡ true
  start_of_object e = true_from_ne_false _ (λ none. never e none)

  pub none_object : is_slot_of h.pools a ≡ false → is_object v a ≡ false
  none_object none = ap (λ v. is_object v a) (sym view_is) ∙ readers.none_object h.pools h.marks.items (rest_of h) a none

  pub none_resolved : is_slot_of h.pools a ≡ false → resolved v a ≡ a
  none_resolved none = ap (λ v. resolved v a) (sym view_is) ∙ readers.none_resolved h.pools h.marks.items (rest_of h) a none

  -- a slot of a page is told by the pools and by the view alike
  pub place_here : (page slot : ℕ) → IsSlotAt h.pools a page slot → IsPlace v a page slot
  place_here page slot at = subst (λ v. IsPlace v a page slot) view_is (record {
    is = is_slot_read h.pools h.marks.items (rest_of h) a ∙ at.is;
    on_page = at.on_page;
    in_slot = at.in_slot ∙ ap (λ pool. slot_number pool a) (sym (pool_read h.pools h.marks.items (page_of a)));
  })

  pub place_of : (page slot : ℕ) → IsPlace v a page slot → IsSlotAt h.pools a page slot
  place_of page slot place =
      let p : IsPlace (view_from h) a page slot = subst (λ v. IsPlace v a page slot) (sym view_is) place in
      record {
        is = sym (is_slot_read h.pools h.marks.items (rest_of h) a) ∙ p.is;
        on_page = p.on_page;
        in_slot = p.in_slot ∙ ap (λ pool. slot_number pool a) (pool_read h.pools h.marks.items (page_of a));
      }

  module _ (page slot : ℕ) (inv : IsHeap h) (at : IsSlotAt h.pools a page slot) where
    pub page_here : page < length h.marks.items
    page_here = readers.marks_within h.pools h.marks.items (rest_of h) a page slot inv.marks at

    pub wide_here : AreWide (marks_at h.marks.items page) (length (marks_at h.marks.items page).object)
    wide_here = readers.marks_wide h.pools h.marks.items (rest_of h) a page slot inv.marks at

    pub slot_here : slot < length (marks_at h.marks.items page).object
    slot_here = readers.bits_within h.pools h.marks.items (rest_of h) a page slot inv.marks at

    pub moved_here : slot < length (marks_at h.marks.items page).moved
    moved_here = readers.moved_within h.pools h.marks.items (rest_of h) a page slot inv.marks at

    pub object_here : is_object v a ≡ (bit (marks_at h.marks.items page).object slot && not (bit (marks_at h.marks.items page).gone slot))
    object_here = ap (λ v. is_object v a) (sym view_is) ∙ readers.is_object_read h.pools h.marks.items (rest_of h) a page slot inv.marks at

    standing : is_occupied v a ≡ true → is_occupied (view_from h) a ≡ true
    standing e = ap (λ v. is_occupied v a) view_is ∙ e

    pub used_here : is_occupied v a ≡ true → used_at h.pools page slot ≡ true
    used_here e = readers.used_occupied h.pools h.marks.items (rest_of h) a page slot inv.marks at (standing e)

    pub traits_here : is_occupied v a ≡ true → traits_from (marks_at h.marks.items page) slot ≡ traits_of (object_of v a)
    traits_here e = readers.traits_read h.pools h.marks.items (rest_of h) a page slot inv.marks at (standing e) ∙ ap (λ v. traits_of (object_of v a)) view_is

    -- whether a white object that isn't gone stands there
    pub white_here : (is_object v a && is_white (colour_of v a)) ≡ (is_present (marks_at h.marks.items page) slot && not
        (bit (marks_at h.marks.items page).marked slot))
    white_here =
        let m : Marks = marks_at h.marks.items page in
        and_same (is_object v a) (is_white (colour_of v a)) (is_present m slot) (not (bit m.marked slot)) object_here
        (λ e. ap (λ (t : Traits). is_white t.colour) (sym (traits_here (occupied_from_object v a e))) ∙ white_from (bit m.marked slot) (bit m.black slot))

    -- what a test of the planes tells of it
    module _ (m : Marks) (r : Bool) (read : m ≡ marks_at h.marks.items page) (test : r ≡ (is_present m slot && not (bit m.marked slot))) where
      tested : (is_object v a && is_white (colour_of v a)) ≡ r
      tested = white_here ∙ ap (λ m. is_present m slot && not (bit m.marked slot)) (sym read) ∙ sym test

      pub white_object : r ≡ true → (is_object (view_from h) a ≡ true) × (colour_of (view_from h) a ≡ White)
      white_object e =
          let p = and_parts (is_object v a) (is_white (colour_of v a)) (tested ∙ e) in
          (ap (λ v. is_object v a) view_is ∙ p.0, ap (λ v. colour_of v a) view_is ∙ White-from_is_white (colour_of v a) p.1)

      pub not_white : r ≡ false → (is_object v a && is_white (colour_of v a)) ≡ false
      not_white e = tested ∙ e

    -- what the planes tell of an object that isn't gone
    module _ (m : Marks) (r : Bool) (read : m ≡ marks_at h.marks.items page) (test : r ≡ is_present m slot) where
      pub present_object : is_object v a ≡ r
      present_object = object_here ∙ ap (λ m. is_present m slot) (sym read) ∙ sym test

      pub told_here : r ≡ true → (t : Traits) → t ≡ traits_from m slot → t ≡ traits_of (object_of v a)
      told_here e t told = told ∙ ap (λ m. traits_from m slot) read ∙ traits_here (occupied_from_object v a (present_object ∙ e))

    pub words_here : (words : List ℕ) → is_occupied v a ≡ true → found_at h.pools page slot ≡ Some words → IsShownBy (object_of v a) words
    words_here words e found = subst (λ v. IsShownBy (object_of v a) words) view_is
        (readers.words_read h.pools h.marks.items (rest_of h) a page slot inv.marks at words (standing e) found)

    pub stays_here : bit (marks_at h.marks.items page).moved slot ≡ false → resolved v a ≡ a
    stays_here stays = ap (λ v. resolved v a) (sym view_is) ∙ readers.resolved_stays h.pools h.marks.items (rest_of h) a page slot inv.marks at stays

    pub moves_here : (words : List ℕ) → found_at h.pools page slot ≡ Some words → bit (marks_at h.marks.items page).moved slot ≡ true
        → resolved v a ≡ word_at words 1
    moves_here words found moved = ap (λ v. resolved v a) (sym view_is)
        ∙ readers.resolved_moved h.pools h.marks.items (rest_of h) a page slot inv.marks at words found moved

    -- a slot that an object left isn't free
    pub left_here : bit (marks_at h.marks.items page).moved slot ≡ true → used_at h.pools page slot ≡ true
    left_here moved = ((inv.marks.of_page page).each slot).moved moved

-- the words of the object, by its address alone
module _ (h : Inside) (v : HeapView) (view_is : view_from h ≡ v) (a : ℕ) (inv : IsHeap h) (e : is_occupied v a ≡ true) where
  abbrev page : ℕ
  page = page_of a

  abbrev slot : ℕ
  slot = slot_number (pool_at h.pools page) a

  at : IsSlotAt h.pools a page slot
  at = record { is = start_of_object h v view_is a e; on_page = refl; in_slot = refl }

  used : used_at h.pools page slot ≡ true
  used = used_here h v view_is a page slot inv at e

  pub used_start : is_taken_start h.pools a ≡ true
  used_start = ap (λ b. b && used_at h.pools page slot) (start_of_object h v view_is a e) ∙ used

  found : (words : List ℕ) × (found_at h.pools page slot ≡ Some words)
  found = found_from_used h.pools page slot used

  pub shown_here : IsShownBy (object_of v a) (words_from h.pools a)
  shown_here = subst (IsShownBy (object_of v a)) (sym (ap (λ f. unwrap_or f []) found.1)) (words_here h v view_is a page slot inv at found.0 e found.1)

  pub word_within_here : (k : ℕ) → k < 2 + length (object_of v a).fields → k < length (words_from h.pools a)
  word_within_here k within = let s = shown_here in let fits = s.shape.fits in let count = s.count in omega arith

  pub few_fields_here : length (words_from h.pools a) ≤ 80 → length (object_of v a).fields ≤ 78
  few_fields_here few = let s = shown_here in let fits = s.shape.fits in let count = s.count in omega arith
