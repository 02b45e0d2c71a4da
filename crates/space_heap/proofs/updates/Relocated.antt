-- The heap's fields after an object was moved.
use Rattle.std.proofs.Common.{◌≡◌, ◌≢◌, ◌⊎◌, inl, inr, ⊎_elim, ℕ, ◌+◌, ◌<◌, Bool, true, false, true≢false, not, ◌&&◌, List, length, set, refl, sym, ap, ◌∙◌, subst, arith, Some}
use Rattle.std.proofs.lemmas.Bool.{cases_eq, cond-true, cond-false, and_parts}
use Rattle.std.proofs.lemmas.List.{get_or-set_same, get_or-set_other, length-set}
use Rattle.space_model.specs.Layout.{page_of}
use Rattle.space_planes.specs.Planes.{bit}
use Rattle.space_planes.proofs.Bits.{bit-set_same, bit-set_other}
use Rattle.space_pools.specs.PoolsView.{PoolsView, free_at, used_at, found_at, with_slot_at}
use Rattle.space_pools.proofs.PoolLaws.{found_from_used, not_free_from_used}
use Rattle.space_heap.specs.declared.marks.Marks.{Marks}
use Rattle.space_heap.specs.declared.moves.Bits.{Bits}
use Rattle.space_heap.specs.declared.marks.Traits.{Traits}
use Rattle.space_heap.specs.Slots.{Moved, Object}
use Rattle.space_heap.specs.words.ObjectWords.{word_at, AreObjectWords}
use Rattle.space_heap.specs.HeapView.{HeapView, slot_number, with_slot}
use Rattle.space_heap.specs.Objects.{is_occupied, is_object, object_of}
use Rattle.space_heap.specs.Relocation.{relocated}
use Rattle.space_heap.specs.planes.MovedMarks.{bits_from, carried_marks, vacated_marks, with_carried, with_moved}
use Rattle.space_heap.specs.words.MovedWords.{forward_words}
use Rattle.space_heap.specs.words.Shown.{IsShownBy}
use Rattle.space_heap.specs.planes.MarkPlanes.{marks_at, clear_marks, AreWide, slot_from, traits_from, object_from, guard_from, colour_from, age_from}
use Rattle.space_heap.specs.words.SlotPlaces.{IsSlotAt, SlotChanged}
use Rattle.space_heap.specs.Inside.{view_with, FitsSlot, AreAllMarks, Rest}
use Rattle.space_heap.proofs.fields.Readers.{slot_within, marks_within, bits_within, marks_wide, used_occupied, object_read, words_read, is_object_read}
use Rattle.space_heap.proofs.ObjectLaws.{occupied_from_object}
use Rattle.space_heap.proofs.updates.Changes.{SameBits, MarksChanged, view_changed, marks_changed, slot_changed}
use Rattle.space_heap.proofs.updates.TakenSlots.{starts_stay}

-- the planes that take an object in
carried_wide : (m : Marks) (s n : ℕ) (b : Bits) → AreWide m n → AreWide (carried_marks m s b) n
carried_wide m s n b h = record {
  object = length-set m.object s true ∙ h.object;
  moved = length-set m.moved s false ∙ h.moved;
  guard = length-set m.guard s b.guard ∙ h.guard;
  marked = length-set m.marked s b.marked ∙ h.marked;
  black = length-set m.black s b.black ∙ h.black;
  age_low = length-set m.age_low s b.age_low ∙ h.age_low;
  age_high = length-set m.age_high s b.age_high ∙ h.age_high;
  remembered = length-set m.remembered s b.remembered ∙ h.remembered;
  kept = length-set m.kept s b.kept ∙ h.kept;
  pinned = length-set m.pinned s b.pinned ∙ h.pinned;
  gone = length-set m.gone s false ∙ h.gone;
}

carried_other : (m : Marks) (s : ℕ) (b : Bits) (k : ℕ) → k ≢ s → SameBits m (carried_marks m s b) k
carried_other m s b k differ = record {
  object = bit-set_other m.object s k true differ;
  moved = bit-set_other m.moved s k false differ;
  traits = λ i. record {
    guard = guard_from (bit-set_other m.guard s k b.guard differ i);
    colour = colour_from (bit-set_other m.marked s k b.marked differ i) (bit-set_other m.black s k b.black differ i);
    age = age_from (bit-set_other m.age_low s k b.age_low differ i) (bit-set_other m.age_high s k b.age_high differ i);
    remembered = bit-set_other m.remembered s k b.remembered differ i;
    kept = bit-set_other m.kept s k b.kept differ i;
    pinned = bit-set_other m.pinned s k b.pinned differ i;
    gone = bit-set_other m.gone s k false differ i;
  };
}

carried_marks_changed : (ms : List Marks) (page slot : ℕ) (b : Bits) → page < length ms
    → MarksChanged ms (set ms page (carried_marks (marks_at ms page) slot b)) page slot
carried_marks_changed ms page slot b here =
    let m : Marks = carried_marks (marks_at ms page) slot b in
    let read : marks_at (set ms page m) page ≡ m = get_or-set_same ms page m (clear_marks 0) here in
    record {
      all = length-set ms page m;
      wide = λ n h. subst (λ m. AreWide m n) (sym read) (carried_wide (marks_at ms page) slot n b h);
      pages = λ k differ. get_or-set_other ms page k m (clear_marks 0) differ;
      slots = λ s differ. subst (λ n. SameBits (marks_at ms page) n s) (sym read) (carried_other (marks_at ms page) slot b s differ);
    }

-- the traits that these bits tell of an object that isn't gone
abbrev traits_by : Bits → Traits
traits_by b = record {
  guard = guard_from b.guard;
  colour = colour_from b.marked b.black;
  age = age_from b.age_low b.age_high;
  remembered = b.remembered;
  kept = b.kept;
  pinned = b.pinned;
  gone = false;
}

traits_carried : (m : Marks) (s : ℕ) (b : Bits) → s < length m.object → AreWide m (length m.object) → traits_from (carried_marks m s b) s ≡ traits_by b
traits_carried m s b within h =
    let g = h.guard in
    let a = h.marked in
    let k = h.black in
    let c = h.age_low in
    let d = h.age_high in
    let e = h.remembered in
    let f = h.kept in
    let p = h.pinned in
    let q = h.gone in
    λ i. record {
      guard = guard_from (bit-set_same m.guard s b.guard (omega arith) i);
      colour = colour_from (bit-set_same m.marked s b.marked (omega arith) i) (bit-set_same m.black s b.black (omega arith) i);
      age = age_from (bit-set_same m.age_low s b.age_low (omega arith) i) (bit-set_same m.age_high s b.age_high (omega arith) i);
      remembered = bit-set_same m.remembered s b.remembered (omega arith) i;
      kept = bit-set_same m.kept s b.kept (omega arith) i;
      pinned = bit-set_same m.pinned s b.pinned (omega arith) i;
      gone = bit-set_same m.gone s false (omega arith) i;
    }

-- the traits of an object that isn't gone are those of its bits
traits_taken : (m : Marks) (s : ℕ) → bit m.gone s ≡ false → traits_by (bits_from m s) ≡ traits_from m s
traits_taken m s present = λ i. record (traits_from m s) { gone = sym present i }

-- the planes that an object left
vacated_marks_changed : (ms : List Marks) (page slot : ℕ) → page < length ms → MarksChanged ms (set ms page (vacated_marks (marks_at ms page) slot)) page slot
vacated_marks_changed ms page slot here =
    let m : Marks = vacated_marks (marks_at ms page) slot in
    let old : Marks = marks_at ms page in
    let read : marks_at (set ms page m) page ≡ m = get_or-set_same ms page m (clear_marks 0) here in
    record {
      all = length-set ms page m;
      wide = λ n h. subst (λ m. AreWide m n) (sym read) (record {
        object = length-set old.object slot false ∙ h.object;
        moved = length-set old.moved slot true ∙ h.moved;
        guard = h.guard;
        marked = h.marked;
        black = h.black;
        age_low = h.age_low;
        age_high = h.age_high;
        remembered = h.remembered;
        kept = h.kept;
        pinned = h.pinned;
        gone = h.gone;
      });
      pages = λ k differ. get_or-set_other ms page k m (clear_marks 0) differ;
      slots = λ s differ. subst (λ n. SameBits old n s) (sym read) (record {
        object = bit-set_other old.object slot s false differ;
        moved = bit-set_other old.moved slot s true differ;
        traits = refl;
      });
    }

-- the planes tell the same of any other slot
bits_elsewhere : (ms ns : List Marks) (page slot k i : ℕ) → MarksChanged ms ns page slot → (k ≢ page) ⊎ (i ≢ slot)
    → SameBits (marks_at ms k) (marks_at ns k) i
bits_elsewhere ms ns page slot k i h differ = ⊎_elim
    (λ same. ⊎_elim
    (λ apart. absurd (apart same))
    (λ apart. subst (λ k. SameBits (marks_at ms k) (marks_at ns k) i) (sym same) (h.slots i apart))
    differ)
    (λ apart. subst (λ m. SameBits (marks_at ms k) m i) (sym (h.pages k apart)) (record { object = refl; moved = refl; traits = refl }))
    (cases_eq k page)

-- one more move was made
abbrev pub one_move : Rest → Rest
one_move rest = record rest { counters = record rest.counters { moves = rest.counters.moves + 1 } }

-- an object that isn't gone stands in a slot, and its words were copied to a free one
pub record IsCopied (v u : PoolsView) (ms : List Marks) (rest : Rest) (from page slot to to_page to_slot : ℕ) : Type 0 where
  pub all : AreAllMarks v ms
  pub at : IsSlotAt v from page slot
  pub there : IsSlotAt v to to_page to_slot
  pub object : is_object (view_with v ms rest) from ≡ true
  pub free : free_at v to_page to_slot ≡ true
  pub copied : SlotChanged v u to_page to_slot (found_at v page slot)

module _ {v u : PoolsView} {ms : List Marks} {rest : Rest} {from page slot to to_page to_slot : ℕ}
    (c : IsCopied v u ms rest from page slot to to_page to_slot) where
  abbrev h : HeapView
  h = view_with v ms rest

  abbrev m : Marks
  m = marks_at ms page

  abbrev b : Bits
  b = bits_from m slot

  abbrev ns : List Marks
  ns = with_carried ms page slot to_page to_slot

  abbrev os : List Marks
  os = with_moved ms page slot to_page to_slot

  standing : is_occupied h from ≡ true
  standing = occupied_from_object h from c.object

  used : used_at v page slot ≡ true
  used = used_occupied v ms rest from page slot c.all c.at standing

  words_here : (words : List ℕ) × (found_at v page slot ≡ Some words)
  words_here = found_from_used v page slot used

  abbrev words : List ℕ
  words = words_here.0

  -- the two slots aren't one
  slots_apart : (page ≢ to_page) ⊎ (slot ≢ to_slot)
  slots_apart = ⊎_elim
      (λ same. inr (λ own. true≢false (sym c.free
      ∙ ap (free_at v to_page) (sym own)
      ∙ ap (λ k. free_at v k slot) (sym same)
      ∙ not_free_from_used v page slot used)))
      (λ differ. inl differ)
      (cases_eq page to_page)

  page_to : to_page < length ms
  page_to = marks_within v ms rest to to_page to_slot c.all c.there

  present : bit m.gone slot ≡ false
  present = not_true (bit m.gone slot) (and_parts _ _ (sym (is_object_read v ms rest from page slot c.all c.at) ∙ c.object)).1
    where
      not_true : (b : Bool) → not b ≡ true → b ≡ false
      not_true true e = sym e
      not_true false e = refl

  carried : MarksChanged ms ns to_page to_slot
  carried = carried_marks_changed ms to_page to_slot b page_to

  read : marks_at ns to_page ≡ carried_marks (marks_at ms to_page) to_slot b
  read = get_or-set_same ms to_page (carried_marks (marks_at ms to_page) to_slot b) (clear_marks 0) page_to

  within : to_slot < length (marks_at ms to_page).object
  within = bits_within v ms rest to to_page to_slot c.all c.there

  wide : AreWide (marks_at ms to_page) (length (marks_at ms to_page).object)
  wide = marks_wide v ms rest to to_page to_slot c.all c.there

  stays : bit (marks_at ns to_page).moved to_slot ≡ false
  stays = ap (λ (n : Marks). bit n.moved to_slot) read
      ∙ bit-set_same (marks_at ms to_page).moved to_slot false (let l = wide.moved in let i = within in omega arith)

  object_bit : bit (marks_at ns to_page).object to_slot ≡ true
  object_bit = ap (λ (n : Marks). bit n.object to_slot) read ∙ bit-set_same (marks_at ms to_page).object to_slot true within

  traits : traits_from (marks_at ns to_page) to_slot ≡ traits_from m slot
  traits = ap (λ n. traits_from n to_slot) read ∙ traits_carried (marks_at ms to_page) to_slot b within wide ∙ traits_taken m slot present

  slot_is : slot_from (found_at v page slot) (marks_at ns to_page) to_slot ≡ Object (object_of h from)
  slot_is =
      ap (λ f. slot_from f (marks_at ns to_page) to_slot) words_here.1
      ∙ cond-false (bit (marks_at ns to_page).moved to_slot) (Moved (word_at words 1)) (Object (object_from words (traits_from (marks_at ns to_page) to_slot)))
      stays
      ∙ ap (λ t. Object (object_from words t)) traits
      ∙ ap Object (sym (object_read v ms rest from page slot c.all c.at words standing words_here.1))

  -- the view after the object was copied
  copied_view : view_with u ns rest ≡ with_slot h to (Object (object_of h from))
  copied_view = sym (view_changed v u ms ns to_page to_slot (found_at v page slot) c.copied carried rest to c.there) ∙ ap (with_slot h to) slot_is

  its_words : IsShownBy (object_of h from) words
  its_words = words_read v ms rest from page slot c.all c.at words standing words_here.1

  copied_fits : FitsSlot (found_at v page slot) (marks_at ns to_page) to_slot
  copied_fits = subst (λ f. FitsSlot f (marks_at ns to_page) to_slot) (sym words_here.1) (record {
    object = object_bit ∙ sym (ap (λ b. true && not b) stays);
    moved = λ e. refl;
    words = λ others same _. let p : words ≡ others = cc in subst AreObjectWords p its_words.shape;
    gone = λ e. object_bit;
  })

  copied_all : AreAllMarks u ns
  copied_all = marks_changed v u ms ns to_page to_slot (found_at v page slot) c.copied carried c.all copied_fits

  -- the slot that the object left is where it was
  at_then : IsSlotAt u from page slot
  at_then = record {
    is = starts_stay v u to_page to_slot (found_at v page slot) from c.copied ∙ c.at.is;
    on_page = c.at.on_page;
    in_slot = c.at.in_slot ∙ ap (λ o. slot_number o from) (sym (c.copied.pools (page_of from)));
  }

  found_then : found_at u page slot ≡ Some words
  found_then = c.copied.other page slot slots_apart ∙ words_here.1

  abbrev forward : List ℕ
  forward = set (set words 0 2) 1 to

  page_from : page < length ns
  page_from = marks_within u ns rest from page slot copied_all at_then

  from_within : slot < length (marks_at ns page).object
  from_within = bits_within u ns rest from page slot copied_all at_then

  from_wide : AreWide (marks_at ns page) (length (marks_at ns page).object)
  from_wide = marks_wide u ns rest from page slot copied_all at_then

  left : MarksChanged ns os page slot
  left = vacated_marks_changed ns page slot page_from

  left_read : marks_at os page ≡ vacated_marks (marks_at ns page) slot
  left_read = get_or-set_same ns page (vacated_marks (marks_at ns page) slot) (clear_marks 0) page_from

  left_moved : bit (marks_at os page).moved slot ≡ true
  left_moved = ap (λ (n : Marks). bit n.moved slot) left_read
      ∙ bit-set_same (marks_at ns page).moved slot true (let l = from_wide.moved in let i = from_within in omega arith)

  left_object : bit (marks_at os page).object slot ≡ false
  left_object = ap (λ (n : Marks). bit n.object slot) left_read ∙ bit-set_same (marks_at ns page).object slot false from_within

  left_gone : bit (marks_at os page).gone slot ≡ false
  left_gone = ap (λ (n : Marks). bit n.gone slot) left_read
      ∙ ap (λ (t : Traits). t.gone) (bits_elsewhere ms ns to_page to_slot page slot carried slots_apart).traits
      ∙ present

  long : 1 < length (set words 0 2)
  long = let fits = its_words.shape.fits in let l = length-set words 0 2 in omega arith

  left_is : slot_from (Some forward) (marks_at os page) slot ≡ Moved to
  left_is =
      cond-true (bit (marks_at os page).moved slot) (Moved (word_at forward 1)) (Object (object_from forward (traits_from (marks_at os page) slot))) left_moved
      ∙ ap Moved (get_or-set_same (set words 0 2) 1 to 0 long)

  left_fits : FitsSlot (Some forward) (marks_at os page) slot
  left_fits = record {
    object = left_object ∙ sym (ap (λ b. true && not b) left_moved);
    moved = λ e. refl;
    words = λ others same still. absurd (true≢false (sym left_moved ∙ still));
    gone = λ e. absurd (true≢false (sym e ∙ left_gone));
  }

  -- the slot that the object left got the new address
  module _ (w : PoolsView) (after : w ≡ with_slot_at u page slot (forward_words to (found_at u page slot))) where
    moved_pools : SlotChanged u w page slot (Some forward)
    moved_pools = subst (λ w. SlotChanged u w page slot (Some forward)) (ap (λ f. with_slot_at u page slot (forward_words to f)) (sym found_then) ∙ sym after)
        (slot_changed u page slot (Some forward) (slot_within u from page slot at_then))

    pub relocated_view : view_with w os (one_move rest) ≡ relocated h from to
    unfolding relocated
    relocated_view =
        let path : view_with w os rest ≡ with_slot (with_slot h to (Object (object_of h from))) from (Moved to) =
        sym (view_changed u w ns os page slot (Some forward) moved_pools left rest from at_then)
        ∙ ap (with_slot (view_with u ns rest) from) left_is
        ∙ ap (λ x. with_slot x from (Moved to)) copied_view in
        ap (λ (x : HeapView). record x { counters = record x.counters { moves = x.counters.moves + 1 } }) path

    pub relocated_all : AreAllMarks w os
    relocated_all = marks_changed u w ns os page slot (Some forward) moved_pools left copied_all left_fits

    pub relocated_limit : w.limit ≡ v.limit
    relocated_limit = moved_pools.limit ∙ c.copied.limit

    pub relocated_count : length w.pages ≡ length v.pages
    relocated_count = moved_pools.count ∙ c.copied.count
