-- The walk over what stands at addresses, by the planes of each page.
use Rattle.std.proofs.Common.{◌≡◌, ⊎_elim, ℕ, ◌-◌, ◌/◌, ◌<◌, ◌≤◌, ◌↔◌, Bool, true, false, not, ◌&&◌, ◌||◌, nat_le, refl, List, length, get_or, sym, ap, ◌∙◌, subst, arith, None, Some}
use Rattle.std.proofs.lemmas.Bool.{cases_lt, and_parts}
use Rattle.std.proofs.lemmas.List.{get_or_past}
use Rattle.space_model.specs.Layout.{page_of, page_slots, slot_address}
use Rattle.space_model.specs.Ages.{is_protected_guard}
use Rattle.space_planes.specs.Planes.{bit}
use Rattle.space_planes.proofs.Bits.{within_from_bit}
use Rattle.space_pools.specs.PageSlots.{PageSlots}
use Rattle.space_pools.specs.PoolsView.{PoolsView, page_at, pool_at, used_at, found_at}
use Rattle.space_pools.specs.Sound.{IsSoundPools}
use Rattle.space_pools.proofs.Places as places
use Rattle.space_heap.specs.declared.marks.Marks.{Marks}
use Rattle.space_heap.specs.declared.marks.Sought.{Sought}
use Rattle.space_heap.specs.declared.marks.Sought.TheVariants.{Present, Gone, MinorScan, FinishScan}
use Rattle.space_heap.specs.declared.marks.Traits.{Traits}
use Rattle.space_heap.specs.Slots.{has_present, object_in}
use Rattle.space_heap.specs.HeapView.{PageView, HeapView, no_page, slot_number, is_start, is_slot}
use Rattle.space_heap.specs.Objects.{is_occupied, is_object, object_of}
use Rattle.space_heap.specs.planes.MarkPlanes.{marks_at, is_present, is_minor_scan_in, is_finish_scan_in, colour_from, guard_from, age_from}
use Rattle.space_heap.specs.planes.RecolouredMarks.{is_black}
use Rattle.space_heap.specs.Generations.{has_minor_scan, is_minor_scan, is_finish_scan}
use Rattle.space_heap.specs.Sweeping.{has_gone}
use Rattle.space_heap.specs.Walks.{HasNoneFrom, IsNext, HasNoneOn, IsNextOn, is_sought_in, is_sought}
use Rattle.space_heap.specs.declared.heap.Heap.TheInside.{Inside}
use Rattle.space_heap.specs.Inside.{Rest, rest_of, view_with, view_from, AreMarksOf, AreAllMarks, IsHeap}
use Rattle.space_heap.specs.words.SlotPlaces.{is_slot_of, IsSlotAt}
use Rattle.space_heap.proofs.starts.Starts.{no_start_past, few_slots}
use Rattle.space_heap.proofs.Laws.{slot_at_none}
use Rattle.space_heap.proofs.ObjectLaws.{occupied_from_object}
use Rattle.space_heap.proofs.starts.PoolStarts.{none_spare}
use Rattle.space_heap.proofs.fields.Views.{slot_at_read}
use Rattle.space_heap.proofs.fields.Readers.{none_occupied, none_object, is_object_read, traits_read}
use Rattle.space_heap.proofs.updates.OldMarkedSlots.{old_by}
use Rattle.space_heap.proofs.updates.SweptSlots.{gone_from}
use Rattle.space_heap.proofs.fields.FreeReads.{free_place}
use Rattle.space_heap.proofs.fields.Here.{and_same, used_here, words_here}
use Rattle.space_heap.proofs.walks.PagePlaces.{address_is, few, absent_at, lower}

-- `named` tells it of addresses, and `held` of the slots of the page
module _ (v : PoolsView) (page pool start from : ℕ) (named held : ℕ → Bool) (sound : IsSoundPools v)
    (none : (a : ℕ) → is_slot_of v a ≡ false → named a ≡ false) (read : (a slot : ℕ) → IsSlotAt v a page slot → named a ≡ held slot)
    (its : pool_at v page ≡ Some pool) (known : pool < 5) (first : (k : ℕ) → k < page_slots pool → (start ≤ k) ↔ (from ≤ slot_address page pool k)) where
  -- an address whose slot doesn't hold it
  absent : (a : ℕ) → page_of a ≡ page → (is_slot_of v a ≡ true → held (slot_number (Some pool) a) ≡ false) → named a ≡ false
  absent a on at = absent_at v page pool sound its a on named held none read at

  from_start : (a : ℕ) → page_of a ≡ page → from ≤ a → is_slot_of v a ≡ true → start ≤ slot_number (Some pool) a
  from_start a on there is = (first (slot_number (Some pool) a) (few v page pool sound its a on is)).1
      (subst (λ x. from ≤ x) (address_is v page pool sound its a on is) there)

  -- no slot from the start on holds it
  clear_from : ((k : ℕ) → start ≤ k → held k ≡ false) → (a : ℕ) → page_of a ≡ page → from ≤ a → named a ≡ false
  clear_from clear a on there = absent a on (λ is. clear (slot_number (Some pool) a) (from_start a on there is))

  -- the first slot from the start on that holds it
  module _ (s a : ℕ) (is : a ≡ slot_address page pool s) (above : start ≤ s) (here : s < length (page_at v page).slots) (holds : held s ≡ true)
      (before : (j : ℕ) → start ≤ j → j < s → held j ≡ false) where
    at : IsSlotAt v a page s
    at = free_place v pool page s a sound known its here is

    pub next_here : IsNextOn named page from a
    next_here = record {
      on = sym at.on_page;
      from_there = subst (λ x. from ≤ x) (sym is) ((first s (places.slot_within v pool page s sound its here)).0 above);
      is = read a s at ∙ holds;
      before = λ b on there below. absent b on (λ at.
          before (slot_number (Some pool) b) (from_start b on there at) (lower v page pool sound its b on s at (subst (λ x. b < x) is below)));
    }

none_sought : (v : PoolsView) (ms : List Marks) (rest : Rest) (sought : Sought) (a : ℕ) → is_slot_of v a ≡ false
    → is_sought sought (view_with v ms rest) a ≡ false
none_sought v ms rest Present a out = none_object v ms rest a out
none_sought v ms rest MinorScan a out = ap (λ b. b && (is_black (object_of (view_with v ms rest) a).colour
    && has_minor_scan (object_of (view_with v ms rest) a))) (none_object v ms rest a out)
none_sought v ms rest FinishScan a out = ap (λ b. b && (is_black (object_of (view_with v ms rest) a).colour
    && not (is_protected_guard (object_of (view_with v ms rest) a).guard))) (none_object v ms rest a out)
none_sought v ms rest Gone a out = ap (λ b. b && (object_of (view_with v ms rest) a).gone) (none_occupied v ms rest a out)

-- what the planes tell of whether a minor marking scans an object
scan_by : (marked black unprotected low high remembered kept : Bool)
    → (is_black (colour_from marked black) && (((is_protected_guard (guard_from unprotected) && nat_le 3 (age_from low high)) && remembered) || kept))
    ≡ ((marked && black) && ((((low && high) && not unprotected) && remembered) || kept))
scan_by true true unprotected low high remembered kept = ap (λ b. (b && remembered) || kept) (old_by unprotected low high)
scan_by true false unprotected low high remembered kept = refl
scan_by false black unprotected low high remembered kept = refl

abbrev is_scan_by : Traits → Bool
is_scan_by t = is_black t.colour && (((is_protected_guard t.guard && nat_le 3 t.age) && t.remembered) || t.kept)

scan_read : (v : PoolsView) (ms : List Marks) (rest : Rest) (a page slot : ℕ) → AreAllMarks v ms → IsSlotAt v a page slot
    → is_minor_scan (view_with v ms rest) a ≡ is_minor_scan_in (marks_at ms page) slot
scan_read v ms rest a page slot all at =
    let m : Marks = marks_at ms page in
    and_same (is_object (view_with v ms rest) a) _ (is_present m slot) _ (is_object_read v ms rest a page slot all at)
    (λ e. ap is_scan_by (sym (traits_read v ms rest a page slot all at (occupied_from_object (view_with v ms rest) a e)))
    ∙ scan_by (bit m.marked slot) (bit m.black slot) (bit m.guard slot) (bit m.age_low slot) (bit m.age_high slot) (bit m.remembered slot) (bit m.kept slot))

-- what the planes tell of whether the end of a major marking scans an object
finish_by : (marked black unprotected : Bool)
    → (is_black (colour_from marked black) && not (is_protected_guard (guard_from unprotected))) ≡ ((marked && black) && unprotected)
finish_by true true true = refl
finish_by true true false = refl
finish_by true false unprotected = refl
finish_by false black unprotected = refl

abbrev is_finish_by : Traits → Bool
is_finish_by t = is_black t.colour && not (is_protected_guard t.guard)

finish_read : (v : PoolsView) (ms : List Marks) (rest : Rest) (a page slot : ℕ) → AreAllMarks v ms → IsSlotAt v a page slot
    → is_finish_scan (view_with v ms rest) a ≡ is_finish_scan_in (marks_at ms page) slot
finish_read v ms rest a page slot all at =
    let m : Marks = marks_at ms page in
    and_same (is_object (view_with v ms rest) a) _ (is_present m slot) _ (is_object_read v ms rest a page slot all at)
    (λ e. ap is_finish_by (sym (traits_read v ms rest a page slot all at (occupied_from_object (view_with v ms rest) a e)))
    ∙ finish_by (bit m.marked slot) (bit m.black slot) (bit m.guard slot))

-- an object stands where what is sought does
pub sought_occupied : (v : HeapView) (sought : Sought) (a : ℕ) → is_sought sought v a ≡ true → is_occupied v a ≡ true
sought_occupied v Present a e = occupied_from_object v a e
sought_occupied v Gone a e = (and_parts _ _ e).0
sought_occupied v MinorScan a e = occupied_from_object v a (and_parts _ _ e).0
sought_occupied v FinishScan a e = occupied_from_object v a (and_parts _ _ e).0

sought_read : (v : PoolsView) (ms : List Marks) (rest : Rest) (page : ℕ) → AreAllMarks v ms → (sought : Sought) (a slot : ℕ) → IsSlotAt v a page slot
    → is_sought sought (view_with v ms rest) a ≡ is_sought_in sought (marks_at ms page) slot
unfolding is_occupied object_of
sought_read v ms rest page all Present a slot at = is_object_read v ms rest a page slot all at
sought_read v ms rest page all MinorScan a slot at = scan_read v ms rest a page slot all at
sought_read v ms rest page all FinishScan a slot at = finish_read v ms rest a page slot all at
sought_read v ms rest page all Gone a slot at = ap has_gone (slot_at_read v ms rest a page slot at)
    ∙ sym (gone_from (found_at v page slot) (marks_at ms page) slot ((all.of_page page).each slot))

sought_within : (p : PageSlots) (m : Marks) → AreMarksOf p m → (sought : Sought) (slot : ℕ) → is_sought_in sought m slot ≡ true → slot < length p.slots
sought_within p m h Present slot e = let w = within_from_bit m.object slot (and_parts (bit m.object slot) (not (bit m.gone slot)) e).0 in
    let l = h.wide.object in omega arith
sought_within p m h MinorScan slot e =
    let present = (and_parts (is_present m slot) _ e).0 in
    let w = within_from_bit m.object slot (and_parts (bit m.object slot) (not (bit m.gone slot)) present).0 in
    let l = h.wide.object in
    omega arith
sought_within p m h FinishScan slot e =
    let present = (and_parts (is_present m slot) _ e).0 in
    let w = within_from_bit m.object slot (and_parts (bit m.object slot) (not (bit m.gone slot)) present).0 in
    let l = h.wide.object in
    omega arith
sought_within p m h Gone slot e = let w = within_from_bit m.gone slot e in let l = h.wide.gone in omega arith

module _ (v : PoolsView) (ms : List Marks) (rest : Rest) (page : ℕ) (all : AreAllMarks v ms) (sound : IsSoundPools v) (sought : Sought) where
  abbrev h : HeapView
  h = view_with v ms rest

  pub none_on_spare : (from : ℕ) → pool_at v page ≡ None → HasNoneOn (is_sought sought h) page from
  none_on_spare from its a on there = none_sought v ms rest sought a (none_spare v a page sound (sym on) its)

  module _ (pool start from : ℕ) (its : pool_at v page ≡ Some pool) (known : pool < 5)
      (first : (k : ℕ) → k < page_slots pool → (start ≤ k) ↔ (from ≤ slot_address page pool k)) where
    pub none_on_page : HasNoneFrom (is_sought_in sought (marks_at ms page)) start → HasNoneOn (is_sought sought h) page from
    none_on_page absent = clear_from v page pool start from (is_sought sought h) (is_sought_in sought (marks_at ms page)) sound
        (none_sought v ms rest sought) (sought_read v ms rest page all sought) its known first absent

    -- its slot
    pub sought_at : (s a : ℕ) → a ≡ slot_address page pool s → is_sought_in sought (marks_at ms page) s ≡ true → IsSlotAt v a page s
    sought_at s a is holds = free_place v pool page s a sound known its (sought_within (page_at v page) (marks_at ms page) (all.of_page page) sought s holds) is

    pub next_on_page : (s a : ℕ) → a ≡ slot_address page pool s → IsNext (is_sought_in sought (marks_at ms page)) start s
        → IsNextOn (is_sought sought h) page from a
    next_on_page s a is f =
        next_here v page pool start from (is_sought sought h) (is_sought_in sought (marks_at ms page)) sound (none_sought v ms rest sought)
        (sought_read v ms rest page all sought) its known first s a is f.from_there
        (sought_within (page_at v page) (marks_at ms page) (all.of_page page) sought s f.is) f.is f.before

-- what the heap finds on a page, and in which slot
module _ (h : Inside) (v : HeapView) (view_is : view_from h ≡ v) (inv : IsHeap h) (sound : IsSoundPools h.pools) (sought : Sought) (page pool start from s a : ℕ)
    (its : pool_at h.pools page ≡ Some pool) (first : (k : ℕ) → k < page_slots pool → (start ≤ k) ↔ (from ≤ slot_address page pool k))
    (is : a ≡ slot_address page pool s) (m : Marks) (read : m ≡ marks_at h.marks.items page) (next : IsNext (is_sought_in sought m) start s) where
  known : pool < 5
  known = (sound.sound page).known pool its

  next_in : IsNext (is_sought_in sought (marks_at h.marks.items page)) start s
  next_in = subst (λ (m : Marks). IsNext (is_sought_in sought m) start s) read next

  pub found_next : IsNextOn (is_sought sought v) page from a
  found_next = subst (λ v. IsNextOn (is_sought sought v) page from a) view_is
      (next_on_page h.pools h.marks.items (rest_of h) page inv.marks sound sought pool start from its known first s a is next_in)

  pub found_few : s < 1638
  found_few =
      let here = sought_within (page_at h.pools page) (marks_at h.marks.items page) (inv.marks.of_page page) sought s next_in.is in
      let within = places.slot_within h.pools pool page s sound its here in
      let few = few_slots pool known in
      omega arith

  pub found_slot : IsSlotAt h.pools a page s
  found_slot = sought_at h.pools h.marks.items (rest_of h) page inv.marks sound sought pool start from its known first s a is next_in.is

  pub found_occupied : is_occupied v a ≡ true
  found_occupied = sought_occupied v sought a found_next.is

  pub found_used : used_at h.pools page s ≡ true
  found_used = used_here h v view_is a page s inv found_slot found_occupied

  pub found_name : (words : List ℕ) → found_at h.pools page s ≡ Some words → get_or words 1 0 ≡ (object_of v a).name
  found_name words found = sym (words_here h v view_is a page s inv found_slot words found_occupied found).name

-- pages are in the order of addresses
pub page_before : (from b page : ℕ) → page ≡ from / 65536 - 1 → from ≤ b → page_of b < page → ⊥
unfolding page_of
page_before from b page is there below = grind (arith, is)

pub page_order : (a b : ℕ) → b < a → page_of b ≤ page_of a
unfolding page_of
page_order a b below = grind arith

-- past the last page nothing stands
no_slot_beyond : (v : HeapView) (a : ℕ) → length v.pages ≤ page_of a → is_slot v a ≡ false
unfolding is_slot
no_slot_beyond v a past = ap (λ (p : PageView). is_start p.pool (length p.slots) a) (get_or_past v.pages (page_of a) no_page past)
    ∙ no_start_past None 0 a (omega arith)

pub none_beyond : (v : HeapView) (sought : Sought) (a : ℕ) → length v.pages ≤ page_of a → is_sought sought v a ≡ false
unfolding is_object is_occupied object_of
none_beyond v Present a past = ap has_present (slot_at_none v a (no_slot_beyond v a past))
none_beyond v MinorScan a past =
    ap (λ s. has_present s && (is_black (object_in s).colour && has_minor_scan (object_in s))) (slot_at_none v a (no_slot_beyond v a past))
none_beyond v FinishScan a past =
    ap (λ s. has_present s && (is_black (object_in s).colour && not (is_protected_guard (object_in s).guard))) (slot_at_none v a (no_slot_beyond v a past))
none_beyond v Gone a past = ap has_gone (slot_at_none v a (no_slot_beyond v a past))

-- after the last page
pub none_left : (v : HeapView) (sought : Sought) (from page : ℕ) → ((b : ℕ) → from ≤ b → page_of b < page → is_sought sought v b ≡ false)
    → length v.pages ≤ page → HasNoneFrom (is_sought sought v) from
none_left v sought from page before past a there =
    ⊎_elim (λ below. before a there below) (λ above. none_beyond v sought a (omega arith)) (cases_lt (page_of a) page)

-- the first page with one
pub next_found : (test : ℕ → Bool) (from page a : ℕ) → ((b : ℕ) → from ≤ b → page_of b < page → test b ≡ false) → IsNextOn test page from a → IsNext test from a
next_found test from page a before n = record {
  from_there = n.from_there;
  is = n.is;
  before = λ b there below. ⊎_elim
      (λ lower. before b there lower)
      (λ upper. n.before b (let o = page_order a b below in let e = n.on in omega arith) there below)
      (cases_lt (page_of b) page);
}
