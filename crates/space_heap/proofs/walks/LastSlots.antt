-- The walk downwards over the objects that can be moved, by the planes of each page.
use Rattle.std.proofs.Common.{◌≡◌, ⊎_elim, min, ℕ, ◌+◌, ◌/◌, ◌<◌, ◌≤◌, ◌↔◌, Bool, true, false, not, ◌&&◌, List, length, refl, sym, ap, ◌∙◌, subst, arith, Option, None, Some}
use Rattle.std.proofs.lemmas.Bool.{cases_eq, cases_lt, and_parts}
use Rattle.std.proofs.lemmas.Bool.Decides.{nat_tests}
use Rattle.space_model.specs.Layout.{page_of, page_slots, slot_address}
use Rattle.space_planes.specs.Planes.{bit}
use Rattle.space_planes.proofs.Bits.{within_from_bit}
use Rattle.space_pools.specs.PoolsView.{PoolsView, page_at, pool_at}
use Rattle.space_pools.specs.Sound.{IsSoundPools}
use Rattle.space_pools.proofs.Places as places
use Rattle.space_heap.specs.declared.marks.Marks.{Marks}
use Rattle.space_heap.specs.declared.marks.Sought.TheVariants.{Present}
use Rattle.space_heap.specs.declared.marks.Traits.{Traits}
use Rattle.space_heap.specs.declared.heap.Heap.TheInside.{Inside}
use Rattle.space_heap.specs.Slots.{has_present}
use Rattle.space_heap.specs.HeapView as view
use Rattle.space_heap.specs.HeapView.{HeapView, slot_number, page_with, is_slot}
use Rattle.space_heap.specs.Objects.{is_object, object_of}
use Rattle.space_heap.specs.FreeSlots.{is_pool}
use Rattle.space_heap.specs.Relocation.{is_movable}
use Rattle.space_heap.specs.LastBelow.{HasNoneBelow, IsLast, HasNoneOnBelow, IsLastOn}
use Rattle.space_heap.specs.LastMovable.{is_movable_in, IsLastMovable}
use Rattle.space_heap.specs.planes.MarkPlanes.{marks_at, is_present}
use Rattle.space_heap.specs.planes.PinnedMarks.{is_movable_slot}
use Rattle.space_heap.specs.words.SlotPlaces.{is_slot_of, IsSlotAt}
use Rattle.space_heap.specs.Inside.{Rest, view_with, view_from, rest_of, AreAllMarks, IsHeap}
use Rattle.space_heap.proofs.starts.Starts.{no_start_below}
use Rattle.space_heap.proofs.Laws.{slot_at_none}
use Rattle.space_heap.proofs.ObjectLaws.{occupied_from_object}
use Rattle.space_heap.proofs.fields.Views.{pool_read}
use Rattle.space_heap.proofs.fields.Readers.{none_object, is_object_read, traits_read}
use Rattle.space_heap.proofs.fields.FreeReads.{free_place, own_pool}
use Rattle.space_heap.proofs.fields.Here.{and_same}
use Rattle.space_heap.proofs.walks.PagePlaces.{address_is, few, absent_at, higher}
use Rattle.space_heap.proofs.walks.SlotWalks.{none_beyond, page_order}

-- `named` tells it of addresses, and `held` of the slots of the page
module _ (v : PoolsView) (page pool end below : ℕ) (named held : ℕ → Bool) (sound : IsSoundPools v)
    (none : (a : ℕ) → is_slot_of v a ≡ false → named a ≡ false) (read : (a slot : ℕ) → IsSlotAt v a page slot → named a ≡ held slot)
    (its : pool_at v page ≡ Some pool) (known : pool < 5) (first : (k : ℕ) → k < page_slots pool → (end ≤ k) ↔ (below ≤ slot_address page pool k)) where
  -- an address whose slot doesn't hold it
  absent : (a : ℕ) → page_of a ≡ page → (is_slot_of v a ≡ true → held (slot_number (Some pool) a) ≡ false) → named a ≡ false
  absent a on at = absent_at v page pool sound its a on named held none read at

  to_end : (a : ℕ) → page_of a ≡ page → a < below → is_slot_of v a ≡ true → slot_number (Some pool) a < end
  to_end a on under is = ⊎_elim
      (λ l. l)
      (λ past.
      let low : below ≤ slot_address page pool (slot_number (Some pool) a) = (first (slot_number (Some pool) a) (few v page pool sound its a on is)).0 past in
      let e = address_is v page pool sound its a on is in
      absurd (omega arith))
      (cases_lt (slot_number (Some pool) a) end)

  -- no slot below the end holds it
  clear_below : HasNoneBelow held end → HasNoneOnBelow named page below
  clear_below clear a on under = absent a on (λ is. clear (slot_number (Some pool) a) (to_end a on under is))

  -- the last slot below the end that holds it
  module _ (s a : ℕ) (is : a ≡ slot_address page pool s) (here : s < length (page_at v page).slots) (last : IsLast held end s) where
    at : IsSlotAt v a page s
    at = free_place v pool page s a sound known its here is

    under : a < below
    under = ⊎_elim
        (λ l. l)
        (λ past.
        let f : end ≤ s = (first s (places.slot_within v pool page s sound its here)).1 (subst (λ x. below ≤ x) is past) in
        let u = last.under in
        absurd (omega arith))
        (cases_lt a below)

    last_here : IsLastOn named page below a
    last_here = record {
      on = sym at.on_page;
      under = under;
      is = read a s at ∙ last.is;
      after = λ b on above low. absent b on (λ at.
          last.after (slot_number (Some pool) b) (higher v page pool sound its b on s at (subst (λ x. x < b) is above)) (to_end b on low at));
    }

true_right : (b c : Bool) → c ≡ true → (b && c) ≡ b
true_right true c e = e
true_right false c e = refl

false_right : (b c : Bool) → c ≡ false → (b && c) ≡ false
false_right true c e = e
false_right false c e = refl

movable_within : (v : PoolsView) (ms : List Marks) (page s : ℕ) → AreAllMarks v ms → is_movable_slot (marks_at ms page) s ≡ true
    → s < length (page_at v page).slots
movable_within v ms page s all e =
    let m : Marks = marks_at ms page in
    let present : is_present m s ≡ true = (and_parts (is_present m s) (not (bit m.pinned s)) e).0 in
    let w = within_from_bit m.object s (and_parts (bit m.object s) (not (bit m.gone s)) present).0 in
    let l = (all.of_page page).wide.object in
    omega arith

module _ (v : PoolsView) (ms : List Marks) (rest : Rest) (page pool : ℕ) (all : AreAllMarks v ms) (sound : IsSoundPools v)
    (its : pool_at v page ≡ Some pool) where
  abbrev h : HeapView
  h = view_with v ms rest

  abbrev m : Marks
  m = marks_at ms page

  none : (a : ℕ) → is_slot_of v a ≡ false → is_movable_in h pool a ≡ false
  none a out = ap (λ b. (b && not (object_of h a).pinned) && is_pool (view.pool_at h (page_of a)) pool) (none_object v ms rest a out)

  movable_read : (a slot : ℕ) → IsSlotAt v a page slot → is_movable h a ≡ is_movable_slot m slot
  movable_read a slot at =
      and_same (is_object h a) (not (object_of h a).pinned) (is_present m slot) (not (bit m.pinned slot)) (is_object_read v ms rest a page slot all at)
      (λ e. ap (λ (t : Traits). not t.pinned) (sym (traits_read v ms rest a page slot all at (occupied_from_object h a e))))

  own : (a slot : ℕ) → IsSlotAt v a page slot → is_pool (view.pool_at h (page_of a)) pool ≡ true
  own a slot at = ap (λ o. is_pool o pool) (pool_read v ms (page_of a) ∙ ap (pool_at v) (sym at.on_page) ∙ its) ∙ own_pool pool

  read : (a slot : ℕ) → IsSlotAt v a page slot → is_movable_in h pool a ≡ is_movable_slot m slot
  read a slot at = true_right (is_movable h a) (is_pool (view.pool_at h (page_of a)) pool) (own a slot at) ∙ movable_read a slot at

  module _ (end below : ℕ) (known : pool < 5) (first : (k : ℕ) → k < page_slots pool → (end ≤ k) ↔ (below ≤ slot_address page pool k)) where
    pub none_below : HasNoneBelow (is_movable_slot m) end → HasNoneOnBelow (is_movable_in h pool) page below
    none_below clear = clear_below v page pool end below (is_movable_in h pool) (is_movable_slot m) sound none read its known first clear

    pub last_below : (s a : ℕ) → a ≡ slot_address page pool s → IsLast (is_movable_slot m) end s → IsLastOn (is_movable_in h pool) page below a
    last_below s a is last = last_here v page pool end below (is_movable_in h pool) (is_movable_slot m) sound none read its known first s a is
        (movable_within v ms page s all last.is) last

-- a page of another pool, and a spare one
other_pool : (own : Option ℕ) (pool : ℕ) → (own ≡ Some pool → ⊥) → is_pool own pool ≡ false
other_pool None pool other = refl
other_pool (Some own) pool other = grind (arith, nat_tests, λ (e : own ≡ pool). other (ap Some e))

pub none_on_other : (v : HeapView) (page pool below : ℕ) → (view.pool_at v page ≡ Some pool → ⊥) → HasNoneOnBelow (is_movable_in v pool) page below
none_on_other v page pool below other a on low =
    false_right (is_movable v a) (is_pool (view.pool_at v (page_of a)) pool)
    (ap (λ k. is_pool (view.pool_at v k) pool) on ∙ other_pool (view.pool_at v page) pool other)

-- what the heap finds on a page
module _ (h : Inside) (v : HeapView) (view_is : view_from h ≡ v) (inv : IsHeap h) (sound : IsSoundPools h.pools) (page pool below : ℕ) where
  pool_seen : view.pool_at v page ≡ pool_at h.pools page
  pool_seen = ap (λ (v : HeapView). view.pool_at v page) (sym view_is) ∙ pool_read h.pools h.marks.items page

  pub none_of_other : (pool_at h.pools page ≡ Some pool → ⊥) → HasNoneOnBelow (is_movable_in v pool) page below
  none_of_other other = none_on_other v page pool below (λ seen. other (sym pool_seen ∙ seen))

  module _ (its : pool_at h.pools page ≡ Some pool) (end : ℕ) (first : (k : ℕ) → k < page_slots pool → (end ≤ k) ↔ (below ≤ slot_address page pool k))
      (m : Marks) (read : m ≡ marks_at h.marks.items page) where
    known : pool < 5
    known = (sound.sound page).known pool its

    pub found_none : HasNoneBelow (is_movable_slot m) end → HasNoneOnBelow (is_movable_in v pool) page below
    found_none clear = subst (λ v. HasNoneOnBelow (is_movable_in v pool) page below) view_is
        (none_below h.pools h.marks.items (rest_of h) page pool inv.marks sound its end below known first
        (subst (λ (m : Marks). HasNoneBelow (is_movable_slot m) end) read clear))

    pub found_last : (s a : ℕ) → a ≡ slot_address page pool s → IsLast (is_movable_slot m) end s → IsLastOn (is_movable_in v pool) page below a
    found_last s a is last = subst (λ v. IsLastOn (is_movable_in v pool) page below a) view_is
        (last_below h.pools h.marks.items (rest_of h) page pool inv.marks sound its end below known first s a is
        (subst (λ (m : Marks). IsLast (is_movable_slot m) end s) read last))

-- the addresses below the first page are starts of no slot
below_pages : (v : HeapView) (b : ℕ) → b < 65536 → is_object v b ≡ false
unfolding is_object is_slot
below_pages v b low = ap has_present (slot_at_none v b (no_start_below (page_with v b).pool (length (page_with v b).slots) b low))

past : (below b count page : ℕ) → page ≡ min (below / 65536) count → b < below → page ≤ page_of b → 65536 ≤ b → count ≤ page_of b
unfolding page_of
past below b count page is under from high = grind (arith, is, under, from, high)

none_there : (v : HeapView) (pool b : ℕ) → is_object v b ≡ false → is_movable_in v pool b ≡ false
none_there v pool b none = ap (λ c. (c && not (object_of v b).pinned) && is_pool (view.pool_at v (page_of b)) pool) none

-- past the last page, and on and after the page of an address, there is none below the address
pub none_after : (v : HeapView) (pool below count page b : ℕ) → count ≡ length v.pages → page ≡ min (below / 65536) count → b < below → page ≤ page_of b
    → is_movable_in v pool b ≡ false
none_after v pool below count page b same is under from = none_there v pool b (⊎_elim
    (λ low. below_pages v b low)
    (λ high. none_beyond v Present b (subst (λ n. n ≤ page_of b) same (past below b count page is under from high)))
    (cases_lt b 65536))

-- with one page more
pub more_clear : (test : ℕ → Bool) (below page : ℕ) → HasNoneOnBelow test page below → ((b : ℕ) → b < below → page + 1 ≤ page_of b → test b ≡ false)
    → (b : ℕ) → b < below → page ≤ page_of b → test b ≡ false
more_clear test below page clear after b under from = ⊎_elim
    (λ here. clear b here under)
    (λ other. after b under (omega arith))
    (cases_eq (page_of b) page)

-- the last page with one
pub last_found : (v : HeapView) (pool below page a : ℕ) → ((b : ℕ) → b < below → page + 1 ≤ page_of b → is_movable_in v pool b ≡ false)
    → IsLastOn (is_movable_in v pool) page below a → IsLastMovable v pool below a
last_found v pool below page a after l = record {
  under = l.under;
  is = l.is;
  after = λ b above under. ⊎_elim
      (λ here. l.after b here above under)
      (λ other. after b under (let o = page_order b a above in let e = l.on in omega arith))
      (cases_eq (page_of b) page);
}
