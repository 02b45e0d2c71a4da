-- What the fields of a heap tell of its pages and slots.
use Rattle.std.proofs.Common.{◌≡◌, ◌≢◌, ⊎_elim, ℕ, ◌<◌, List, length, map, get_or, set, sym, ap, ◌∙◌, arith, None}
use Rattle.std.specs.List.{range_with_len}
use Rattle.std.proofs.lemmas.Bool.{cases_eq, cases_lt, cond-true}
use Rattle.std.proofs.lemmas.List.{get_or-set_same, get_or-set_other, length-set, get_or_past}
use Rattle.std.proofs.lemmas.List.FromFn.{length-map-range_with_len, get_or-map-range_with_len, fill_by_all}
use Rattle.space_model.specs.Layout.{page_of}
use Rattle.space_pools.specs.PageSlots.{PageSlots, spare_page}
use Rattle.space_pools.specs.PoolsView.{PoolsView, page_at as pools_page, pool_at as pools_pool, found_at}
use Rattle.space_heap.specs.declared.marks.Marks.{Marks}
use Rattle.space_heap.specs.Slots.{SlotView, Free}
use Rattle.space_heap.specs.HeapView.{PageView, HeapView, no_page, is_start, slot_number, is_slot, slot_at, with_slot_in}
use Rattle.space_heap.specs.planes.MarkPlanes.{marks_at, slot_from}
use Rattle.space_heap.specs.words.SlotPlaces.{is_slot_of, IsSlotAt}
use Rattle.space_heap.specs.Inside.{slot_in, page_from, page_in, pages_from, view_with, Rest}

pub length-pages_from : (v : PoolsView) (ms : List Marks) → length (pages_from v ms) ≡ length v.pages
length-pages_from v ms = length-map-range_with_len (page_in v ms) 0 (length v.pages)

pub page_read : (v : PoolsView) (ms : List Marks) (page : ℕ) → get_or (pages_from v ms) page no_page ≡ page_in v ms page
page_read v ms page = ⊎_elim
    (λ within. get_or-map-range_with_len (page_in v ms) 0 (length v.pages) page page no_page within (omega arith))
    (λ past. get_or_past (pages_from v ms) page no_page (let n = length-pages_from v ms in omega arith)
    ∙ sym (ap (λ p. page_from p (marks_at ms page)) (get_or_past v.pages page spare_page past)))
    (cases_lt page (length v.pages))

pub pool_read : (v : PoolsView) (ms : List Marks) (page : ℕ) → (get_or (pages_from v ms) page no_page).pool ≡ pools_pool v page
pool_read v ms page = ap (λ (p : PageView). p.pool) (page_read v ms page)

pub ruleset reading = (length-pages_from, pool_read)

pub length-slots_from : (p : PageSlots) (m : Marks) → length (page_from p m).slots ≡ length p.slots
length-slots_from p m = length-map-range_with_len (slot_in p m) 0 (length p.slots)

pub slot_read : (p : PageSlots) (m : Marks) (s : ℕ) → get_or (page_from p m).slots s Free ≡ slot_in p m s
slot_read p m s = ⊎_elim
    (λ within. get_or-map-range_with_len (slot_in p m) 0 (length p.slots) s s Free within (omega arith))
    (λ past. get_or_past (page_from p m).slots s Free (let n = length-slots_from p m in omega arith)
    ∙ sym (ap (λ f. slot_from f m s) (get_or_past p.slots s None past)))
    (cases_lt s (length p.slots))

module _ (v : PoolsView) (ms : List Marks) (rest : Rest) where
  abbrev h : HeapView
  h = view_with v ms rest

  -- the starts of slots
  pub is_slot_read : (a : ℕ) → is_slot h a ≡ is_slot_of v a
  unfolding is_slot is_slot_of
  is_slot_read a =
      ap (λ (p : PageView). is_start p.pool (length p.slots) a) (page_read v ms (page_of a))
      ∙ ap (λ n. is_start (pools_pool v (page_of a)) n a) (length-slots_from (pools_page v (page_of a)) (marks_at ms (page_of a)))

  -- a slot by its address
  pub slot_at_read : (a page slot : ℕ) → IsSlotAt v a page slot → slot_at h a ≡ slot_from (found_at v page slot) (marks_at ms page) slot
  unfolding slot_at
  slot_at_read a page slot at =
      cond-true (is_slot h a) _ Free (is_slot_read a ∙ at.is)
      ∙ ap (λ (p : PageView). get_or p.slots (slot_number p.pool a) Free) (page_read v ms (page_of a))
      ∙ slot_read (pools_page v (page_of a)) (marks_at ms (page_of a)) (slot_number (pools_pool v (page_of a)) a)
      ∙ ap (λ s. slot_in (pools_page v (page_of a)) (marks_at ms (page_of a)) s) (sym at.in_slot)
      ∙ ap (λ k. slot_in (pools_page v k) (marks_at ms k) slot) (sym at.on_page)

-- pages with the same pool and slots are the same
pub same_page : (p q : PageSlots) (m n : Marks) → q.pool ≡ p.pool → length q.slots ≡ length p.slots → ((s : ℕ) → slot_in q n s ≡ slot_in p m s)
    → page_from p m ≡ page_from q n
same_page p q m n pool long each =
    let xs : List SlotView = (page_from p m).slots in
    let e : xs ≡ map (slot_in q n) (range_with_len 0 (length q.slots)) =
    fill_by_all (slot_in q n) xs (length q.slots) Free (length-slots_from p m ∙ sym long) (λ s h. slot_read p m s ∙ sym (each s)) in
    λ i. record { pool = sym pool i; slots = e i }

-- pages that differ in one slot
pub page_changed : (p q : PageSlots) (m n : Marks) (slot : ℕ) (t : SlotView) → q.pool ≡ p.pool → length q.slots ≡ length p.slots → slot < length p.slots
    → slot_in q n slot ≡ t → ((s : ℕ) → s ≢ slot → slot_in q n s ≡ slot_in p m s) → with_slot_in (page_from p m) slot t ≡ page_from q n
page_changed p q m n slot t pool long within here other =
    let old : List SlotView = (page_from p m).slots in
    let xs : List SlotView = set old slot t in
    let e : xs ≡ map (slot_in q n) (range_with_len 0 (length q.slots)) =
    fill_by_all (slot_in q n) xs (length q.slots) Free (length-set old slot t ∙ length-slots_from p m ∙ sym long) (λ s h. ⊎_elim
    (λ same. ap (λ k. get_or xs k Free) same ∙ get_or-set_same old slot t Free (let l = length-slots_from p m in omega arith) ∙ sym here
    ∙ ap (slot_in q n) (sym same))
    (λ differ. get_or-set_other old slot s t Free differ ∙ slot_read p m s ∙ sym (other s differ))
    (cases_eq s slot)) in
    λ i. record { pool = sym pool i; slots = e i }
