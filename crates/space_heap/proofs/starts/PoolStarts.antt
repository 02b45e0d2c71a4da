-- Which addresses are the starts of slots of the pools.
use Rattle.std.proofs.Common.{◌≡◌, ⊎_elim, ℕ, List, zero, suc, ◌<◌, ◌≤◌, true, false, length, refl, sym, ap, ◌∙◌, arith, Option, None, Some}
use Rattle.std.proofs.lemmas.Bool.{cases_lt}
use Rattle.std.proofs.lemmas.List.{get_or_past}
use Rattle.space_model.specs.Layout.{slot_bytes, page_slots, page_of}
use Rattle.space_pages.specs.Slots.{words_of}
use Rattle.space_pools.specs.PageSlots.{PageSlots, spare_page, count_of, width_of}
use Rattle.space_pools.specs.PoolsView.{PoolsView, page_at, pool_at, IsOffPages, used_at, written_at, with_slot_at}
use Rattle.space_pools.specs.Sound.{IsSoundPools}
use Rattle.space_pools.proofs.Places.{used_within}
use Rattle.space_pools.proofs.PoolLaws.{found_from_used, written_whole}
use Rattle.space_heap.specs.HeapView.{slot_number, is_start}
use Rattle.space_heap.specs.words.SlotPlaces.{is_slot_of, IsSlotAt}
use Rattle.space_heap.proofs.starts.Starts.{no_start_below, no_start_past}

pub none_below : (v : PoolsView) (a : ℕ) → a < 65536 → is_slot_of v a ≡ false
unfolding is_slot_of
none_below v a below = no_start_below (pool_at v (page_of a)) (length (page_at v (page_of a)).slots) a below

pub none_past : (v : PoolsView) (a : ℕ) → length v.pages ≤ page_of a → is_slot_of v a ≡ false
unfolding is_slot_of
none_past v a past = ap (λ (p : PageSlots). is_start p.pool (length p.slots) a) (get_or_past v.pages (page_of a) spare_page past)
    ∙ no_start_past None 0 a (omega arith)

-- the slots of a page
pub count_read : (v : PoolsView) (page : ℕ) (pool : Option ℕ) → IsSoundPools v → pool_at v page ≡ pool → length (page_at v page).slots ≡ count_of pool
count_read v page pool sound its = (sound.sound page).long ∙ ap count_of its

pub start_read : (v : PoolsView) (a page : ℕ) (pool : Option ℕ) → IsSoundPools v → page ≡ page_of a → pool_at v page ≡ pool
    → is_slot_of v a ≡ is_start pool (count_of pool) a
unfolding is_slot_of
start_read v a page pool sound on its =
    let has : pool_at v (page_of a) ≡ pool = ap (pool_at v) (sym on) ∙ its in
    ap (λ p. is_start p (length (page_at v (page_of a)).slots) a) has ∙ ap (λ n. is_start pool n a) (count_read v (page_of a) pool sound has)

pub none_spare : (v : PoolsView) (a page : ℕ) → IsSoundPools v → page ≡ page_of a → pool_at v page ≡ None → is_slot_of v a ≡ false
none_spare v a page sound on its = start_read v a page None sound on its ∙ no_start_past None 0 a (omega arith)

-- no slot starts at an address on no page with a pool
pub off_pages : (v : PoolsView) (a : ℕ) → IsSoundPools v → IsOffPages v a → is_slot_of v a ≡ false
off_pages v a sound off = ⊎_elim (λ below. none_below v a below) (λ past. none_spare v a (page_of a) sound refl (off past)) (cases_lt a 65536)

pub slot_found : (v : PoolsView) (a page pool slot : ℕ) → IsSoundPools v → page ≡ page_of a → pool_at v page ≡ Some pool → slot ≡ slot_number (Some pool) a
    → is_start (Some pool) (page_slots pool) a ≡ true → IsSlotAt v a page slot
slot_found v a page pool slot sound on its at start = record {
  is = start_read v a page (Some pool) sound on its ∙ start;
  on_page = on;
  in_slot = at ∙ ap (λ p. slot_number p a) (sym (ap (pool_at v) (sym on) ∙ its));
}

wide : (pool : ℕ) → pool < 5 → 2 ≤ words_of pool
unfolding slot_bytes
wide zero known = omega arith
wide (suc zero) known = omega arith
wide (suc (suc zero)) known = omega arith
wide (suc (suc (suc zero))) known = omega arith
wide (suc (suc (suc (suc zero)))) known = omega arith
wide (suc (suc (suc (suc (suc pool))))) known = absurd (omega arith)

wide_of : (pool : Option ℕ) (slot : ℕ) → ((p : ℕ) → pool ≡ Some p → p < 5) → slot < count_of pool → 2 ≤ width_of pool
wide_of None slot known within = absurd (omega arith)
wide_of (Some pool) slot known within = wide pool (known pool refl)

-- a slot has room for a head
pub wide_slot : (v : PoolsView) (page slot : ℕ) → IsSoundPools v → used_at v page slot ≡ true → 2 ≤ width_of (pool_at v page)
wide_slot v page slot sound used =
    let within = used_within (page_at v page) slot used in
    let long = (sound.sound page).long in
    wide_of (pool_at v page) slot (sound.sound page).known (omega arith)

narrow : (pool : ℕ) → pool < 5 → words_of pool ≤ 80
unfolding slot_bytes
narrow zero known = omega arith
narrow (suc zero) known = omega arith
narrow (suc (suc zero)) known = omega arith
narrow (suc (suc (suc zero))) known = omega arith
narrow (suc (suc (suc (suc zero)))) known = omega arith
narrow (suc (suc (suc (suc (suc pool))))) known = absurd (omega arith)

narrow_of : (pool : Option ℕ) → ((p : ℕ) → pool ≡ Some p → p < 5) → width_of pool ≤ 80
narrow_of None known = omega arith
narrow_of (Some pool) known = narrow pool (known pool refl)

-- a slot has at most 80 words
pub narrow_slot : (v : PoolsView) (page : ℕ) → IsSoundPools v → width_of (pool_at v page) ≤ 80
narrow_slot v page sound = narrow_of (pool_at v page) (sound.sound page).known

-- as many words as the slot has are its words after they were written
pub written_used : (v : PoolsView) (page slot : ℕ) (words : List ℕ) → IsSoundPools v → used_at v page slot ≡ true → length words ≡ width_of (pool_at v page)
    → written_at v page slot words ≡ with_slot_at v page slot (Some words)
written_used v page slot words sound used long =
    let old = found_from_used v page slot used in
    let was : length old.0 ≡ width_of (pool_at v page) = (sound.sound page).wide slot old.0 old.1 in
    written_whole v page slot old.0 words old.1 was (long ∙ sym was)
