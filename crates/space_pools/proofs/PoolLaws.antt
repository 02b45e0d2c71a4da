-- The laws of the pools' view, for the callers: what is found in each slot after an allocation, a write and a new page.
use Rattle.std.proofs.Common.{◌≡◌, ◌≢◌, ◌⊎◌, inl, inr, ⊎_elim, ℕ, ◌+◌, ◌<◌, ◌≤◌, true, false, cond, List, [], length, replicate, refl, sym, ap, ◌∙◌, arith, Option, None, Some, nat_eq}
use Rattle.std.specs.Prelude.{is_none, is_some, option_map}
use Rattle.std.proofs.lemmas.Bool.{cases_eq, cases_lt}
use Rattle.std.proofs.lemmas.Bool.Decides.{nat_tests}
use Rattle.std.proofs.lemmas.Grind.{common_steps}
use Rattle.std.proofs.lemmas.List.{get_or-set_same, get_or-set_other, length-set, length-replicate, get_or-replicate, get_or_past, get_or_default, set_past}
use Rattle.space_model.specs.Layout.{page_slots}
use Rattle.space_pools.specs.PageSlots.{PageSlots, spare_page, free_page, free_in, found_in, with_found_in, width_of, count_of, written_in}
use Rattle.space_pools.specs.PoolsView.{PoolsView, page_at, pool_at, unswept_at, free_at, used_at, found_at, with_page, with_slot_at, written_at}
use Rattle.space_pools.specs.Spare.{with_free_page}
use Rattle.space_pools.specs.Sound.{IsSoundPools}
use Rattle.std.proofs.lemmas.Simd.{put_chunk_whole}
use Rattle.std.specs.Simd.Lanes.{put_chunk}
use Rattle.space_pools.proofs.Places.{used_within, page_within}

pub page_at-with_page_same : (v : PoolsView) (page : ℕ) (p : PageSlots) → page < length v.pages → page_at (with_page v page p) page ≡ p
page_at-with_page_same v page p within = get_or-set_same v.pages page p spare_page within

pub page_at-with_page_other : (v : PoolsView) (page k : ℕ) (p : PageSlots) → k ≢ page → page_at (with_page v page p) k ≡ page_at v k
page_at-with_page_other v page k p differ = get_or-set_other v.pages page k p spare_page differ

-- a page past the last changes nothing
with_page_past : (v : PoolsView) (page : ℕ) (p : PageSlots) → length v.pages ≤ page → with_page v page p ≡ v
with_page_past v page p past = λ i. record { limit = v.limit; pages = set_past v.pages page p past i }

pub length-with_slot_at : (v : PoolsView) (page slot : ℕ) (found : Option (List ℕ)) → length (with_slot_at v page slot found).pages ≡ length v.pages
length-with_slot_at v page slot found = length-set v.pages page (with_found_in (page_at v page) slot found)

-- the page of a slot that was changed
pub page_at-with_slot_at : (v : PoolsView) (page slot : ℕ) (found : Option (List ℕ)) (k : ℕ)
    → (page_at (with_slot_at v page slot found) k ≡ page_at v k)
    ⊎ ((k ≡ page) × (page_at (with_slot_at v page slot found) k ≡ with_found_in (page_at v k) slot found))
page_at-with_slot_at v page slot found k = ⊎_elim
    (λ same. ⊎_elim
    (λ within. inr (
      same,
      ap (page_at (with_slot_at v page slot found)) same
          ∙ page_at-with_page_same v page (with_found_in (page_at v page) slot found) within ∙ ap (λ k. with_found_in (page_at v k) slot found) (sym same),
    ))
    (λ past. inl (ap (λ w. page_at w k) (with_page_past v page (with_found_in (page_at v page) slot found) past)))
    (cases_lt page (length v.pages)))
    (λ other. inl (page_at-with_page_other v page k (with_found_in (page_at v page) slot found) other))
    (cases_eq k page)

-- each page keeps its pool and its number of slots
pub pool_at-with_slot_at : (v : PoolsView) (page slot : ℕ) (found : Option (List ℕ)) (k : ℕ) → pool_at (with_slot_at v page slot found) k ≡ pool_at v k
pool_at-with_slot_at v page slot found k = ⊎_elim
    (λ e. ap (λ (p : PageSlots). p.pool) e)
    (λ h. ap (λ (p : PageSlots). p.pool) h.1)
    (page_at-with_slot_at v page slot found k)

pub unswept_at-with_slot_at : (v : PoolsView) (page slot : ℕ) (found : Option (List ℕ)) (k : ℕ) → unswept_at (with_slot_at v page slot found) k ≡ unswept_at v k
unswept_at-with_slot_at v page slot found k = ⊎_elim
    (λ e. ap (λ (p : PageSlots). p.unswept) e)
    (λ h. ap (λ (p : PageSlots). p.unswept) h.1)
    (page_at-with_slot_at v page slot found k)

pub slots_at-with_slot_at : (v : PoolsView) (page slot : ℕ) (found : Option (List ℕ)) (k : ℕ)
    → length (page_at (with_slot_at v page slot found) k).slots ≡ length (page_at v k).slots
slots_at-with_slot_at v page slot found k = ⊎_elim
    (λ e. ap (λ (p : PageSlots). length p.slots) e)
    (λ h. ap (λ (p : PageSlots). length p.slots) h.1 ∙ length-set (page_at v k).slots slot found)
    (page_at-with_slot_at v page slot found k)

-- what was put into a slot is found there
pub found_at-with_slot_at_same : (v : PoolsView) (page slot : ℕ) (found : Option (List ℕ)) → slot < length (page_at v page).slots
    → found_at (with_slot_at v page slot found) page slot ≡ found
found_at-with_slot_at_same v page slot found within =
    ap (λ p. found_in p slot) (page_at-with_page_same v page (with_found_in (page_at v page) slot found) (page_within v page slot within))
    ∙ get_or-set_same (page_at v page).slots slot found None within

-- and it is free where that is nothing
pub free_at-with_slot_at_same : (v : PoolsView) (page slot : ℕ) (found : Option (List ℕ)) → slot < length (page_at v page).slots
    → free_at (with_slot_at v page slot found) page slot ≡ is_none found
free_at-with_slot_at_same v page slot found within =
    ap (λ p. free_in p slot) (page_at-with_page_same v page (with_found_in (page_at v page) slot found) (page_within v page slot within))
    ∙ ap is_none (get_or-set_same (page_at v page).slots slot found (Some []) within)

differs : (page slot k i : ℕ) → (k ≢ page) ⊎ (i ≢ slot) → k ≡ page → i ≢ slot
differs page slot k i (inl other) same = absurd (other same)
differs page slot k i (inr other) same = other

-- the other slots stay
pub found_at-with_slot_at_other : (v : PoolsView) (page slot : ℕ) (found : Option (List ℕ)) (k i : ℕ) → (k ≢ page) ⊎ (i ≢ slot)
    → found_at (with_slot_at v page slot found) k i ≡ found_at v k i
found_at-with_slot_at_other v page slot found k i other = ⊎_elim
    (λ e. ap (λ p. found_in p i) e)
    (λ h. ap (λ p. found_in p i) h.1 ∙ get_or-set_other (page_at v k).slots slot i found None (differs page slot k i other h.0))
    (page_at-with_slot_at v page slot found k)

pub free_at-with_slot_at_other : (v : PoolsView) (page slot : ℕ) (found : Option (List ℕ)) (k i : ℕ) → (k ≢ page) ⊎ (i ≢ slot)
    → free_at (with_slot_at v page slot found) k i ≡ free_at v k i
free_at-with_slot_at_other v page slot found k i other = ⊎_elim
    (λ e. ap (λ p. free_in p i) e)
    (λ h. ap (λ p. free_in p i) h.1 ∙ ap is_none (get_or-set_other (page_at v k).slots slot i found (Some []) (differs page slot k i other h.0)))
    (page_at-with_slot_at v page slot found k)

-- a slot is taken exactly where its words are found
pub found_from_used : (v : PoolsView) (page slot : ℕ) → used_at v page slot ≡ true → (words : List ℕ) × (found_at v page slot ≡ Some words)
found_from_used v page slot used = words_of_some (found_at v page slot) used
  where
    words_of_some : (found : Option (List ℕ)) → is_some found ≡ true → (words : List ℕ) × (found ≡ Some words)
    words_of_some None used = cc
    words_of_some (Some words) used = (words, refl)

pub used_from_found : (v : PoolsView) (page slot : ℕ) (words : List ℕ) → found_at v page slot ≡ Some words → used_at v page slot ≡ true
used_from_found v page slot words e = ap is_some e

-- a slot of a page with a pool is free or taken
pub used_from_not_free : (v : PoolsView) (pool page slot : ℕ) → IsSoundPools v → pool_at v page ≡ Some pool → slot < page_slots pool
    → free_at v page slot ≡ false → used_at v page slot ≡ true
used_from_not_free v pool page slot sound its within free =
    let long = (sound.sound page).long in
    let e : count_of (pool_at v page) ≡ page_slots pool = ap count_of its in
    let here : slot < length (page_at v page).slots = omega arith in
    used_of (found_at v page slot) (sym (ap is_none (get_or_default (page_at v page).slots slot (Some []) None here)) ∙ free)
  where
    used_of : (found : Option (List ℕ)) → is_none found ≡ false → is_some found ≡ true
    used_of None e = cc
    used_of (Some words) e = refl

pub not_free_from_used : (v : PoolsView) (page slot : ℕ) → used_at v page slot ≡ true → free_at v page slot ≡ false
not_free_from_used v page slot used =
    ap is_none (get_or_default (page_at v page).slots slot (Some []) None (used_within (page_at v page) slot used)) ∙ free_of (found_at v page slot) used
  where
    free_of : (found : Option (List ℕ)) → is_some found ≡ true → is_none found ≡ false
    free_of None e = cc
    free_of (Some words) e = refl

-- as many words as the slot had are its words after they were written
pub written_whole : (v : PoolsView) (page slot : ℕ) (old words : List ℕ) → found_at v page slot ≡ Some old → length old ≡ width_of (pool_at v page)
    → length words ≡ length old → written_at v page slot words ≡ with_slot_at v page slot (Some words)
unfolding written_in
written_whole v page slot old words e was long =
    let all : option_map (λ old. put_chunk 0 old words) (found_at v page slot) ≡ Some words = ap (option_map (λ old. put_chunk 0 old words)) e
    ∙ ap Some (put_chunk_whole old words (sym long)) in
    ap (with_slot_at v page slot) all

-- the pages after one of them, or the next one, became free
pub page_at-with_free_page : (v : PoolsView) (page pool k : ℕ) → page ≤ length v.pages
    → page_at (with_free_page v page pool) k ≡ cond (nat_eq k page) (free_page pool) (page_at v k)
unfolding with_free_page
page_at-with_free_page v page pool k h = grind (arith, nat_tests, common_steps)

pub length-with_free_page : (v : PoolsView) (page pool : ℕ) → page ≤ length v.pages
    → length (with_free_page v page pool).pages ≡ cond (nat_eq page (length v.pages)) (length v.pages + 1) (length v.pages)
unfolding with_free_page
length-with_free_page v page pool h = grind (arith, nat_tests, common_steps)

pub found_in-free_page : (pool slot : ℕ) → found_in (free_page pool) slot ≡ None
found_in-free_page pool slot = ⊎_elim
    (λ within. get_or-replicate (page_slots pool) slot None None within)
    (λ past. get_or_past (replicate (page_slots pool) None) slot None (let n = length-replicate {A = Option (List ℕ)} (page_slots pool) None in omega arith))
    (cases_lt slot (page_slots pool))

pub free_in-free_page : (pool slot : ℕ) → slot < page_slots pool → free_in (free_page pool) slot ≡ true
free_in-free_page pool slot within = ap is_none (get_or-replicate (page_slots pool) slot None (Some []) within)
