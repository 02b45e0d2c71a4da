-- Where the slot of an address stands, and its words among those of the page.
use Rattle.std.proofs.Common.{◌≡◌, ℕ, zero, suc, ◌+◌, ◌*◌, ◌/◌, ◌%◌, ◌<◌, ◌≤◌, true, List, [], length, get_or, refl, sym, ap, ◌∙◌, subst, arith, Option, None, Some}
use Rattle.std.specs.Prelude.{unwrap_or}
use Rattle.std.proofs.lemmas.Bool.{and_parts}
use Rattle.space_model.specs.Layout.{slot_bytes, page_slots, page_of}
use Rattle.space_pages.specs.Slots.{words_of}
use Rattle.space_pages.proofs.SlotLaws.{get_or-slot_words}
use Rattle.space_pages.proofs.Fits.{slot_fits}
use Rattle.space_pools.specs.PageSlots.{HoldsSlots, count_of, width_of}
use Rattle.space_pools.specs.PoolsView.{PoolsView, page_at, pool_at, IsOnPage, IsOffPages, found_at}
use Rattle.space_pools.specs.Sound.{IsSoundPools}
use Rattle.space_pools.proofs.PoolLaws.{found_from_used}
use Rattle.space_heap.specs.HeapView.{bytes_of, slot_number}
use Rattle.space_heap.specs.words.ObjectWords.{word_at}
use Rattle.space_heap.specs.words.SlotPlaces.{is_slot_of, is_taken_start, words_from, IsSlotAt}
use Rattle.space_heap.proofs.starts.Starts.{Start, start_parts}
use Rattle.space_heap.proofs.starts.PoolStarts.{narrow_slot}

pub start_here : (v : PoolsView) (a : ℕ) → is_slot_of v a ≡ true → Start (pool_at v (page_of a)) (length (page_at v (page_of a)).slots) a
unfolding is_slot_of
start_here v a is = start_parts (pool_at v (page_of a)) (length (page_at v (page_of a)).slots) a is

-- it has a pool
pub pool_there : (v : PoolsView) (a : ℕ) → IsSoundPools v → is_slot_of v a ≡ true → pool_at v (page_of a) ≡ None → ⊥
pool_there v a sound is none =
    let within = (start_here v a is).within in
    let long : length (page_at v (page_of a)).slots ≡ 0 = (sound.sound (page_of a)).long ∙ ap count_of none in
    omega arith

pub on_page : (v : PoolsView) (a : ℕ) → IsSoundPools v → is_slot_of v a ≡ true → IsOffPages v a → ⊥
on_page v a sound is off = pool_there v a sound is (off (start_here v a is).past)

-- it is a slot of the pool
pub few_slots_there : (v : PoolsView) (a page pool : ℕ) → IsSoundPools v → is_slot_of v a ≡ true → IsOnPage v a page pool
    → (a % 65536) / slot_bytes pool < page_slots pool
few_slots_there v a page pool sound is at =
    let its : pool_at v (page_of a) ≡ Some pool = ap (pool_at v) (sym at.on) ∙ at.its in
    let within : (a % 65536) / slot_bytes pool < length (page_at v (page_of a)).slots =
    subst (λ p. slot_number p a < length (page_at v (page_of a)).slots) its (start_here v a is).within in
    let long : length (page_at v (page_of a)).slots ≡ page_slots pool = (sound.sound (page_of a)).long ∙ ap count_of its in
    omega arith

pub slot_is : (v : PoolsView) (a page slot pool : ℕ) → is_slot_of v a ≡ true → IsOnPage v a page pool → slot ≡ (a % 65536) / slot_bytes pool
    → IsSlotAt v a page slot
slot_is v a page slot pool is at so = record {
  is = is;
  on_page = at.on;
  in_slot = so ∙ ap (λ p. slot_number p a) (sym at.its ∙ ap (pool_at v) at.on);
}

-- the bytes of a slot are its words
words_fill : (pool : ℕ) → pool < 5 → slot_bytes pool ≡ 8 * words_of pool
unfolding slot_bytes
words_fill zero known = refl
words_fill (suc zero) known = refl
words_fill (suc (suc zero)) known = refl
words_fill (suc (suc (suc zero))) known = refl
words_fill (suc (suc (suc (suc zero)))) known = refl
words_fill (suc (suc (suc (suc (suc pool))))) known = absurd (omega arith)

module _ (v : PoolsView) (a : ℕ) (sound : IsSoundPools v) (used : is_taken_start v a ≡ true) where
  abbrev own : Option ℕ
  own = pool_at v (page_of a)

  abbrev slot : ℕ
  slot = slot_number own a

  is : is_slot_of v a ≡ true
  is = (and_parts _ _ used).0

  found : (words : List ℕ) × (found_at v (page_of a) slot ≡ Some words)
  found = found_from_used v (page_of a) slot (and_parts _ _ used).1

  pub words_are : (words : List ℕ) → found_at v (page_of a) slot ≡ Some words → words_from v a ≡ words
  words_are words e = ap (λ f. unwrap_or f []) e

  -- the place of the first word of the slot
  first_place : (pool : ℕ) → own ≡ Some pool → (a % 65536) / 8 ≡ words_of pool * slot
  first_place pool its =
      let exact : slot_bytes pool * slot ≡ a % 65536 = ap (λ p. bytes_of p * slot) (sym its) ∙ (start_here v a is).exact in
      let fill = words_fill pool ((sound.sound (page_of a)).known pool its) in
      let r : a % 65536 ≡ 8 * (words_of pool * slot) = sym exact ∙ ap (λ n. n * slot) fill ∙ grind arith in
      omega arith

  inside : (pool : ℕ) → own ≡ Some pool → slot < page_slots pool
  inside pool its =
      let within = (start_here v a is).within in
      let long : length (page_at v (page_of a)).slots ≡ page_slots pool = (sound.sound (page_of a)).long ∙ ap count_of its in
      omega arith

  in_page : (pool k : ℕ) → own ≡ Some pool → k < words_of pool → (a % 65536) / 8 + k < 8192
  in_page pool k its within =
      let fits = slot_fits pool slot ((sound.sound (page_of a)).known pool its) (inside pool its) in
      let first = first_place pool its in
      omega arith

  read : (pool k : ℕ) (page : List ℕ) → own ≡ Some pool → k < words_of pool → HoldsSlots (page_at v (page_of a)) page
      → get_or page ((a % 65536) / 8 + k) 0 ≡ word_at (words_from v a) k
  read pool k page its within holds =
      ap (λ n. get_or page (n + k) 0) (first_place pool its)
      ∙ sym (get_or-slot_words page pool slot k 0 within)
      ∙ ap (λ words. word_at words k) (holds pool slot found.0 its found.1)
      ∙ ap (λ words. word_at words k) (sym (words_are found.0 found.1))

  by_pool : {X : Type 0} → ((pool : ℕ) → own ≡ Some pool → X) → X
  by_pool {X} f = cases own refl
    where
      cases : (o : Option ℕ) → own ≡ o → X
      cases None e = absurd (pool_there v a sound is e)
      cases (Some pool) e = f pool e

  wide : length (words_from v a) ≡ width_of own
  wide = ap length (words_are found.0 found.1) ∙ (sound.sound (page_of a)).wide slot found.0 found.1

  pub few_words : length (words_from v a) ≤ 80
  few_words = let n = narrow_slot v (page_of a) sound in let w = wide in omega arith

  pub word_within : (k : ℕ) → k < length (words_from v a) → (a % 65536) / 8 + k < 8192
  word_within k within = let w : k < width_of own = subst (λ n. k < n) wide within in
      by_pool (λ pool its. in_page pool k its (subst (λ o. k < width_of o) its w))

  pub word_read : (k : ℕ) (page : List ℕ) → k < length (words_from v a) → HoldsSlots (page_at v (page_of a)) page
      → get_or page ((a % 65536) / 8 + k) 0 ≡ word_at (words_from v a) k
  word_read k page within holds = let w : k < width_of own = subst (λ n. k < n) wide within in
      by_pool (λ pool its. read pool k page its (subst (λ o. k < width_of o) its w) holds)
