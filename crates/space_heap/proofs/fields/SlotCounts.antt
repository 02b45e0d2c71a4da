-- A heap has at most 1,638 objects a page.
use Rattle.std.proofs.Common.{◌≡◌, ℕ, ◌+◌, ◌*◌, ◌<◌, ◌≤◌, true, List, length, refl, ap, ◌∙◌, subst, arith, Option, None, Some}
use Rattle.space_model.specs.Layout.{page_of}
use Rattle.space_pools.specs.PageSlots.{count_of}
use Rattle.space_pools.specs.PoolsView.{PoolsView}
use Rattle.space_pools.specs.PoolsView as pools
use Rattle.space_pools.specs.Sound.{IsSoundPools}
use Rattle.space_heap.specs.declared.marks.Marks.{Marks}
use Rattle.space_heap.specs.HeapView.{PageView, HeapView, page_at, page_with, slot_number}
use Rattle.space_heap.specs.Objects.{is_occupied}
use Rattle.space_heap.specs.Marking.{HasAtMost}
use Rattle.space_heap.specs.Inside.{Rest, view_with}
use Rattle.space_heap.proofs.NumberLists.{few_places}
use Rattle.space_heap.proofs.starts.Starts.{same_start, few_slots}
use Rattle.space_heap.proofs.Laws.{start_of, page_in_heap}
use Rattle.space_heap.proofs.ObjectLaws.{slot_from_occupied}
use Rattle.space_heap.proofs.fields.Views.{length-pages_from, page_read, length-slots_from}

-- the place of the slot that starts at an address among 1,638 places a page
abbrev place_of : HeapView → ℕ → ℕ
place_of v a = 1638 * page_of a + slot_number (page_with v a).pool a

module _ (v : HeapView) (narrow : (page : ℕ) → length (page_at v page).slots ≤ 1638) where
  slot_below : (a : ℕ) → is_occupied v a ≡ true → slot_number (page_with v a).pool a < 1638
  slot_below a e =
      let within = (start_of v a (slot_from_occupied v a e)).within in
      let few = narrow (page_of a) in
      omega arith

  place_below : (a : ℕ) → is_occupied v a ≡ true → place_of v a < 1638 * length v.pages
  place_below a e =
      let slot = slot_below a e in
      let page = page_in_heap v a (slot_from_occupied v a e) in
      omega arith

  one_place : (a b : ℕ) → is_occupied v a ≡ true → is_occupied v b ≡ true → place_of v a ≡ place_of v b → a ≡ b
  one_place a b e f same =
      let slot = slot_below a e in
      let slot' = slot_below b f in
      let page : page_of a ≡ page_of b = omega arith in
      let number : slot_number (page_with v a).pool a ≡ slot_number (page_with v b).pool b = omega arith in
      same_start (page_with v a).pool (page_with v b).pool (length (page_with v a).slots) (length (page_with v b).slots) a b
      (start_of v a (slot_from_occupied v a e)) (start_of v b (slot_from_occupied v b f)) (ap (λ k. (page_at v k).pool) page) page number

  pub few_objects : HasAtMost v (1638 * length v.pages)
  few_objects = λ places once standing. few_places (place_of v) (1638 * length v.pages) places once
      (λ a m. place_below a (standing a m)) (λ a b m n same. one_place a b (standing a m) (standing b n) same)

few_of : (pool : Option ℕ) → ((p : ℕ) → pool ≡ Some p → p < 5) → count_of pool ≤ 1638
few_of None known = omega arith
few_of (Some pool) known = few_slots pool (known pool refl)

module _ (v : PoolsView) (ms : List Marks) (rest : Rest) (sound : IsSoundPools v) where
  abbrev h : HeapView
  h = view_with v ms rest

  narrow_read : (page : ℕ) → length (page_at h page).slots ≤ 1638
  narrow_read page =
      let long : length (page_at h page).slots ≡ length (pools.page_at v page).slots = ap (λ (p : PageView). length p.slots) (page_read v ms page)
      ∙ length-slots_from (pools.page_at v page) _ in
      let count = (sound.sound page).long in
      let few = few_of (pools.pool_at v page) (sound.sound page).known in
      omega arith

  -- the mark stack has a place for each object
  pub few_here : HasAtMost h (1638 * length v.pages)
  few_here = subst (λ n. HasAtMost h (1638 * n)) (length-pages_from v ms) (few_objects h narrow_read)

  pub few_in_all : HasAtMost h (1638 * 4096)
  few_in_all = λ places once standing.
      let few = few_here places once standing in
      let limited = sound.limited in
      let most = sound.most in
      omega arith
