-- The laws of the end of the moves, for the callers: what stands where, what is free and which pages have a pool.
use Rattle.std.proofs.Common.{◌≡◌, ◌≢◌, ℕ, ◌+◌, ◌≤◌, Bool, true, false, true≢false, not, ◌&&◌, cond, List, [], length, map, nat_eq, refl, sym, ap, ◌∙◌, subst, arith, None, Some}
use Rattle.std.specs.List.{range_with_len, list_all}
use Rattle.std.specs.Set.{is_member}
use Rattle.std.proofs.Math.ListN.{get_or-map, length-map}
use Rattle.space_model.specs.Layout.{page_of}
use Rattle.space_heap.specs.Slots.{ObjectView, SlotView, Free, Moved, Object, has_object, has_present, has_moved, object_in, is_free}
use Rattle.space_heap.specs.HeapView.{PageView, HeapView, no_page, page_at, pool_at, is_unswept, slot_at}
use Rattle.space_heap.specs.Objects.{is_occupied, is_object, object_of, resolved, is_moved, HasNoMoved}
use Rattle.space_heap.specs.Marking.{IsCoherent}
use Rattle.space_heap.specs.Sweeping.{is_gone}
use Rattle.space_heap.specs.SoundHeap.{IsSoundHeap}
use Rattle.space_heap.specs.FreeSlots.{is_slot_in, is_free_at}
use Rattle.space_heap.specs.Relocation.{ended_slot, ended_page, ended}
use Rattle.space_heap.proofs.NewPageLaws.{slot_on, slot_at_on}
use Rattle.space_heap.proofs.SweptLaws.{spared_on, page_empty, page_full}
use Rattle.space_heap.proofs.MovedLaws.{resolved_unmoved}
use Rattle.space_heap.proofs.TakenLaws.{free_by_taken}
use Rattle.space_heap.proofs.WaitingPages.{none_left}
use Rattle.space_heap.proofs.Coherence.{coherent_same}

module _ (v : HeapView) where
  abbrev w : HeapView
  w = ended v

  page_at-ended : (page : ℕ) → page_at w page ≡ ended_page (page_at v page)
  unfolding ended
  page_at-ended page = get_or-map ended_page v.pages page no_page

  -- each slot as it is then
  pub slot_at-ended : (a : ℕ) → slot_at w a ≡ ended_slot (slot_at v a)
  slot_at-ended a =
      slot_at_on w a
      ∙ ap (λ p. slot_on p a) (page_at-ended (page_of a))
      ∙ spared_on ended_slot refl (page_at v (page_of a)) a
      ∙ ap ended_slot (sym (slot_at_on v a))

  -- what stood stands
  pub is_occupied-ended : (a : ℕ) → is_occupied w a ≡ is_occupied v a
  unfolding is_occupied
  is_occupied-ended a = ap has_object (slot_at-ended a) ∙ it (slot_at v a)
    where
      it : (s : SlotView) → has_object (ended_slot s) ≡ has_object s
      it Free = refl
      it (Moved to) = refl
      it (Object o) = refl

  pub is_object-ended : (a : ℕ) → is_object w a ≡ is_object v a
  unfolding is_object
  is_object-ended a = ap has_present (slot_at-ended a) ∙ it (slot_at v a)
    where
      it : (s : SlotView) → has_present (ended_slot s) ≡ has_present s
      it Free = refl
      it (Moved to) = refl
      it (Object o) = refl

  pub object_of-ended : (a : ℕ) → object_of w a ≡ object_of v a
  unfolding object_of
  object_of-ended a = ap object_in (slot_at-ended a) ∙ it (slot_at v a)
    where
      it : (s : SlotView) → object_in (ended_slot s) ≡ object_in s
      it Free = refl
      it (Moved to) = refl
      it (Object o) = refl

  -- no slot is one that an object left, and each word is its own
  pub is_moved-ended : (a : ℕ) → is_moved w a ≡ false
  unfolding is_moved
  is_moved-ended a = ap has_moved (slot_at-ended a) ∙ it (slot_at v a)
    where
      it : (s : SlotView) → has_moved (ended_slot s) ≡ false
      it Free = refl
      it (Moved to) = refl
      it (Object o) = refl

  pub none_moved-ended : HasNoMoved w
  none_moved-ended = is_moved-ended

  pub resolved-ended : (word : ℕ) → resolved w word ≡ word
  resolved-ended word = resolved_unmoved w word (is_moved-ended word)

  -- the same objects are gone
  pub is_gone-ended : (a : ℕ) → is_gone w a ≡ is_gone v a
  is_gone-ended a = λ i. is_occupied-ended a i && (object_of-ended a i).gone

  pub count-ended : length w.pages ≡ length v.pages
  unfolding ended
  count-ended = length-map v.pages ended_page

  -- a page keeps its pool, or is spare where all its slots are free
  pub pool_at-ended : (page : ℕ) → pool_at w page ≡ cond (list_all is_free (map ended_slot (page_at v page).slots)) None (pool_at v page)
  pool_at-ended page = ap (λ (p : PageView). p.pool) (page_at-ended page)
      ∙ by (list_all is_free (map ended_slot (page_at v page).slots)) (map ended_slot (page_at v page).slots)
    where
      by : (b : Bool) (slots : List SlotView) → (cond b no_page (record { pool = pool_at v page; slots = slots })).pool ≡ cond b None (pool_at v page)
      by true slots = refl
      by false slots = refl

  pub unswept-ended : w.unswept ≡ []
  unfolding ended
  unswept-ended = refl

  -- no page waits for a sweep
  pub is_unswept-ended : (page : ℕ) → is_unswept w page ≡ false
  is_unswept-ended page = ap (λ xs. is_member nat_eq xs page) unswept-ended

  pub limit-ended : w.limit ≡ v.limit
  unfolding ended
  limit-ended = refl

  pub grey-ended : w.grey ≡ v.grey
  unfolding ended
  grey-ended = refl

  pub phase-ended : w.phase ≡ v.phase
  unfolding ended
  phase-ended = refl

  pub cursor-ended : w.cursor ≡ v.cursor
  unfolding ended
  cursor-ended = refl

  pub counters-ended : w.counters ≡ record v.counters { compactions = v.counters.compactions + 1 }
  unfolding ended
  counters-ended = refl

  pub coherent_ended : IsCoherent v → IsCoherent w
  coherent_ended c = coherent_same v w grey-ended (λ a. ap (λ (o : ObjectView). o.colour) (object_of-ended a)) (λ a is. is_object-ended a ∙ is) c

  -- a page with slots has its pool and as many slots as before
  page_kept : (page pool : ℕ) → pool_at w page ≡ Some pool → (pool_at v page ≡ Some pool) × (length (page_at w page).slots ≡ length (page_at v page).slots)
  page_kept page pool its = by (list_all is_free (map ended_slot (page_at v page).slots)) refl
    where
      by : (b : Bool) → list_all is_free (map ended_slot (page_at v page).slots) ≡ b
          → (pool_at v page ≡ Some pool) × (length (page_at w page).slots ≡ length (page_at v page).slots)
      by true empty =
          let none = ap (λ (p : PageView). p.pool) (page_at-ended page ∙ page_empty (pool_at v page) (map ended_slot (page_at v page).slots) empty) in
          cc
      by false full =
          let p = page_at-ended page ∙ page_full (pool_at v page) (map ended_slot (page_at v page).slots) full in
          (sym (ap (λ (p : PageView). p.pool) p) ∙ its, ap (λ (p : PageView). length p.slots) p ∙ length-map (page_at v page).slots ended_slot)

  page_spare : IsSoundHeap v → (page : ℕ) → pool_at w page ≡ None → length (page_at w page).slots ≡ 0
  page_spare sound page none = by (list_all is_free (map ended_slot (page_at v page).slots)) refl
    where
      by : (b : Bool) → list_all is_free (map ended_slot (page_at v page).slots) ≡ b → length (page_at w page).slots ≡ 0
      by true empty = ap (λ (p : PageView). length p.slots)
          (page_at-ended page ∙ page_empty (pool_at v page) (map ended_slot (page_at v page).slots) empty)
      by false full =
          let p = page_at-ended page ∙ page_full (pool_at v page) (map ended_slot (page_at v page).slots) full in
          ap (λ (p : PageView). length p.slots) p ∙ length-map (page_at v page).slots ended_slot
          ∙ sound.spare page (sym (ap (λ (p : PageView). p.pool) p) ∙ none)

  pub sound_ended : IsSoundHeap v → IsSoundHeap w
  sound_ended sound =
      let count = count-ended in
      let limit = limit-ended in
      let limited = sound.limited in
      record {
        most = subst (λ n. n ≤ 4096) (sym limit) sound.most;
        limited = omega arith;
        known = λ page pool its. sound.known page pool (page_kept page pool its).0;
        long = λ page pool its. let p = page_kept page pool its in p.1 ∙ sound.long page pool p.0;
        spare = page_spare sound;
        waiting = unswept-ended ∙ sym (none_left (is_unswept w) (range_with_len 0 (length w.pages)) is_unswept-ended);
        have_pools = λ page e. absurd (true≢false (sym e ∙ is_unswept-ended page));
      }

  -- an address is free where a slot of a page of the pool starts and no object stands
  pub is_free_at-ended : IsSoundHeap v → (pool a : ℕ) → is_free_at w pool a ≡ (is_slot_in (pool_at w (page_of a)) pool a && not (is_occupied v a))
  is_free_at-ended sound pool a =
      free_by_taken w (sound_ended sound) pool a
      ∙ (λ i. is_slot_in (pool_at w (page_of a)) pool a && ((not (is_occupied-ended a i) && not (is_moved-ended a i)) && not (is_unswept-ended (page_of a) i)))
      ∙ ap (λ b. is_slot_in (pool_at w (page_of a)) pool a && b) (alone (not (is_occupied v a)))
    where
      alone : (b : Bool) → ((b && true) && true) ≡ b
      alone true = refl
      alone false = refl
