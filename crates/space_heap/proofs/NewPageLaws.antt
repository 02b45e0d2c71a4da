-- The laws of a new page, for the callers: objects and free addresses after a pool got a page.
use Rattle.std.proofs.Common.{◌≡◌, ◌≢◌, ⊎_elim, ℕ, zero, suc, ◌≤◌, Bool, true, false, cond, length, replicate, get_or, refl, sym, ap, ◌∙◌, nat_eq, arith, None, Some, not, ◌&&◌}
use Rattle.std.specs.Set.{is_member}
use Rattle.std.proofs.lemmas.Bool.{cases_eq, cond-true, cond-false}
use Rattle.std.proofs.lemmas.Bool.Decides.{nat_tests}
use Rattle.std.proofs.lemmas.List.{length-replicate}
use Rattle.space_model.specs.Layout.{page_of, page_slots}
use Rattle.space_heap.specs.Slots.{is_free, SlotView, Free, has_object, has_present, object_in, moved_in}
use Rattle.space_heap.specs.HeapView.{pool_with, PageView, HeapView, no_page, page_at, page_with, is_start, slot_number, is_slot, is_unswept, slot_at, free_page, with_page}
use Rattle.space_heap.specs.Objects.{is_occupied, is_object, object_of, resolved}
use Rattle.space_heap.specs.FreeSlots.{is_pool, is_free_at}
use Rattle.space_heap.proofs.NewPages.{page_at-with_page}

page_here : (v : HeapView) (page pool : ℕ) → page ≤ length v.pages → page_at (with_page v page pool) page ≡ free_page pool
page_here v page pool h = page_at-with_page v page pool page h ∙ cond-true (nat_eq page page) (free_page pool) (page_at v page) (grind (arith, nat_tests))

page_other : (v : HeapView) (page pool k : ℕ) → page ≤ length v.pages → k ≢ page → page_at (with_page v page pool) k ≡ page_at v k
page_other v page pool k h differ = page_at-with_page v page pool k h ∙ cond-false (nat_eq k page) (free_page pool) (page_at v k) (grind (arith, nat_tests))

-- a slot by its page alone
abbrev pub slot_on : PageView → ℕ → SlotView
slot_on p a = cond (is_start p.pool (length p.slots) a) (get_or p.slots (slot_number p.pool a) Free) Free

pub slot_at_on : (v : HeapView) (a : ℕ) → slot_at v a ≡ slot_on (page_with v a) a
unfolding slot_at is_slot
slot_at_on v a = refl

all_free : (n i : ℕ) → get_or (replicate n Free) i Free ≡ Free
all_free zero i = refl
all_free (suc n) zero = refl
all_free (suc n) (suc i) = all_free n i

pub both_free : (b : Bool) (s : SlotView) → s ≡ Free → cond b s Free ≡ Free
both_free true s e = e
both_free false s e = refl

module _ (v : HeapView) (page pool : ℕ) (within : page ≤ length v.pages) (empty : page_at v page ≡ no_page) where
  abbrev w : HeapView
  w = with_page v page pool

  -- each slot is as before: those of the page were as free ones
  pub slot_at-with_page : (a : ℕ) → slot_at w a ≡ slot_at v a
  slot_at-with_page a = slot_at_on w a ∙ ⊎_elim
      (λ same.
      ap (λ k. slot_on (page_at w k) a) same ∙ ap (λ p. slot_on p a) (page_here v page pool within)
      ∙ both_free _ _ (all_free (page_slots pool) (slot_number (Some pool) a))
      ∙ sym (both_free (is_start None 0 a) Free refl)
      ∙ sym (ap (λ k. slot_on (page_at v k) a) same ∙ ap (λ p. slot_on p a) empty))
      (λ other. ap (λ p. slot_on p a) (page_other v page pool (page_of a) within other))
      (cases_eq (page_of a) page) ∙ sym (slot_at_on v a)

  pub is_occupied-with_page : (a : ℕ) → is_occupied w a ≡ is_occupied v a
  unfolding is_occupied
  is_occupied-with_page a = ap has_object (slot_at-with_page a)

  pub is_object-with_page : (a : ℕ) → is_object w a ≡ is_object v a
  unfolding is_object
  is_object-with_page a = ap has_present (slot_at-with_page a)

  pub object_of-with_page : (a : ℕ) → object_of w a ≡ object_of v a
  unfolding object_of
  object_of-with_page a = ap object_in (slot_at-with_page a)

  pub resolved-with_page : (word : ℕ) → resolved w word ≡ resolved v word
  unfolding resolved
  resolved-with_page word = ap (moved_in word) (slot_at-with_page word)

  pool_other : (a : ℕ) → page_of a ≢ page → pool_with w a ≡ pool_with v a
  unfolding pool_with
  pool_other a other = ap (λ (p : PageView). p.pool) (page_other v page pool (page_of a) within other)

  is_slot_other : (a : ℕ) → page_of a ≢ page → is_slot w a ≡ is_slot v a
  unfolding is_slot
  is_slot_other a other = ap (λ (p : PageView). is_start p.pool (length p.slots) a) (page_other v page pool (page_of a) within other)

  -- a page that is new waits for no sweep, and the others wait or not as before
  pub unswept-with_page : w.unswept ≡ v.unswept
  unfolding with_page
  unswept-with_page = refl

  -- free addresses of other pages stay
  pub is_free_at-with_page_other : (q a : ℕ) → page_of a ≢ page → is_free_at w q a ≡ is_free_at v q a
  unfolding is_free_at
  is_free_at-with_page_other q a other =
      ap (λ x. x && (is_pool (pool_with w a) q && (is_free (slot_at w a) && not (is_unswept w (page_of a))))) (is_slot_other a other)
      ∙ ap (λ x. is_slot v a && (is_pool x q && (is_free (slot_at w a) && not (is_unswept w (page_of a))))) (pool_other a other)
      ∙ ap (λ s. is_slot v a && (is_pool (pool_with v a) q && (is_free s && not (is_unswept w (page_of a))))) (slot_at-with_page a)
      ∙ ap (λ x. is_slot v a && (is_pool (pool_with v a) q && (is_free (slot_at v a) && not (is_member nat_eq x (page_of a))))) unswept-with_page

  pool_same : (a : ℕ) → page_of a ≡ page → pool_with w a ≡ Some pool
  unfolding pool_with
  pool_same a same = ap (λ k. (page_at w k).pool) same ∙ ap (λ (p : PageView). p.pool) (page_here v page pool within)

  is_slot_same : (a : ℕ) → page_of a ≡ page → is_slot w a ≡ is_start (Some pool) (page_slots pool) a
  unfolding is_slot
  is_slot_same a same =
      ap (λ k. is_start (page_at w k).pool (length (page_at w k).slots) a) same
      ∙ ap (λ (p : PageView). is_start p.pool (length p.slots) a) (page_here v page pool within)
      ∙ ap (λ n. is_start (Some pool) n a) (length-replicate {A = SlotView} (page_slots pool) Free)

  free_slot : (a : ℕ) → page_of a ≡ page → slot_at w a ≡ Free
  free_slot a same =
      slot_at_on w a ∙ ap (λ k. slot_on (page_at w k) a) same ∙ ap (λ p. slot_on p a) (page_here v page pool within)
      ∙ both_free _ _ (all_free (page_slots pool) (slot_number (Some pool) a))

  -- all slots of the page are free, for its pool alone, where it didn't wait for a sweep
  pub is_free_at-with_page_same : (q a : ℕ) → page_of a ≡ page → is_unswept v page ≡ false
      → is_free_at w q a ≡ (is_start (Some pool) (page_slots pool) a && (nat_eq pool q && true))
  unfolding is_free_at
  is_free_at-with_page_same q a same swept =
      ap (λ x. x && (is_pool (pool_with w a) q && (is_free (slot_at w a) && not (is_unswept w (page_of a))))) (is_slot_same a same)
      ∙ ap (λ x. is_start (Some pool) (page_slots pool) a && (is_pool x q && (is_free (slot_at w a) && not (is_unswept w (page_of a))))) (pool_same a same)
      ∙ ap (λ s. is_start (Some pool) (page_slots pool) a && (nat_eq pool q && (is_free s && not (is_unswept w (page_of a))))) (free_slot a same)
      ∙ ap (λ x. is_start (Some pool) (page_slots pool) a && (nat_eq pool q && not x))
      (ap (λ x. is_member nat_eq x (page_of a)) unswept-with_page ∙ ap (is_unswept v) same ∙ swept)
