-- The laws of pins, for the callers: what stays after an object was pinned, and after all pins were taken away.
use Rattle.std.proofs.Common.{◌≡◌, ◌≢◌, ⊎_elim, ℕ, true, false, ◌&&◌, ◌||◌, length, map, nat_eq, refl, sym, ap, ◌∙◌, arith}
use Rattle.std.proofs.lemmas.Bool.{cases_Bool, cases_eq}
use Rattle.std.proofs.lemmas.Bool.Decides.{nat_tests}
use Rattle.space_heap.specs.Slots.{ObjectView, SlotView, Free, Moved, Object, has_present, object_in, map_slot}
use Rattle.space_heap.specs.HeapView.{HeapView, pool_at, is_slot, map_page}
use Rattle.space_heap.specs.Objects.{is_occupied, is_object, is_moved, object_of, resolved}
use Rattle.space_heap.specs.FreeSlots.{is_free_at}
use Rattle.space_heap.specs.Marking.{IsCoherent}
use Rattle.space_heap.specs.Relocation.{pinned_object, pinned_at, unpinned_object, unpinned}
use Rattle.space_heap.proofs.Laws.{SameRest}
use Rattle.space_heap.proofs.MappedLaws.{pool_at-mapped, count-mapped, pool_with-mapped, is_slot-mapped, test-mapped, is_occupied-mapped, stays-mapped, resolved-mapped, is_moved-mapped, slot_free-mapped}
use Rattle.space_heap.proofs.ObjectLaws.{is_occupied-with_object, is_object-with_object, object_of-with_object_same, object_of-with_object_other, with_object_none, stays, resolved-with_object, is_slot-with_object, pool_at-with_object, count-with_object, is_free_at-with_object, rest-with_object, free_by}
use Rattle.space_heap.proofs.FreeLaws.{is_moved-with_object}
use Rattle.space_heap.proofs.Coherence.{coherent_same, coherent_with_object}

module _ (v : HeapView) (a : ℕ) where
  abbrev o : ObjectView
  o = pinned_object (object_of v a)

  pub is_occupied-pinned_at : (b : ℕ) → is_occupied (pinned_at v a) b ≡ is_occupied v b
  is_occupied-pinned_at b = is_occupied-with_object v a o b

  pub is_object-pinned_at : (b : ℕ) → is_object (pinned_at v a) b ≡ is_object v b
  is_object-pinned_at b = is_object-with_object v a o b refl

  pub object_of-pinned_at_same : is_occupied v a ≡ true → object_of (pinned_at v a) a ≡ pinned_object (object_of v a)
  object_of-pinned_at_same e = object_of-with_object_same v a o e

  pub object_of-pinned_at_other : (b : ℕ) → b ≢ a → object_of (pinned_at v a) b ≡ object_of v b
  object_of-pinned_at_other b differ = object_of-with_object_other v a o b differ

  -- which objects are pinned then
  pub pinned-pinned_at : (b : ℕ) → (object_of (pinned_at v a) b).pinned ≡ ((is_occupied v a && nat_eq b a) || (object_of v b).pinned)
  pinned-pinned_at b = ⊎_elim
      (λ some. ⊎_elim
      (λ same. let here = ap (λ b. (object_of (pinned_at v a) b).pinned) same ∙ ap (λ (o : ObjectView). o.pinned) (object_of-pinned_at_same some) in
      grind (arith, nat_tests, same, some, here))
      (λ differ. let there = ap (λ (o : ObjectView). o.pinned) (object_of-pinned_at_other b differ) in grind (arith, nat_tests, differ, there))
      (cases_eq b a))
      (λ none. ap (λ w. (object_of w b).pinned) (with_object_none v a o none) ∙ ap (λ c. (c && nat_eq b a) || (object_of v b).pinned) (sym none))
      (cases_Bool (is_occupied v a))

  -- all of an object but its pin stays everywhere
  pub unpinned_of-pinned_at : (b : ℕ) → unpinned_object (object_of (pinned_at v a) b) ≡ unpinned_object (object_of v b)
  unpinned_of-pinned_at b = stays unpinned_object v a o b refl

  -- so does each part of it
  pub stays-pinned_at : {X : Type 0} (f : ObjectView → X) (b : ℕ) → f (pinned_object (object_of v a)) ≡ f (object_of v a)
      → f (object_of (pinned_at v a) b) ≡ f (object_of v b)
  stays-pinned_at f b same = stays f v a o b same

  pub resolved-pinned_at : (word : ℕ) → resolved (pinned_at v a) word ≡ resolved v word
  resolved-pinned_at word = resolved-with_object v a o word

  pub is_moved-pinned_at : (b : ℕ) → is_moved (pinned_at v a) b ≡ is_moved v b
  is_moved-pinned_at b = is_moved-with_object v a o b

  pub is_slot-pinned_at : (b : ℕ) → is_slot (pinned_at v a) b ≡ is_slot v b
  is_slot-pinned_at b = is_slot-with_object v a o b

  pub pool_at-pinned_at : (page : ℕ) → pool_at (pinned_at v a) page ≡ pool_at v page
  pool_at-pinned_at page = pool_at-with_object v a o page

  pub count-pinned_at : length (pinned_at v a).pages ≡ length v.pages
  count-pinned_at = count-with_object v a o

  pub is_free_at-pinned_at : (pool b : ℕ) → is_free_at (pinned_at v a) pool b ≡ is_free_at v pool b
  is_free_at-pinned_at pool b = is_free_at-with_object v a o pool b

  -- the limit, the pages that wait for a sweep, the grey objects, the phase, the cursor and the counters
  pub rest-pinned_at : SameRest v (pinned_at v a)
  rest-pinned_at = rest-with_object v a o

  pub coherent_pinned_at : IsCoherent v → IsCoherent (pinned_at v a)
  coherent_pinned_at = coherent_with_object v a o refl refl

module _ (v : HeapView) where
  pages-unpinned : (unpinned v).pages ≡ map (map_page unpinned_object) v.pages
  unfolding unpinned
  pages-unpinned = refl

  pub rest-unpinned : SameRest v (unpinned v)
  unfolding unpinned
  rest-unpinned = record { limit = refl; unswept = refl; grey = refl; phase = refl; cursor = refl; counters = refl }

  pub pool_at-unpinned : (page : ℕ) → pool_at (unpinned v) page ≡ pool_at v page
  pool_at-unpinned = pool_at-mapped unpinned_object v (unpinned v) pages-unpinned

  pub count-unpinned : length (unpinned v).pages ≡ length v.pages
  count-unpinned = count-mapped unpinned_object v (unpinned v) pages-unpinned

  pub is_slot-unpinned : (a : ℕ) → is_slot (unpinned v) a ≡ is_slot v a
  is_slot-unpinned = is_slot-mapped unpinned_object v (unpinned v) pages-unpinned

  pub is_occupied-unpinned : (a : ℕ) → is_occupied (unpinned v) a ≡ is_occupied v a
  is_occupied-unpinned = is_occupied-mapped unpinned_object v (unpinned v) pages-unpinned

  pub is_object-unpinned : (a : ℕ) → is_object (unpinned v) a ≡ is_object v a
  unfolding is_object
  is_object-unpinned a = test-mapped unpinned_object v (unpinned v) pages-unpinned has_present has_present a same
    where
      same : (s : SlotView) → has_present (map_slot unpinned_object s) ≡ has_present s
      same Free = refl
      same (Moved to) = refl
      same (Object o) = refl

  -- what is read where there is no object isn't pinned either
  pub object_of-unpinned : (a : ℕ) → object_of (unpinned v) a ≡ unpinned_object (object_of v a)
  unfolding object_of
  object_of-unpinned a = test-mapped unpinned_object v (unpinned v) pages-unpinned object_in (λ s. unpinned_object (object_in s)) a same
    where
      same : (s : SlotView) → object_in (map_slot unpinned_object s) ≡ unpinned_object (object_in s)
      same Free = refl
      same (Moved to) = refl
      same (Object o) = refl

  pub pinned-unpinned : (a : ℕ) → (object_of (unpinned v) a).pinned ≡ false
  pinned-unpinned a = ap (λ (o : ObjectView). o.pinned) (object_of-unpinned a)

  -- a part of an object that isn't its pin stays everywhere
  pub stays-unpinned : {X : Type 0} (f : ObjectView → X) (a : ℕ) → ((o : ObjectView) → f (unpinned_object o) ≡ f o)
      → f (object_of (unpinned v) a) ≡ f (object_of v a)
  stays-unpinned f a same = stays-mapped unpinned_object v (unpinned v) pages-unpinned f a same

  pub resolved-unpinned : (word : ℕ) → resolved (unpinned v) word ≡ resolved v word
  resolved-unpinned = resolved-mapped unpinned_object v (unpinned v) pages-unpinned

  pub is_moved-unpinned : (a : ℕ) → is_moved (unpinned v) a ≡ is_moved v a
  is_moved-unpinned = is_moved-mapped unpinned_object v (unpinned v) pages-unpinned

  pub is_free_at-unpinned : (pool a : ℕ) → is_free_at (unpinned v) pool a ≡ is_free_at v pool a
  is_free_at-unpinned pool a = free_by v (unpinned v) pool a (is_slot-unpinned a)
      (pool_with-mapped unpinned_object v (unpinned v) pages-unpinned a) (slot_free-mapped unpinned_object v (unpinned v) pages-unpinned a)
      rest-unpinned.unswept

  pub coherent_unpinned : IsCoherent v → IsCoherent (unpinned v)
  coherent_unpinned c = coherent_same v (unpinned v) rest-unpinned.grey (λ a. ap (λ (o : ObjectView). o.colour) (object_of-unpinned a))
      (λ a is. is_object-unpinned a ∙ is) c
