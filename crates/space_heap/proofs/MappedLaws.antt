-- The laws of a change of every object, for the callers: what stands where after each object became what a function gives of it.
use Rattle.std.proofs.Common.{◌≡◌, ℕ, Bool, true, false, cond, length, map, get_or, refl, sym, ap, ◌∙◌}
use Rattle.std.proofs.Math.ListN.{get_or-map, length-map}
use Rattle.space_model.specs.Layout.{page_of}
use Rattle.space_heap.specs.Slots.{ObjectView, SlotView, Free, Moved, Object, has_object, has_moved, object_in, moved_in, is_free, map_slot}
use Rattle.space_heap.specs.HeapView.{PageView, HeapView, no_page, page_at, pool_at, page_with, pool_with, slot_number, is_start, is_slot, slot_at, map_page}
use Rattle.space_heap.specs.Objects.{is_occupied, is_moved, object_of, resolved}
use Rattle.space_heap.proofs.NewPageLaws.{slot_on, slot_at_on}

module _ (f : ObjectView → ObjectView) (v w : HeapView) (is : w.pages ≡ map (map_page f) v.pages) where
  page_at-mapped : (page : ℕ) → page_at w page ≡ map_page f (page_at v page)
  page_at-mapped page = ap (λ ps. get_or ps page no_page) is ∙ get_or-map (map_page f) v.pages page no_page

  pub pool_at-mapped : (page : ℕ) → pool_at w page ≡ pool_at v page
  pool_at-mapped page = ap (λ (p : PageView). p.pool) (page_at-mapped page)

  pub count-mapped : length w.pages ≡ length v.pages
  count-mapped = ap length is ∙ length-map v.pages (map_page f)

  pub pool_with-mapped : (a : ℕ) → pool_with w a ≡ pool_with v a
  unfolding pool_with
  pool_with-mapped a = pool_at-mapped (page_of a)

  pub is_slot-mapped : (a : ℕ) → is_slot w a ≡ is_slot v a
  unfolding is_slot
  is_slot-mapped a =
      ap (λ (p : PageView). is_start p.pool (length p.slots) a) (page_at-mapped (page_of a))
      ∙ ap (λ n. is_start (page_with v a).pool n a) (length-map (page_with v a).slots (map_slot f))

  out : (at : Bool) (s : SlotView) → cond at (map_slot f s) Free ≡ map_slot f (cond at s Free)
  out true s = refl
  out false s = refl

  -- each slot as it is then
  pub slot_at-mapped : (a : ℕ) → slot_at w a ≡ map_slot f (slot_at v a)
  slot_at-mapped a =
      let p : PageView = page_with v a in
      slot_at_on w a
      ∙ ap (λ q. slot_on q a) (page_at-mapped (page_of a))
      ∙ ap (λ n. cond (is_start p.pool n a) (get_or (map (map_slot f) p.slots) (slot_number p.pool a) Free) Free) (length-map p.slots (map_slot f))
      ∙ ap (λ s. cond (is_start p.pool (length p.slots) a) s Free) (get_or-map (map_slot f) p.slots (slot_number p.pool a) Free)
      ∙ out (is_start p.pool (length p.slots) a) (get_or p.slots (slot_number p.pool a) Free)
      ∙ ap (map_slot f) (sym (slot_at_on v a))

  -- a test of slots that says the same of a changed one
  pub test-mapped : {X : Type 0} (g h : SlotView → X) (a : ℕ) → ((s : SlotView) → g (map_slot f s) ≡ h s) → g (slot_at w a) ≡ h (slot_at v a)
  test-mapped g h a same = ap g (slot_at-mapped a) ∙ same (slot_at v a)

  pub is_occupied-mapped : (a : ℕ) → is_occupied w a ≡ is_occupied v a
  unfolding is_occupied
  is_occupied-mapped a = test-mapped has_object has_object a same
    where
      same : (s : SlotView) → has_object (map_slot f s) ≡ has_object s
      same Free = refl
      same (Moved to) = refl
      same (Object o) = refl

  pub object_of-mapped : (a : ℕ) → is_occupied v a ≡ true → object_of w a ≡ f (object_of v a)
  unfolding is_occupied object_of
  object_of-mapped a e = ap object_in (slot_at-mapped a) ∙ object (slot_at v a) e
    where
      object : (s : SlotView) → has_object s ≡ true → object_in (map_slot f s) ≡ f (object_in s)
      object Free e = cc
      object (Moved to) e = cc
      object (Object o) e = refl

  -- a part of an object that isn't changed stays everywhere
  pub stays-mapped : {X : Type 0} (g : ObjectView → X) (a : ℕ) → ((o : ObjectView) → g (f o) ≡ g o) → g (object_of w a) ≡ g (object_of v a)
  unfolding object_of
  stays-mapped g a same = test-mapped (λ s. g (object_in s)) (λ s. g (object_in s)) a part
    where
      part : (s : SlotView) → g (object_in (map_slot f s)) ≡ g (object_in s)
      part Free = refl
      part (Moved to) = refl
      part (Object o) = same o

  pub resolved-mapped : (word : ℕ) → resolved w word ≡ resolved v word
  unfolding resolved
  resolved-mapped word = test-mapped (moved_in word) (moved_in word) word same
    where
      same : (s : SlotView) → moved_in word (map_slot f s) ≡ moved_in word s
      same Free = refl
      same (Moved to) = refl
      same (Object o) = refl

  pub is_moved-mapped : (a : ℕ) → is_moved w a ≡ is_moved v a
  unfolding is_moved
  is_moved-mapped a = test-mapped has_moved has_moved a same
    where
      same : (s : SlotView) → has_moved (map_slot f s) ≡ has_moved s
      same Free = refl
      same (Moved to) = refl
      same (Object o) = refl

  pub slot_free-mapped : (a : ℕ) → is_free (slot_at w a) ≡ is_free (slot_at v a)
  slot_free-mapped a = test-mapped is_free is_free a same
    where
      same : (s : SlotView) → is_free (map_slot f s) ≡ is_free s
      same Free = refl
      same (Moved to) = refl
      same (Object o) = refl
