-- The laws of the generations, for the callers: what stands where as a minor marking begins.
use Rattle.std.proofs.Common.{◌≡◌, ◌≢◌, ⊎_elim, ℕ, ◌||◌, true≢false, [], length, map, nat_eq, refl, sym, ap, ◌∙◌, subst, if◌then◌else◌}
use Rattle.std.specs.List.{IsDistinct}
use Rattle.std.specs.Set.{is_member}
use Rattle.std.proofs.lemmas.Bool.{cases_Bool, cond-true, cond-false}
use Rattle.space_heap.specs.declared.colour.Colour.TheVariants.{White, Grey, Black}
use Rattle.space_heap.specs.Slots.{ObjectView, SlotView, Free, Moved, Object, has_present, object_in, map_slot}
use Rattle.space_heap.specs.HeapView.{HeapView, pool_at, map_page}
use Rattle.space_heap.specs.Objects.{is_occupied, is_object, is_moved, object_of, resolved}
use Rattle.space_heap.specs.FreeSlots.{is_free_at}
use Rattle.space_heap.specs.Marking.{colour_of, IsCoherent}
use Rattle.space_heap.specs.Generations.{is_old, old_marked_object, old_marked}
use Rattle.space_heap.proofs.MappedLaws.{pool_at-mapped, count-mapped, pool_with-mapped, is_slot-mapped, test-mapped, is_occupied-mapped, resolved-mapped, is_moved-mapped, slot_free-mapped}
use Rattle.space_heap.proofs.ObjectLaws.{free_by}
use Rattle.space_heap.proofs.NumberLists.{IsDistinct-none}
use Rattle.space_heap.proofs.MarkingLaws.{SameState}

module _ (v : HeapView) where
  pages-old_marked : (old_marked v).pages ≡ map (map_page old_marked_object) v.pages
  unfolding old_marked
  pages-old_marked = refl

  unswept-old_marked : (old_marked v).unswept ≡ v.unswept
  unfolding old_marked
  unswept-old_marked = refl

  pub pool_at-old_marked : (page : ℕ) → pool_at (old_marked v) page ≡ pool_at v page
  pool_at-old_marked = pool_at-mapped old_marked_object v (old_marked v) pages-old_marked

  pub count-old_marked : length (old_marked v).pages ≡ length v.pages
  count-old_marked = count-mapped old_marked_object v (old_marked v) pages-old_marked

  pub is_occupied-old_marked : (a : ℕ) → is_occupied (old_marked v) a ≡ is_occupied v a
  is_occupied-old_marked = is_occupied-mapped old_marked_object v (old_marked v) pages-old_marked

  pub is_object-old_marked : (a : ℕ) → is_object (old_marked v) a ≡ is_object v a
  unfolding is_object
  is_object-old_marked a = test-mapped old_marked_object v (old_marked v) pages-old_marked has_present has_present a same
    where
      same : (s : SlotView) → has_present (map_slot old_marked_object s) ≡ has_present s
      same Free = refl
      same (Moved to) = refl
      same (Object o) = refl

  -- what is read where there is no object is white too
  pub object_of-old_marked : (a : ℕ) → object_of (old_marked v) a ≡ old_marked_object (object_of v a)
  unfolding object_of
  object_of-old_marked a = test-mapped old_marked_object v (old_marked v) pages-old_marked object_in (λ s. old_marked_object (object_in s)) a same
    where
      same : (s : SlotView) → object_in (map_slot old_marked_object s) ≡ old_marked_object (object_in s)
      same Free = refl
      same (Moved to) = refl
      same (Object o) = refl

  pub colour_of-old_marked : (a : ℕ) → colour_of (old_marked v) a ≡ (if is_old (object_of v a) || (object_of v a).kept then Black else White)
  colour_of-old_marked a = ap (λ (o : ObjectView). o.colour) (object_of-old_marked a)

  pub resolved-old_marked : (word : ℕ) → resolved (old_marked v) word ≡ resolved v word
  resolved-old_marked = resolved-mapped old_marked_object v (old_marked v) pages-old_marked

  pub is_moved-old_marked : (a : ℕ) → is_moved (old_marked v) a ≡ is_moved v a
  is_moved-old_marked = is_moved-mapped old_marked_object v (old_marked v) pages-old_marked

  pub is_free_at-old_marked : (pool a : ℕ) → is_free_at (old_marked v) pool a ≡ is_free_at v pool a
  is_free_at-old_marked pool a = free_by v (old_marked v) pool a (is_slot-mapped old_marked_object v (old_marked v) pages-old_marked a)
      (pool_with-mapped old_marked_object v (old_marked v) pages-old_marked a) (slot_free-mapped old_marked_object v (old_marked v) pages-old_marked a) unswept-old_marked

pub grey-old_marked : (v : HeapView) → (old_marked v).grey ≡ []
unfolding old_marked
grey-old_marked v = refl

pub state-old_marked : (v : HeapView) → SameState v (old_marked v)
unfolding old_marked
state-old_marked v = record { limit = refl; unswept = refl; phase = refl; cursor = refl; counters = refl }

-- nothing is grey
pub not_grey-old_marked : (v : HeapView) (a : ℕ) → colour_of (old_marked v) a ≢ Grey
not_grey-old_marked v a g = ⊎_elim
    (λ e. let c = colour_of-old_marked v a ∙ cond-true (is_old (object_of v a) || (object_of v a).kept) Black White e in cc)
    (λ e. let c = colour_of-old_marked v a ∙ cond-false (is_old (object_of v a) || (object_of v a).kept) Black White e in cc)
    (cases_Bool (is_old (object_of v a) || (object_of v a).kept))

pub coherent_old_marked : (v : HeapView) → IsCoherent (old_marked v)
coherent_old_marked v =
    let grey = grey-old_marked v in
    record {
      once = subst (IsDistinct nat_eq) (sym grey) IsDistinct-none;
      grey_listed = λ a g. absurd (not_grey-old_marked v a g);
      listed_grey = λ a m. absurd (true≢false (sym m ∙ ap (λ xs. is_member nat_eq xs a) grey));
      present = λ a m. absurd (true≢false (sym m ∙ ap (λ xs. is_member nat_eq xs a) grey));
    }
