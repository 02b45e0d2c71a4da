-- In every phase, for the callers: which addresses are free, by what was taken; and that an object that can be named wasn't moved.
use Rattle.std.proofs.Common.{◌≡◌, ℕ, Bool, true, false, not, ◌&&◌, length, nat_eq, refl, ap, ◌∙◌, Option, None, Some}
use Rattle.space_model.specs.Layout.{page_of, page_slots}
use Rattle.space_heap.specs.Slots.{SlotView, Free, Moved, Object, has_object, has_present, has_moved, is_free}
use Rattle.space_heap.specs.HeapView.{HeapView, page_at, pool_at, pool_with, is_start, is_slot, is_unswept, slot_at}
use Rattle.space_heap.specs.Objects.{is_occupied, is_object, is_moved, resolved}
use Rattle.space_heap.specs.FreeSlots.{is_pool, is_slot_in, is_free_at}
use Rattle.space_heap.specs.SoundHeap.{IsSoundHeap}
use Rattle.space_heap.proofs.MovedLaws.{resolved_unmoved}

pub free_split : (s : SlotView) → is_free s ≡ (not (has_object s) && not (has_moved s))
free_split Free = refl
free_split (Moved to) = refl
free_split (Object o) = refl

-- how many slots a page of this pool has
abbrev slots_of : Option ℕ → ℕ
slots_of None = 0
slots_of (Some pool) = page_slots pool

long_of : (v : HeapView) (page : ℕ) (own : Option ℕ) → IsSoundHeap v → pool_at v page ≡ own → length (page_at v page).slots ≡ slots_of own
long_of v page None sound e = sound.spare page e
long_of v page (Some pool) sound e = sound.long page pool e

slot_by_pool : (own : Option ℕ) (pool a : ℕ) (c : Bool) → (is_start own (slots_of own) a && (is_pool own pool && c)) ≡ (is_slot_in own pool a && c)
slot_by_pool None pool a c = nothing (is_start None 0 a)
  where
    nothing : (b : Bool) → (b && false) ≡ false
    nothing true = refl
    nothing false = refl
slot_by_pool (Some own) pool a c = swap (is_start (Some own) (page_slots own) a) (nat_eq own pool) c
  where
    swap : (x y z : Bool) → (x && (y && z)) ≡ ((y && x) && z)
    swap true true z = refl
    swap true false z = refl
    swap false true z = refl
    swap false false z = refl

-- a free address is one of a page of the pool that doesn't wait for a sweep, where a slot starts, no object stands and none was moved away
pub free_by_taken : (v : HeapView) → IsSoundHeap v → (pool a : ℕ)
    → is_free_at v pool a ≡ (is_slot_in (pool_at v (page_of a)) pool a && ((not (is_occupied v a) && not (is_moved v a)) && not (is_unswept v (page_of a))))
unfolding is_free_at is_slot pool_with is_moved is_occupied
free_by_taken v sound pool a =
    ap (λ n. is_start (pool_at v (page_of a)) n a && (is_pool (pool_at v (page_of a)) pool && (is_free (slot_at v a) && not (is_unswept v (page_of a)))))
    (long_of v (page_of a) (pool_at v (page_of a)) sound refl)
    ∙ ap (λ f. is_start (pool_at v (page_of a)) (slots_of (pool_at v (page_of a)))
    a && (is_pool (pool_at v (page_of a)) pool && (f && not (is_unswept v (page_of a))))) (free_split (slot_at v a))
    ∙ slot_by_pool (pool_at v (page_of a)) pool a ((not (has_object (slot_at v a)) && not (has_moved (slot_at v a))) && not (is_unswept v (page_of a)))

-- an object that isn't gone wasn't moved away
pub object_unmoved : (v : HeapView) (a : ℕ) → is_object v a ≡ true → is_moved v a ≡ false
unfolding is_object is_moved
object_unmoved v a e = of_slot (slot_at v a) e
  where
    of_slot : (s : SlotView) → has_present s ≡ true → has_moved s ≡ false
    of_slot Free e = refl
    of_slot (Moved to) e = cc
    of_slot (Object o) e = refl

-- so its address is its own
pub resolved_object : (v : HeapView) (a : ℕ) → is_object v a ≡ true → resolved v a ≡ a
resolved_object v a e = resolved_unmoved v a (object_unmoved v a e)
